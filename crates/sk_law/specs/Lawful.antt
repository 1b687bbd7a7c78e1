-- Which journals are lawful, with which calls of the app.
use Rattle.std.specs.Prelude.{◌≡◌, ℕ, ◌+◌, nat_lt, ◌==◌, ◌||◌, Bool, true, IsTrue, List, [], ◌∷◌, ◌++◌, map, length, Some, unwrap_or}
use Rattle.std.specs.List.{list_all}
use Rattle.sk_msg.specs.declared.command.Command.{Command}
use Rattle.sk_msg.specs.declared.command.Command.TheVariants.{Abort}
use Rattle.sk_msg.specs.declared.content.Content.{Content}
use Rattle.sk_msg.specs.declared.state.State.{State}
use Rattle.sk_law.specs.declared.made.Call.TheVariants as calls
use Rattle.sk_law.specs.declared.made.Made.{Made}
use Rattle.sk_law.specs.declared.setup.Setup.{Setup}
use Rattle.sk_msg.specs.declared.entry.Entry.{Entry}
use Rattle.sk_law.specs.declared.memory.Memory.{Memory}
use Rattle.sk_law.specs.Outbox.{are_filled}
use Rattle.sk_law.specs.Past.{Past}
use Rattle.sk_law.specs.Readings.{got, next_number, next_time}
use Rattle.sk_law.specs.Links.{is_open}
use Rattle.sk_law.specs.Receivers.{receivers}
use Rattle.sk_law.specs.Rows.{Move, Ready, Step, Count, GiveUp, row}
use Rattle.sk_law.specs.Blocks.{ask, enter, callback, take_step, with_completed, complete, lose, get, making, add_tool, count_down, judge_limits}

-- the call asked for at most 256 actions, and for exactly so many where one more was tried
abbrev pub is_filled : Made → Bool
is_filled made = are_filled made.actions made.over

-- 5 the link ended, 6 it failed, 7 bytes that are no message, 9 too many bytes
abbrev pub is_loss : ℕ → Bool
is_loss reason = reason == 5 || (reason == 6 || (reason == 7 || reason == 9))

-- the calls of the app with this message: one for each receiver, in order
abbrev pub AreCalls : Setup → Past → ℕ → Content → List Made → Type 0
AreCalls S past p m made =
    map (λ one. one.call) made ≡ map (λ r. calls.Message p (length (got past.journal p) + 1) r m) (receivers S past p m)

-- a caller has asked
abbrev pub note_asked : Past → Past
note_asked past = record past { memory = record past.memory { asked = true } }

-- one thing that happens, what the app is called with meanwhile, and what has happened then
pub data Happens (S : Setup) (past : Past) : List Made → Past → Type 0 where
  -- a message is got from a peer or tool that is linked
  gets : (p : ℕ) (m : Content) (made : List Made) →
      IsTrue (is_open S past p) → AreCalls S past p m made → IsTrue (list_all is_filled made) →
      Happens S past made (get S p m made past)
  -- a link is lost
  loses : (p reason : ℕ) → IsTrue (is_open S past p) → IsTrue (is_loss reason) →
      Happens S past [] (lose S p reason past)
  -- a completion comes
  completes : (number : ℕ) → Happens S past [] (complete S number (with_completed number past))
  -- a caller asks for a command
  asks : (command : Command) → Happens S past [] (ask S command (note_asked past))
  -- a tool is added, the fourth at most
  adds : (name : List ℕ) → IsTrue (nat_lt (length past.memory.tools) 4) →
      Happens S past [] (add_tool S name past)
  -- the chain goes on
  moves : (to : State) → row S past ≡ Some (Move to) → Happens S past [] (enter S to past)
  -- the ready handler is called
  readies : (made : Made) → row S past ≡ Some Ready → made.call ≡ calls.Ready → IsTrue (is_filled made) →
      Happens S past (made ∷ []) (callback S past made)
  -- a step begins
  begins : (made : Made) → row S past ≡ Some Step →
      made.call ≡ calls.Step (next_number past.journal) (next_time (unwrap_or S.step 0) past.journal) → IsTrue (is_filled made) →
      Happens S past (made ∷ []) (take_step S made past)
  -- a pause count goes down
  counts : (count : ℕ) → row S past ≡ Some (Count count) → Happens S past [] (count_down S count past)
  -- it asks Abort of itself
  gives_up : row S past ≡ Some GiveUp → Happens S past [] (ask S Abort past)

-- what has happened to a participant of this setup, with all calls of its app: it is made, and then one thing happens
-- after another; behind each the limits are judged
pub data Lawful (S : Setup) : Past → List Made → Type 0 where
  starts : Lawful S (making S) []
  goes_on : (past now : Past) (before made : List Made) → Lawful S past before → Happens S past made now →
      Lawful S (judge_limits S now) (before ++ made)

-- one thing after another leads on from there, with these calls of the app
pub data Leads (S : Setup) (past : Past) : List Made → Past → Type 0 where
  here : Leads S past [] past
  further : (was now : Past) (before made : List Made) → Leads S past before was → Happens S was made now →
      Leads S past (before ++ made) (judge_limits S now)

-- a journal that is lawful with some calls of the app
pub record IsLawful (S : Setup) (journal : List Entry) : Type 0 where
  pub memory : Memory
  pub made : List Made
  pub lawful : Lawful S (record { journal = journal; memory = memory }) made
