-- How what is said of a journal grows with it.
use Rattle.std.specs.Prelude.{◌≡◌, ℕ, ◌+◌, ◌==◌, nat_lt, Bool, ◌||◌, List, [], ◌∷◌, ◌++◌, length, Option, if◌then◌else◌}
use mathlib.Core.List.{IsPrefix}
use Rattle.sk_msg.specs.declared.action.Action.{Action}
use Rattle.sk_msg.specs.declared.command.Command.{Command}
use Rattle.sk_msg.specs.declared.content.Content.{Content}
use Rattle.sk_msg.specs.declared.entry.Entry.{Entry}
use Rattle.sk_msg.specs.declared.entry.Entry.TheVariants.{Got, Put, State as Entered, Begin, Done, Gone}
use Rattle.sk_msg.specs.declared.state.State.{State}
use Rattle.sk_msg.specs.declared.state.State.TheVariants.{Running}
use Rattle.sk_msg.specs.States.{is_state}
use Rattle.sk_law.specs.declared.made.Call.{Call}
use Rattle.sk_law.specs.declared.made.Made.{Made}
use Rattle.sk_law.specs.declared.setup.Setup.{Setup}
use Rattle.sk_law.specs.Past.{Past, add}
use Rattle.sk_law.specs.Readings.{state_of, state_after, system_told, system_after, has_run, last_begun, begun_after, open_step, open_after, next_number, payload, payload_in, has_completed_ready, step_awaited, step_awaited_after, got, put, is_gone, gones}
use Rattle.sk_law.specs.Order.{said_of, said_after}
use Rattle.sk_law.specs.Links.{seen, seen_after}
use Rattle.sk_law.specs.Outcomes.{Outcome}
use Rattle.sk_law.specs.Blocks.{judge_system, announce, enter_only, behind, enter_until, enter_if, tell_abort, asked, ask, pause_for, count_down, did, answer, answers, fault, called, over_after, answered, callback, callbacks, end_step, end_blocking, take_step, complete, lose, heed, get, greet, add_tool, judge_limits}
use Rattle.sk_law.specs.Told.{heard, heard_by, notices, notices_by}
use Rattle.sk_law.specs.Script.{views, view_by}

-- ## By entries

-- after one entry more

-- Running was entered
abbrev pub run_after : Bool → Entry → Bool
run_after before (Entered to) = before || is_state Running to
run_after before _ = before

-- the asynchronous ready handler was completed
abbrev pub completed_after : Bool → Entry → Bool
completed_after before (Done n) = before || n == 0
completed_after before _ = before

-- the number of the next step
abbrev pub number_after : ℕ → Entry → ℕ
number_after before (Begin n t) = before + 1
number_after before _ = before

-- what was got from a peer
abbrev pub got_after : ℕ → List Content → Entry → List Content
got_after p before (Got q m) = if q == p then before ++ m ∷ [] else before
got_after p before _ = before

-- what was put to it
abbrev pub put_after : ℕ → List Content → Entry → List Content
put_after p before (Put q m) = if q == p then before ++ m ∷ [] else before
put_after p before _ = before

-- whether its link is gone
abbrev pub gone_after : ℕ → Bool → Entry → Bool
gone_after p before (Gone q reason) = before || q == p
gone_after p before _ = before

-- why its link is gone
abbrev pub gones_after : ℕ → List ℕ → Entry → List ℕ
gones_after p before (Gone q reason) = if q == p then before ++ reason ∷ [] else before
gones_after p before _ = before

-- the law: each reading of a journal, and what the app is told of it, is a step from what it was one entry before
pub record GoesByEntries : Type 0 where
  pub state : (es : List Entry) (e : Entry) → state_of (es ++ e ∷ []) ≡ state_after (state_of es) e
  pub system : (es : List Entry) (e : Entry) → system_told (es ++ e ∷ []) ≡ system_after (system_told es) e
  pub run : (es : List Entry) (e : Entry) → has_run (es ++ e ∷ []) ≡ run_after (has_run es) e
  pub begun : (es : List Entry) (e : Entry) → last_begun (es ++ e ∷ []) ≡ begun_after (last_begun es) e
  pub step : (es : List Entry) (e : Entry) → open_step (es ++ e ∷ []) ≡ open_after (open_step es) e
  pub number : (es : List Entry) (e : Entry) → next_number (es ++ e ∷ []) ≡ number_after (next_number es) e
  pub payload_is : (es : List Entry) (e : Entry) → payload (es ++ e ∷ []) ≡ payload es + payload_in e
  pub completed : (es : List Entry) (e : Entry) → has_completed_ready (es ++ e ∷ []) ≡ completed_after (has_completed_ready es) e
  pub awaited : (es : List Entry) (e : Entry) → step_awaited (es ++ e ∷ []) ≡ step_awaited_after (step_awaited es) e
  pub got_is : (p : ℕ) (es : List Entry) (e : Entry) → got (es ++ e ∷ []) p ≡ got_after p (got es p) e
  pub put_is : (p : ℕ) (es : List Entry) (e : Entry) → put (es ++ e ∷ []) p ≡ put_after p (put es p) e
  pub gone : (p : ℕ) (es : List Entry) (e : Entry) → is_gone (es ++ e ∷ []) p ≡ gone_after p (is_gone es p) e
  pub gones_are : (p : ℕ) (es : List Entry) (e : Entry) → gones (es ++ e ∷ []) p ≡ gones_after p (gones es p) e
  -- and a link is gone exactly where there is a reason for it
  pub gone_is : (p : ℕ) (es : List Entry) → is_gone es p ≡ nat_lt 0 (length (gones es p))
  pub seen_is : (S : Setup) (past : Past) (e : Entry) → seen S (add e past) ≡ seen_after S past.memory.tools (seen S past) e
  pub said : (ms : List Content) (m : Content) → said_of (ms ++ m ∷ []) ≡ said_after (said_of ms) m
  pub heard_is : (es : List Entry) (e : Entry) → heard (es ++ e ∷ []) ≡ heard es ++ heard_by es e
  pub notices_is : (es : List Entry) (e : Entry) → notices (es ++ e ∷ []) ≡ notices es ++ notices_by (state_of es) e
  pub views_is : (es : List Entry) (e : Entry) → views (es ++ e ∷ []) ≡ views es ++ view_by es e

-- ## By blocks

-- entries are only added
pub record Adds (past now : Past) : Type 0 where
  pub front : IsPrefix past.journal now.journal

-- the law: whatever follows something only adds entries
pub record BlocksAdd : Type 0 where
  pub judges : (S : Setup) (past : Past) → Adds past (judge_system S past)
  pub announces : (S : Setup) (at : ℕ) (past : Past) → Adds past (announce S at past)
  pub enters_only : (S : Setup) (to : State) (until : ℕ) (past : Past) → Adds past (enter_only S to until past)
  pub goes_behind : (S : Setup) (to : State) (is_first : Bool) (numbers : List ℕ) (past : Past) → Adds past (behind S to is_first numbers past)
  pub enters : (S : Setup) (to : State) (until : ℕ) (past : Past) → Adds past (enter_until S to until past)
  pub enters_if : (S : Setup) (to : State) (past : Past) → Adds past (enter_if S to past)
  pub tells : (S : Setup) (command : Command) (past : Past) → Adds past (tell_abort S command past)
  pub answers_ask : (S : Setup) (command : Command) (to : Option State) (past : Past) → Adds past (asked S command to past)
  pub asks : (S : Setup) (command : Command) (past : Past) → Adds past (ask S command past)
  pub pauses : (S : Setup) (count : ℕ) (past : Past) → Adds past (pause_for S count past)
  pub counts : (S : Setup) (count : ℕ) (past : Past) → Adds past (count_down S count past)
  pub does : (s : ℕ) (o : Outcome) (past : Past) → Adds past (did s o past)
  pub answers_one : (S : Setup) (past : Past) (a : Action) → Adds past (answer S past a)
  pub answers_all : (S : Setup) (more : List Action) (past : Past) → Adds past (answers S more past)
  pub fails : (S : Setup) (number : ℕ) (past : Past) → Adds past (fault S number past)
  pub calls : (call : Call) (past : Past) → Adds past (called call past)
  pub goes_over : (S : Setup) (over : Bool) (past : Past) → Adds past (over_after S over past)
  pub answers_call : (S : Setup) (actions : List Action) (over : Bool) (past : Past) → Adds past (answered S actions over past)
  pub calls_back : (S : Setup) (past : Past) (made : Made) → Adds past (callback S past made)
  pub calls_all : (S : Setup) (made : List Made) (past : Past) → Adds past (callbacks S made past)
  pub ends : (S : Setup) (past : Past) → Adds past (end_step S past)
  pub ends_blocking : (S : Setup) (past : Past) → Adds past (end_blocking S past)
  pub steps : (S : Setup) (made : Made) (past : Past) → Adds past (take_step S made past)
  pub completes : (S : Setup) (n : ℕ) (past : Past) → Adds past (complete S n past)
  pub loses : (S : Setup) (p reason : ℕ) (past : Past) → Adds past (lose S p reason past)
  pub heeds : (S : Setup) (p : ℕ) (m : Content) (made : List Made) (past : Past) → Adds past (heed S p m made past)
  pub gets : (S : Setup) (p : ℕ) (m : Content) (made : List Made) (past : Past) → Adds past (get S p m made past)
  pub greets : (S : Setup) (t : ℕ) (past : Past) → Adds past (greet S t past)
  pub adds_tool : (S : Setup) (name : List ℕ) (past : Past) → Adds past (add_tool S name past)
  pub limits : (S : Setup) (past : Past) → Adds past (judge_limits S past)
