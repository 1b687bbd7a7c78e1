-- The rules of Got, Put, State, System, Begin, Done, End, Ask and Stray, judged on what stands before; Hand, Gone, Did and
-- Fault have none here. And a journal each of whose entries meets its rule.
use Rattle.std.specs.Prelude.{◌≡◌, ◌⊎◌, ℕ, Bool, true, false, not, ◌&&◌, ◌||◌, IsTrue, IfSome, IsSome, List, [], ◌∷◌, ◌++◌, Some, None, unwrap_or}
use Rattle.std.specs.List.{list_any}
use Rattle.sk_msg.specs.declared.command.Command.{Command}
use Rattle.sk_msg.specs.declared.command.Command.TheVariants.{Pause, Continue, Stop, ReportError, Abort}
use Rattle.sk_msg.specs.declared.command.Verdict.{Verdict}
use Rattle.sk_msg.specs.declared.command.Verdict.TheVariants.{Accepted, Refused}
use Rattle.sk_msg.specs.declared.content.Content.{Content}
use Rattle.sk_msg.specs.declared.content.Content.TheVariants.{Hello, NextStep, Status, Leave}
use Rattle.sk_msg.specs.declared.state.State.{State}
use Rattle.sk_msg.specs.declared.state.State.TheVariants.{Invalid, ServicesCreated, Running, Error, Shutdown, Aborting}
use Rattle.sk_msg.specs.Edges.{has_edge, has_edge_of, led_to}
use Rattle.sk_msg.specs.States.{is_state}
use Rattle.sk_msg.specs.declared.entry.Entry.{Entry}
use Rattle.sk_msg.specs.declared.entry.Entry.TheVariants.{Got, Put, State as Entered, System as Judged, Begin, Done, End, Ask, Stray}
use Rattle.sk_law.specs.declared.made.Made.{Made}
use Rattle.sk_law.specs.declared.setup.Setup.{Setup}
use Rattle.sk_law.specs.declared.memory.Memory.{Memory}
use Rattle.sk_law.specs.Past.{Past}
use Rattle.sk_law.specs.declared.memory.Begun.{Begun}
use Rattle.sk_law.specs.Readings.{has_run, state_of, system_told, open_step, next_number, next_time, stamp, mark}
use Rattle.sk_msg.specs.Heads.{head_of}
use Rattle.sk_law.specs.Links.{own_name, is_open, system}
use Rattle.sk_law.specs.Rows.{Move, row, may_begin}
use Rattle.sk_law.specs.Blocks.{hello, completes_ready, completes_step, may_end}
use Rattle.sk_law.specs.Lawful.{Lawful}

-- Hello is the own one; NextStep announces the next time, once Running was entered and outside of steps; Status tells the
-- state; Leave comes in Shutdown; a data message has the stamp and the mark of the moment, and comes before Shutdown.
-- ServiceAdd, ServicesEnd, Workflow, Abort and Refuse have no rule
abbrev pub MayPut : Setup → Past → Content → Type 0
MayPut S past (NextStep at size) =
    (S.step ≡ Some size) × (at ≡ next_time size past.journal) × (open_step past.journal ≡ None) × (has_run past.journal ≡ true)
MayPut S past (Status state until) = state ≡ state_of past.journal
MayPut S past (Hello name role address) = Hello name role address ≡ hello S (own_name S)
MayPut S past Leave = IsTrue (is_state Shutdown (state_of past.journal))
MayPut S past m =
    IfSome (head_of m) (λ s. (s.stamp ≡ stamp past.journal) × (s.mark ≡ mark past.journal) × (is_state Shutdown (state_of past.journal) ≡ false))

-- no command leads along this edge, and it isn't the first
unfoldable pub is_by_row : State → State → Bool
is_by_row from to =
    not (is_state Invalid from) && not (list_any (λ command. has_edge_of command from to) (Pause ∷ Continue ∷ Stop ∷ ReportError ∷ Abort ∷ []))

-- a participant comes to these in other ways too: by being made, by a fault, a lost peer or a message
abbrev pub comes_besides : State → Bool
comes_besides to = is_state ServicesCreated to || (is_state Error to || is_state Aborting to)

-- right behind an accepted Ask, of a command whose edge leads to the state
pub record IsAskedFor (past : Past) (to : State) : Type 0 where
  pub command : Command
  pub before : List Entry
  pub is : past.journal ≡ before ++ Ask command Accepted ∷ []
  pub edge : IsTrue (has_edge_of command (state_of past.journal) to)

-- along an edge; along one that no command asks for only where that row comes next; but for those states only there, or by a
-- command
pub record MayEnter (S : Setup) (past : Past) (to : State) : Type 0 where
  pub edge : IsTrue (has_edge (state_of past.journal) to)
  pub by_row : is_by_row (state_of past.journal) to ≡ true → row S past ≡ Some (Move to)
  pub cause : IsTrue (comes_besides to) ⊎ ((row S past ≡ Some (Move to)) ⊎ IsAskedFor past to)

-- in Running, where a step may begin, with its number and its time
pub record MayBegin (S : Setup) (past : Past) (n t : ℕ) : Type 0 where
  pub running : IsTrue (is_state Running (state_of past.journal))
  pub may : IsTrue (may_begin S past)
  pub number : n ≡ next_number past.journal
  pub time : t ≡ next_time (unwrap_or S.step 0) past.journal

-- the open step ends in a state in which it may; an asynchronous one directly behind its Done
pub record MayEnd (S : Setup) (past : Past) (n : ℕ) : Type 0 where
  pub step : Begun
  pub is_open : open_step past.journal ≡ Some step
  pub number : n ≡ step.number
  pub state : IsTrue (may_end (state_of past.journal))
  pub done : S.is_async ≡ true → (es : List Entry) × (past.journal ≡ es ++ Done n ∷ [])

-- accepted where the command has an edge, refused with the present state where not
abbrev pub MayAsk : Past → Command → Verdict → Type 0
MayAsk past command Accepted = IsSome (led_to (state_of past.journal) command)
MayAsk past command (Refused state) = (led_to (state_of past.journal) command ≡ None) × (state ≡ state_of past.journal)

-- the rule of each kind of entry
abbrev pub Meets : Setup → Past → Entry → Type 0
Meets S past (Got p m) = IsTrue (is_open S past p)
Meets S past (Put q m) = MayPut S past m
Meets S past (Entered to) = MayEnter S past to
Meets S past (Judged state) = (state ≡ system S past) × (is_state state (system_told past.journal) ≡ false)
Meets S past (Begin n t) = MayBegin S past n t
Meets S past (Done n) = IsTrue (completes_ready n past) ⊎ IsTrue (completes_step S n past)
Meets S past (End n) = MayEnd S past n
Meets S past (Ask command verdict) = MayAsk past command verdict
Meets S past (Stray n) = (completes_ready n past ≡ false) × (completes_step S n past ≡ false)
Meets S past _ = Unit {0}

-- each entry meets its rule on what stands before it, with some memory: a help for proofs. It says less than lawful, since
-- another memory may be taken at each entry
abbrev pub EachMeets : Setup → List Entry → Type 0
EachMeets S es = (before : List Entry) (e : Entry) (after : List Entry) → es ≡ before ++ e ∷ after →
    (memory : Memory) × Meets S (record { journal = before; memory = memory }) e

-- the law: so it is in each lawful journal
abbrev pub LawfulMeets : Type 0
LawfulMeets = (S : Setup) (past : Past) (made : List Made) → Lawful S past made → EachMeets S past.journal
