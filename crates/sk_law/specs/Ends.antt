-- A participant's turns come to an end: a number that nothing raises and that each row of a turn lowers.
use Rattle.std.specs.Prelude.{◌≡◌, ◌<◌, ◌≤◌, ℕ, ◌+◌, ◌-◌, ◌*◌, ◌^◌, min, IsTrue, List, length, Some, unwrap_or, if◌then◌else◌}
use Rattle.sk_msg.specs.declared.command.Command.TheVariants.{Abort}
use Rattle.sk_msg.specs.declared.state.State.{State}
use Rattle.sk_msg.specs.declared.state.State.TheVariants.{Invalid, Error, ShuttingDown, Shutdown, Aborting}
use Rattle.sk_msg.specs.Edges.{has_edge}
use Rattle.sk_law.specs.declared.made.Call.TheVariants as calls
use Rattle.sk_law.specs.declared.made.Made.{Made}
use Rattle.sk_law.specs.declared.memory.Memory.{Memory}
use Rattle.sk_law.specs.declared.setup.Setup.{Setup}
use Rattle.sk_law.specs.Past.{Past}
use Rattle.sk_law.specs.Readings.{state_of, payload}
use Rattle.sk_law.specs.Rows.{Move, Ready, Step, Count, GiveUp, row}
use Rattle.sk_law.specs.Blocks.{ask, enter, callback, take_step, count_down, judge_limits}
use Rattle.sk_law.specs.Lawful.{Happens}

-- how far a state is from where nothing follows: those with an edge to Error count as one, and from them it may go on to
-- Error, Aborting and Shutdown. Nothing follows by itself in Invalid, which only making leaves
abbrev pub states_left : State → ℕ
states_left Invalid = 0
states_left Error = 2
states_left Aborting = 1
states_left ShuttingDown = 1
states_left Shutdown = 0
states_left _ = 3

-- how much may still happen without an entry: the ready handler is called, a pause count goes down; below 2^33
abbrev pub unwritten_left : Memory → ℕ
unwritten_left memory = (if memory.called then 0 else 2 ^ 32) + min (unwrap_or memory.pause 0) (2 ^ 32 - 1)

-- how many turns may still do something, at most: the states that have an edge to Error last for 500,000 entries
unfoldable pub left : Past → ℕ
left past =
    states_left (state_of past.journal)
    + (if has_edge (state_of past.journal) Error then (500000 - length past.journal) * 2 ^ 33 + unwritten_left past.memory else 0)

-- the law: whatever happens, behind any past, this number doesn't rise; and each row lowers it, where the count of a pause
-- is a u32
pub record TurnsEnd : Type 0 where
  pub never_rises : (S : Setup) (past now : Past) (made : List Made) → Happens S past made now → left (judge_limits S now) ≤ left past
  pub moves : (S : Setup) (past : Past) (to : State) → row S past ≡ Some (Move to) → left (judge_limits S (enter S to past)) < left past
  pub readies : (S : Setup) (past : Past) (made : Made) → row S past ≡ Some Ready → made.call ≡ calls.Ready →
      left (judge_limits S (callback S past made)) < left past
  pub begins : (S : Setup) (past : Past) (made : Made) (number at : ℕ) → row S past ≡ Some Step → made.call ≡ calls.Step number at →
      left (judge_limits S (take_step S made past)) < left past
  pub counts : (S : Setup) (past : Past) (count : ℕ) → row S past ≡ Some (Count count) → count < 2 ^ 32 →
      left (judge_limits S (count_down S count past)) < left past
  pub gives_up : (S : Setup) (past : Past) → row S past ≡ Some GiveUp → left (judge_limits S (ask S Abort past)) < left past

-- the law: behind a call a journal whose state has an edge to Error is below both limits
pub record LimitsHold : Type 0 where
  pub entries : (S : Setup) (past : Past) → IsTrue (has_edge (state_of (judge_limits S past).journal) Error) →
      length (judge_limits S past).journal < 500000
  pub bytes : (S : Setup) (past : Past) → IsTrue (has_edge (state_of (judge_limits S past).journal) Error) →
      payload (judge_limits S past).journal < 33554432
