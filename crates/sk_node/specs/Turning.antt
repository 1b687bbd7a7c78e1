-- What a turn does.
use Rattle.std.specs.Prelude.{◌≡◌, ◌<◌, ◌^◌, ℕ, ◌+◌, ◌-◌, ◌==◌, nat_lt, nat_le, Bool, true, false, ◌&&◌, ◌||◌, not, IsTrue, List, [], ◌∷◌, ◌++◌, length, Some, slice_index_or, unwrap_or, if◌then◌else◌}
use Rattle.std.specs.List.{list_all, range_with_len}
use mathlib.Core.List.{IsPrefix}
use Rattle.sk_msg.specs.declared.command.Command.TheVariants.{Abort}
use Rattle.sk_msg.specs.declared.state.State.{State}
use Rattle.sk_msg.specs.declared.state.State.TheVariants.{Shutdown}
use Rattle.sk_msg.specs.States.{is_state}
use Rattle.sk_law.specs.declared.made.Call.TheVariants as calls
use Rattle.sk_law.specs.declared.made.Made.{Made}
use Rattle.sk_law.specs.declared.setup.Setup.{Setup}
use Rattle.sk_law.specs.Past.{Past}
use Rattle.sk_law.specs.Readings.{state_of, put, next_number, next_time}
use Rattle.sk_law.specs.Links.{is_open}
use Rattle.sk_law.specs.Blocks.{ask, enter, called, callback, take_step, count_down, with_pause}
use Rattle.sk_law.specs.Ends.{left}
use Rattle.sk_law.specs.Lawful.{is_filled}
use Rattle.sk_law.specs.Rows as law
use Rattle.sk_law.specs.Rows.{is_quiet}
use Rattle.sk_law.specs.Kept.{Kept, grown}
use Rattle.sk_node.specs.Known.{Known, Keeps}
use Rattle.sk_node.specs.Went.{Went, WentCut}
use Rattle.sk_node.specs.Lists.{Lists}
use Rattle.sk_node.specs.declared.rows.Row.{Row}
use Rattle.sk_node.specs.declared.rows.Row.TheVariants as rows
use Rattle.sk_node.specs.declared.rows.Turned.{Turned}
use Rattle.sk_node.specs.declared.rows.Turned.TheVariants.{Entries, Counted, Quiet, Finished}

-- the row that the code has chosen, as the law names it
abbrev pub law_row : Row → law.Row
law_row (rows.Move to) = law.Move to
law_row rows.Ready = law.Ready
law_row rows.Step = law.Step
law_row (rows.Count count) = law.Count count
law_row rows.GiveUp = law.GiveUp

-- a pause count is below 2^32, as its type says
abbrev pub is_small : Row → Bool
is_small (rows.Count count) = nat_lt count (2 ^ 32)
is_small one = true

-- what a row does, and what the app is called with meanwhile
pub data Acts (S : Setup) (past : Past) : law.Row → List Made → Past → Type 0 where
  moves : (to : State) → Acts S past (law.Move to) [] (enter S to past)
  readies : (made : Made) → made.call ≡ calls.Ready → IsTrue (is_filled made) →
      Acts S past law.Ready (made ∷ []) (callback S past made)
  begins : (made : Made) → made.call ≡ calls.Step (next_number past.journal) (next_time (unwrap_or S.step 0) past.journal) →
      IsTrue (is_filled made) → Acts S past law.Step (made ∷ []) (take_step S made past)
  counts : (count : ℕ) → Acts S past (law.Count count) [] (count_down S count past)
  gives_up : Acts S past law.GiveUp [] (ask S Abort past)

-- ## The end

-- all that was put for this number was taken out, or it is nobody's
abbrev pub is_out : Kept → ℕ → Bool
is_out kept p = nat_le (length kept.out) p || slice_index_or kept.out p 0 == length (put kept.past.journal p)

-- nothing waits to be taken out
abbrev pub is_all_out : Kept → Bool
is_all_out kept =
    list_all (is_out kept) (range_with_len 0 (length kept.setup.names + length kept.past.memory.tools))

-- no peer's link is open: each has left or is gone
abbrev pub are_all_away : Setup → Past → Bool
are_all_away S past = list_all (λ p. not (is_open S past p)) (range_with_len 0 (length S.names))

-- at Shutdown, with nothing to take out and no peer to hear from
unfoldable pub is_finished : Kept → Bool
is_finished kept = is_state Shutdown (state_of kept.past.journal) && (is_all_out kept && are_all_away kept.setup kept.past)

-- the same number by number: all that was put was taken out, and no peer's link is open
pub record IsEnded (kept : Kept) : Type 0 where
  pub state_is : state_of kept.past.journal ≡ Shutdown
  pub out_is : (p : ℕ) → p < length kept.out → slice_index_or kept.out p 0 ≡ length (put kept.past.journal p)
  pub away : (p : ℕ) → p < length kept.setup.names → is_open kept.setup kept.past p ≡ false

-- ## The answer of a turn

-- this row was enabled, and it was done
pub record RowWent (one : law.Row) (old new : Kept) (was now : Lists) : Type 0 where
  pub row_is : law.row old.setup old.past ≡ Some one
  pub went : Went old new was now
  pub acts : Acts old.setup old.past one went.made went.past

-- this row was enabled, and memory was refused within it; what was added is a front of what it does, where the app wasn't
-- called with a call that asks for nothing, and then no more came than the entry that shows the call
pub record RowCut (old new : Kept) (was now : Lists) : Type 0 where
  pub one : law.Row
  pub row_is : law.row old.setup old.past ≡ Some one
  pub went : WentCut old new was now
  pub acts : Acts old.setup old.past one (went.made ++ went.others) went.past
  pub uncalled : (other : Made) → went.others ≡ other ∷ [] → IsPrefix new.past.journal (called other.call old.past).journal

-- the answer, where this row added so many entries
abbrev pub answer_of : Row → ℕ → Turned
answer_of (rows.Count count) n = if n == 0 then Counted else Entries n
answer_of one n = Entries n

-- the answer, where no row was enabled
abbrev pub rest_of : Kept → Turned
rest_of kept = if is_finished kept then Finished else Quiet

-- so many entries came; none only where the ready handler is called, and each of these turns leaves less to do
pub record AddsEntries (n : ℕ) (old new : Kept) (was now : Lists) : Type 0 where
  pub one : law.Row
  pub row : RowWent one old new was now
  pub entries : length new.past.journal ≡ length old.past.journal + n
  pub some : n ≡ 0 → one ≡ law.Ready
  pub less : left new.past < left old.past

-- a pause count above 1 went down by one, and that is all
pub record CountsDown (old new : Kept) (was now : Lists) : Type 0 where
  pub count : ℕ
  pub row : RowWent (law.Count count) old new was now
  pub more : 1 < count
  pub before : old.past.memory.pause ≡ Some count
  pub after : new ≡ grown (with_pause (Some (count - 1)) old.past) old
  pub less : left new.past < left old.past

-- nothing comes next by itself, and nothing changed
pub record Rests (finished : Bool) (old new : Kept) (was now : Lists) : Type 0 where
  pub quiet : is_quiet old.setup old.past ≡ true
  pub finished_is : is_finished old ≡ finished
  pub same : new ≡ old
  pub lists : now ≡ was

-- what is kept, by the answer
abbrev pub Turns : Turned → Kept → Kept → Lists → Lists → Type 0
Turns (Entries n) old new was now = AddsEntries n old new was now
Turns Counted old new was now = CountsDown old new was now
Turns Quiet old new was now = Rests false old new was now
Turns Finished old new was now = Rests true old new was now

-- the participant, by the answer
abbrev pub IsTurned : Turned → Known → Known → Lists → Lists → Type 0
IsTurned (Entries n) old new was now =
    (adds : AddsEntries n old.kept new.kept was now) × Keeps old new adds.row.went.made
IsTurned Counted old new was now =
    (counts : CountsDown old.kept new.kept was now) × Keeps old new counts.row.went.made
IsTurned Quiet old new was now = Rests false old.kept new.kept was now × (new ≡ old)
IsTurned Finished old new was now = Rests true old.kept new.kept was now × (new ≡ old)
