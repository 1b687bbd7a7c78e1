-- Notes of participants' states, one after another.
use Rattle.std.specs.Prelude.{ℕ, ◌<◌, ◌==◌, List, [], ◌∷◌, Option, Some, None, slice_set, if◌then◌else◌}
use Rattle.std.specs.List.{AllByRecursion}
use Rattle.std.specs.Option.{option_or}
use Rattle.sk_msg.specs.declared.state.State.{State}

-- which participant is in which state
pub record Note : Type 0 where
  pub number : ℕ
  pub state : State

-- all are of participants below this number
abbrev pub AreBelow : ℕ → List Note → Type 0
AreBelow participants notes = AllByRecursion (λ note. note.number < participants) notes

-- what is known after them
abbrev pub after_notes : List (Option State) → List Note → List (Option State)
after_notes known [] = known
after_notes known (note ∷ notes) = after_notes (slice_set known note.number (Some note.state)) notes

-- the state of the last one on this participant
abbrev pub last_note : ℕ → List Note → Option State
last_note number [] = None
last_note number (note ∷ notes) = option_or (last_note number notes) (if note.number == number then Some note.state else None)
