-- What is known after notes.
use Rattle.std.proofs.Common.{◌≡◌, ◌≢◌, ℕ, ◌<◌, Bool, true, false, cond, eqb, List, [], ◌∷◌, length, Option, Some, None, get_or, set, replicate, refl, sym, ◌∙◌, ap, eqb-true, inl, inr}
use Rattle.std.specs.Option.{option_or}
use Rattle.std.proofs.lemmas.List.{get_or-set_same, get_or-set_other, length-set, get_or-replicate, get_or_past, length-replicate}
use Rattle.std.proofs.lemmas.Bool.{cases_lt, eqb-false}
use Rattle.sk_msg.specs.declared.state.State.{State}
use Rattle.sk_system.specs.Notes.{Note, AreBelow, after_notes, last_note}
use Rattle.sk_system.specs.View.{known_of}

option_or-option_or : (a b c : Option State) → option_or (option_or a b) c ≡ option_or a (option_or b c)
option_or-option_or None b c = refl
option_or-option_or (Some state) b c = refl

option_or-none : (a : Option State) → option_or a None ≡ a
option_or-none None = refl
option_or-none (Some state) = refl

-- after one note
known_of-note : (known : List (Option State)) (note : Note) (number : ℕ) → note.number < length known
    → get_or (set known note.number (Some note.state)) number None ≡ option_or (cond (eqb note.number number) (Some note.state) None) (get_or known number None)
known_of-note known note number below = split (eqb note.number number) refl
  where
    split : (same : Bool) → eqb note.number number ≡ same → get_or (set known note.number (Some note.state)) number None ≡ option_or (cond same (Some note.state) None) (get_or known number None)
    split true same = rw (sym (eqb-true note.number number same)) (get_or-set_same known note.number (Some note.state) None below)
    split false other =
        let apart : number ≢ note.number = λ e. eqb-false note.number number other (sym e) in
        get_or-set_other known note.number number (Some note.state) None apart

pub known_of-after_notes : (known : List (Option State)) (notes : List Note) (number : ℕ) → AreBelow (length known) notes
    → get_or (after_notes known notes) number None ≡ option_or (last_note number notes) (get_or known number None)
known_of-after_notes known [] number below = refl
known_of-after_notes known (note ∷ notes) number below =
    let later : AreBelow (length (set known note.number (Some note.state))) notes = rw length-set below.1 in
    known_of-after_notes (set known note.number (Some note.state)) notes number later
    ∙ ap (λ last. option_or (last_note number notes) last) (known_of-note known note number below.0)
    ∙ sym (option_or-option_or (last_note number notes) _ _)

nothing_known : (participants number : ℕ) → let nothing : Option State = None in get_or (replicate participants nothing) number None ≡ None
nothing_known participants number = elim (cases_lt number participants) [
  | inl within ↦ get_or-replicate participants number None None within
  | inr past ↦ get_or_past (replicate participants None) number None (rw length-replicate past)
]

pub last_notes_count : (participants : ℕ) (notes : List Note) (number : ℕ) → AreBelow participants notes
    → known_of (after_notes (replicate participants None) notes) (Some number) ≡ last_note number notes
last_notes_count participants notes number below =
    let nothing : Option State = None in
    let fits : AreBelow (length (replicate participants nothing)) notes = rw length-replicate below in
    known_of-after_notes (replicate participants None) notes number fits
    ∙ ap (λ last. option_or (last_note number notes) last) (nothing_known participants number)
    ∙ option_or-none (last_note number notes)
