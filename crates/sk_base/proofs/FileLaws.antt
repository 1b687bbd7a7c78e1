-- The first file of a path.
use Rattle.std.proofs.Common.{◌≡◌, ℕ, ◌<◌, ◌≤◌, ◌+◌, Bool, true, false, List, [], ◌∷◌, length, Option, Some, None, IsSome, refl, sym, ◌∙◌, arith, rules, suc}
use Rattle.std.specs.Prelude.{position, nat_lt, string_bytes, cond}
use Rattle.std.specs.List.{position_or_len}
use Rattle.std.specs.Str.{bytes_eq}
use Rattle.std.proofs.lemmas.Slice.Eq.{bytes_eq-Decides}
use Rattle.std.proofs.lemmas.Bool.{ltb-true, ltb-false}
use Rattle.std.proofs.lemmas.List.Folds.{find_at}
use Rattle.std.proofs.lemmas.Option.{slice_get_past}
use Rattle.sk_base.specs.Memory.{has_path, content_of, path_at, content_at, IsFirst, opened_path}
use Rattle.sk_base.specs.declared.memory.files.MemFile.{MemFile}

abbrev Leads : List ℕ → List MemFile → ℕ → Type 0
Leads path files i = (path_at files i ≡ path) × (content_of files path ≡ Some (content_at files i))

same : (xs ys : List ℕ) → bytes_eq xs ys ≡ true → xs ≡ ys
same xs ys e = search (rules, bytes_eq-Decides)

first_of_more : (path : List ℕ) (f : MemFile) (fs : List MemFile) (b : Bool) → has_path path f ≡ b
    → (position_or_len (has_path path) fs < length fs → Leads path fs (position_or_len (has_path path) fs))
    → position_or_len (has_path path) (f ∷ fs) < length (f ∷ fs) → Leads path (f ∷ fs) (position_or_len (has_path path) (f ∷ fs))
first_of_more path f fs true e later h = rw e (same (string_bytes f.path) path e, refl)
first_of_more path f fs false e later h =
    let n = position_or_len (has_path path) fs in
    let one : 1 + n ≡ suc n = omega arith in
    let less : length (f ∷ fs) ≡ suc (length fs) = refl in
    let there : position_or_len (has_path path) (f ∷ fs) ≡ suc n = rw e one in
    rw (e, one) (later (omega arith))

first_at : (path : List ℕ) (files : List MemFile) → position_or_len (has_path path) files < length files
    → Leads path files (position_or_len (has_path path) files)
first_at path [] h = absurd (omega arith)
first_at path (f ∷ fs) h = first_of_more path f fs (has_path path f) refl (first_at path fs) h

at_position : {X : Type 0} (p : X → Bool) (xs : List X) (i : ℕ) (b : Bool) → nat_lt (position_or_len p xs) (length xs) ≡ b
    → cond b (Some (position_or_len p xs)) None ≡ Some i → (position_or_len p xs < length xs) × (position_or_len p xs ≡ i)
at_position p xs i true e some = (ltb-true (position_or_len p xs) (length xs) e, cc)
at_position p xs i false e some = absurd cc

first_file : (path : List ℕ) (files : List MemFile) (i : ℕ) → position (has_path path) files ≡ Some i → IsFirst path files i
first_file path files i some =
    let here = at_position (has_path path) files i _ refl some in
    let leads : Leads path files i = rw (← here.1) (first_at path files here.0) in
    record { path_is = leads.0; content_is = leads.1; own_is = rw leads.0 leads.1 }

past_position : {X : Type 0} (p : X → Bool) (xs : List X) (b : Bool) → nat_lt (position_or_len p xs) (length xs) ≡ b
    → cond b (Some (position_or_len p xs)) None ≡ None → length xs ≤ position_or_len p xs
past_position p xs true e none = absurd cc
past_position p xs false e none = ltb-false (position_or_len p xs) (length xs) e

no_file : (path : List ℕ) (files : List MemFile) → position (has_path path) files ≡ None → content_of files path ≡ None
no_file path files none =
    let past = past_position (has_path path) files _ refl none in
    rw (find_at (has_path path) files, slice_get_past files _ past) refl

abbrev pub IsPlace : List ℕ → List MemFile → Option ℕ → Type 0
IsPlace path files o = o ≡ position (has_path path) files

pub ready_file : (path : List ℕ) (files : List MemFile) (o : Option ℕ) → IsPlace path files o → IsSome o
    → IsSome (content_of files path) × (opened_path files o ≡ path)
ready_file path files None e some = absurd cc
ready_file path files (Some i) e some =
    let first = first_file path files i (sym e) in
    (rw first.content_is refl, first.path_is)

pub own_file : (path : List ℕ) (files : List MemFile) (o : Option ℕ) → IsPlace path files o
    → (x : ℕ) → o ≡ Some x → content_of files (path_at files x) ≡ Some (content_at files x)
own_file path files o e x some = (first_file path files x (sym e ∙ some)).own_is

pub lost_file : (path : List ℕ) (files : List MemFile) (o : Option ℕ) → IsPlace path files o → o ≡ None → content_of files path ≡ None
lost_file path files o e none = no_file path files (sym e ∙ none)
