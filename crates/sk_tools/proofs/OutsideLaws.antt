-- Reading piece by piece, and writing piece by piece.
use Rattle.std.proofs.Common.{◌≡◌, ℕ, ◌<◌, ◌≤◌, ◌+◌, List, [], ◌∷◌, ◌++◌, get_or, length, take, drop, ◌≢◌, Option, Some, None, IsSome, Result, Ok, Err, MatchResult, refl, sym, ap, ◌∙◌, arith, append_assoc}
use Rattle.std.proofs.lemmas.List.{append-nil, length-append, length-take-le}
use Rattle.std.proofs.lemmas.Grind.{flat_map-append}
use Rattle.std.proofs.lemmas.List.{take_more}
use Rattle.std.specs.List.{flat_map}
use Rattle.std.proofs.Math.Seq.{take-add, take-length}
use Rattle.std.proofs.lemmas.List.{take-append-drop}
use Rattle.sk_base.specs.Reading.{ReadsFrom}
use Rattle.sk_tools.specs.Outside.{IsReadTo, IsContent, Explains, IsPartWritten}
use Rattle.sk_tools.specs.declared.outside.reading.ReadRefused.{ReadRefused}
use Rattle.sk_tools.specs.declared.outside.reading.ReadRefused.TheVariants.{Absent}

-- one more piece
pub read_more : (all bytes buffer : List ℕ) (count before now : ℕ) → IsReadTo all before bytes → ReadsFrom count all before buffer now
    → count ≤ length buffer → IsReadTo all now (bytes ++ take count buffer)
read_more all bytes buffer count before now so_far reads room =
    let piece : length (take count buffer) ≡ count = length-take-le count buffer room in
    let both : length (bytes ++ take count buffer) ≡ length bytes + length (take count buffer) = length-append bytes (take count buffer) in
    record {
      within = reads.2;
      front = rw (reads.1, take-add before count all, so_far.front, ← reads.0) refl;
      count = both ∙ (omega (arith, piece, so_far.count, reads.1));
    }

-- the end
pub read_all : (all bytes buffer : List ℕ) (count before now : ℕ) → IsReadTo all now bytes → ReadsFrom count all before buffer now
    → count ≡ 0 → bytes ≡ all
read_all all bytes buffer count before now so_far reads none =
    sym so_far.front ∙ ap (λ n. take n all) (reads.3 none) ∙ take-length all

-- ## Writing

-- nothing was written yet
pub part_none : (before text : List ℕ) → IsPartWritten before before text
part_none before text = ([], (text, refl), sym (append-nil before))

-- a piece of the rest more
pub written_more : (before now rest text part : List ℕ) (count : ℕ) → part ++ rest ≡ text → now ≡ before ++ part
    → ((part ++ take count rest) ++ drop count rest ≡ text) × (now ++ take count rest ≡ before ++ (part ++ take count rest))
written_more before now rest text part count whole is = (
  append_assoc part (take count rest) (drop count rest) ∙ ap (λ xs. part ++ xs) (take-append-drop count rest) ∙ whole,
  ap (λ xs. xs ++ take count rest) is ∙ append_assoc before part (take count rest),
)

-- ## A whole file

-- what is said of every content that is there holds of the one that is
pub by_content : {A : Type 0} (items : A → List ℕ) (o : Option (List ℕ)) (result : Result A ReadRefused) → IsSome o
    → ((all : List ℕ) → o ≡ Some all →
    MatchResult result (λ bytes. IsContent (Some all) (items bytes)) (λ why. (why ≢ Absent) × Explains (Some all) why))
    → MatchResult result (λ bytes. IsContent o (items bytes)) (Explains o)
by_content items None result some told = absurd cc
by_content items (Some all) (Ok bytes) some told = told all refl
by_content items (Some all) (Err why) some told = (told all refl).1

-- ## Said piece by piece

-- one piece more
pub flat_map-more : {X Y : Type 0} (f : X → List Y) (xs : List X) (i : ℕ) (d : X) → i < length xs
    → flat_map f (take (i + 1) xs) ≡ flat_map f (take i xs) ++ f (get_or xs i d)
flat_map-more f xs i d within = rw (take_more xs i d within, flat_map-append f (take i xs) (get_or xs i d ∷ []), append-nil (f (get_or xs i d))) refl
