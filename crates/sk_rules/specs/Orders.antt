-- The byte order of names.
use Rattle.std.specs.Prelude.{ℕ, Bool, true, false, ◌&&◌, ◌||◌, ◌==◌, nat_lt, List, [], ◌∷◌}
use Rattle.std.specs.List.{list_all}

-- it comes before the other in the order of bytes
abbrev pub is_before : List ℕ → List ℕ → Bool
is_before [] [] = false
is_before [] (y ∷ ys) = true
is_before (x ∷ xs) [] = false
is_before (x ∷ xs) (y ∷ ys) = nat_lt x y || (x == y && is_before xs ys)

-- each name comes before all that follow it
abbrev pub are_sorted : List (List ℕ) → Bool
are_sorted [] = true
are_sorted (x ∷ xs) = list_all (is_before x) xs && are_sorted xs
