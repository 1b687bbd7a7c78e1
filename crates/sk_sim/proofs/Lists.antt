-- Elements of lists by their places.
use Rattle.std.proofs.Common.{◌≡◌, ◌≢◌, ℕ, zero, suc, ◌<◌, Bool, true, false, List, [], ◌∷◌, ◌++◌, length, map, set, refl, sym, ap, subst, arith, Some}
use Rattle.std.specs.Prelude.{nat_lt, position, None, if◌then◌else◌}
use Rattle.std.specs.List.{slice_get, position_or_len}
use Rattle.std.proofs.lemmas.Bool.{ltb-true}
use Rattle.std.proofs.lemmas.Option.{same_Some, none-some}

pub get_back : {X : Type 0} (xs ys : List X) (y : X) (j : ℕ) → length xs ≡ j → slice_get ys 0 ≡ Some y → slice_get (xs ++ ys) j ≡ Some y
get_back [] ys y zero e h = h
get_back [] ys y (suc j) e h = absurd (omega arith)
get_back (z ∷ xs) ys y zero e h = absurd (omega arith)
get_back (z ∷ xs) ys y (suc j) e h = get_back xs ys y j (omega arith) h

pub slice_get-set_same : {X : Type 0} (xs : List X) (i : ℕ) (y : X) → i < length xs → slice_get (set xs i y) i ≡ Some y
slice_get-set_same [] i y h = absurd (omega arith)
slice_get-set_same (x ∷ xs) zero y h = refl
slice_get-set_same (x ∷ xs) (suc i) y h = slice_get-set_same xs i y (omega arith)

pub slice_get-set_other : {X : Type 0} (xs : List X) (i q : ℕ) (y : X) → q ≢ i → slice_get (set xs i y) q ≡ slice_get xs q
slice_get-set_other [] i q y h = refl
slice_get-set_other (x ∷ xs) zero zero y h = absurd (h refl)
slice_get-set_other (x ∷ xs) zero (suc q) y h = refl
slice_get-set_other (x ∷ xs) (suc i) zero y h = refl
slice_get-set_other (x ∷ xs) (suc i) (suc q) y h = slice_get-set_other xs i q y (λ e. h (ap suc e))

pub set_same : {X : Type 0} (xs : List X) (i : ℕ) (y : X) → slice_get xs i ≡ Some y → set xs i y ≡ xs
set_same [] i y h = refl
set_same (x ∷ xs) zero y h = ap (λ z. z ∷ xs) (sym (same_Some x y h))
set_same (x ∷ xs) (suc i) y h = ap (λ l. x ∷ l) (set_same xs i y h)

pub slice_get-front : {X : Type 0} (xs ys : List X) (i : ℕ) (x : X) → slice_get xs i ≡ Some x → slice_get (xs ++ ys) i ≡ Some x
slice_get-front [] ys i x h = absurd (none-some x h)
slice_get-front (z ∷ xs) ys zero x h = h
slice_get-front (z ∷ xs) ys (suc i) x h = slice_get-front xs ys i x h

pub slice_get-some : {X : Type 0} (xs : List X) (i : ℕ) → i < length xs → (x : X) × (slice_get xs i ≡ Some x)
slice_get-some [] i h = absurd (omega arith)
slice_get-some (x ∷ xs) zero h = (x, refl)
slice_get-some (x ∷ xs) (suc i) h = slice_get-some xs i (omega arith)

pub slice_get-from_map : {X Y : Type 0} (f : X → Y) (xs : List X) (i : ℕ) (y : Y) → slice_get (map f xs) i ≡ Some y → (x : X) × (slice_get xs i ≡ Some x) × (f x ≡ y)
slice_get-from_map f [] i y h = absurd (none-some y h)
slice_get-from_map f (x ∷ xs) zero y h = (x, refl, same_Some (f x) y h)
slice_get-from_map f (x ∷ xs) (suc i) y h = slice_get-from_map f xs i y h

-- what is found stands in the list
pub position_within : {X : Type 0} (test : X → Bool) (xs : List X) (p : ℕ) → position test xs ≡ Some p → p < length xs
position_within test xs p e = on (nat_lt (position_or_len test xs) (length xs)) refl e
  where
    on : (b : Bool) → nat_lt (position_or_len test xs) (length xs) ≡ b → (if b then Some (position_or_len test xs) else None) ≡ Some p → p < length xs
    on true low found = subst (λ k. k < length xs) (same_Some (position_or_len test xs) p found) (ltb-true (position_or_len test xs) (length xs) low)
    on false low found = absurd (none-some p found)
