-- Elements of lists by their places.
use Rattle.std.proofs.Common.{◌≡◌, ◌≢◌, ℕ, zero, suc, ◌<◌, ◌⊎◌, inl, inr, List, [], ◌∷◌, ◌++◌, length, map, take, get_or, set, refl, sym, ap, subst, arith, Some}
use Rattle.std.specs.List.{slice_get, All}
use Rattle.std.proofs.lemmas.Option.{same_Some, none-some, slice_get-get_or}
use Rattle.std.proofs.Math.Seq.{take-append_seam}
use Rattle.std.proofs.lemmas.Bool.{cases_eq}

pub slice_get-set_same : {X : Type 0} (xs : List X) (i : ℕ) (y : X) → i < length xs → slice_get (set xs i y) i ≡ Some y
slice_get-set_same [] i y h = absurd (omega arith)
slice_get-set_same (x ∷ xs) zero y h = refl
slice_get-set_same (x ∷ xs) (suc i) y h = slice_get-set_same xs i y (omega arith)

pub slice_get-set_other : {X : Type 0} (xs : List X) (i q : ℕ) (y : X) → q ≢ i → slice_get (set xs i y) q ≡ slice_get xs q
slice_get-set_other [] i q y h = refl
slice_get-set_other (x ∷ xs) zero zero y h = absurd (h refl)
slice_get-set_other (x ∷ xs) zero (suc q) y h = refl
slice_get-set_other (x ∷ xs) (suc i) zero y h = refl
slice_get-set_other (x ∷ xs) (suc i) (suc q) y h = slice_get-set_other xs i q y (λ e. h (ap suc e))

pub set_same : {X : Type 0} (xs : List X) (i : ℕ) (y : X) → slice_get xs i ≡ Some y → set xs i y ≡ xs
set_same [] i y h = refl
set_same (x ∷ xs) zero y h = ap (λ z. z ∷ xs) (sym (same_Some x y h))
set_same (x ∷ xs) (suc i) y h = ap (λ l. x ∷ l) (set_same xs i y h)

pub slice_get-front : {X : Type 0} (xs ys : List X) (i : ℕ) (x : X) → slice_get xs i ≡ Some x → slice_get (xs ++ ys) i ≡ Some x
slice_get-front [] ys i x h = absurd (none-some x h)
slice_get-front (z ∷ xs) ys zero x h = h
slice_get-front (z ∷ xs) ys (suc i) x h = slice_get-front xs ys i x h

pub slice_get-last : {X : Type 0} (xs : List X) (y : X) (i : ℕ) → i ≡ length xs → slice_get (xs ++ y ∷ []) i ≡ Some y
slice_get-last [] y zero h = refl
slice_get-last [] y (suc i) h = absurd (omega arith)
slice_get-last (x ∷ xs) y zero h = absurd (omega arith)
slice_get-last (x ∷ xs) y (suc i) h = slice_get-last xs y i (omega arith)

-- an element of a list with one more behind is one of the list, or the last
pub slice_get-cases : {X : Type 0} (xs : List X) (y : X) (i : ℕ) (x : X) → slice_get (xs ++ y ∷ []) i ≡ Some x → (slice_get xs i ≡ Some x) ⊎ ((i ≡ length xs) × (x ≡ y))
slice_get-cases [] y zero x h = inr (refl, sym (same_Some y x h))
slice_get-cases [] y (suc i) x h = absurd (none-some x h)
slice_get-cases (z ∷ xs) y zero x h = inl h
slice_get-cases (z ∷ xs) y (suc i) x h = elim (slice_get-cases xs y i x h) [ inl e ↦ inl e | inr e ↦ inr (omega arith, e.1) ]

pub slice_get-some : {X : Type 0} (xs : List X) (i : ℕ) → i < length xs → (x : X) × (slice_get xs i ≡ Some x)
slice_get-some [] i h = absurd (omega arith)
slice_get-some (x ∷ xs) zero h = (x, refl)
slice_get-some (x ∷ xs) (suc i) h = slice_get-some xs i (omega arith)

pub slice_get-from_map : {X Y : Type 0} (f : X → Y) (xs : List X) (i : ℕ) (y : Y) → slice_get (map f xs) i ≡ Some y → (x : X) × (slice_get xs i ≡ Some x) × (f x ≡ y)
slice_get-from_map f [] i y h = absurd (none-some y h)
slice_get-from_map f (x ∷ xs) zero y h = (x, refl, same_Some (f x) y h)
slice_get-from_map f (x ∷ xs) (suc i) y h = slice_get-from_map f xs i y h

pub All-by_place : {X : Type 0} (P : X → Type 0) (xs : List X) → ((i : ℕ) (x : X) → slice_get xs i ≡ Some x → P x) → All P xs
All-by_place P xs h k d low = h k (get_or xs k d) (slice_get-get_or xs k d low)

pub take-whole : {X : Type 0} (n : ℕ) (xs ys : List X) → length xs ≡ n → take n (xs ++ ys) ≡ xs
take-whole n xs ys h = subst (λ m. take m (xs ++ ys) ≡ xs) h (take-append_seam xs ys)

-- a fact of each place, from that of one and of the others
pub at_each : (P : ℕ → Type 0) (i q : ℕ) → P i → (q ≢ i → P q) → P q
at_each P i q here there = elim (cases_eq q i) [ inl e ↦ subst P (sym e) here | inr h ↦ there h ]
