-- A name is itself, and differs from those that come before it.
use Rattle.std.proofs.Common.{◌≡◌, ℕ, ◌<◌, Bool, true, false, List, [], ◌∷◌, refl, sym, ◌∙◌, arith}
use Rattle.std.specs.Prelude.{◌==◌, nat_lt}
use Rattle.std.specs.Str.{bytes_eq}
use Rattle.std.proofs.lemmas.Bool.{and_from, and_parts, and_left, and_right, eq-eqb, ne_eqb, ltb-true, false≢true}
use Rattle.sk_rules.specs.Orders.{is_before}

pub same_name : (name : List ℕ) → bytes_eq name name ≡ true
same_name [] = refl
same_name (x ∷ xs) = and_from _ _ (eq-eqb x x refl) (same_name xs)

pub before_differs : (a b : List ℕ) → is_before a b ≡ true → bytes_eq a b ≡ false
before_differs [] [] h = absurd (false≢true h)
before_differs [] (y ∷ ys) h = refl
before_differs (x ∷ xs) [] h = refl
before_differs (x ∷ xs) (y ∷ ys) h = by_test (nat_lt x y) refl (before_differs xs ys)
  where
    by_test : (b : Bool) → nat_lt x y ≡ b → (is_before xs ys ≡ true → bytes_eq xs ys ≡ false) → bytes_eq (x ∷ xs) (y ∷ ys) ≡ false
    by_test true t later = let less : x < y = ltb-true x y t in and_left (x == y) (bytes_eq xs ys) (ne_eqb x y (λ e. omega (arith, less, e)))
    by_test false t later = let p = and_parts (x == y) (is_before xs ys) (rw t at h) in and_right (x == y) (bytes_eq xs ys) (later p.1)

-- a name that differs from another is differed from
pub name_turned : (a b : List ℕ) → bytes_eq a b ≡ false → bytes_eq b a ≡ false
name_turned [] [] h = h
name_turned [] (y ∷ ys) h = refl
name_turned (x ∷ xs) [] h = refl
name_turned (x ∷ xs) (y ∷ ys) h = by_test (x == y) refl (name_turned xs ys)
  where
    by_test : (b : Bool) → (x == y) ≡ b → (bytes_eq xs ys ≡ false → bytes_eq ys xs ≡ false) → bytes_eq (y ∷ ys) (x ∷ xs) ≡ false
    by_test true t later = and_right (y == x) (bytes_eq ys xs) (later (rw t at h))
    by_test false t later = and_left (y == x) (bytes_eq ys xs) (ne_eqb y x (λ e. differ (sym e) t))
      where
        differ : x ≡ y → (x == y) ≡ false → ⊥
        differ e t = false≢true (sym t ∙ eq-eqb x y e)
