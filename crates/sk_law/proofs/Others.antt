-- Tests over all numbers, as a loop over them computes them.
use Rattle.std.specs.Prelude.{◌≡◌, refl, ℕ, ◌+◌, ◌<◌, ◌≤◌, Bool, true, false, ◌||◌}
use Rattle.std.specs.List.{list_any, range_with_len}
use Rattle.std.proofs.Common.{zero, suc, ap₂, sym, subst, ⊎_elim, arith}
use Rattle.std.proofs.lemmas.Bool.{or_left, or_right, cases_eq}

-- ## Over the numbers from a on

-- one fits
pub any_at : (h : ℕ → Bool) (a n i : ℕ) → a ≤ i → i < a + n → h i ≡ true → list_any h (range_with_len a n) ≡ true
any_at h a zero i low high e = absurd (omega arith)
any_at h a (suc n) i low high e = ⊎_elim
    (λ (same : a ≡ i). or_left (h a) (list_any h (range_with_len (a + 1) n)) (subst (λ r. h r ≡ true) (sym same) e))
    (λ (ne : a ≡ i → ⊥). or_right (h a) (list_any h (range_with_len (a + 1) n)) (any_at h (a + 1) n i (omega arith) (omega arith) e))
    (cases_eq a i)

-- none fits
pub any_none : (h : ℕ → Bool) (a n : ℕ) → ((i : ℕ) → a ≤ i → i < a + n → h i ≡ false) → list_any h (range_with_len a n) ≡ false
any_none h a zero e = refl
any_none h a (suc n) e = ap₂ (λ x y. x || y) (e a (omega arith) (omega arith)) (any_none h (a + 1) n (λ i low high. e i (omega arith) (omega arith)))
