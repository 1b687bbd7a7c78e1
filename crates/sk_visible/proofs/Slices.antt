-- What was sent between two times is a slice of a list in order.
use Rattle.std.proofs.Common.{◌≡◌, ℕ, ◌+◌, ◌-◌, ◌<◌, ◌≤◌, suc, zero, List, [], ◌∷◌, length, take, drop, Bool, true, false, cond, refl, ap, ◌∙◌, sym, arith, get_or, ⊎_elim}
use Rattle.std.specs.Prelude.{nat_lt, nat_le, ltb}
use Rattle.std.specs.List.{filter}
use Rattle.std.specs.List.Sorted.{IsNonDecreasingBy, IsPartitionPoint}
use Rattle.std.proofs.lemmas.Bool.Decides.{nat_tests}
use Rattle.std.proofs.lemmas.Bool.{false_from_ne_true, and_parts, and_from, leb-true, ltb-true, le-leb, lt-ltb, ltb-false, cases_lt}
use Rattle.sk_law.specs.declared.visible.Visible.{Visible}
use Rattle.sk_law.specs.Visible.{comes_before, is_between}
use Rattle.sk_visible.specs.Ordered.{IsOrdered}

-- times don't fall
later_stamp : (v w : Visible) → comes_before w v ≡ false → v.stamp ≤ w.stamp
later_stamp v w h = grind (arith, nat_tests)

pub stamps_rise : (items : List Visible) → IsOrdered items → IsNonDecreasingBy (λ i. i.stamp) items
stamps_rise [] o i j d le lt = let no' : ⊥ = omega arith in absurd no'
stamps_rise (x ∷ xs) o zero zero d le lt = omega arith
stamps_rise (x ∷ xs) o zero (suc j) d le lt = later_stamp x (get_or xs j d) (o.0 j d (omega arith))
stamps_rise (x ∷ xs) o (suc i) zero d le lt = let no' : ⊥ = omega arith in absurd no'
stamps_rise (x ∷ xs) o (suc i) (suc j) d le lt = stamps_rise xs o.1 i j d (omega arith) (omega arith)

none_kept : (a t : ℕ) (items : List Visible) → ((k : ℕ) (d : Visible) → k < length items → a ≤ (get_or items k d).stamp → (get_or items k d).stamp < t → ⊥) → filter (is_between a t) items ≡ []
none_kept a t [] h = refl
none_kept a t (x ∷ xs) h =
    let out : is_between a t x ≡ false = false_from_ne_true (is_between a t x) (λ b. let p = and_parts (nat_le a x.stamp) (nat_lt x.stamp t) b in h 0 x (omega arith) (leb-true a x.stamp p.0) (ltb-true x.stamp t p.1)) in
    ap (λ (b : Bool). cond b (x ∷ filter (is_between a t) xs) (filter (is_between a t) xs)) out ∙ none_kept a t xs (λ k d lt. h (suc k) d (omega arith))

kept_slice : (a t : ℕ) (items : List Visible) (s n : ℕ) → ((k : ℕ) (d : Visible) → k < length items → k < s → (get_or items k d).stamp < a) → ((k : ℕ) (d : Visible) → k < length items → s ≤ k → a ≤ (get_or items k d).stamp) →
    ((k : ℕ) (d : Visible) → k < length items → k < s + n → (get_or items k d).stamp < t) → ((k : ℕ) (d : Visible) → k < length items → s + n ≤ k → t ≤ (get_or items k d).stamp) →
    take n (drop s items) ≡ filter (is_between a t) items
kept_slice a t [] zero zero f g h i = refl
kept_slice a t [] zero (suc n) f g h i = refl
kept_slice a t [] (suc s) zero f g h i = refl
kept_slice a t [] (suc s) (suc n) f g h i = refl
kept_slice a t (x ∷ xs) (suc s) n f g h i =
    let out : is_between a t x ≡ false = false_from_ne_true (is_between a t x) (λ b. let p = and_parts (nat_le a x.stamp) (nat_lt x.stamp t) b in let le = leb-true a x.stamp p.0 in let lt = f 0 x (omega arith) (omega arith) in let no' : ⊥ = omega arith in no') in
    kept_slice a t xs s n (λ k d l m. f (suc k) d (omega arith) (omega arith)) (λ k d l m. g (suc k) d (omega arith) (omega arith)) (λ k d l m. h (suc k) d (omega arith) (omega arith)) (λ k d l m. i (suc k) d (omega arith) (omega arith))
    ∙ sym (ap (λ (b : Bool). cond b (x ∷ filter (is_between a t) xs) (filter (is_between a t) xs)) out)
kept_slice a t (x ∷ xs) zero (suc n) f g h i =
    let in' : is_between a t x ≡ true = and_from (nat_le a x.stamp) (nat_lt x.stamp t) (le-leb a x.stamp (g 0 x (omega arith) (omega arith))) (lt-ltb x.stamp t (h 0 x (omega arith) (omega arith))) in
    ap (λ l. x ∷ l) (kept_slice a t xs zero n (λ k d l m. let no' : ⊥ = omega arith in absurd no') (λ k d l m. g (suc k) d (omega arith) (omega arith)) (λ k d l m. h (suc k) d (omega arith) (omega arith)) (λ k d l m. i (suc k) d (omega arith) (omega arith)))
    ∙ sym (ap (λ (b : Bool). cond b (x ∷ filter (is_between a t) xs) (filter (is_between a t) xs)) in')
kept_slice a t (x ∷ xs) zero zero f g h i = sym (none_kept a t (x ∷ xs) (λ k d l le lt. let ge = i k d l (omega arith) in let no' : ⊥ = omega arith in no'))

-- the slice between two places that a search found
pub slice_between : (a t : ℕ) (items : List Visible) (s e : ℕ) → s < e → IsPartitionPoint (λ y. ltb y.stamp a ≡ true) (λ y. ltb y.stamp a ≡ false) items s → IsPartitionPoint (λ y. ltb y.stamp t ≡ true) (λ y. ltb y.stamp t ≡ false) items e →
    take (e - s) (drop s items) ≡ filter (is_between a t) items
slice_between a t items s e lt p q =
    kept_slice a t items s (e - s)
    (λ k d l m. ltb-true (get_or items k d).stamp a (p.0 k d (omega arith) m))
    (λ k d l m. ltb-false (get_or items k d).stamp a (p.1 k d m l))
    (λ k d l m. ltb-true (get_or items k d).stamp t (q.0 k d (omega arith) (omega arith)))
    (λ k d l m. ltb-false (get_or items k d).stamp t (q.1 k d (omega arith) l))

pub none_between : (a t : ℕ) (items : List Visible) (s e : ℕ) → e ≤ s → IsPartitionPoint (λ y. ltb y.stamp a ≡ true) (λ y. ltb y.stamp a ≡ false) items s → IsPartitionPoint (λ y. ltb y.stamp t ≡ true) (λ y. ltb y.stamp t ≡ false) items e →
    filter (is_between a t) items ≡ []
none_between a t items s e le p q = none_kept a t items (λ k d l from' below. ⊎_elim
    (λ (m : k < s). let up = ltb-true (get_or items k d).stamp a (p.0 k d (omega arith) m) in let no' : ⊥ = omega arith in no')
    (λ (m : s ≤ k). let up = ltb-false (get_or items k d).stamp t (q.1 k d (omega arith) l) in let no' : ⊥ = omega arith in no')
    (cases_lt k s))
