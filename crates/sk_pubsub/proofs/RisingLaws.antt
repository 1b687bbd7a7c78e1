-- The numbers of receivers rise.
use Rattle.std.proofs.Common.{Bool, true, false, cond, ◌≡◌, ◌<◌, ◌≤◌, ◌+◌, ℕ, zero, suc, List, [], ◌∷◌, map, length, Option, Some, None, filter, slice_index, sym, subst, arith}
use Rattle.std.specs.Prelude.{IsTrue, ◌==◌}
use Rattle.std.specs.List.{AllByRecursion}
use Rattle.std.specs.List.Sorted.{IsStrictlyIncreasing}
use Rattle.std.proofs.lemmas.Bool.{and_parts, eqb-true}
use Rattle.sk_msg.specs.Matching.{match_services, matching}
use Rattle.sk_msg.specs.declared.service.Service.{Service}
use Rattle.sk_pubsub.specs.Announcing.{are_numbered, ids, receivers_of}

rising_front : (n : ℕ) (numbers : List ℕ) → AllByRecursion (λ m. n < m) numbers → IsStrictlyIncreasing numbers → IsStrictlyIncreasing (n ∷ numbers)
rising_front n [] above rising k within = absurd (omega (arith, within))
rising_front n (m ∷ numbers) above rising zero within = above.0
rising_front n (m ∷ numbers) above rising (suc k) within =
    let next : suc (k + 1) ≡ suc k + 1 = omega arith in
    subst (λ i. slice_index (m ∷ numbers) k < slice_index (n ∷ m ∷ numbers) i) next (rising k (omega (arith, within)))

weaker : (n m : ℕ) (numbers : List ℕ) → n ≤ m → AllByRecursion (λ x. m ≤ x) numbers → AllByRecursion (λ x. n ≤ x) numbers
weaker n m [] is above = tt
weaker n m (x ∷ numbers) is above = (omega (arith, is, above.0), weaker n m numbers is above.1)

from_next : (n : ℕ) (numbers : List ℕ) → AllByRecursion (λ x. n + 1 ≤ x) numbers → AllByRecursion (λ x. n < x) numbers
from_next n [] above = tt
from_next n (x ∷ numbers) above = (omega (arith, above.0), from_next n numbers above.1)

module _ (p : Service → Bool) where
  first : (next : ℕ) (s : Service) (own : List Service) → IsTrue (are_numbered next (s ∷ own)) → s.id ≡ next
  first next s own numbered = eqb-true s.id next (and_parts (s.id == next) (are_numbered (next + 1) own) numbered).0

  rest : (next : ℕ) (s : Service) (own : List Service) → IsTrue (are_numbered next (s ∷ own)) → IsTrue (are_numbered (next + 1) own)
  rest next s own numbered = (and_parts (s.id == next) (are_numbered (next + 1) own) numbered).1

  from_first : (next : ℕ) (own : List Service) → IsTrue (are_numbered next own) → AllByRecursion (λ x. next ≤ x) (ids (filter p own))
  from_first next [] numbered = tt
  from_first next (s ∷ own) numbered = split (p s) (weaker next (next + 1) (ids (filter p own)) (omega arith) (from_first (next + 1) own (rest next s own numbered)))
    where
      split : (b : Bool) → AllByRecursion (λ x. next ≤ x) (ids (filter p own)) → AllByRecursion (λ x. next ≤ x) (ids (cond b (s ∷ filter p own) (filter p own)))
      split true above = (omega (arith, first next s own numbered), above)
      split false above = above

  filter_rises : (next : ℕ) (own : List Service) → IsTrue (are_numbered next own) → IsStrictlyIncreasing (ids (filter p own))
  filter_rises next [] numbered = λ k within. absurd (omega (arith, within))
  filter_rises next (s ∷ own) numbered = split (p s) (filter_rises (next + 1) own (rest next s own numbered))
    where
      split : (b : Bool) → IsStrictlyIncreasing (ids (filter p own)) → IsStrictlyIncreasing (ids (cond b (s ∷ filter p own) (filter p own)))
      split true rising =
          rising_front s.id (ids (filter p own))
          (subst (λ n. AllByRecursion (λ x. n < x) (ids (filter p own))) (sym (first next s own numbered)) (from_next next (ids (filter p own)) (from_first (next + 1) own (rest next s own numbered)))) rising
      split false rising = rising

pub receivers_rise : (numbers : List ℕ) (own : List Service) (other : Option Service) → numbers ≡ receivers_of own other → IsTrue (are_numbered 0 own) → IsStrictlyIncreasing numbers
receivers_rise numbers own other is numbered = subst IsStrictlyIncreasing (sym is) (on other)
  where
    on : (other : Option Service) → IsStrictlyIncreasing (receivers_of own other)
    on None = λ k within. absurd (omega (arith, within))
    on (Some s) = filter_rises (λ service. match_services service s) 0 own numbered
