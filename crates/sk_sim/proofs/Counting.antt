-- Sums over the numbers, and how many messages were pushed.
use Rattle.std.specs.Prelude.{◌≡◌, refl, ℕ, zero, suc, ◌*◌, ◌<◌, ◌≤◌, List, [], ◌∷◌, length, map, slice_index_or}
use Rattle.std.specs.List.{range_with_len}
use Rattle.std.proofs.Common.{ap, sym, ◌∙◌, subst, arith, inl, inr, ◌⊎◌}
use Rattle.std.proofs.lemmas.Bool.{cases_eq}
use Rattle.std.proofs.lemmas.List.FromFn.{get_or-map-range_with_len, length-map-range_with_len}
use Rattle.std.proofs.lemmas.Option.{slice_get_past}
use Rattle.std.proofs.lemmas.List.{length-map}
use Rattle.sk_mesh.specs.Places.{Account, Place, place, size, way_at}
use Rattle.sk_mesh.specs.Pairs.{pushed_by}
use Rattle.sk_mesh.specs.Ends.{pushed, pair_in}
use Rattle.sk_sim.specs.declared.wired.Wired.{Wired}
use Rattle.sk_sim.specs.Cards.{total, counts, card_of, count_at, pushed_total}

pub total_same : (f g : ℕ → ℕ) (n : ℕ) → ((q : ℕ) → f q ≡ g q) → total f n ≡ total g n
total_same f g zero h = refl
total_same f g (suc n) h = let e = total_same f g n h in let l = h n in omega arith

pub total_more : (f g : ℕ → ℕ) (n : ℕ) → ((q : ℕ) → f q ≤ g q) → total f n ≤ total g n
total_more f g zero h = omega arith
total_more f g (suc n) h = let e = total_more f g n h in let l = h n in omega arith

pub total_less : (f g : ℕ → ℕ) (n p : ℕ) → ((q : ℕ) → f q ≤ g q) → p < n → f p < g p → total f n < total g n
total_less f g zero p h low less = absurd (omega arith)
total_less f g (suc n) p h low less = elim (cases_eq p n) [
  | inl e ↦ let m = total_more f g n h in let l : f n < g n = subst (λ r. f r < g r) e less in omega arith
  | inr d ↦ let m = total_less f g n p h (omega arith) less in let l = h n in omega arith
]

pub total_most : (f : ℕ → ℕ) (n m : ℕ) → ((q : ℕ) → q < n → f q ≤ m) → total f n ≤ n * m
total_most f zero m h = omega arith
total_most f (suc n) m h = let e = total_most f n m (λ q low. h q (omega arith)) in let l = h n (omega arith) in omega arith

pushed_past : (a : Account) (q : ℕ) → length a.pairs ≤ q → pushed a q ≡ []
unfolding pushed
pushed_past a q far = ap (λ o. pushed_by (pair_in o)) (slice_get_past a.pairs q far)

-- so many were pushed to each number
pub count_is : (a : Account) (q : ℕ) → slice_index_or (counts a) q 0 ≡ length (pushed a q)
unfolding counts
count_is a q = elim (cases q (size (place a))) [
  | inl low ↦ get_or-map-range_with_len (λ p. length (pushed a p)) 0 (size (place a)) q q 0 low (omega arith)
  | inr far ↦ past (map (λ p. length (pushed a p)) (range_with_len 0 (size (place a)))) q (let e = length-map-range_with_len (λ p. length (pushed a p)) 0 (size (place a)) in omega arith)
      ∙ sym (ap length (pushed_past a q (let e : size (place a) ≡ length a.pairs = length-map a.pairs way_at in omega arith)))
]
  where
    cases : (i n : ℕ) → (i < n) ⊎ (n ≤ i)
    cases i zero = inr (omega arith)
    cases zero (suc n) = inl (omega arith)
    cases (suc i) (suc n) = elim (cases i n) [ inl l ↦ inl (omega arith) | inr r ↦ inr (omega arith) ]

    past : (xs : List ℕ) (i : ℕ) → length xs ≤ i → slice_index_or xs i 0 ≡ 0
    past [] i far = refl
    past (x ∷ xs) zero far = absurd (omega arith)
    past (x ∷ xs) (suc i) far = past xs i (omega arith)

counted : (f g : ℕ → ℕ) (ns : List ℕ) → ((q : ℕ) → f q ≡ g q) → map f ns ≡ map g ns
counted f g [] h = refl
counted f g (n ∷ ns) h = ap (λ k. k ∷ map f ns) (h n) ∙ ap (λ l. g n ∷ l) (counted f g ns h)

-- nothing was pushed
pub counts_same : (a b : Account) → place b ≡ place a → ((q : ℕ) → pushed b q ≡ pushed a q) → counts b ≡ counts a
unfolding counts
counts_same a b at h =
    ap (λ (w : Place). map (λ q. length (pushed b q)) (range_with_len 0 (size w))) at
    ∙ counted (λ q. length (pushed b q)) (λ q. length (pushed a q)) (range_with_len 0 (size (place a))) (λ q. ap length (h q))

-- nothing was pushed to fewer, and to one more
pub sent_less : (a b : Wired) (p : ℕ) → place b.ends ≡ place a.ends → p < size (place a.ends) →
    ((q : ℕ) → length (pushed a.ends q) ≤ length (pushed b.ends q)) → length (pushed a.ends p) < length (pushed b.ends p) →
    pushed_total (card_of a) < pushed_total (card_of b)
sent_less a b p at low more less =
    let f : ℕ → ℕ = λ q. count_at (card_of a) q in
    let g : ℕ → ℕ = λ q. count_at (card_of b) q in
    let all : (q : ℕ) → f q ≤ g q = (λ q. let i = count_is a.ends q in let j = count_is b.ends q in let m = more q in omega arith) in
    let one : f p < g p = (let i = count_is a.ends p in let j = count_is b.ends p in omega arith) in
    subst (λ (w : Place). total f (size (place a.ends)) < total g (size w)) (sym at) (total_less f g (size (place a.ends)) p all low one)

pub sent_more : (a b : Wired) → place b.ends ≡ place a.ends → ((q : ℕ) → length (pushed a.ends q) ≤ length (pushed b.ends q)) → pushed_total (card_of a) ≤ pushed_total (card_of b)
sent_more a b at more =
    let f : ℕ → ℕ = λ q. count_at (card_of a) q in
    let g : ℕ → ℕ = λ q. count_at (card_of b) q in
    let all : (q : ℕ) → f q ≤ g q = (λ q. let i = count_is a.ends q in let j = count_is b.ends q in let m = more q in omega arith) in
    subst (λ (w : Place). total f (size (place a.ends)) ≤ total g (size w)) (sym at) (total_more f g (size (place a.ends)) all)
