-- What a write to the rings of one peer leaves of what contracts say of a participant's ends.
use Rattle.std.proofs.Common.{◌≡◌, ◌≢◌, ℕ, zero, suc, ◌<◌, List, [], ◌∷◌, length, map, get_or, set, refl, sym, ◌∙◌, ap, subst, arith, Option, Some}
use Rattle.std.specs.List.{slice_get}
use Rattle.std.proofs.lemmas.Option.{slice_get_read, same_Some, none-some}
use Rattle.std.proofs.lemmas.List.{map-set, length-map}
use Rattle.sk_mesh.specs.declared.ring_pair.RingPair.{RingPair}
use Rattle.sk_mesh.proofs.ByPlace.{slice_get-set_same, slice_get-set_other, set_same, at_each}
use Rattle.sk_mesh.specs.Places.{Account, Way, way_at, way_in, way, place, size}
use Rattle.sk_mesh.specs.Pairs.{pushed_by, popped_by, free_by, waiting_by, room_by, SamePushes, SamePops, Looked}
use Rattle.sk_mesh.specs.Ends.{pair, pair_in, pushed, popped, free, waiting, room, OnlyPushes, OnlyPops, Looks}

pub slice_get-way : (xs : List (Option RingPair)) (i : ℕ) (x : Option RingPair) → slice_get xs i ≡ Some x → slice_get (map way_at xs) i ≡ Some (way_at x)
slice_get-way [] i x h = absurd (none-some x h)
slice_get-way (y ∷ xs) zero x h = ap (λ z. Some (way_at z)) (same_Some y x h)
slice_get-way (y ∷ xs) (suc i) x h = slice_get-way xs i x h

-- b is a with y in place of x at i
pub record Wrote (a b : Account) (i : ℕ) (x y : Option RingPair) : Type 0 where
  pub was : pair a i ≡ x
  pub now : pair b i ≡ y
  pub others : (q : ℕ) → q ≢ i → pair b q ≡ pair a q
  pub same_place : way_at y ≡ way_at x → place b ≡ place a
  pub way_was : way (place a) i ≡ way_at x

abbrev pub account : ℕ → List (Option RingPair) → Account
account n xs = record { number = n; pairs = xs }

wrote_list : (n : ℕ) (xs : List (Option RingPair)) (i : ℕ) (x y : Option RingPair) → i < length xs → x ≡ get_or xs i x → Wrote (account n xs) (account n (set xs i y)) i x y
wrote_list n xs i x y low read =
    let was : slice_get xs i ≡ Some x = slice_get_read xs (length xs) i x refl low read in record {
      was = ap pair_in was;
      now = ap pair_in (slice_get-set_same xs i y low);
      others = (λ q h. ap pair_in (slice_get-set_other xs i q y h));
      same_place = (λ same. ap (λ (l : List (Option Way)). record { number = n; ways = l })
          (map-set way_at xs i y ∙ set_same (map way_at xs) i (way_at y) (rw same (slice_get-way xs i x was))));
      way_was = ap way_in (slice_get-way xs i x was);
    }

pub wrote : (n : ℕ) (xs : List (Option RingPair)) (a : Account) (i : ℕ) (x y : Option RingPair) → account n xs ≡ a → i < size (place a) → x ≡ get_or xs i x → Wrote a (account n (set xs i y)) i x y
wrote n xs a i x y is low read =
    let same : length xs ≡ length a.pairs = ap (λ (w : Account). length w.pairs) is in let all : size (place a) ≡ length a.pairs = length-map a.pairs way_at in
    subst (λ w. Wrote w (account n (set xs i y)) i x y) is (wrote_list n xs i x y (omega arith) read)

pub pushed_wrote : (a b : Account) (i : ℕ) (x y : Option RingPair) → Wrote a b i x y → (pushed a i ≡ pushed_by x) × (pushed b i ≡ pushed_by y)
unfolding pushed
pushed_wrote a b i x y w = (ap pushed_by w.was, ap pushed_by w.now)

pub popped_wrote : (a b : Account) (i : ℕ) (x y : Option RingPair) → Wrote a b i x y → (popped a i ≡ popped_by x) × (popped b i ≡ popped_by y)
unfolding popped
popped_wrote a b i x y w = (ap popped_by w.was, ap popped_by w.now)

pub free_wrote : (a b : Account) (i : ℕ) (x y : Option RingPair) → Wrote a b i x y → (free a i ≡ free_by x) × (free b i ≡ free_by y)
unfolding free
free_wrote a b i x y w = (ap free_by w.was, ap free_by w.now)

pub waiting_wrote : (a b : Account) (i : ℕ) (x y : Option RingPair) → Wrote a b i x y → (waiting a i ≡ waiting_by x) × (waiting b i ≡ waiting_by y)
unfolding waiting
waiting_wrote a b i x y w = (ap waiting_by w.was, ap waiting_by w.now)

-- those of the other peers say what they said
pub record Others (a b : Account) (q : ℕ) : Type 0 where
  pub pushed : pushed b q ≡ pushed a q
  pub popped : popped b q ≡ popped a q
  pub free : free b q ≡ free a q
  pub waiting : waiting b q ≡ waiting a q

pub others : (a b : Account) (i : ℕ) (x y : Option RingPair) → Wrote a b i x y → (q : ℕ) → q ≢ i → Others a b q
unfolding pushed popped free waiting
others a b i x y w q h = let e = w.others q h in record { pushed = ap pushed_by e; popped = ap popped_by e; free = ap free_by e; waiting = ap waiting_by e }

pub only_pushes : (a b : Account) (i : ℕ) (x y : Option RingPair) → Wrote a b i x y → way_at y ≡ way_at x → SamePops x y → OnlyPushes a b i
only_pushes a b i x y w way pops =
    let o : (q : ℕ) → q ≢ i → Others a b q = others a b i x y w in
    let p = popped_wrote a b i x y w in let k = waiting_wrote a b i x y w in record {
      place = w.same_place way;
      popped = (λ q. at_each (λ n. popped b n ≡ popped a n) i q (p.1 ∙ (pops.0 ∙ sym p.0)) (λ h. (o q h).popped));
      waiting = (λ q. at_each (λ n. waiting b n ≡ waiting a n) i q (k.1 ∙ (pops.1 ∙ sym k.0)) (λ h. (o q h).waiting));
      pushed = (λ q h. (o q h).pushed);
      free = (λ q h. (o q h).free);
    }

pub only_pops : (a b : Account) (i : ℕ) (x y : Option RingPair) → Wrote a b i x y → way_at y ≡ way_at x → SamePushes x y → OnlyPops a b i
only_pops a b i x y w way pushes =
    let o : (q : ℕ) → q ≢ i → Others a b q = others a b i x y w in
    let p = pushed_wrote a b i x y w in let f = free_wrote a b i x y w in record {
      place = w.same_place way;
      pushed = (λ q. at_each (λ n. pushed b n ≡ pushed a n) i q (p.1 ∙ (pushes.0 ∙ sym p.0)) (λ h. (o q h).pushed));
      free = (λ q. at_each (λ n. free b n ≡ free a n) i q (f.1 ∙ (pushes.1 ∙ sym f.0)) (λ h. (o q h).free));
      popped = (λ q h. (o q h).popped);
      waiting = (λ q h. (o q h).waiting);
    }

pub looks : (a b : Account) (i : ℕ) (x y : Option RingPair) → Wrote a b i x y → Looked x y → Looks a b i
looks a b i x y w l =
    let o : (q : ℕ) → q ≢ i → Others a b q = others a b i x y w in
    let s = pushed_wrote a b i x y w in let p = popped_wrote a b i x y w in
    let f = free_wrote a b i x y w in let k = waiting_wrote a b i x y w in record {
      place = w.same_place l.way;
      pushed = (λ q. at_each (λ n. pushed b n ≡ pushed a n) i q (s.1 ∙ (l.pushed ∙ sym s.0)) (λ h. (o q h).pushed));
      popped = (λ q. at_each (λ n. popped b n ≡ popped a n) i q (p.1 ∙ (l.popped ∙ sym p.0)) (λ h. (o q h).popped));
      more = rw (f.0, f.1) l.free;
      longer = rw (k.0, k.1) l.waiting;
      free = (λ q h. (o q h).free);
      waiting = (λ q h. (o q h).waiting);
    }

pub room_wrote : (a b : Account) (i : ℕ) (x y : Option RingPair) → Wrote a b i x y → way_at y ≡ way_at x → room (place b) i ≡ room_by (way_at y)
unfolding room
room_wrote a b i x y w same = ap room_by (ap (λ p. way p i) (w.same_place same) ∙ (w.way_was ∙ sym same))
