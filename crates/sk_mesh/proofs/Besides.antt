-- What both sides know once they looked at the two rings between them.
use Rattle.std.proofs.Common.{◌≡◌, ℕ, zero, suc, ◌<◌, ◌+◌, ◌≤◌, List, [], ◌∷◌, ◌++◌, length, get_or, set, refl, sym, ◌∙◌, ap, subst, arith, append_assoc, Option, Some}
use Rattle.std.specs.List.{slice_get}
use Rattle.std.proofs.lemmas.Option.{none-some}
use mathlib.Core.List.{IsPrefix}
use Rattle.sk_mesh.specs.declared.ring_pair.RingPair.{RingPair}
use Rattle.sk_mesh.specs.Places.{Account, Way, way_at, way_in, place, AreOfOneMesh}
use Rattle.sk_mesh.specs.Pairs.{Looked, KnowsRing}
use Rattle.sk_mesh.specs.Ends.{pushed, popped, free, waiting, room, Looks, Agrees, Knows}
use Rattle.sk_mesh.proofs.Writes.{Wrote, wrote, account, looks, pushed_wrote, popped_wrote, free_wrote, waiting_wrote, room_wrote}

-- who has a way to a number is of a mesh with that number
pub known_number : (ways : List (Option Way)) (i : ℕ) (w : Way) → way_in (slice_get ways i) ≡ Some w → i < length ways
known_number [] i w h = absurd (none-some w h)
known_number (x ∷ ways) zero w h = omega arith
known_number (x ∷ ways) (suc i) w h = let k : i < length ways = known_number ways i w h in omega arith

-- the end of number n that pushes and the end of number m that pops know all of the ring between them
record KnowAll (a b : Account) (n m : ℕ) : Type 0 where
  slots : free a m + length (pushed a m) ≡ room (place a) m + length (popped b n)
  order : popped b n ++ waiting b n ≡ pushed a m

know_all : (a a' b b' : Account) (n m : ℕ) (x x' y y' : Option RingPair) → Wrote a a' m x x' → Wrote b b' n y y' → way_at x' ≡ way_at x → KnowsRing x' y' → KnowAll a' b' n m
know_all a a' b b' n m x x' y y' v w same k =
    let s = pushed_wrote a a' m x x' v in let f = free_wrote a a' m x x' v in let r = room_wrote a a' m x x' v same in
    let p = popped_wrote b b' n y y' w in let t = waiting_wrote b b' n y y' w in record {
      slots = rw (f.1, s.1, r, p.1) k.slots;
      order = rw (p.1, t.1, s.1) k.order;
    }

-- what they knew before was so
record KnewSo (a b : Account) (n m : ℕ) : Type 0 where
  slots : free a m + length (pushed a m) ≤ room (place a) m + length (popped b n)
  order : IsPrefix (popped b n ++ waiting b n) (pushed a m)

knew_so : (a a' b b' : Account) (n m : ℕ) → Looks a a' m → Looks b b' n → KnowAll a' b' n m → KnewSo a b n m
knew_so a a' b b' n m l r k =
    let e : free a m ≤ free a' m = l.more in let h : free a' m + length (pushed a' m) ≡ room (place a') m + length (popped b' n) = k.slots in
    let s : length (pushed a' m) ≡ length (pushed a m) = ap length (l.pushed m) in let p : length (popped b' n) ≡ length (popped b n) = ap length (r.popped n) in
    let o : room (place a') m ≡ room (place a) m = ap (λ w. room w m) l.place in record {
      slots = omega arith;
      order = (r.longer.0, append_assoc (popped b n) (waiting b n) r.longer.0 ∙ (ap (λ z. popped b n ++ z) r.longer.1 ∙ (ap (λ z. z ++ waiting b' n) (sym (r.popped n)) ∙ (k.order ∙ l.pushed m))));
    }

-- all that `beside` ensures
pub record Beside (a b a' b' : Account) : Type 0 where
  pub mine : Looks a a' b.number
  pub theirs : Looks b b' a.number
  pub in_order : IsPrefix (popped b' a.number) (pushed a' b.number) × IsPrefix (popped a' b.number) (pushed b' a.number)
  pub agrees : Agrees a b × Agrees b a
  pub knows : Knows a' b' × Knows b' a'

both : (n m : ℕ) (xs ys : List (Option RingPair)) (x x' y y' : Option RingPair) → AreOfOneMesh (place (account n xs)) (place (account m ys))
    → x ≡ get_or xs m x → y ≡ get_or ys n y → Looked x x' → Looked y y' → KnowsRing x' y' → KnowsRing y' x'
    → Beside (account n xs) (account m ys) (account n (set xs m x')) (account m (set ys n y'))
both n m xs ys x x' y y' of_one read_x read_y look_x look_y there back =
    let a = account n xs in let b = account m ys in let a' = account n (set xs m x') in let b' = account m (set ys n y') in
    let v : Wrote a a' m x x' = wrote n xs a m x x' refl (known_number (place a).ways m of_one.facing.here of_one.facing.is_here) read_x in
    let w : Wrote b b' n y y' = wrote m ys b n y y' refl (known_number (place b).ways n of_one.facing.there of_one.facing.is_there) read_y in
    let mine : Looks a a' m = looks a a' m x x' v look_x in
    let theirs : Looks b b' n = looks b b' n y y' w look_y in
    let k : KnowAll a' b' n m = know_all a a' b b' n m x x' y y' v w look_x.way there in
    let l : KnowAll b' a' m n = know_all b b' a a' m n y y' x x' w v look_y.way back in
    let p : KnewSo a b n m = knew_so a a' b b' n m mine theirs k in
    let q : KnewSo b a m n = knew_so b b' a a' m n theirs mine l in record {
      mine = mine;
      theirs = theirs;
      in_order = ((waiting b' n, k.order), (waiting a' m, l.order));
      agrees = (record { slots = p.slots; order = p.order }, record { slots = q.slots; order = q.order });
      knows = (record { slots = k.slots; order = k.order }, record { slots = l.slots; order = l.order });
    }

pub beside : (n m : ℕ) (xs ys : List (Option RingPair)) (a b : Account) (x x' y y' : Option RingPair) → account n xs ≡ a → account m ys ≡ b → AreOfOneMesh (place a) (place b)
    → x ≡ get_or xs m x → y ≡ get_or ys n y → Looked x x' → Looked y y' → KnowsRing x' y' → KnowsRing y' x'
    → Beside a b (account n (set xs m x')) (account m (set ys n y'))
beside n m xs ys a b x x' y y' is_a is_b of_one read_x read_y look_x look_y there back =
    let one : AreOfOneMesh (place (account n xs)) (place (account m ys)) =
    subst (λ w. AreOfOneMesh (place w) (place (account m ys))) (sym is_a) (subst (λ w. AreOfOneMesh (place a) (place w)) (sym is_b) of_one) in
    let d = both n m xs ys x x' y y' one read_x read_y look_x look_y there back in
    subst (λ w. Beside w b (account n (set xs m x')) (account m (set ys n y'))) is_a
    (subst (λ w. Beside (account n xs) w (account n (set xs m x')) (account m (set ys n y'))) is_b d)
