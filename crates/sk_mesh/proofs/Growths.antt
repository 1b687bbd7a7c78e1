-- A mesh grows by one participant after the other.
use Rattle.std.proofs.Common.{◌≡◌, ◌≢◌, ℕ, zero, suc, ◌<◌, ◌+◌, ◌≤◌, ◌⊎◌, inl, inr, List, [], ◌∷◌, ◌++◌, length, map, get_or, set, refl, sym, ◌∙◌, ap, subst, arith, length-set, length-append, Option, Some, None}
use Rattle.std.specs.List.{slice_get, All}
use Rattle.std.proofs.lemmas.List.{length-map}
use Rattle.std.proofs.lemmas.Option.{same_Some, none-some, slice_get-get_or, slice_get_within, slice_get_cases}
use Rattle.std.proofs.lemmas.Bool.{cases_eq}
use Rattle.sk_mesh.specs.declared.ring_pair.RingPair.{RingPair}
use Rattle.sk_mesh.specs.Places.{Account, Place, way_at, way_in, way, place, size, IsPeer, AreOfOneMesh, IsMesh}
use Rattle.sk_mesh.specs.Ends.{pair, pair_in, pushed, popped, free, waiting, room, IsUnused}
use Rattle.sk_mesh.specs.Pairs.{pushed_by, popped_by, free_by, waiting_by, room_by, IsNew}
use Rattle.sk_mesh.specs.Growth.{with_pair, AreSides, Meet, HasMet, Joined}
use Rattle.sk_mesh.proofs.Growing.{HaveMet, AreJoined, AllJoined}
use Rattle.sk_mesh.proofs.ByPlace.{slice_get-set_same, slice_get-set_other, slice_get-front, slice_get-last, slice_get-cases, slice_get-some, slice_get-from_map, All-by_place, at_each}
use Rattle.sk_mesh.proofs.Writes.{slice_get-way}

pub none_met : (capacity : ℕ) (before : List Account) (newcomer : Account) → newcomer.pairs ≡ [] → HaveMet capacity before before newcomer 0
none_met capacity before newcomer is = record { size = refl; pairs = ap length is; met = (λ i a0 h e. absurd (omega arith)); others = (λ i h. refl) }

met_here : (capacity : ℕ) (before es : List Account) (newcomer newcomer' : Account) (n : ℕ) (a a' : Account) → HaveMet capacity before es newcomer n → n < length es → slice_get es n ≡ Some a
    → Meet capacity a a' newcomer newcomer' → (a0 : Account) → slice_get before n ≡ Some a0 → HasMet capacity (set es n a') newcomer' n a0
met_here capacity before es newcomer newcomer' n a a' h low is m a0 was =
    let same : a ≡ a0 = same_Some a a0 (sym is ∙ (h.others n (omega arith) ∙ was)) in record {
      near = m.near;
      far = m.far;
      sides = m.sides;
      is_near = slice_get-set_same es n a' low ∙ ap Some (m.is_a ∙ ap (λ w. with_pair w (Some m.near)) same);
      is_far = ap (λ (w : Account). slice_get w.pairs n) m.is_b ∙ slice_get-last newcomer.pairs (Some m.far) n (sym h.pairs);
    }

met_before : (capacity : ℕ) (before es : List Account) (newcomer newcomer' : Account) (n : ℕ) (a a' : Account) → HaveMet capacity before es newcomer n
    → Meet capacity a a' newcomer newcomer' → (i : ℕ) (a0 : Account) → i ≢ n → i < n → slice_get before i ≡ Some a0 → HasMet capacity (set es n a') newcomer' i a0
met_before capacity before es newcomer newcomer' n a a' h m i a0 other low was =
    let o : HasMet capacity es newcomer i a0 = h.met i a0 low was in record {
      near = o.near;
      far = o.far;
      sides = o.sides;
      is_near = slice_get-set_other es n i a' other ∙ o.is_near;
      is_far = ap (λ (w : Account). slice_get w.pairs i) m.is_b ∙ slice_get-front newcomer.pairs (Some m.far ∷ []) i (Some o.far) o.is_far;
    }

-- one more has met the newcomer
pub met_next : (capacity : ℕ) (before es : List Account) (newcomer newcomer' : Account) (n : ℕ) (d a' : Account) → HaveMet capacity before es newcomer n → n < length es
    → Meet capacity (get_or es n d) a' newcomer newcomer' → HaveMet capacity before (set es n a') newcomer' (n + 1)
met_next capacity before es newcomer newcomer' n d a' h low m =
    let a = get_or es n d in let is : slice_get es n ≡ Some a = slice_get-get_or es n d low in
    let pairs : length newcomer'.pairs ≡ length (newcomer.pairs ++ Some m.far ∷ []) = ap (λ (w : Account). length w.pairs) m.is_b in
    let more : length (newcomer.pairs ++ Some m.far ∷ []) ≡ length newcomer.pairs + length (Some m.far ∷ []) = length-append newcomer.pairs (Some m.far ∷ []) in
    let k : length newcomer.pairs ≡ n = h.pairs in record {
      size = length-set es n a' ∙ h.size;
      pairs = omega arith;
      met = (λ i a0 less was. at_each (λ q. q < n + 1 → slice_get before q ≡ Some a0 → HasMet capacity (set es n a') newcomer' q a0) n i
          (λ _ w. met_here capacity before es newcomer newcomer' n a a' h low is m a0 w)
          (λ other l w. met_before capacity before es newcomer newcomer' n a a' h m i a0 other (omega arith) w) less was);
      others = (λ i l. slice_get-set_other es n i a' (omega arith) ∙ h.others i (omega arith));
    }

met_still : (capacity : ℕ) (es : List Account) (newcomer newcomer' : Account) (i : ℕ) (a0 : Account) → newcomer' ≡ with_pair newcomer None → HasMet capacity es newcomer i a0 → HasMet capacity es newcomer' i a0
met_still capacity es newcomer newcomer' i a0 is o = record {
  near = o.near;
  far = o.far;
  sides = o.sides;
  is_near = o.is_near;
  is_far = ap (λ (w : Account). slice_get w.pairs i) is ∙ slice_get-front newcomer.pairs (None ∷ []) i (Some o.far) o.is_far;
}

-- all have
pub all_met : (capacity : ℕ) (before es : List Account) (newcomer newcomer' : Account) (n : ℕ) → HaveMet capacity before es newcomer n → length before ≤ n → n ≤ length before
    → newcomer' ≡ with_pair newcomer None → Joined capacity before es newcomer'
all_met capacity before es newcomer newcomer' n h most least is =
    let k : n ≡ length before = omega arith in
    let pairs : length newcomer'.pairs ≡ length (newcomer.pairs ++ None ∷ []) = ap (λ (w : Account). length w.pairs) is in
    let more : length (newcomer.pairs ++ None ∷ []) ≡ length newcomer.pairs + 1 = length-append newcomer.pairs (None ∷ []) in
    let m : length newcomer.pairs ≡ n = h.pairs in record {
      size = h.size;
      pairs = omega arith;
      own = ap (λ (w : Account). slice_get w.pairs (length before)) is ∙ slice_get-last newcomer.pairs None (length before) (omega arith);
      met = (λ i a0 low was. met_still capacity es newcomer newcomer' i a0 is (h.met i a0 (omega arith) was));
    }

pub none_joined : (capacity : ℕ) → AllJoined capacity []
none_joined capacity = record { placed = (λ i a h. absurd (none-some a h)); joined = (λ i j a b other h. absurd (none-some a h)) }

-- one of those that met the newcomer
record Grown (capacity : ℕ) (before : List Account) (newcomer : Account) (i : ℕ) (a : Account) : Type 0 where
  a0 : Account
  was : slice_get before i ≡ Some a0
  near : RingPair
  far : RingPair
  sides : AreSides capacity near far
  is_a : a ≡ with_pair a0 (Some near)
  is_far : slice_get newcomer.pairs i ≡ Some (Some far)

grown : (capacity : ℕ) (before es : List Account) (newcomer : Account) → Joined capacity before es newcomer → (i : ℕ) (a : Account) → slice_get es i ≡ Some a → Grown capacity before newcomer i a
grown capacity before es newcomer h i a is =
    let low : i < length es = slice_get_within es i a is in
    let size : length es ≡ length before = h.size in
    let low' : i < length before = omega arith in
    let o = slice_get-some before i low' in
    let m : HasMet capacity es newcomer i o.0 = h.met i o.0 low' o.1 in record {
      a0 = o.0;
      was = o.1;
      near = m.near;
      far = m.far;
      sides = m.sides;
      is_a = same_Some a (with_pair o.0 (Some m.near)) (sym is ∙ m.is_near);
      is_far = m.is_far;
    }

flip : (capacity : ℕ) (near far : RingPair) → AreSides capacity near far → AreSides capacity far near
flip capacity near far s = record {
  facing = record { here = s.facing.there; there = s.facing.here; is_here = s.facing.is_there; is_there = s.facing.is_here; arrives = s.facing.returns; returns = s.facing.arrives };
  near_new = s.far_new;
  far_new = s.near_new;
}

module _ (capacity : ℕ) (before es : List Account) (newcomer : Account) (all : AllJoined capacity before) (h : Joined capacity before es newcomer) (number : newcomer.number ≡ length before) where
  size_of : length (es ++ newcomer ∷ []) ≡ length before + 1
  size_of = let s : length es ≡ length before = h.size in let l : length (es ++ newcomer ∷ []) ≡ length es + length (newcomer ∷ []) = length-append es (newcomer ∷ []) in omega arith

  placed_old : (i : ℕ) (a : Account) → slice_get es i ≡ Some a → (a.number ≡ i) × (length a.pairs ≡ length (es ++ newcomer ∷ [])) × (slice_get a.pairs i ≡ Some None)
  placed_old i a is =
      let g : Grown capacity before newcomer i a = grown capacity before es newcomer h i a is in
      let p = all.placed i g.a0 g.was in
      let pairs : length a.pairs ≡ length (g.a0.pairs ++ Some g.near ∷ []) = ap (λ (w : Account). length w.pairs) g.is_a in
      let more : length (g.a0.pairs ++ Some g.near ∷ []) ≡ length g.a0.pairs + length (Some g.near ∷ []) = length-append g.a0.pairs (Some g.near ∷ []) in
      let k : length g.a0.pairs ≡ length before = p.1 in let s = size_of in
      (ap (λ (w : Account). w.number) g.is_a ∙ p.0, omega arith, ap (λ (w : Account). slice_get w.pairs i) g.is_a ∙ slice_get-front g.a0.pairs (Some g.near ∷ []) i None p.2)

  placed_new : (i : ℕ) (a : Account) → i ≡ length es → a ≡ newcomer → (a.number ≡ i) × (length a.pairs ≡ length (es ++ newcomer ∷ [])) × (slice_get a.pairs i ≡ Some None)
  placed_new i a e is =
      let k : length es ≡ length before = h.size in
      let j : i ≡ length before = e ∙ k in
      (ap (λ (w : Account). w.number) is ∙ (number ∙ sym j), ap (λ (w : Account). length w.pairs) is ∙ (h.pairs ∙ sym size_of), ap (λ (w : Account). slice_get w.pairs i) is ∙ (ap (λ q. slice_get newcomer.pairs q) j ∙ h.own))

  joined_old : (i j : ℕ) (a b : Account) → i ≢ j → slice_get es i ≡ Some a → slice_get es j ≡ Some b → AreJoined capacity i j a b
  joined_old i j a b other is_a is_b =
      let g : Grown capacity before newcomer i a = grown capacity before es newcomer h i a is_a in
      let f : Grown capacity before newcomer j b = grown capacity before es newcomer h j b is_b in
      let o : AreJoined capacity i j g.a0 f.a0 = all.joined i j g.a0 f.a0 other g.was f.was in record {
        near = o.near;
        far = o.far;
        sides = o.sides;
        is_near = ap (λ (w : Account). slice_get w.pairs j) g.is_a ∙ slice_get-front g.a0.pairs (Some g.near ∷ []) j (Some o.near) o.is_near;
        is_far = ap (λ (w : Account). slice_get w.pairs i) f.is_a ∙ slice_get-front f.a0.pairs (Some f.near ∷ []) i (Some o.far) o.is_far;
      }

  -- the rings of an old one to the newcomer stand last
  to_newcomer : (i j : ℕ) (a : Account) (g : Grown capacity before newcomer i a) → j ≡ length es → slice_get a.pairs j ≡ Some (Some g.near)
  to_newcomer i j a g e =
      let k : length g.a0.pairs ≡ length before = (all.placed i g.a0 g.was).1 in
      let s : length es ≡ length before = h.size in
      ap (λ (w : Account). slice_get w.pairs j) g.is_a ∙ slice_get-last g.a0.pairs (Some g.near) j (omega arith)

  joined_to_new : (i j : ℕ) (a b : Account) → slice_get es i ≡ Some a → j ≡ length es → b ≡ newcomer → AreJoined capacity i j a b
  joined_to_new i j a b is_a e is_b =
      let g : Grown capacity before newcomer i a = grown capacity before es newcomer h i a is_a in record {
        near = g.near;
        far = g.far;
        sides = g.sides;
        is_near = to_newcomer i j a g e;
        is_far = ap (λ (w : Account). slice_get w.pairs i) is_b ∙ g.is_far;
      }

  joined_from_new : (i j : ℕ) (a b : Account) → i ≡ length es → a ≡ newcomer → slice_get es j ≡ Some b → AreJoined capacity i j a b
  joined_from_new i j a b e is_a is_b =
      let g : Grown capacity before newcomer j b = grown capacity before es newcomer h j b is_b in record {
        near = g.far;
        far = g.near;
        sides = flip capacity g.near g.far g.sides;
        is_near = ap (λ (w : Account). slice_get w.pairs j) is_a ∙ g.is_far;
        is_far = to_newcomer j i b g e;
      }

  -- the mesh with the newcomer
  pub grows : AllJoined capacity (es ++ newcomer ∷ [])
  grows = record {
    placed = (λ i a is. elim (slice_get-cases es newcomer i a is) [ inl old ↦ placed_old i a old | inr last ↦ placed_new i a last.0 last.1 ]);
    joined = (λ i j a b other is_a is_b. elim (slice_get-cases es newcomer i a is_a) [
      | inl old ↦ elim (slice_get-cases es newcomer j b is_b) [ inl too ↦ joined_old i j a b other old too | inr last ↦ joined_to_new i j a b old last.0 last.1 ]
      | inr last ↦ elim (slice_get-cases es newcomer j b is_b) [ inl old ↦ joined_from_new i j a b last.0 last.1 old | inr too ↦ absurd (other (last.0 ∙ sym too.0)) ]
    ]);
  }

of_one_mesh : (capacity : ℕ) (i j : ℕ) (a b : Account) → i ≢ j → a.number ≡ i → b.number ≡ j → AreJoined capacity i j a b → AreOfOneMesh (place a) (place b)
of_one_mesh capacity i j a b other is_i is_j h =
    let f = h.sides.facing in record {
      different = (λ e. other (sym is_i ∙ (e ∙ is_j)));
      facing = record {
        here = f.here;
        there = f.there;
        is_here = ap (way (place a)) is_j ∙ (ap way_in (slice_get-way a.pairs j (Some h.near) h.is_near) ∙ f.is_here);
        is_there = ap (way (place b)) is_i ∙ (ap way_in (slice_get-way b.pairs i (Some h.far) h.is_far) ∙ f.is_there);
        arrives = f.arrives;
        returns = f.returns;
      };
    }

pub is_mesh : (capacity : ℕ) (es : List Account) → AllJoined capacity es → IsMesh (map place es)
is_mesh capacity es all = record {
  placed = (λ i p is.
      let o = slice_get-from_map place es i p is in let k = all.placed i o.0 o.1 in
      (ap (λ (w : Place). w.number) (sym o.2) ∙ k.0, ap (λ (w : Place). length w.ways) (sym o.2) ∙ (length-map o.0.pairs way_at ∙ (k.1 ∙ sym (length-map es place)))));
  joined = (λ i j p q other is_p is_q.
      let o = slice_get-from_map place es i p is_p in let u = slice_get-from_map place es j q is_q in
      let k : AreOfOneMesh (place o.0) (place u.0) = of_one_mesh capacity i j o.0 u.0 other (all.placed i o.0 o.1).0 (all.placed j u.0 u.1).0 (all.joined i j o.0 u.0 other o.1 u.1) in
      subst (λ w. AreOfOneMesh w q) o.2 (subst (λ w. AreOfOneMesh (place o.0) w) u.2 k));
}

-- the rings are new, or there are none and it is no peer
abbrev NewOrNone : ℕ → Account → ℕ → Type 0
NewOrNone capacity a q = ((l : RingPair) × (slice_get a.pairs q ≡ Some (Some l)) × IsNew capacity l) ⊎ ((pair a q ≡ None) × (IsPeer (place a) q → ⊥))

past : (xs : List (Option RingPair)) (q : ℕ) → length xs ≤ q → pair_in (slice_get xs q) ≡ None
past [] q h = refl
past (x ∷ xs) zero h = absurd (omega arith)
past (x ∷ xs) (suc q) h = past xs q (omega arith)

new_or_none : (capacity : ℕ) (es : List Account) → AllJoined capacity es → (i : ℕ) (a : Account) → slice_get es i ≡ Some a → (q : ℕ) → NewOrNone capacity a q
new_or_none capacity es all i a is q =
    let k = all.placed i a is in let as_many : length a.pairs ≡ length es = k.1 in
    elim (slice_get_cases es q).1 [
      | inl b ↦ elim (cases_eq q i) [
        | inl e ↦ inr (ap (λ n. pair_in (slice_get a.pairs n)) e ∙ ap pair_in k.2, (λ (p : IsPeer (place a) q). p.1 (e ∙ sym k.0)))
        | inr other ↦ let j : AreJoined capacity i q a b.0 = all.joined i q a b.0 (λ e. other (sym e)) is b.2 in inl (j.near, j.is_near, j.sides.near_new)
      ]
      | inr none ↦ let far : length es ≤ q = none.0 in inr (past a.pairs q (omega arith), (λ (p : IsPeer (place a) q). let low : q < size (place a) = p.0 in let all : size (place a) ≡ length a.pairs = length-map a.pairs way_at in omega arith))
    ]

unused : (capacity : ℕ) (es : List Account) → AllJoined capacity es → (i : ℕ) (a : Account) → slice_get es i ≡ Some a → IsUnused capacity a
unfolding pushed popped waiting free room
unused capacity es all i a is =
    let n = new_or_none capacity es all i a is in record {
      pushed = (λ q. elim (n q) [ inl l ↦ ap pushed_by (ap pair_in l.1) ∙ l.2.pushed | inr none ↦ ap pushed_by none.0 ]);
      popped = (λ q. elim (n q) [ inl l ↦ ap popped_by (ap pair_in l.1) ∙ l.2.popped | inr none ↦ ap popped_by none.0 ]);
      waiting = (λ q. elim (n q) [ inl l ↦ ap waiting_by (ap pair_in l.1) ∙ l.2.waiting | inr none ↦ ap waiting_by none.0 ]);
      free = (λ q p. elim (n q) [ inl l ↦ ap free_by (ap pair_in l.1) ∙ l.2.free | inr none ↦ absurd (none.1 p) ]);
      room = (λ q p. elim (n q) [ inl l ↦ ap (λ w. room_by (way_in w)) (slice_get-way a.pairs q (Some l.0) l.1) ∙ l.2.room | inr none ↦ absurd (none.1 p) ]);
    }

pub all_unused : (capacity : ℕ) (es : List Account) → AllJoined capacity es → All (IsUnused capacity) es
all_unused capacity es all = All-by_place (IsUnused capacity) es (unused capacity es all)
