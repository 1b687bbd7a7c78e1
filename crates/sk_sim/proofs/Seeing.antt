-- Two seats look at the rings between them.
use Rattle.std.proofs.Common.{◌≡◌, ◌≢◌, ℕ, ◌+◌, ◌<◌, false, List, ◌++◌, length, map, get_or, set, refl, sym, ◌∙◌, ap, subst, arith, Some, length-set, inl, inr}
use Rattle.std.specs.List.{slice_get}
use Rattle.std.specs.Option.{option_map}
use Rattle.std.proofs.lemmas.Option.{slice_get_read, slice_get-map, slice_get_within, same_Some}
use Rattle.std.proofs.lemmas.List.{map-set, map-append, length-map}
use Rattle.std.proofs.lemmas.Bool.{cases_eq}
use Rattle.sk_law.specs.Readings.{got, put}
use Rattle.sk_mesh.specs.Places.{Account, Place, place, size, AreOfOneMesh, IsMesh}
use Rattle.sk_mesh.specs.Ends.{pushed, popped, free, waiting, room, Looks, Knows}
use Rattle.sk_node.specs.declared.app.App as App
use Rattle.sk_sim.specs.declared.seat.Seat.{Seat}
use Rattle.sk_sim.specs.Cards.{Card, card_of, waits_at}
use Rattle.sk_sim.specs.Views.{View, view, views, cards, cards_in, places, NoneFailed}
use Rattle.sk_sim.specs.Sees.{Sees, SeesTo, LooksAt}
use Rattle.sk_sim.proofs.Lists.{get_back, slice_get-set_same, set_same, slice_get-from_map, slice_get-front}
use Rattle.sk_sim.proofs.Turning.{waits_is}

pub place_at : (cs : List Card) (i : ℕ) (c : Card) → slice_get cs i ≡ Some c → slice_get (places cs) i ≡ Some c.place
place_at cs i c h = slice_get-map (λ (t : Card). t.place) cs i ∙ ap (option_map (λ (t : Card). t.place)) h

pub card_in : {O : Type 0} (vs : List (View O)) (i : ℕ) (v : View O) → slice_get vs i ≡ Some v → slice_get (cards_in vs) i ≡ Some v.card
card_in {O} vs i v h = slice_get-map (λ (t : View O). t.card) vs i ∙ ap (option_map (λ (t : View O). t.card)) h

still_sees : (a b : Account) (p k : ℕ) (c : Card) → Looks a b p → k ≢ p → Sees a k c → Sees b k c
still_sees a b p k c l other h =
    let n : b.number ≡ a.number = ap (λ (w : Place). w.number) l.place in record {
      in_ring = ap (λ x. (x ++ waiting b k) ++ waits_at c b.number) (l.popped k) ∙ (ap (λ x. (popped a k ++ x) ++ waits_at c b.number) (l.waiting k other)
          ∙ (ap (λ r. (popped a k ++ waiting a k) ++ waits_at c r) n ∙ (h.in_ring ∙ ap (λ r. put c.past.journal r) (sym n))));
      slots = ap (λ x. x + length (pushed b k)) (l.free k other) ∙ (ap (λ x. free a k + length x) (l.pushed k)
          ∙ (h.slots ∙ (ap (λ w. room w k + length (got c.past.journal a.number)) (sym l.place) ∙ ap (λ r. room (place b) k + length (got c.past.journal r)) (sym n))));
    }

module _ {A : Type 0} {G : App.Ghosts A} where
  pub view_at : (ss : List (Seat A G)) (i : ℕ) (s : Seat A G) → slice_get ss i ≡ Some s → slice_get (views ss) i ≡ Some (view s)
  view_at ss i s h = slice_get-map (λ (t : Seat A G). view t) ss i ∙ ap (option_map (λ (t : Seat A G). view t)) h

  pub card_at : (ss : List (Seat A G)) (i : ℕ) (s : Seat A G) → slice_get ss i ≡ Some s → slice_get (cards ss) i ≡ Some (card_of s.wired)
  card_at ss i s h = card_in (views ss) i (view s) (view_at ss i s h)

  pub seat_at : (ss : List (Seat A G)) (i : ℕ) (c : Card) → slice_get (cards ss) i ≡ Some c → (s : Seat A G) × (slice_get ss i ≡ Some s) × (card_of s.wired ≡ c)
  seat_at ss i c h =
      let v = slice_get-from_map (λ (t : View G.Origin). t.card) (views ss) i c h in
      let s = slice_get-from_map (λ (t : Seat A G). view t) ss i v.0 v.1 in
      (s.0, s.1, ap (λ (t : View G.Origin). t.card) s.2 ∙ v.2)

  pub of_mesh : (ss : List (Seat A G)) (i : ℕ) (s : Seat A G) → IsMesh (places (cards ss)) → slice_get ss i ≡ Some s → (s.wired.ends.number ≡ i) × (size (place s.wired.ends) ≡ length ss)
  of_mesh ss i s m at =
      let p = m.placed i (place s.wired.ends) (place_at (cards ss) i (card_of s.wired) (card_at ss i s at)) in
      (p.0, p.1 ∙ (length-map (cards ss) (λ (t : Card). t.place) ∙ (length-map (views ss) (λ (t : View G.Origin). t.card) ∙ length-map ss (λ (t : Seat A G). view t))))

  pub of_one : (ss : List (Seat A G)) (i j : ℕ) (s t : Seat A G) → i ≢ j → IsMesh (places (cards ss)) → slice_get ss i ≡ Some s → slice_get ss j ≡ Some t → AreOfOneMesh (place s.wired.ends) (place t.wired.ends)
  of_one ss i j s t other m at_i at_j = m.joined i j (place s.wired.ends) (place t.wired.ends) other (place_at (cards ss) i (card_of s.wired) (card_at ss i s at_i)) (place_at (cards ss) j (card_of t.wired) (card_at ss j t at_j))

  -- what one knows of the other
  sees_of : (u v : Seat A G) (i j : ℕ) (c : Card) → v.wired.ends.number ≡ j → v.failed ≡ false → Knows u.wired.ends v.wired.ends → Knows v.wired.ends u.wired.ends → card_of v.wired ≡ c → Sees u.wired.ends j c
  sees_of u v i j c is_j fine uv vu same =
      let k = v.tied fine in let n = u.wired.ends.number in
      let order : popped u.wired.ends j ++ waiting u.wired.ends j ≡ pushed v.wired.ends n = subst (λ r. popped u.wired.ends r ++ waiting u.wired.ends r ≡ pushed v.wired.ends n) is_j vu.order in
      let slots : free u.wired.ends j + length (pushed u.wired.ends j) ≡ room (place u.wired.ends) j + length (popped v.wired.ends n) =
      subst (λ r. free u.wired.ends r + length (pushed u.wired.ends r) ≡ room (place u.wired.ends) r + length (popped v.wired.ends n)) is_j uv.slots in
      subst (λ (x : Card). Sees u.wired.ends j x) same (record {
        in_ring = ap (λ l. l ++ waits_at (card_of v.wired) n) order ∙ (ap (λ l. pushed v.wired.ends n ++ l) (waits_is v.wired k n) ∙ sym (k.put_is n));
        slots = slots ∙ ap (λ l. room (place u.wired.ends) j + length l) (sym (k.got_is n));
      })

-- the seats at i and at j, where the seats are cut at j
pub record Cut {A : Type 0} {G : App.Ghosts A} (ss front back : List (Seat A G)) (i j : ℕ) (s t : Seat A G) : Type 0 where
  pub whole : ss ≡ front ++ back
  pub at_cut : length front ≡ j
  pub order : i < j
  pub first : slice_get front i ≡ Some s
  pub second : slice_get back 0 ≡ Some t

-- both look
pub record Both {A : Type 0} {G : App.Ghosts A} (ss front back : List (Seat A G)) (i j : ℕ) (u v : Seat A G) : Type 0 where
  pub low : LooksAt i j ss (set front i u ++ set back 0 v)
  pub high : LooksAt j i ss (set front i u ++ set back 0 v)

module _ {A : Type 0} {G : App.Ghosts A} where
  pub cut : (ss front back : List (Seat A G)) (i j : ℕ) (s t : Seat A G) → ss ≡ front ++ back → length front ≡ j → i < j → s ≡ get_or front i s → t ≡ get_or back 0 t → 0 < length back → Cut ss front back i j s t
  cut ss front back i j s t whole at_cut order read_s read_t some = record {
    whole = whole;
    at_cut = at_cut;
    order = order;
    first = slice_get_read front (length front) i s refl (omega arith) read_s;
    second = slice_get_read back (length back) 0 t refl some read_t;
  }

  pub first_at : (ss front back : List (Seat A G)) (i j : ℕ) (s t : Seat A G) → Cut ss front back i j s t → slice_get ss i ≡ Some s
  first_at ss front back i j s t k = ap (λ l. slice_get l i) k.whole ∙ slice_get-front front back i s k.first

  pub second_at : (ss front back : List (Seat A G)) (i j : ℕ) (s t : Seat A G) → Cut ss front back i j s t → slice_get ss j ≡ Some t
  second_at ss front back i j s t k = ap (λ l. slice_get l j) k.whole ∙ get_back front back t j k.at_cut k.second

  pub between : (ss front back : List (Seat A G)) (i j : ℕ) (s t : Seat A G) → Cut ss front back i j s t → IsMesh (places (cards ss)) → AreOfOneMesh (place s.wired.ends) (place t.wired.ends)
  between ss front back i j s t k mesh =
      let o = k.order in of_one ss i j s t (λ e. absurd (omega arith)) mesh (first_at ss front back i j s t k) (second_at ss front back i j s t k)

  pub both : (ss front back : List (Seat A G)) (i j : ℕ) (s t u v : Seat A G) → Cut ss front back i j s t → IsMesh (places (cards ss)) → NoneFailed (views ss)
      → view u ≡ view s → view v ≡ view t → Looks s.wired.ends u.wired.ends t.wired.ends.number → Looks t.wired.ends v.wired.ends s.wired.ends.number
      → Knows u.wired.ends v.wired.ends → Knows v.wired.ends u.wired.ends → Both ss front back i j u v
  both ss front back i j s t u v k mesh fine same_u same_v look_u look_v uv vu =
      let f : Seat A G → View G.Origin = λ x. view x in
      let new = set front i u ++ set back 0 v in
      let at_i : slice_get ss i ≡ Some s = first_at ss front back i j s t k in
      let at_j : slice_get ss j ≡ Some t = second_at ss front back i j s t k in
      let low_i : i < length front = slice_get_within front i s k.first in
      let low_0 : 0 < length back = slice_get_within back 0 t k.second in
      let new_i : slice_get new i ≡ Some u = slice_get-front (set front i u) (set back 0 v) i u (slice_get-set_same front i u low_i) in
      let new_j : slice_get new j ≡ Some v = get_back (set front i u) (set back 0 v) v j (length-set front i u ∙ k.at_cut) (slice_get-set_same back 0 v low_0) in
      let c_i : slice_get (cards ss) i ≡ Some (card_of s.wired) = card_at ss i s at_i in
      let c_j : slice_get (cards ss) j ≡ Some (card_of t.wired) = card_at ss j t at_j in
      let card_u : card_of u.wired ≡ card_of s.wired = ap (λ (x : View G.Origin). x.card) same_u in
      let card_v : card_of v.wired ≡ card_of t.wired = ap (λ (x : View G.Origin). x.card) same_v in
      let n_i : s.wired.ends.number ≡ i = (of_mesh ss i s mesh at_i).0 in
      let n_j : t.wired.ends.number ≡ j = (of_mesh ss j t mesh at_j).0 in
      let m_i : u.wired.ends.number ≡ i = ap (λ (c : Card). c.place.number) card_u ∙ n_i in
      let m_j : v.wired.ends.number ≡ j = ap (λ (c : Card). c.place.number) card_v ∙ n_j in
      let f_i : u.failed ≡ false = ap (λ (x : View G.Origin). x.failed) same_u ∙ fine i (view s) (view_at ss i s at_i) in
      let f_j : v.failed ≡ false = ap (λ (x : View G.Origin). x.failed) same_v ∙ fine j (view t) (view_at ss j t at_j) in
      let front_same : map f (set front i u) ≡ map f front =
      map-set f front i u ∙ set_same (map f front) i (f u) (slice_get-map f front i ∙ (ap (option_map f) k.first ∙ ap Some (sym same_u))) in
      let back_same : map f (set back 0 v) ≡ map f back =
      map-set f back 0 v ∙ set_same (map f back) 0 (f v) (slice_get-map f back 0 ∙ (ap (option_map f) k.second ∙ ap Some (sym same_v))) in
      let same : views new ≡ views ss =
      map-append f (set front i u) (set back 0 v) ∙ (ap (λ l. l ++ map f (set back 0 v)) front_same ∙ (ap (λ l. map f front ++ l) back_same ∙ (sym (map-append f front back) ∙ ap (map f) (sym k.whole)))) in record {
        low = record {
          same = same;
          sees = (λ x c at_x at_c. let e : u ≡ x = same_Some u x (sym new_i ∙ at_x) in let g : card_of t.wired ≡ c = same_Some (card_of t.wired) c (sym c_j ∙ at_c) in
              subst (λ (y : Seat A G). Sees y.wired.ends j c) e (sees_of u v i j c m_j f_j uv vu (card_v ∙ g)));
          looks = (λ x y at_x at_y. let e : s ≡ x = same_Some s x (sym at_i ∙ at_x) in let g : u ≡ y = same_Some u y (sym new_i ∙ at_y) in
              subst (λ (z : Seat A G). Looks z.wired.ends y.wired.ends j) e (subst (λ (z : Seat A G). Looks s.wired.ends z.wired.ends j) g (subst (λ r. Looks s.wired.ends u.wired.ends r) n_j look_u)));
        };
        high = record {
          same = same;
          sees = (λ x c at_x at_c. let e : v ≡ x = same_Some v x (sym new_j ∙ at_x) in let g : card_of s.wired ≡ c = same_Some (card_of s.wired) c (sym c_i ∙ at_c) in
              subst (λ (y : Seat A G). Sees y.wired.ends i c) e (sees_of v u j i c m_i f_i vu uv (card_u ∙ g)));
          looks = (λ x y at_x at_y. let e : t ≡ x = same_Some t x (sym at_j ∙ at_x) in let g : v ≡ y = same_Some v y (sym new_j ∙ at_y) in
              subst (λ (z : Seat A G). Looks z.wired.ends y.wired.ends i) e (subst (λ (z : Seat A G). Looks t.wired.ends z.wired.ends i) g (subst (λ r. Looks t.wired.ends v.wired.ends r) n_i look_v)));
        };
      }

  pub sees_more : (i k : ℕ) (old new : List (Seat A G)) → LooksAt i k old new → SeesTo i k old → SeesTo i (k + 1) new
  sees_more i k old new l h = record {
    sees = (λ s q c low other at_s at_c.
        let same : cards new ≡ cards old = ap cards_in l.same in
        let c_old : slice_get (cards old) q ≡ Some c = ap (λ x. slice_get x q) (sym same) ∙ at_c in
        elim (cases_eq q k) [
          | inl e ↦ subst (λ r. Sees s.wired.ends r c) (sym e) (l.sees s c at_s (ap (λ r. slice_get (cards old) r) (sym e) ∙ c_old))
          | inr d ↦ let was = seat_at old i (card_of s.wired) (ap (λ x. slice_get x i) (sym same) ∙ card_at new i s at_s) in
              still_sees was.0.wired.ends s.wired.ends k q c (l.looks was.0 s was.1 at_s) d (h.sees was.0 q c (omega arith) other was.1 c_old)
        ]);
  }

  -- the own place is passed over
  pub sees_own : (i k : ℕ) (ss : List (Seat A G)) → i ≡ k → SeesTo i k ss → SeesTo i (k + 1) ss
  sees_own i k ss own h = record { sees = (λ s q c low other at_s at_c. h.sees s q c (omega arith) other at_s at_c) }

  pub sees_none : (i : ℕ) (ss : List (Seat A G)) → SeesTo i 0 ss
  sees_none i ss = record { sees = (λ s q c low other at_s at_c. absurd (omega arith)) }
