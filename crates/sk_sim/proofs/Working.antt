-- What a turn leaves to do, and what a round does.
use Rattle.std.specs.Prelude.{◌≡◌, ◌≢◌, refl, ℕ, ◌+◌, ◌<◌, ◌≤◌, false, List, ◌++◌, length, Some, slice_get}
use Rattle.std.specs.List.{sum_by}
use Rattle.std.proofs.Common.{get_or, set, ap, sym, ◌∙◌, subst, arith, inl, inr, ◌⊎◌, append-nil, length-append, length-set}
use Rattle.std.proofs.lemmas.Bool.{cases_eq}
use Rattle.std.proofs.lemmas.Option.{slice_get_within, slice_get-get_or, slice_get_read, same_Some}
use Rattle.std.proofs.lemmas.List.{map-set, length-map}
use Rattle.std.proofs.lemmas.List.Sums.{sum_by-set}
use Rattle.sk_law.specs.Readings.{got, put}
use Rattle.sk_mesh.specs.Places.{Place, place, size, IsPeer, IsMesh}
use Rattle.sk_mesh.specs.Ends.{pushed, popped, free, waiting, room}
use Rattle.sk_node.specs.Lists.{Lists}
use Rattle.sk_node.specs.declared.app.App as App
use Rattle.sk_node.specs.declared.rows.Turned.{Turned}
use Rattle.sk_node.specs.declared.rows.Turned.TheVariants.{Entries, Counted, Quiet, Finished}
use Rattle.sk_sim.specs.declared.wired.Wired.{Wired}
use Rattle.sk_sim.specs.declared.seat.Seat.{Seat}
use Rattle.sk_sim.specs.declared.rounds.Together.{Together}
use Rattle.sk_sim.specs.declared.rounds.Together.TheVariants.{Moved, Still, Done}
use Rattle.sk_sim.specs.Wiring.{IsTied, IsBounded, waits}
use Rattle.sk_sim.specs.Cards.{Card, card_of, count_at, waits_at, pushed_total, got_total, IsFinished}
use Rattle.sk_sim.specs.Parts.{Goes}
use Rattle.sk_sim.specs.Answers.{Turns, Moves, MovesNone, Rests}
use Rattle.sk_sim.specs.Views.{View, view, views, cards, cards_in, places, NoneFailed}
use Rattle.sk_sim.specs.Sees.{Sees, SeesTo}
use Rattle.sk_sim.specs.Work.{rank, work}
use Rattle.sk_sim.specs.Rounds.{StoodStill, Round, together, AllStill, AllFinished, WentOn, AllWentOn}
use Rattle.sk_sim.proofs.Lists.{set_same, slice_get-set_same, slice_get-set_other, slice_get-some}
use Rattle.sk_sim.proofs.Counting.{count_is, total_most}
use Rattle.sk_sim.proofs.Going.{goes_none, goes_both}
use Rattle.sk_sim.proofs.Incoming.{heard_more}
use Rattle.sk_sim.proofs.Turning.{waits_is, sent_of}
use Rattle.sk_sim.proofs.Seeing.{card_at, view_at, place_at, seat_at, of_mesh}

-- ## The bounds

-- so many were pushed at most
pub sent_most : (a : Wired) → IsTied a → IsBounded a.node.kept → pushed_total (card_of a) ≤ 179200000
sent_most a t bounded =
    let m = total_most (λ q. count_at (card_of a) q) (size (place a.ends)) 5600000
    (λ q low.
    let c = count_is a.ends q in
    let e : length (put a.node.kept.past.journal q) ≡ length (pushed a.ends q) + length (waits a q) = ap length (t.put_is q) ∙ length-append (pushed a.ends q) (waits a q) in
    let w = t.ways in let f = bounded.few q (omega arith) in omega arith) in
    let l = t.least in omega arith

-- what is left falls with each thing that is done
pub rank_less : (a b : Card) (was now : Lists) → Goes a b was now → Moves a b → pushed_total b ≤ 179200000 → got_total a ≤ 179200000 → rank b < rank a
rank_less a b was now g moves most low =
    let l = g.lower in let s = sent_of a b was now g in let h = heard_more a b was now g in
    elim moves [
      | inl less ↦ omega arith
      | inr more ↦ elim more [ inl less ↦ omega arith | inr less ↦ omega arith ]
    ]

-- one card in place of another
work_set : (cs : List Card) (i : ℕ) (c d : Card) → slice_get cs i ≡ Some c → work (set cs i d) + rank c ≡ work cs + rank d
unfolding work
work_set cs i c d at =
    let low = slice_get_within cs i c at in
    let e : get_or cs i c ≡ c = same_Some (get_or cs i c) c (sym (slice_get-get_or cs i c low) ∙ at) in
    ap (λ (z : Card). sum_by rank (set cs i d) + rank z) (sym e) ∙ sum_by-set rank cs i d c low

-- ## A round

-- what a seat's turn says of the cards
abbrev pub Act : Turned → List Card → ℕ → Card → Card → Type 0
Act (Entries n) cs i c d = rank d < rank c
Act Counted cs i c d = rank d < rank c
Act Quiet cs i c d = (d ≡ c) × StoodStill cs i c × (IsFinished c → ⊥)
Act Finished cs i c d = (d ≡ c) × StoodStill cs i c × IsFinished c

pub round_none : (a : List Card) → Round Done a a 0
round_none a = record {
  less = omega arith;
  moved = (λ h. absurd (cc));
  still = (λ h. (refl, λ k c low at. absurd (omega arith)));
  unfinished = (λ h. absurd (cc));
  done = (λ h k c low at. absurd (omega arith));
}

-- a seat did something
round_moved : (t : Together) (a b : List Card) (i : ℕ) (c d : Card) → Round t a b i → slice_get b i ≡ Some c → rank d < rank c → Round Moved a (set b i d) (i + 1)
round_moved t a b i c d h at less =
    let w = work_set b i c d at in let l = h.less in record {
      less = omega arith;
      moved = (λ e. omega arith);
      still = (λ e. absurd (e refl));
      unfinished = (λ e. absurd (cc));
      done = (λ e. absurd (cc));
    }

-- a seat did nothing, beside others that did
round_pass : (a b : List Card) (i : ℕ) (c d : Card) → Round Moved a b i → slice_get b i ≡ Some c → d ≡ c → Round Moved a (set b i d) (i + 1)
round_pass a b i c d h at same =
    let e : set b i d ≡ b = set_same b i d (at ∙ ap Some (sym same)) in
    let l : work (set b i d) ≡ work b = ap work e in record {
      less = (let f = h.less in omega arith);
      moved = (λ g. let f = h.moved refl in omega arith);
      still = (λ g. absurd (g refl));
      unfinished = (λ g. absurd (cc));
      done = (λ g. absurd (cc));
    }

-- none did anything yet
round_still : (t u : Together) (a b : List Card) (i : ℕ) (c d : Card) → Round t a b i → t ≢ Moved → u ≢ Moved → (u ≡ Done → (t ≡ Done) × IsFinished c) → (u ≡ Still → (t ≡ Still) ⊎ (IsFinished c → ⊥)) → slice_get b i ≡ Some c → d ≡ c → StoodStill b i c → Round u a (set b i d) (i + 1)
round_still t u a b i c d h not_moved u_not all some at same stood =
    let e : set b i d ≡ b = set_same b i d (at ∙ ap Some (sym same)) in
    let s = h.still not_moved in
    let at_a : slice_get a i ≡ Some c = ap (λ l. slice_get l i) (sym s.0) ∙ at in
    let st : StoodStill a i c = subst (λ l. StoodStill l i c) s.0 stood in
    let l : work (set b i d) ≡ work b = ap work e in record {
      less = (let f = h.less in omega arith);
      moved = (λ g. absurd (u_not g));
      still = (λ g. (
        e ∙ s.0,
        λ k x low at_k. elim (cases_eq k i) [
          | inl f ↦ subst (λ r. StoodStill a r x) (sym f) (subst (λ y. StoodStill a i y) (same_Some c x (sym at_a ∙ (ap (λ r. slice_get a r) (sym f) ∙ at_k))) st)
          | inr o ↦ s.1 k x (omega arith) at_k
        ],
      ));
      unfinished = (λ g all_done. elim (some g) [ inl f ↦ h.unfinished f all_done | inr n ↦ n (all_done i c at_a) ]);
      done = (λ g k x low at_k. elim (cases_eq k i) [
        | inl f ↦ subst (λ y. IsFinished y) (same_Some c x (sym at_a ∙ (ap (λ r. slice_get a r) (sym f) ∙ at_k))) (all g).1
        | inr o ↦ h.done (all g).0 k x (omega arith) at_k
      ]);
    }

round_next : (r : Turned) (t : Together) (a b : List Card) (i : ℕ) (c d : Card) → Round t a b i → slice_get b i ≡ Some c → Act r b i c d → Round (together r t) a (set b i d) (i + 1)
round_next (Entries n) t a b i c d h at x = round_moved t a b i c d h at x
round_next Counted t a b i c d h at x = round_moved t a b i c d h at x
round_next Quiet Moved a b i c d h at x = round_pass a b i c d h at x.0
round_next Quiet Still a b i c d h at x = round_still Still Still a b i c d h (λ e. (cc)) (λ e. (cc)) (λ e. absurd (cc)) (λ e. inl refl) at x.0 x.1
round_next Quiet Done a b i c d h at x = round_still Done Still a b i c d h (λ e. (cc)) (λ e. (cc)) (λ e. absurd (cc)) (λ e. inr x.2) at x.0 x.1
round_next Finished Moved a b i c d h at x = round_pass a b i c d h at x.0
round_next Finished Still a b i c d h at x = round_still Still Still a b i c d h (λ e. (cc)) (λ e. (cc)) (λ e. absurd (cc)) (λ e. inl refl) at x.0 x.1
round_next Finished Done a b i c d h at x = round_still Done Done a b i c d h (λ e. (cc)) (λ e. (cc)) (λ e. (refl, x.2)) (λ e. absurd (cc)) at x.0 x.1

-- what a round without a move leaves
pub round_end : (t : Together) (a b : List Card) (n : ℕ) → t ≢ Moved → length a ≤ n → Round t a b n → AllStill b
round_end t a b n quiet all h =
    let s = h.still quiet in
    subst (λ l. AllStill l) (sym s.0) (λ k c at. s.1 k c (let low = slice_get_within a k c at in omega arith) at)

pub round_done : (a b : List Card) (n : ℕ) → length a ≤ n → Round Done a b n → AllFinished b
round_done a b n all h =
    let s = h.still (λ e. (cc)) in
    subst (λ l. AllFinished l) (sym s.0) (λ k c at. h.done refl k c (let low = slice_get_within a k c at in omega arith) at)

pub round_unfinished : (a b : List Card) (n : ℕ) → Round Still a b n → AllFinished b → ⊥
round_unfinished a b n h all = h.unfinished refl (let s = h.still (λ e. (cc)) in subst (λ l. AllFinished l) s.0 all)

-- ## Going on

pub went_none : {O : Type 0} (vs : List (View O)) → AllWentOn vs vs
went_none {O} vs = record {
  count = refl;
  each = λ i v w at_v at_w. subst (λ (x : View O). WentOn v x) (same_Some v w (sym at_v ∙ at_w)) (record { goes = goes_none v.card v.lists; origin = refl });
}

pub went_same : {O : Type 0} (vs ws xs : List (View O)) → xs ≡ ws → AllWentOn vs ws → AllWentOn vs xs
went_same {O} vs ws xs e h = subst (λ l. AllWentOn vs l) (sym e) h

-- and then further
pub went_both : {O : Type 0} (vs ws xs : List (View O)) → AllWentOn vs ws → AllWentOn ws xs → AllWentOn vs xs
went_both {O} vs ws xs h k = record {
  count = k.count ∙ h.count;
  each = λ i v x at_v at_x.
      let low : i < length ws = (let l = slice_get_within xs i x at_x in let c = k.count in omega arith) in
      let w = slice_get-some ws i low in
      let first = h.each i v w.0 at_v w.1 in let then = k.each i w.0 x w.1 at_x in
      record { goes = goes_both v.card w.0.card x.card v.lists w.0.lists x.lists first.goes then.goes; origin = then.origin ∙ first.origin };
}

-- one more turn was taken
went_set : {O : Type 0} (vs ws : List (View O)) (i : ℕ) (w x : View O) → AllWentOn vs ws → slice_get ws i ≡ Some w → WentOn w x → AllWentOn vs (set ws i x)
went_set {O} vs ws i w x h at on = record {
  count = length-set ws i x ∙ h.count;
  each = λ k v y at_v at_y. elim (cases_eq k i) [
    | inl e ↦
        let here : x ≡ y = same_Some x y (sym (slice_get-set_same ws i x (slice_get_within ws i w at)) ∙ (ap (λ r. slice_get (set ws i x) r) (sym e) ∙ at_y)) in
        let first = h.each i v w (ap (λ r. slice_get vs r) (sym e) ∙ at_v) at in
        subst (λ (z : View O). WentOn v z) here (record { goes = goes_both v.card w.card x.card v.lists w.lists x.lists first.goes on.goes; origin = on.origin ∙ first.origin })
    | inr d ↦ h.each k v y at_v (sym (slice_get-set_other ws i k x d) ∙ at_y)
  ];
}

fine_set : {O : Type 0} (vs : List (View O)) (i : ℕ) (x : View O) → NoneFailed vs → x.failed ≡ false → NoneFailed (set vs i x)
fine_set {O} vs i x h fine k v at = elim (cases_eq k i) [
  | inl e ↦ elim (within (set vs i x) k v at) [
    | inl low ↦
        let here : x ≡ v = same_Some x v (sym (slice_get-set_same vs i x (let s : length (set vs i x) ≡ length vs = length-set vs i x in omega arith)) ∙ (ap (λ r. slice_get (set vs i x) r) (sym e) ∙ at)) in
        ap (λ (z : View O). z.failed) (sym here) ∙ fine
    | inr none ↦ absurd none
  ]
  | inr d ↦ h k v (sym (slice_get-set_other vs i k x d) ∙ at)
]
  where
    within : (xs : List (View O)) (n : ℕ) (y : View O) → slice_get xs n ≡ Some y → (n < length xs) ⊎ ⊥
    within xs n y e = inl (slice_get_within xs n y e)

-- ## A turn in a round

-- the seats behind the turn of one
pub record Took {A : Type 0} {G : App.Ghosts A} (ps : List Place) (start : List (View G.Origin)) (so_far : Together) (did : Turned) (i : ℕ) (after : List (Seat A G)) : Type 0 where
  pub same : places (cards after) ≡ ps
  pub sound : NoneFailed (views after)
  pub went : AllWentOn start (views after)
  pub round : Round (together did so_far) (cards_in start) (cards after) (i + 1)

module _ {A : Type 0} {G : App.Ghosts A} where
  -- what was got of each other one was put by it, and it puts but so many
  heard_most : (ss : List (Seat A G)) (i : ℕ) (s : Seat A G) → IsMesh (places (cards ss)) → NoneFailed (views ss) → SeesTo i (length ss) ss → slice_get ss i ≡ Some s → got_total (card_of s.wired) ≤ 179200000
  heard_most ss i s mesh fine h at =
      let t = s.tied (fine i (view s) (view_at ss i s at)) in
      let m = of_mesh ss i s mesh at in
      let all = total_most (λ p. length (got s.wired.node.kept.past.journal p)) (size (place s.wired.ends)) 5600000 (λ p low. one p low) in
      let l = t.least in omega arith
    where
      t : IsTied s.wired
      t = s.tied (fine i (view s) (view_at ss i s at))

      one : (p : ℕ) → p < size (place s.wired.ends) → length (got s.wired.node.kept.past.journal p) ≤ 5600000
      one p low =
          let m = of_mesh ss i s mesh at in
          elim (cases_eq p i) [
            | inl e ↦ let a : length (got s.wired.node.kept.past.journal p) ≡ 0 = ap (λ r. length (got s.wired.node.kept.past.journal r)) (e ∙ sym m.0) ∙ ap length t.silent in omega arith
            | inr d ↦ let o = slice_get-some ss p (omega arith) in
                let u = o.0.tied (fine p (view o.0) (view_at ss p o.0 o.1)) in
                let v = h.sees s p (card_of o.0.wired) (omega arith) d at (card_at ss p o.0 o.1) in
                let e = ap length v.in_ring in
                let a = length-append (popped s.wired.ends p ++ waiting s.wired.ends p) (waits_at (card_of o.0.wired) s.wired.ends.number) in
                let b = length-append (popped s.wired.ends p) (waiting s.wired.ends p) in
                let g : length (got s.wired.node.kept.past.journal p) ≡ length (popped s.wired.ends p) = ap length (t.got_is p) in
                let w = u.ways in let n = (of_mesh ss p o.0 mesh o.1).1 in let l = slice_get_within ss i s at in
                let q = (o.0.bounded (fine p (view o.0) (view_at ss p o.0 o.1))).few s.wired.ends.number (let x = m.0 in omega arith) in omega arith
          ]

  -- a seat that used up what it knew, and did nothing
  stood_still : (ss : List (Seat A G)) (i : ℕ) (s t : Seat A G) (was now : Lists) → IsMesh (places (cards ss)) → IsTied s.wired → SeesTo i (length ss) ss → slice_get ss i ≡ Some s
      → Rests (card_of s.wired) (card_of t.wired) was now → MovesNone s.wired t.wired → StoodStill (cards ss) i (card_of s.wired)
  stood_still ss i s t was now mesh k h at rest used = record {
    quiet = rest.quiet;
    linked = λ q d other at_q. let v = sees q d other at_q in record {
      ring = waiting s.wired.ends q;
      is = ap (λ l. (l ++ waiting s.wired.ends q) ++ waits_at d i) (k.got_is q)
          ∙ (ap (λ r. (popped s.wired.ends q ++ waiting s.wired.ends q) ++ waits_at d r) (sym m.0) ∙ (v.in_ring ∙ ap (λ r. put d.past.journal r) m.0));
    };
    drained = λ q d other at_q linked. let v = sees q d other at_q in
        ap (λ l. l ++ waits_at d i) (k.got_is q)
        ∙ (ap (λ l. l ++ waits_at d i) (sym (append-nil (popped s.wired.ends q)) ∙ ap (λ l. popped s.wired.ends q ++ l) (sym (used.before.drained q (peer q d other at_q) linked)))
        ∙ (ap (λ r. (popped s.wired.ends q ++ waiting s.wired.ends q) ++ waits_at d r) (sym m.0)
        ∙ (v.in_ring ∙ ap (λ r. put d.past.journal r) m.0)));
    blocked = λ q d other at_q. elim (used.before.blocked q (peer q d other at_q)) [
      | inl none ↦ inl none
      | inr full ↦ inr (λ e.
          let v = sees q d other at_q in
          let r : 0 < room (place s.wired.ends) q = k.roomy q (peer q d other at_q) in
          let p : length (put s.wired.node.kept.past.journal q) ≡ length (pushed s.wired.ends q) + length (waits s.wired q) = ap length (k.put_is q) ∙ length-append (pushed s.wired.ends q) (waits s.wired q) in
          let w : length (waits_at (card_of s.wired) q) ≡ length (waits s.wired q) = ap length (waits_is s.wired k q) in
          let g : length (put s.wired.node.kept.past.journal q) ≡ length (got d.past.journal i) + length (waits_at (card_of s.wired) q) = ap length e ∙ length-append (got d.past.journal i) (waits_at (card_of s.wired) q) in
          let z : free s.wired.ends q + length (pushed s.wired.ends q) ≡ room (place s.wired.ends) q + length (got d.past.journal i) = v.slots ∙ ap (λ x. room (place s.wired.ends) q + length (got d.past.journal x)) m.0 in
          omega arith)
    ];
  }
    where
      m : (s.wired.ends.number ≡ i) × (size (place s.wired.ends) ≡ length ss)
      m = of_mesh ss i s mesh at

      low_at : (q : ℕ) (d : Card) → slice_get (cards ss) q ≡ Some d → q < length ss
      low_at q d at_q = let x = seat_at ss q d at_q in slice_get_within ss q x.0 x.1

      peer : (q : ℕ) (d : Card) → q ≢ i → slice_get (cards ss) q ≡ Some d → IsPeer (place s.wired.ends) q
      peer q d other at_q = (let low = low_at q d at_q in let n = m.1 in omega arith, λ e. other (e ∙ m.0))

      sees : (q : ℕ) (d : Card) → q ≢ i → slice_get (cards ss) q ≡ Some d → Sees s.wired.ends q d
      sees q d other at_q = h.sees s q d (low_at q d at_q) other at at_q

  act : (r : Turned) (ss : List (Seat A G)) (i : ℕ) (s t : Seat A G) (was now : Lists) → IsMesh (places (cards ss)) → NoneFailed (views ss) → IsTied s.wired → IsBounded t.wired.node.kept → SeesTo i (length ss) ss
      → slice_get ss i ≡ Some s → Turns r s.wired t.wired was now → Act r (cards ss) i (card_of s.wired) (card_of t.wired)
  act (Entries n) ss i s t was now mesh fine k b h at turned = rank_less (card_of s.wired) (card_of t.wired) was now turned.goes turned.says.less (sent_most t.wired turned.tied b) (heard_most ss i s mesh fine h at)
  act Counted ss i s t was now mesh fine k b h at turned = rank_less (card_of s.wired) (card_of t.wired) was now turned.goes (inl turned.says.1.less) (sent_most t.wired turned.tied b) (heard_most ss i s mesh fine h at)
  act Quiet ss i s t was now mesh fine k b h at turned = (turned.says.1.same, stood_still ss i s t was now mesh k h at turned.says.1 turned.says.0, turned.says.2)
  act Finished ss i s t was now mesh fine k b h at turned = (turned.says.1.same, stood_still ss i s t was now mesh k h at turned.says.1 turned.says.0, turned.says.2)

  pub took : (ps : List Place) (start : List (View G.Origin)) (b : List (View G.Origin)) (so_far : Together) (did : Turned) (n i : ℕ) (ss : List (Seat A G)) (s t : Seat A G)
      → IsMesh ps → places (cards_in b) ≡ ps → NoneFailed b → AllWentOn start b → Round so_far (cards_in start) (cards_in b) i
      → views ss ≡ b → SeesTo i n ss → n ≡ length ss → i < length ss → s ≡ get_or ss i s → s.failed ≡ false → t.failed ≡ false
      → Turns did s.wired t.wired (G.lists s.app) (G.lists t.app) → G.origin t.app ≡ G.origin s.app → Took ps start so_far did i (set ss i t)
  took ps start b so_far did n i ss s t mesh same fine went round views_b sees all low read fine_s fine_t turned origin =
      let f : Seat A G → View G.Origin = λ x. view x in
      let at : slice_get ss i ≡ Some s = slice_get_read ss (length ss) i s refl low read in
      let cards_b : cards ss ≡ cards_in b = ap cards_in views_b in
      let m : IsMesh (places (cards ss)) = subst (λ x. IsMesh x) (sym (ap places cards_b ∙ same)) mesh in
      let e : NoneFailed (views ss) = subst (λ x. NoneFailed x) (sym views_b) fine in
      let v : SeesTo i (length ss) ss = subst (λ x. SeesTo i x ss) all sees in
      let r : Round so_far (cards_in start) (cards ss) i = subst (λ x. Round so_far (cards_in start) x i) (sym cards_b) round in
      let w : AllWentOn start (views ss) = subst (λ x. AllWentOn start x) (sym views_b) went in
      let vs : views (set ss i t) ≡ set (views ss) i (view t) = map-set f ss i t in
      let c : cards (set ss i t) ≡ set (cards ss) i (card_of t.wired) = ap cards_in vs ∙ map-set (λ (x : View G.Origin). x.card) (views ss) i (view t) in
      let p : places (set (cards ss) i (card_of t.wired)) ≡ places (cards ss) =
      map-set (λ (x : Card). x.place) (cards ss) i (card_of t.wired) ∙ set_same (places (cards ss)) i (place t.wired.ends) (place_at (cards ss) i (card_of s.wired) (card_at ss i s at) ∙ ap Some (sym turned.goes.place)) in record {
        same = ap places c ∙ (p ∙ (ap places cards_b ∙ same));
        sound = subst (λ x. NoneFailed x) (sym vs) (fine_set (views ss) i (view t) e fine_t);
        went = subst (λ x. AllWentOn start x) (sym vs) (went_set start (views ss) i (view s) (view t) w (view_at ss i s at) (record { goes = turned.goes; origin = origin }));
        round = subst (λ x. Round (together did so_far) (cards_in start) x (i + 1)) (sym c)
            (round_next did so_far (cards_in start) (cards ss) i (card_of s.wired) (card_of t.wired) r (card_at ss i s at) (act did ss i s t (G.lists s.app) (G.lists t.app) m e (s.tied fine_s) (t.bounded fine_t) v at turned));
      }

  pub all_cards : (ss : List (Seat A G)) (n : ℕ) → length ss ≤ n → length (cards ss) ≤ n
  all_cards ss n h = let e : length (cards ss) ≡ length ss = length-map (views ss) (λ (v : View G.Origin). v.card) ∙ length-map ss (λ (s : Seat A G). view s) in omega arith
