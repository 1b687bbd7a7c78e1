-- What waits is pushed.
use Rattle.std.specs.Prelude.{◌≡◌, ◌≢◌, refl, ℕ, zero, suc, ◌+◌, ◌<◌, ◌≤◌, Bool, true, false, ◌||◌, ◌==◌, List, [], ◌∷◌, ◌++◌, length, drop, Option, Some, None, slice_get, slice_index_or, slice_set, option_to_list}
use Rattle.std.proofs.Common.{ap, sym, ◌∙◌, subst, arith, inl, inr, ◌⊎◌, get_or-set_same, get_or-set_other, length-set}
use Rattle.std.proofs.lemmas.Bool.{cases_eq}
use Rattle.std.proofs.Math.ListN.{drop_of_length-le}
use Rattle.sk_msg.specs.declared.content.Content.{Content}
use Rattle.sk_law.specs.Past.{Past}
use Rattle.sk_law.specs.declared.setup.Setup.{Setup}
use Rattle.sk_law.specs.Links.{is_peer}
use Rattle.std.specs.List.{list_all}
use Rattle.sk_msg.specs.declared.state.State.TheVariants.{Error}
use Rattle.sk_msg.specs.Edges.{has_edge}
use Rattle.sk_law.specs.Readings.{state_of, got, put, gones}
use Rattle.sk_node.specs.Known.{Known}
use Rattle.sk_mesh.specs.Places.{Account, Place, place, size, IsPeer}
use Rattle.sk_mesh.specs.Ends.{pushed, free, room, OnlyPushes}
use Rattle.sk_sim.specs.declared.wired.Wired.{Wired}
use Rattle.sk_sim.specs.Wiring.{OnlyOut, IsTied, waits, waits_of, held_at, out_of}
use Rattle.sk_sim.specs.Cards.{card_of, pushed_total}
use Rattle.sk_sim.specs.Parts.{Pushes, PushesNext, PushesOne}
use Rattle.sk_sim.proofs.Counting.{sent_less, sent_more}

-- ## The next message

-- the first that waits
pub drop_first : {X : Type 0} (k : ℕ) (ms : List X) (m : X) → slice_get ms k ≡ Some m → drop k ms ≡ m ∷ drop (k + 1) ms
drop_first k ms m e = on k ms e ∙ ap (λ n. m ∷ drop n ms) (let one : suc k ≡ k + 1 = omega arith in one)
  where
    on : (i : ℕ) (xs : List _) → slice_get xs i ≡ Some m → drop i xs ≡ m ∷ drop (suc i) xs
    on zero (x ∷ xs) h = let same : x ≡ m = cc in ap (λ y. y ∷ xs) same
    on zero [] h = absurd (let no : None ≡ Some m = h in cc)
    on (suc i) (x ∷ xs) h = on i xs h
    on (suc i) [] h = absurd (let no : None ≡ Some m = h in cc)

pub only_none : (a : Known) (p : ℕ) → OnlyOut a a p
only_none a p = record { setup = refl; past = refl; poisoned = refl; count = refl; out = λ q other. refl }

pub only_both : {a b c : Known} {p : ℕ} → OnlyOut a b p → OnlyOut b c p → OnlyOut a c p
only_both h i = record {
  setup = i.setup ∙ h.setup;
  past = i.past ∙ h.past;
  poisoned = i.poisoned ∙ h.poisoned;
  count = i.count ∙ h.count;
  out = λ q other. i.out q other ∙ h.out q other;
}

-- the participant with this count of what was taken out
abbrev pub taken : Known → ℕ → Known
taken a p = record a { kept = record a.kept { out = slice_set a.kept.out p (slice_index_or a.kept.out p 0 + 1) } }

pub only_taken : (a b : Known) (p : ℕ) → p < length a.kept.out → b ≡ taken a p → OnlyOut a b p
only_taken a b p low e = subst (λ (x : Known). OnlyOut a x p) (sym e) (record {
  setup = refl;
  past = refl;
  poisoned = refl;
  count = length-set a.kept.out p (slice_index_or a.kept.out p 0 + 1);
  out = λ q other. get_or-set_other a.kept.out p q (slice_index_or a.kept.out p 0 + 1) 0 other;
})

pub next_taken : (a b : Known) (p : ℕ) (m : Content) → p < length a.kept.out → b ≡ taken a p →
    slice_get (put a.kept.past.journal p) (slice_index_or a.kept.out p 0) ≡ Some m → waits_of a.kept None p ≡ m ∷ waits_of b.kept None p
next_taken a b p m low e first = subst (λ (x : Known). waits_of a.kept None p ≡ m ∷ waits_of x.kept None p) (sym e)
    (drop_first (out_of a.kept p) (put a.kept.past.journal p) m first
    ∙ ap (λ n. m ∷ drop n (put a.kept.past.journal p)) (sym (get_or-set_same a.kept.out p (slice_index_or a.kept.out p 0 + 1) 0 low)))

pub next_none : (a : Known) (p : ℕ) → slice_index_or a.kept.out p 0 ≡ length (put a.kept.past.journal p) → waits_of a.kept None p ≡ []
next_none a p e = drop_of_length-le (put a.kept.past.journal p) (omega arith)

-- ## To one peer

pub ring_none : (a : Account) (p : ℕ) → OnlyPushes a a p
ring_none a p = record { place = refl; popped = λ q. refl; waiting = λ q. refl; pushed = λ q other. refl; free = λ q other. refl }

pub ring_both : {a b c : Account} {p : ℕ} → OnlyPushes a b p → OnlyPushes b c p → OnlyPushes a c p
ring_both h i = record {
  place = i.place ∙ h.place;
  popped = λ q. i.popped q ∙ h.popped q;
  waiting = λ q. i.waiting q ∙ h.waiting q;
  pushed = λ q other. i.pushed q other ∙ h.pushed q other;
  free = λ q other. i.free q other ∙ h.free q other;
}

-- ## To each

waits_still : {a b : Known} {p q : ℕ} (held : Option Content) → OnlyOut a b p → q ≢ p → waits_of b.kept held q ≡ waits_of a.kept held q
waits_still {a} {b} {p} {q} held h other =
    ap (λ (past : Past). option_to_list held ++ drop (out_of b.kept q) (put past.journal q)) h.past
    ∙ ap (λ n. option_to_list held ++ drop n (put a.kept.past.journal q)) (h.out q other)

pub pushes_none : (a : Wired) → Pushes false a a 0
pushes_none a = record {
  node = (refl, refl, refl);
  out = refl;
  held = refl;
  place = refl;
  popped = λ q. refl;
  waiting = λ q. refl;
  all = λ q. refl;
  more = λ q. omega arith;
  progress = λ e. absurd (cc);
  still = λ e q. refl;
  tried = λ e q low other. absurd (omega arith);
  done = λ q low other. absurd (omega arith);
  free_is = λ q far. refl;
  later = λ q far. refl;
}

below : (q p : ℕ) → q < p + 1 → (q < p) ⊎ (q ≡ p)
below q p h = elim (cases_eq q p) [ inl e ↦ inr e | inr d ↦ inl (omega arith) ]

or_true : (b c : Bool) → (b || c) ≡ true → (b ≡ true) ⊎ (c ≡ true)
or_true true c e = inl refl
or_true false c e = inr e

or_false : (b c : Bool) → (b || c) ≡ false → (b ≡ false) × (c ≡ false)
or_false true c e = absurd (let no : true ≡ false = e in cc)
or_false false c e = (refl, e)

-- the own number is passed over
pub next_own : (moved : Bool) (b : Wired) (p : ℕ) → p ≡ b.ends.number → PushesNext moved moved b b p
next_own moved b p at_own a h = record {
  node = h.node;
  out = h.out;
  held = h.held;
  place = h.place;
  popped = h.popped;
  waiting = h.waiting;
  all = h.all;
  more = h.more;
  progress = h.progress;
  still = h.still;
  tried = λ e q low other. elim (below q p low) [ inl l ↦ h.tried e q l other | inr s ↦ absurd (other (s ∙ (at_own ∙ ap (λ (w : Place). w.number) h.place))) ];
  done = λ q low other. elim (below q p low) [ inl l ↦ h.done q l other | inr s ↦ absurd (other (s ∙ (at_own ∙ ap (λ (w : Place). w.number) h.place))) ];
  free_is = λ q far. h.free_is q (omega arith);
  later = λ q far. h.later q (omega arith);
}

-- one peer more
pub next_one : (moved now : Bool) (b c : Wired) (p : ℕ) → PushesOne now b c p → p < size (place b.ends) → PushesNext moved (moved || now) b c p
next_one moved now b c p i small a h = go
  where
    low : p < size (place a.ends)
    low = subst (λ (w : Place). p < size w) h.place small

    longer_one : (q : ℕ) → length (pushed b.ends q) ≤ length (pushed c.ends q)
    longer_one q = elim (cases_eq q p) [
      | inl e ↦ subst (λ r. length (pushed b.ends r) ≤ length (pushed c.ends r)) (sym e) i.more
      | inr d ↦ let s : length (pushed c.ends q) ≡ length (pushed b.ends q) = ap length (i.ring.pushed q d) in omega arith
    ]

    longer_all : (q : ℕ) → length (pushed a.ends q) ≤ length (pushed c.ends q)
    longer_all q = let x = h.more q in let y = longer_one q in omega arith

    further : pushed_total (card_of b) ≤ pushed_total (card_of c)
    further = sent_more b c i.ring.place longer_one

    go : Pushes (moved || now) a c (p + 1)
    go = record {
      node = (i.node.setup ∙ h.node.0, i.node.past ∙ h.node.1, i.node.poisoned ∙ h.node.2);
      out = i.node.count ∙ h.out;
      held = i.held ∙ h.held;
      place = i.ring.place ∙ h.place;
      popped = λ q. i.ring.popped q ∙ h.popped q;
      waiting = λ q. i.ring.waiting q ∙ h.waiting q;
      all = λ q. elim (cases_eq q p) [
        | inl e ↦ subst (λ r. pushed c.ends r ++ waits c r ≡ pushed a.ends r ++ waits a r) (sym e) (i.all ∙ h.all p)
        | inr d ↦ ap (λ x. x ++ waits c q) (i.ring.pushed q d) ∙ (ap (λ x. pushed b.ends q ++ x) (i.others q d) ∙ h.all q)
      ];
      more = longer_all;
      progress = λ e. elim (or_true moved now e) [
        | inl first ↦ let x = h.progress first in let y = further in omega arith
        | inr then ↦ sent_less a c p (i.ring.place ∙ h.place) low longer_all (let x = i.progress then in let y = h.more p in omega arith)
      ];
      still = λ e q. let o = or_false moved now e in elim (cases_eq q p) [
        | inl s ↦ subst (λ r. pushed c.ends r ≡ pushed a.ends r) (sym s) ((i.still o.1).0 ∙ h.still o.0 p)
        | inr d ↦ i.ring.pushed q d ∙ h.still o.0 q
      ];
      tried = λ e q less other. let o = or_false moved now e in elim (below q p less) [
        | inl l ↦ h.tried o.0 q l other
        | inr s ↦ subst (λ r. (waits a r ≡ []) ⊎ (free a.ends r ≡ 0)) (sym s) (elim ((i.still o.1).1) [
          | inl w ↦ inl (sym (h.later p (omega arith)) ∙ w)
          | inr f ↦ inr (sym (h.free_is p (omega arith)) ∙ f)
        ])
      ];
      done = λ q less other. elim (below q p less) [
        | inl l ↦ elim (h.done q l other) [
          | inl none ↦ inl (i.others q (λ e. absurd (omega arith)) ∙ none)
          | inr full ↦ inr (i.ring.free q (λ e. absurd (omega arith)) ∙ full)
        ]
        | inr s ↦ subst (λ r. (waits c r ≡ []) ⊎ (free c.ends r ≡ 0)) (sym s) i.done
      ];
      free_is = λ q far. i.ring.free q (λ e. absurd (omega arith)) ∙ h.free_is q (omega arith);
      later = λ q far. i.others q (λ e. absurd (omega arith)) ∙ h.later q (omega arith);
    }

-- the message that was read
pub held_read : (held : List (Option Content)) (p : ℕ) (x : Option Content) → p < length held → x ≡ slice_index_or held p x → x ≡ held_at held p
held_read [] p x low e = absurd (omega arith)
held_read (y ∷ held) zero x low e = e
held_read (y ∷ held) (suc p) x low e = held_read held p x (omega arith) e

-- what was pushed to one
pub pushed_one : (moved : Bool) (a b : Wired) (p : ℕ) (x y : Option Content) → OnlyOut a.node b.node p → OnlyPushes a.ends b.ends p →
    p < length a.held.items → x ≡ held_at a.held.items p → b.held.items ≡ slice_set a.held.items p y →
    pushed b.ends p ++ waits_of b.node.kept y p ≡ pushed a.ends p ++ waits_of a.node.kept x p →
    length (pushed a.ends p) ≤ length (pushed b.ends p) →
    (moved ≡ true → length (pushed a.ends p) < length (pushed b.ends p)) →
    (moved ≡ false → (pushed b.ends p ≡ pushed a.ends p) × ((waits_of a.node.kept x p ≡ []) ⊎ (free a.ends p ≡ 0))) →
    ((waits_of b.node.kept y p ≡ []) ⊎ (free b.ends p ≡ 0)) →
    PushesOne moved a b p
pushed_one moved a b p x y only ring low read wrote all more progress still done = record {
  node = only;
  held = ap length wrote ∙ length-set a.held.items p y;
  ring = ring;
  all = ap (λ o. pushed b.ends p ++ waits_of b.node.kept o p) (ap (λ l. held_at l p) wrote ∙ get_or-set_same a.held.items p y None low)
      ∙ (all ∙ ap (λ o. pushed a.ends p ++ waits_of a.node.kept o p) read);
  others = λ q other.
      ap (λ o. waits_of b.node.kept o q) (ap (λ l. held_at l q) wrote ∙ get_or-set_other a.held.items p q y None other)
      ∙ waits_still (held_at a.held.items q) only other;
  more = more;
  progress = progress;
  done = elim done [
    | inl none ↦ inl (ap (λ o. waits_of b.node.kept o p) (ap (λ l. held_at l p) wrote ∙ get_or-set_same a.held.items p y None low) ∙ none)
    | inr full ↦ inr full
  ];
  still = λ e. ((still e).0, subst (λ o. (waits_of a.node.kept o p ≡ []) ⊎ (free a.ends p ≡ 0)) read (still e).1);
}

-- what ties the two together stays
pub one_tied : (moved : Bool) (a b : Wired) (p : ℕ) → PushesOne moved a b p → IsTied a → ((q : ℕ) → out_of b.node.kept q ≤ length (put b.node.kept.past.journal q)) → IsTied b
one_tied moved a b p h t low = record {
  sound = h.node.poisoned ∙ t.sound;
  own = ap (λ (w : Place). w.number) h.ring.place ∙ (t.own ∙ ap (λ (S : Setup). S.number) (sym h.node.setup));
  within = subst (λ (S : Setup). S.number < length S.names) (sym h.node.setup) t.within;
  ways = ap size h.ring.place ∙ (t.ways ∙ ap (λ (S : Setup). length S.names) (sym h.node.setup));
  least = subst (λ (w : Place). size w ≤ 32) (sym h.ring.place) t.least;
  out_is = h.node.count ∙ (t.out_is ∙ ap size (sym h.ring.place));
  held_is = h.held ∙ (t.held_is ∙ ap size (sym h.ring.place));
  alone = ap (λ (past : Past). past.memory.tools) h.node.past ∙ t.alone;
  got_is = λ q. ap (λ (past : Past). got past.journal q) h.node.past ∙ (t.got_is q ∙ sym (h.ring.popped q));
  silent = ap (λ (past : Past). got past.journal b.ends.number) h.node.past ∙ (ap (λ (w : Place). got a.node.kept.past.journal w.number) h.ring.place ∙ t.silent);
  put_is = λ q. ap (λ (past : Past). put past.journal q) h.node.past ∙ (t.put_is q ∙ sym (all q));
  taken = low;
  refused = λ q. ap (λ (past : Past). list_all (λ reason. reason == 8) (gones past.journal q)) h.node.past ∙ t.refused q;
  unlost = λ q other. ap (λ (past : Past). gones past.journal q) h.node.past ∙ t.unlost q (ap (λ (S : Setup). is_peer S q) (sym h.node.setup) ∙ other);
  services = subst (λ (S : Setup). length S.services ≤ 64) (sym h.node.setup) t.services;
  short = subst (λ (past : Past). has_edge (state_of past.journal) Error ≡ true → length past.journal < 500000) (sym h.node.past) t.short;
  roomy = subst (λ (w : Place). (q : ℕ) → IsPeer w q → 0 < room w q) (sym h.ring.place) t.roomy;
}
  where
    all : (q : ℕ) → pushed b.ends q ++ waits b q ≡ pushed a.ends q ++ waits a q
    all q = elim (cases_eq q p) [
      | inl e ↦ subst (λ r. pushed b.ends r ++ waits b r ≡ pushed a.ends r ++ waits a r) (sym e) h.all
      | inr d ↦ ap (λ x. x ++ waits b q) (h.ring.pushed q d) ∙ ap (λ x. pushed a.ends q ++ x) (h.others q d)
    ]
