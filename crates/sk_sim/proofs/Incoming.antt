-- Messages are taken from the rings.
use Rattle.std.specs.Prelude.{◌≡◌, ◌≢◌, refl, ℕ, ◌+◌, ◌<◌, ◌≤◌, Bool, true, false, ◌||◌, ◌&&◌, ◌==◌, not, List, [], ◌∷◌, ◌++◌, length, drop, option_to_list, slice_index_or, if◌then◌else◌}
use Rattle.std.specs.List.{list_all}
use Rattle.std.proofs.Common.{ap, sym, ◌∙◌, subst, arith, inl, inr, ◌⊎◌, append-nil, append_assoc, length-append}
use Rattle.std.proofs.lemmas.Bool.{cases_eq, lt-ltb, ne_eqb}
use Rattle.std.proofs.lemmas.List.{drop-append-le}
use Rattle.std.proofs.lemmas.List.Elements.{filter_map-append}
use Rattle.std.proofs.lemmas.List.Folds.{list_all-append}
use mathlib.Core.List.{IsPrefix}
use Rattle.sk_msg.specs.declared.content.Content.{Content}
use Rattle.sk_msg.specs.declared.entry.Entry.{Entry}
use Rattle.sk_law.specs.declared.setup.Setup.{Setup}
use Rattle.sk_law.specs.Past.{Past}
use Rattle.sk_law.specs.Kept.{Kept}
use Rattle.sk_law.specs.Links.{is_peer, is_open, comes_in_order}
use Rattle.sk_law.specs.Readings.{got, put, put_to, got_from, gones}
use Rattle.sk_node.specs.Known.{Known, Serves, Keeps, IsSound}
use Rattle.sk_node.specs.Takes.{Takes as TakesOne}
use Rattle.sk_node.specs.Went.{Went}
use Rattle.sk_node.specs.Lists.{Lists}
use Rattle.sk_node.specs.Peers.{Hears}
use Rattle.sk_mesh.specs.Places.{Account, Place, place, size, IsPeer}
use Rattle.sk_mesh.specs.Ends.{pushed, popped, waiting, room, OnlyPops}
use Rattle.sk_sim.specs.declared.wired.Wired.{Wired}
use Rattle.sk_sim.specs.Wiring.{IsTied, waits, held_at, out_of}
use Rattle.sk_sim.specs.Cards.{Card, card_of, got_total, total, count_at}
use Rattle.sk_sim.specs.Parts.{Goes, IsUntouched, PutsFew, Takes, TakesAll, TakesNext, TakesFrom, IsSameFrom}
use Rattle.sk_sim.proofs.Counting.{total_less, total_more, counts_same}
use Rattle.sk_law.specs.Blocks.{get, judge_limits}
use Rattle.sk_law.specs.Bounded.{PutsBounded}
use Rattle.sk_sim.proofs.Calls.{puts_none, puts_more, puts_both, puts_one}
use Rattle.sk_sim.proofs.Untouched.{taken_untouched}
use Rattle.sk_sim.proofs.Going.{goes_none, goes_both}

-- ## Journals that grow

pub put_grows : (es fs : List Entry) (q : ℕ) → IsPrefix es fs → IsPrefix (put es q) (put fs q)
put_grows es fs q h = (put h.0 q, sym (filter_map-append (put_to q) es h.0) ∙ ap (λ l. put l q) h.1)

pub got_grows : (es fs : List Entry) (p : ℕ) → IsPrefix es fs → length (got es p) ≤ length (got fs p)
got_grows es fs p h =
    let e : length (got fs p) ≡ length (got es p) + length (got h.0 p) = ap (λ l. length (got l p)) (sym h.1) ∙ (ap length (filter_map-append (got_from p) es h.0) ∙ length-append (got es p) (got h.0 p)) in
    omega arith

no_more : (n k : ℕ) → n ≡ n + k → k ≡ 0
no_more n k e = omega arith

none_of : {X : Type 0} (xs : List X) → length xs ≡ 0 → xs ≡ []
none_of [] e = refl
none_of (x ∷ xs) e = absurd (omega arith)

-- ## What ties the two together, behind a call of the participant

-- what was kept, with another past
pub record SamePart (a b : Known) : Type 0 where
  pub setup : b.kept.setup ≡ a.kept.setup
  pub out : b.kept.out ≡ a.kept.out
  pub grows : IsPrefix a.kept.past.journal b.kept.past.journal
  pub sound : b.poisoned ≡ false

pub same_part : (a b : Known) (was now : Lists) → (w : Went a.kept b.kept was now) → Keeps a b w.made → SamePart a b
same_part a b was now w k = record {
  setup = ap (λ (x : Kept). x.setup) w.whole;
  out = ap (λ (x : Kept). x.out) w.whole;
  grows = k.grows;
  sound = k.sound;
}

waits_grow : (a : Wired) (node : Known) (q : ℕ) → SamePart a.node node → out_of a.node.kept q ≤ length (put a.node.kept.past.journal q) →
    (more : List Content) → put a.node.kept.past.journal q ++ more ≡ put node.kept.past.journal q →
    waits (record a { node = node }) q ≡ waits a q ++ more
waits_grow a node q same low more e =
    ap (λ (out : List ℕ). option_to_list (held_at a.held.items q) ++ drop (slice_index_or out q 0) (put node.kept.past.journal q)) same.out
    ∙ (ap (λ l. option_to_list (held_at a.held.items q) ++ drop (out_of a.node.kept q) l) (sym e)
    ∙ (ap (λ l. option_to_list (held_at a.held.items q) ++ l) (drop-append-le (out_of a.node.kept q) (put a.node.kept.past.journal q) more low)
    ∙ sym (append_assoc (option_to_list (held_at a.held.items q)) (drop (out_of a.node.kept q) (put a.node.kept.past.journal q)) more)))

-- a call of the participant, beside which the rings are as they were or a message was popped
pub tied_on : (a : Wired) (node : Known) (ends : Account) → IsTied a → SamePart a.node node → IsSound node → place ends ≡ place a.ends →
    ((q : ℕ) → pushed ends q ≡ pushed a.ends q) → ((p : ℕ) → got node.kept.past.journal p ≡ popped ends p) → got node.kept.past.journal a.ends.number ≡ [] →
    ((p : ℕ) → list_all (λ reason. reason == 8) (gones node.kept.past.journal p) ≡ true) →
    ((p : ℕ) → is_peer a.node.kept.setup p ≡ false → gones node.kept.past.journal p ≡ []) → IsTied (record a { node = node; ends = ends })
tied_on a node ends t same good at sent got_is silent refused unlost = record {
  sound = same.sound;
  own = ap (λ (w : Place). w.number) at ∙ (t.own ∙ ap (λ (S : Setup). S.number) (sym same.setup));
  within = subst (λ (S : Setup). S.number < length S.names) (sym same.setup) t.within;
  ways = ap size at ∙ (t.ways ∙ ap (λ (S : Setup). length S.names) (sym same.setup));
  least = subst (λ (w : Place). size w ≤ 32) (sym at) t.least;
  out_is = ap length same.out ∙ (t.out_is ∙ ap size (sym at));
  held_is = t.held_is ∙ ap size (sym at);
  alone = none_of node.kept.past.memory.tools (let e = good.all in let f : length node.kept.out ≡ length a.node.kept.out = ap length same.out in
      let g : length node.kept.setup.names ≡ length a.node.kept.setup.names = ap (λ (S : Setup). length S.names) same.setup in
      let h = t.out_is in let i = t.ways in omega arith);
  got_is = got_is;
  silent = ap (λ (w : Place). got node.kept.past.journal w.number) at ∙ silent;
  put_is = λ q.
      let p = put_grows a.node.kept.past.journal node.kept.past.journal q same.grows in
      sym p.1 ∙ (ap (λ l. l ++ p.0) (t.put_is q) ∙ (append_assoc (pushed a.ends q) (waits a q) p.0
      ∙ (ap (λ l. pushed a.ends q ++ l) (sym (waits_grow a node q same (t.taken q) p.0 p.1))
      ∙ ap (λ l. l ++ waits (record a { node = node }) q) (sym (sent q)))));
  taken = good.within;
  refused = refused;
  unlost = λ p other. unlost p (ap (λ (S : Setup). is_peer S p) (sym same.setup) ∙ other);
  services = subst (λ (S : Setup). length S.services ≤ 64) (sym same.setup) t.services;
  short = good.short same.sound;
  roomy = subst (λ (w : Place). (q : ℕ) → IsPeer w q → 0 < room w q) (sym at) t.roomy;
}

-- what such a call goes on with
pub goes_on : (a : Wired) (node : Known) (ends : Account) (was now : Lists) → (w : Went a.node.kept node.kept was now) → Keeps a.node node w.made →
    IsUntouched a.node.kept.past node.kept.past → place ends ≡ place a.ends → ((q : ℕ) → pushed ends q ≡ pushed a.ends q) → Goes (card_of a) (card_of (record a { node = node; ends = ends })) was now
goes_on a node ends was now w k untouched at sent =
    let c = counts_same a.ends ends at sent in record {
      made = w.made;
      calls = w.calls;
      told = w.told;
      place = at;
      setup = ap (λ (x : Kept). x.setup) w.whole;
      grows = k.grows;
      lawful = k.lawful;
      untouched = untouched;
      lower = k.lower;
      more = λ q. let e : count_at (card_of (record a { node = node; ends = ends })) q ≡ count_at (card_of a) q = ap (λ l. slice_index_or l q 0) c in omega arith;
    }

-- ## One peer

refused_with : (b : Bool) (rs : List ℕ) → list_all (λ reason. reason == 8) rs ≡ true → list_all (λ reason. reason == 8) (rs ++ (if b then [] else 8 ∷ [])) ≡ true
refused_with true rs h = ap (list_all (λ reason. reason == 8)) (append-nil rs) ∙ h
refused_with false rs h = list_all-append (λ reason. reason == 8) rs (8 ∷ []) ∙ ap (λ b. b && true) h

peer_of : (a : Wired) (p : ℕ) → IsTied a → IsPeer (place a.ends) p → is_peer a.node.kept.setup p ≡ true
peer_of a p t h =
    let low : p < length a.node.kept.setup.names = (let w = t.ways in let l = h.0 in omega arith) in
    let other : p ≢ a.node.kept.setup.number = (λ e. h.1 (e ∙ sym t.own)) in
    ap (λ b. b && not (p == a.node.kept.setup.number)) (lt-ltb p (length a.node.kept.setup.names) low) ∙ ap not (ne_eqb p a.node.kept.setup.number other)

-- a message was popped and taken
pub takes_read : PutsBounded → (a : Wired) (node : Known) (ends : Account) (was now : Lists) (p : ℕ) (m : Content) → IsTied a → IsPeer (place a.ends) p →
    OnlyPops a.ends ends p → popped ends p ≡ popped a.ends p ++ m ∷ [] → Serves a.node node was now →
    Hears a.node.kept.setup p m a.node.kept.past node.kept.past → TakesOne a.node.kept node.kept p m was now → IsSound node → Takes true a (record a { node = node; ends = ends }) was now p
takes_read law a node ends was now p m t peer only came served hears taken good =
    let whole : node.kept.past ≡ judge_limits a.node.kept.setup (get a.node.kept.setup p m taken.went.made a.node.kept.past) = ap (λ (k : Kept). k.past) taken.went.whole ∙ ap (judge_limits a.node.kept.setup) taken.gets in
    let same = same_part a.node node was now served.went served.keeps in record {
      goes = goes_on a node ends was now served.went served.keeps (subst (λ (past : Past). IsUntouched a.node.kept.past past) (sym whole) (taken_untouched a.node.kept.setup p m taken.went.made a.node.kept.past)) only.place only.pushed;
      tied = tied_on a node ends t same good only.place only.pushed
          (λ q. elim (cases_eq q p) [
            | inl e ↦ subst (λ r. got node.kept.past.journal r ≡ popped ends r) (sym e) (hears.got_is ∙ (ap (λ l. l ++ m ∷ []) (t.got_is p) ∙ sym came))
            | inr d ↦ (hears.same q d).got_is ∙ (t.got_is q ∙ sym (only.popped q d))
          ])
          ((hears.same a.ends.number (λ e. peer.1 (sym e))).got_is ∙ t.silent)
          (λ q. elim (cases_eq q p) [
            | inl e ↦ subst (λ r. list_all (λ reason. reason == 8) (gones node.kept.past.journal r) ≡ true) (sym e)
                (ap (list_all (λ reason. reason == 8)) hears.gones_is ∙ refused_with (comes_in_order a.node.kept.setup a.node.kept.past p m) (gones a.node.kept.past.journal p) (t.refused p))
            | inr d ↦ ap (list_all (λ reason. reason == 8)) ((hears.same q d).gones_is) ∙ t.refused q
          ])
          (λ q other. elim (cases_eq q p) [
            | inl e ↦ absurd (let y : is_peer a.node.kept.setup q ≡ true = ap (λ r. is_peer a.node.kept.setup r) e ∙ peer_of a p t peer in let no : true ≡ false = sym y ∙ other in cc)
            | inr d ↦ (hears.same q d).gones_is ∙ t.unlost q other
          ]);
      puts = puts_one law a.node.kept node.kept was now served.went t.services;
      held = refl;
      pushed_is = only.pushed;
      free_is = only.free;
      from = inl (m, hears.got_is);
      others = λ q other. record {
        waiting_is = only.waiting q other;
        got_is = (hears.same q other).got_is;
        open_is = ap (λ (S : Setup). is_open S node.kept.past q) same.setup ∙ (hears.same q other).open_is;
      };
      progress = λ e.
          subst (λ (w : Place). total (λ q. length (got a.node.kept.past.journal q)) (size (place a.ends)) < total (λ q. length (got node.kept.past.journal q)) (size w)) (sym only.place)
          (total_less (λ q. length (got a.node.kept.past.journal q)) (λ q. length (got node.kept.past.journal q)) (size (place a.ends)) p
          (λ q. got_grows a.node.kept.past.journal node.kept.past.journal q same.grows) peer.0
          (let e2 : length (got node.kept.past.journal p) ≡ length (got a.node.kept.past.journal p) + 1 = ap length hears.got_is ∙ length-append (got a.node.kept.past.journal p) (m ∷ []) in omega arith));
      still = λ e. absurd (let no : true ≡ false = e in cc);
    }

-- none was there
pub takes_none : (a : Wired) (ends : Account) (was : Lists) (p : ℕ) → IsTied a → OnlyPops a.ends ends p → popped ends p ≡ popped a.ends p → waiting a.ends p ≡ [] → waiting ends p ≡ [] →
    Takes false a (record a { ends = ends }) was was p
takes_none a ends was p t only none empty still =
    let all : (q : ℕ) → popped ends q ≡ popped a.ends q = (λ q. elim (cases_eq q p) [
      | inl e ↦ subst (λ r. popped ends r ≡ popped a.ends r) (sym e) none
      | inr d ↦ only.popped q d
    ]) in
    let c : card_of (record a { ends = ends }) ≡ card_of a = rw (only.place, counts_same a.ends ends only.place only.pushed) refl in record {
      goes = subst (λ (x : Card). Goes (card_of a) x was was) (sym c) (goes_none (card_of a) was);
      tied = record {
        sound = t.sound;
        own = ap (λ (w : Place). w.number) only.place ∙ t.own;
        within = t.within;
        ways = ap size only.place ∙ t.ways;
        least = subst (λ (w : Place). size w ≤ 32) (sym only.place) t.least;
        out_is = t.out_is ∙ ap size (sym only.place);
        held_is = t.held_is ∙ ap size (sym only.place);
        alone = t.alone;
        got_is = λ q. t.got_is q ∙ sym (all q);
        silent = ap (λ (w : Place). got a.node.kept.past.journal w.number) only.place ∙ t.silent;
        put_is = λ q. t.put_is q ∙ ap (λ l. l ++ waits a q) (sym (only.pushed q));
        taken = t.taken;
        refused = t.refused;
        unlost = t.unlost;
        services = t.services;
        short = t.short;
        roomy = subst (λ (w : Place). (q : ℕ) → IsPeer w q → 0 < room w q) (sym only.place) t.roomy;
      };
      puts = puts_none 1 a.node.kept.setup a.node.kept.past;
      held = refl;
      pushed_is = only.pushed;
      free_is = only.free;
      from = inr (refl, λ linked. (empty, still));
      others = λ q other. record { waiting_is = only.waiting q other; got_is = refl; open_is = refl };
      progress = λ e. absurd (let no : false ≡ true = e in cc);
      still = λ e. (refl, refl, λ linked. (empty, still));
    }

-- it isn't open
pub takes_closed : (a : Wired) (was : Lists) (p : ℕ) → IsTied a → is_open a.node.kept.setup a.node.kept.past p ≡ false → Takes false a a was was p
takes_closed a was p t closed = record {
  goes = goes_none (card_of a) was;
  tied = t;
  puts = puts_none 1 a.node.kept.setup a.node.kept.past;
  held = refl;
  pushed_is = λ q. refl;
  free_is = λ q. refl;
  from = inr (refl, λ linked. absurd (let no : true ≡ false = sym linked ∙ closed in cc));
  others = λ q other. record { waiting_is = refl; got_is = refl; open_is = refl };
  progress = λ e. absurd (let no : false ≡ true = e in cc);
  still = λ e. (refl, refl, λ linked. absurd (let no : true ≡ false = sym linked ∙ closed in cc));
}

-- ## Each peer

pub takes_first : (a : Wired) (was : Lists) → IsTied a → TakesAll false a a was was 0
takes_first a was t = record {
  goes = goes_none (card_of a) was;
  tied = t;
  puts = puts_none 0 a.node.kept.setup a.node.kept.past;
  held = refl;
  pushed_is = λ q. refl;
  free_is = λ q. refl;
  each = λ q low other. absurd (omega arith);
  later = λ q far. record { waiting_is = refl; got_is = refl; open_is = refl };
  progress = λ e. absurd (let no : false ≡ true = e in cc);
  still = λ e. (refl, refl, λ q low other linked. absurd (omega arith));
}

below : (q p : ℕ) → q < p + 1 → (q < p) ⊎ (q ≡ p)
below q p h = elim (cases_eq q p) [ inl e ↦ inr e | inr d ↦ inl (omega arith) ]

-- the own number is passed over
pub next_own : (moved : Bool) (a : Wired) (was : Lists) (p : ℕ) → IsTied a → p ≡ a.ends.number → TakesNext moved moved a a was was p
next_own moved a was p t own = (
  t,
  λ start first same h. record {
    goes = h.goes;
    tied = h.tied;
    puts = puts_more (p + 1) (omega arith) h.puts;
    held = h.held;
    pushed_is = h.pushed_is;
    free_is = h.free_is;
    each = λ q low other. elim (below q p low) [ inl l ↦ h.each q l other | inr e2 ↦ absurd (other (e2 ∙ (own ∙ sym same))) ];
    later = λ q far. h.later q (omega arith);
    progress = h.progress;
    still = λ e. let s = h.still e in (s.0, s.1, λ q low other. elim (below q p low) [ inl l ↦ s.2 q l other | inr e2 ↦ absurd (other (e2 ∙ (own ∙ sym same))) ]);
  },
)

or_false : (b c : Bool) → (b || c) ≡ false → (b ≡ false) × (c ≡ false)
or_false true c e = absurd (let no : true ≡ false = e in cc)
or_false false c e = (refl, e)

or_true : (b c : Bool) → (b || c) ≡ true → (b ≡ true) ⊎ (c ≡ true)
or_true true c e = inl refl
or_true false c e = inr e

pub heard_more : (a b : Card) (was now : Lists) → Goes a b was now → got_total a ≤ got_total b
heard_more a b was now g =
    subst (λ (w : Place). total (λ q. length (got a.past.journal q)) (size a.place) ≤ total (λ q. length (got b.past.journal q)) (size w)) (sym g.place)
    (total_more (λ q. length (got a.past.journal q)) (λ q. length (got b.past.journal q)) (size a.place) (λ q. got_grows a.past.journal b.past.journal q g.grows))

-- what came of an earlier peer stays so
from_earlier : (start a b : Wired) (q : ℕ) → TakesFrom start a q → IsSameFrom a b q → TakesFrom start b q
from_earlier start a b q h same = elim h [
  | inl one ↦ inl (one.0, same.got_is ∙ one.1)
  | inr none ↦ inr (same.got_is ∙ none.0, λ linked. let e = none.1 linked in (e.0, same.waiting_is ∙ e.1))
]

-- what comes of a peer of which nothing came before
from_here : (start a b : Wired) (q : ℕ) → IsSameFrom start a q → TakesFrom a b q → TakesFrom start b q
from_here start a b q same h = elim h [
  | inl one ↦ inl (one.0, one.1 ∙ ap (λ l. l ++ one.0 ∷ []) same.got_is)
  | inr none ↦ inr (none.0 ∙ same.got_is, λ linked. let e = none.1 (same.open_is ∙ linked) in (sym same.waiting_is ∙ e.0, e.1))
]

same_both : (start a b : Wired) (q : ℕ) → IsSameFrom start a q → IsSameFrom a b q → IsSameFrom start b q
same_both start a b q h i = record { waiting_is = i.waiting_is ∙ h.waiting_is; got_is = i.got_is ∙ h.got_is; open_is = i.open_is ∙ h.open_is }

-- one peer more
pub next_one : (moved taken : Bool) (a b : Wired) (was now : Lists) (p : ℕ) → Takes taken a b was now p → TakesNext moved (taken || moved) a b was now p
next_one moved taken a b was now p t = (
  t.tied,
  λ start first same h. record {
    goes = goes_both (card_of start) (card_of a) (card_of b) first was now h.goes t.goes;
    tied = t.tied;
    puts = puts_both h.puts (subst (λ (S : Setup). PutsFew 1 S a.node.kept.past b.node.kept.past) h.goes.setup t.puts);
    held = t.held ∙ h.held;
    pushed_is = λ q. t.pushed_is q ∙ h.pushed_is q;
    free_is = λ q. t.free_is q ∙ h.free_is q;
    each = λ q low other. elim (below q p low) [
      | inl l ↦ from_earlier start a b q (h.each q l other) (t.others q (λ e. absurd (omega arith)))
      | inr at ↦ subst (λ r. TakesFrom start b r) (sym at) (from_here start a b p (h.later p (omega arith)) t.from)
    ];
    later = λ q far. same_both start a b q (h.later q (omega arith)) (t.others q (λ e. absurd (omega arith)));
    progress = λ e. elim (or_true taken moved e) [
      | inl x ↦ let l = t.progress x in let m = heard_more (card_of start) (card_of a) first was h.goes in omega arith
      | inr y ↦ let l = h.progress y in let m = heard_more (card_of a) (card_of b) was now t.goes in omega arith
    ];
    still = λ e.
        let o = or_false taken moved e in let s = h.still o.1 in let u = t.still o.0 in (
          u.0 ∙ s.0,
          u.1 ∙ s.1,
          λ q low other linked. elim (below q p low) [
            | inl l ↦ let w = s.2 q l other linked in (w.0, (t.others q (λ x. absurd (omega arith))).waiting_is ∙ w.1)
            | inr at ↦
                let l = h.later p (omega arith) in
                let w = u.2 (l.open_is ∙ (ap (λ r. is_open start.node.kept.setup start.node.kept.past r) (sym at) ∙ linked)) in
                subst (λ r. (waiting start.ends r ≡ []) × (waiting b.ends r ≡ [])) (sym at) (sym l.waiting_is ∙ w.0, w.1)
          ],
        );
  },
)
