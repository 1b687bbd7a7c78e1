-- Where nobody is gone everything that was got came in order.
use Rattle.std.specs.Prelude.{◌≡◌, ◌≤◌, refl, ℕ, ◌+◌, ◌==◌, nat_lt, nat_le, Bool, true, false, not, ◌&&◌, ◌||◌, List, [], ◌∷◌, ◌++◌, length, Some, None, slice_get, if◌then◌else◌}
use Rattle.std.specs.List.{fold, cons_option, list_all, AllByRecursion}
use Rattle.std.proofs.lemmas.Bool.{and_parts, and_from}
use Rattle.std.proofs.lemmas.Bool.Decides.{nat_tests}
use Rattle.std.proofs.lemmas.List.Folds.{list_all-append, list_any-append}
use Rattle.std.proofs.lemmas.List.Elements.{filter_map-append}
use Rattle.std.proofs.lemmas.List.Sums.{fold-append}
use Rattle.std.proofs.Common.{ap, sym, ◌∙◌, subst, append_assoc, append-nil, length-append, arith, ⊎_elim}
use Rattle.sk_msg.specs.declared.content.Content.{Content}
use Rattle.sk_msg.specs.declared.entry.Entry.{Entry}
use Rattle.sk_msg.specs.declared.entry.Entry.TheVariants.{Got, Put, Hand, State as Entered, System as Judged, Begin, Done, End, Ask, Gone, Stray, Did, Fault}
use Rattle.sk_law.specs.declared.made.Made.{Made}
use Rattle.sk_law.specs.declared.setup.Setup.{Setup}
use Rattle.sk_law.specs.Past.{Past, add}
use Rattle.sk_law.specs.Readings.{got, got_from, is_gone, is_gone_entry}
use Rattle.sk_law.specs.Links.{may_say_as, Seen, unseen, is_awaited, shows_running, is_peer, is_tool, is_here, is_open, is_in_order, comes_in_order, take_in, taken_of, of_peer, seen_after, seen, taken, from}
use Rattle.sk_law.specs.Blocks.{get, heed, lose, making}
use Rattle.sk_law.specs.Lawful.{Lawful, starts, goes_on}
use Rattle.sk_law_world.proofs.BlocksBuilt.{IsMessage}
use Rattle.sk_law_world.proofs.Lists.{get_left}
use Rattle.sk_law_world.proofs.Growth as growth
use Rattle.sk_law_world.proofs.Growth.{Adds, Calm}
use Rattle.sk_law_world.proofs.Onces.{is_quiet, is_no_got, no_got, no_got_calm, quiet, quietly, quiet_no_got, same_got, got-append, making_quiet, HasGot, cases, messages_of}

-- ## Tools that are added later

-- a message of one below this number
abbrev pub got_below : ℕ → Entry → Bool
got_below bound (Got p m) = nat_lt p bound
got_below bound _ = true

named_so : (names tools more : List (List ℕ)) (p : ℕ) → nat_lt p (length names + length tools) ≡ true → slice_get (names ++ (tools ++ more)) p ≡ slice_get (names ++ tools) p
named_so names tools more p lt =
    ap (λ xs. slice_get xs p) (sym (append_assoc names tools more))
    ∙ get_left (names ++ tools) more p (let l = length-append names tools in grind (arith, nat_tests))

order_so : (S : Setup) (tools more : List (List ℕ)) (s : Seen) (p : ℕ) (m : Content) → nat_lt p (length S.names + length tools) ≡ true →
    is_in_order S (tools ++ more) s p m ≡ is_in_order S tools s p m
unfolding is_in_order
order_so S tools more s p m lt =
    ap (λ name. may_say_as name (nat_le (length S.names) p) (of_peer p s.taken) m && not (is_awaited S s && shows_running (of_peer p s.taken) m)) (named_so S.names tools more p lt)

-- what was seen stays so
pub seen_so : (S : Setup) (tools more : List (List ℕ)) (es : List Entry) (s : Seen) → list_all (got_below (length S.names + length tools)) es ≡ true →
    fold (seen_after S (tools ++ more)) s es ≡ fold (seen_after S tools) s es
seen_so S tools more [] s h = refl
seen_so S tools more (Got p m ∷ es) s h =
    let b = and_parts (nat_lt p (length S.names + length tools)) (list_all (got_below (length S.names + length tools)) es) h in
    ap (λ c. fold (seen_after S (tools ++ more)) (if c then take_in p m s else s) es) (order_so S tools more s p m b.0)
    ∙ seen_so S tools more es (if is_in_order S tools s p m then take_in p m s else s) b.1
seen_so S tools more (Entered to ∷ es) s h = seen_so S tools more es (record s { state = to }) h
seen_so S tools more (Put q m ∷ es) s h = seen_so S tools more es s h
seen_so S tools more (Hand q i r ∷ es) s h = seen_so S tools more es s h
seen_so S tools more (Judged x ∷ es) s h = seen_so S tools more es s h
seen_so S tools more (Begin n t ∷ es) s h = seen_so S tools more es s h
seen_so S tools more (Done n ∷ es) s h = seen_so S tools more es s h
seen_so S tools more (End n ∷ es) s h = seen_so S tools more es s h
seen_so S tools more (Ask c v ∷ es) s h = seen_so S tools more es s h
seen_so S tools more (Gone q r ∷ es) s h = seen_so S tools more es s h
seen_so S tools more (Stray n ∷ es) s h = seen_so S tools more es s h
seen_so S tools more (Did x c m ∷ es) s h = seen_so S tools more es s h
seen_so S tools more (Fault n ∷ es) s h = seen_so S tools more es s h

-- where nothing is got nothing is taken
pub untaken : (S : Setup) (tools : List (List ℕ)) (es : List Entry) (s : Seen) → list_all is_no_got es ≡ true → (fold (seen_after S tools) s es).taken ≡ s.taken
untaken S tools [] s h = refl
untaken S tools (Got p m ∷ es) s h = absurd cc
untaken S tools (Entered to ∷ es) s h = untaken S tools es (record s { state = to }) h
untaken S tools (Put q m ∷ es) s h = untaken S tools es s h
untaken S tools (Hand q i r ∷ es) s h = untaken S tools es s h
untaken S tools (Judged x ∷ es) s h = untaken S tools es s h
untaken S tools (Begin n t ∷ es) s h = untaken S tools es s h
untaken S tools (Done n ∷ es) s h = untaken S tools es s h
untaken S tools (End n ∷ es) s h = untaken S tools es s h
untaken S tools (Ask c v ∷ es) s h = untaken S tools es s h
untaken S tools (Gone q r ∷ es) s h = untaken S tools es s h
untaken S tools (Stray n ∷ es) s h = untaken S tools es s h
untaken S tools (Did x c m ∷ es) s h = untaken S tools es s h
untaken S tools (Fault n ∷ es) s h = untaken S tools es s h

pub still_below : (k j : ℕ) → k ≤ j → (es : List Entry) → list_all (got_below k) es ≡ true → list_all (got_below j) es ≡ true
still_below k j le [] h = refl
still_below k j le (Got p m ∷ es) h =
    let b = and_parts (nat_lt p k) (list_all (got_below k) es) h in let c : nat_lt p k ≡ true = b.0 in
    and_from (nat_lt p j) (list_all (got_below j) es) (let r : nat_lt p j ≡ true = grind (arith, nat_tests) in r) (still_below k j le es b.1)
still_below k j le (Entered x ∷ es) h = still_below k j le es h
still_below k j le (Put q m ∷ es) h = still_below k j le es h
still_below k j le (Hand q i r ∷ es) h = still_below k j le es h
still_below k j le (Judged x ∷ es) h = still_below k j le es h
still_below k j le (Begin n t ∷ es) h = still_below k j le es h
still_below k j le (Done n ∷ es) h = still_below k j le es h
still_below k j le (End n ∷ es) h = still_below k j le es h
still_below k j le (Ask c v ∷ es) h = still_below k j le es h
still_below k j le (Gone q r ∷ es) h = still_below k j le es h
still_below k j le (Stray n ∷ es) h = still_below k j le es h
still_below k j le (Did x c m ∷ es) h = still_below k j le es h
still_below k j le (Fault n ∷ es) h = still_below k j le es h

none_below : (k : ℕ) (es : List Entry) → list_all is_no_got es ≡ true → list_all (got_below k) es ≡ true
none_below k [] h = refl
none_below k (Got p m ∷ es) h = absurd cc
none_below k (Entered x ∷ es) h = none_below k es h
none_below k (Put q m ∷ es) h = none_below k es h
none_below k (Hand q i r ∷ es) h = none_below k es h
none_below k (Judged x ∷ es) h = none_below k es h
none_below k (Begin n t ∷ es) h = none_below k es h
none_below k (Done n ∷ es) h = none_below k es h
none_below k (End n ∷ es) h = none_below k es h
none_below k (Ask c v ∷ es) h = none_below k es h
none_below k (Gone q r ∷ es) h = none_below k es h
none_below k (Stray n ∷ es) h = none_below k es h
none_below k (Did x c m ∷ es) h = none_below k es h
none_below k (Fault n ∷ es) h = none_below k es h

-- ## The invariant

abbrev pub bound_of : Setup → Past → ℕ
bound_of S past = length S.names + length past.memory.tools

pub record Faithful (S : Setup) (past : Past) : Type 0 where
  pub below : list_all (got_below (bound_of S past)) past.journal ≡ true
  pub all : (p : ℕ) → is_gone past.journal p ≡ false → from S past p ≡ got past.journal p

pub same_taken : (S : Setup) {was now : Past} → Adds is_no_got was now → list_all (got_below (bound_of S was)) was.journal ≡ true → taken S now ≡ taken S was
same_taken S {was} {now} a below =
    ap (λ es. (fold (seen_after S now.memory.tools) unseen es).taken) a.is
    ∙ ap (λ ts. (fold (seen_after S ts) unseen (was.journal ++ a.new)).taken) (sym a.tools.1)
    ∙ ap (λ (s : Seen). s.taken) (fold-append (seen_after S (was.memory.tools ++ a.tools.0)) unseen was.journal a.new)
    ∙ untaken S (was.memory.tools ++ a.tools.0) a.new (fold (seen_after S (was.memory.tools ++ a.tools.0)) unseen was.journal) a.all
    ∙ ap (λ (s : Seen). s.taken) (seen_so S was.memory.tools a.tools.0 was.journal unseen below)

or_no : (a b : Bool) → (a || b) ≡ false → (a ≡ false) × (b ≡ false)
or_no true b h = absurd cc
or_no false b h = (refl, h)

not_gone_before : {kinds : Entry → Bool} {was now : Past} → Adds kinds was now → (p : ℕ) → is_gone now.journal p ≡ false → is_gone was.journal p ≡ false
not_gone_before {kinds} {was} {now} a p h =
    (or_no (is_gone was.journal p) (is_gone a.new p) (sym (ap (λ es. is_gone es p) a.is ∙ list_any-append (is_gone_entry p) was.journal a.new) ∙ h)).0

faithful_quiet : (S : Setup) {was now : Past} → Adds is_no_got was now → Faithful S was → Faithful S now
faithful_quiet S {was} {now} a f = record {
  below =
      ap (list_all (got_below (bound_of S now))) a.is ∙ list_all-append (got_below (bound_of S now)) was.journal a.new
      ∙ and_from _ _ (still_below (bound_of S was) (bound_of S now) (let l = length-append was.memory.tools a.tools.0 in let k = ap length a.tools.1 in omega arith) was.journal f.below) (none_below (bound_of S now) a.new a.all);
  all = λ p h. ap (of_peer p) (same_taken S a f.below) ∙ f.all p (not_gone_before a p h) ∙ sym (same_got a p);
}

pub linked_below : (S : Setup) (past : Past) (p : ℕ) → is_open S past p ≡ true → nat_lt p (bound_of S past) ≡ true
linked_below S past p h =
    let a = (and_parts (is_peer S p || is_tool S past p) (is_here S past p) h).0 in
    by (nat_lt p (length S.names)) refl (nat_lt p (length S.names + length past.memory.tools)) refl a
  where
    by : (a : Bool) → nat_lt p (length S.names) ≡ a → (b : Bool) → nat_lt p (length S.names + length past.memory.tools) ≡ b →
        ((a && not (p == S.number)) || (nat_le (length S.names) p && b)) ≡ true → nat_lt p (length S.names + length past.memory.tools) ≡ true
    by a e true f h = f
    by true e false f h = grind (arith, nat_tests)
    by false e false f h = let k = no_and (nat_le (length S.names) p) in absurd (let i = sym h ∙ k in cc)
      where
        no_and : (x : Bool) → (x && false) ≡ false
        no_and true = refl
        no_and false = refl

pub below_more : (S : Setup) (was : Past) (q : ℕ) (m : Content) → is_open S was q ≡ true → list_all (got_below (bound_of S was)) was.journal ≡ true →
    list_all (got_below (bound_of S was)) (was.journal ++ Got q m ∷ []) ≡ true
below_more S was q m linked below = list_all-append (got_below (bound_of S was)) was.journal (Got q m ∷ []) ∙ and_from _ _ below (and_from (nat_lt q (bound_of S was)) true (linked_below S was q linked) refl)

seen_got : (S : Setup) (was : Past) (q : ℕ) (m : Content) → seen S (add (Got q m) was) ≡ (if comes_in_order S was q m then take_in q m (seen S was) else seen S was)
seen_got S was q m = fold-append (seen_after S was.memory.tools) unseen was.journal (Got q m ∷ [])

-- a message in order
faithful_got : (S : Setup) (was : Past) (q : ℕ) (m : Content) → is_open S was q ≡ true → comes_in_order S was q m ≡ true → Faithful S was → Faithful S (add (Got q m) was)
faithful_got S was q m linked order f = record {
  below = below_more S was q m linked f.below;
  all = λ p h.
      let before : is_gone was.journal p ≡ false = (or_no (is_gone was.journal p) false (sym (list_any-append (is_gone_entry p) was.journal (Got q m ∷ [])) ∙ h)).0 in
      ap (λ (s : Seen). of_peer p s.taken) (seen_got S was q m ∙ ap (λ c. if c then take_in q m (seen S was) else seen S was) order)
      ∙ filter_map-append (taken_of p) (taken S was) (record { peer = q; message = m } ∷ [])
      ∙ ap (λ xs. xs ++ cons_option (got_from p (Got q m)) []) (f.all p before)
      ∙ sym (got-append was.journal (Got q m ∷ []) p);
}

-- a message out of order, with the Gone of its sender
faithful_lost : (S : Setup) (was : Past) (q : ℕ) (m : Content) (reason : ℕ) → is_open S was q ≡ true → comes_in_order S was q m ≡ false → Faithful S was → Faithful S (add (Gone q reason) (add (Got q m) was))
faithful_lost S was q m reason linked order f = record {
  below = list_all-append (got_below (bound_of S was)) (was.journal ++ Got q m ∷ []) (Gone q reason ∷ []) ∙ and_from _ _ (below_more S was q m linked f.below) refl;
  all = λ p h.
      let outer = or_no (is_gone (was.journal ++ Got q m ∷ []) p) ((q == p) || false) (sym (list_any-append (is_gone_entry p) (was.journal ++ Got q m ∷ []) (Gone q reason ∷ [])) ∙ h) in
      let before : is_gone was.journal p ≡ false = (or_no (is_gone was.journal p) false (sym (list_any-append (is_gone_entry p) was.journal (Got q m ∷ [])) ∙ outer.0)).0 in
      let other : (q == p) ≡ false = (or_no (q == p) false outer.1).0 in
      ap (λ (s : Seen). of_peer p s.taken)
      (fold-append (seen_after S was.memory.tools) unseen (was.journal ++ Got q m ∷ []) (Gone q reason ∷ []) ∙ seen_got S was q m ∙ ap (λ c. if c then take_in q m (seen S was) else seen S was) order)
      ∙ f.all p before
      ∙ sym (got-append (was.journal ++ Got q m ∷ []) (Gone q reason ∷ []) p ∙ append-nil (got (was.journal ++ Got q m ∷ []) p)
      ∙ got-append was.journal (Got q m ∷ []) p ∙ ap (λ b. got was.journal p ++ cons_option (if b then Some m else None) []) other ∙ append-nil (got was.journal p));
}

faithful_get : (S : Setup) (was : Past) (q : ℕ) (m : Content) (made : List Made) → AllByRecursion (λ one. IsMessage one.call) made → is_open S was q ≡ true → Faithful S was → Faithful S (get S q m made was)
unfolding get
faithful_get S was q m made all linked f = on (comes_in_order S was q m) refl
  where
    on : (c : Bool) → comes_in_order S was q m ≡ c → Faithful S (if c then heed S q m made (add (Got q m) was) else lose S q 8 (add (Got q m) was))
    on true e = faithful_quiet S (growth.heeds no_got_calm (λ p k r. refl) S q m made (add (Got q m) was) all) (faithful_got S was q m linked e f)
    on false e = faithful_quiet S (growth.rest_of_lost no_got_calm S q 8 (add (Got q m) was)) (faithful_lost S was q m 8 linked e f)

pub faithful : (S : Setup) (past : Past) (made : List Made) → Lawful S past made → Faithful S past
faithful S past made starts = record {
  below = none_below (bound_of S (making S)) (making S).journal (quiet_no_got (making S).journal (making_quiet S));
  all = λ p h. ap (of_peer p) (untaken S (making S).memory.tools (making S).journal unseen (quiet_no_got (making S).journal (making_quiet S)))
      ∙ sym (no_got (making S).journal p (quiet_no_got (making S).journal (making_quiet S)));
}
faithful S past made (goes_on was now before more law h) =
    let f : Faithful S was = faithful S was before law in
    faithful_quiet S (quietly (growth.limits quiet S now)) (⊎_elim
    (λ (g : HasGot S was more now). let r : Faithful S now = subst (Faithful S) (sym g.is) (faithful_get S was g.p g.m more (messages_of S was more now g) g.linked f) in r)
    (λ (a : Adds is_quiet was now). let r : Faithful S now = faithful_quiet S (quietly a) f in r)
    (cases S was more now h))
