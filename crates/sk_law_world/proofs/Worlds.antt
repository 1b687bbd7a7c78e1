-- A lawful world is a safe one.
use Rattle.std.specs.Prelude.{◌≡◌, ◌≢◌, ◌⊎◌, ◌<◌, ◌≤◌, refl, ℕ, zero, suc, ◌+◌, ◌==◌, nat_lt, nat_le, Bool, true, false, not, ◌&&◌, ◌||◌, IsSome, IsSomeAnd, IfSome, is_none, List, [], ◌∷◌, ◌++◌, map, filter, length, Option, Some, None, slice_get, unwrap_or, if◌then◌else◌}
use Rattle.std.specs.List.{fold, filter_map, list_all, list_any, last_or, range_with_len}
use Rattle.std.proofs.lemmas.Bool.{and_parts, and_from, eqb-true, ne_eqb}
use Rattle.std.proofs.lemmas.Bool.Decides.{nat_tests}
use Rattle.std.proofs.lemmas.Option.{slice_get_within}
use Rattle.std.proofs.lemmas.List.{length-map}
use Rattle.std.proofs.lemmas.List.Folds.{list_any-append}
use Rattle.std.proofs.Common.{ap, sym, ◌∙◌, subst, append_assoc, length-append, arith, inl, inr, ⊎_elim}
use Rattle.sk_msg.specs.declared.content.Content.{Content}
use Rattle.sk_msg.specs.declared.content.Content.TheVariants as contents
use Rattle.sk_msg.specs.declared.state.State.{State}
use Rattle.sk_msg.specs.declared.state.State.TheVariants.{Running, Shutdown}
use Rattle.sk_msg.specs.States.{is_state}
use Rattle.sk_msg.specs.Edges.{has_edge}
use Rattle.sk_law_world.proofs.StateLaws.{each_pair}
use Rattle.sk_msg.specs.declared.entry.Entry.{Entry}
use Rattle.sk_msg.specs.declared.entry.Entry.TheVariants.{Got, Put, Hand, State as Entered, System as Judged, Begin, Done, End, Ask, Gone, Stray, Did, Fault}
use Rattle.sk_law.specs.declared.made.Made.{Made}
use Rattle.sk_law.specs.declared.setup.Setup.{Setup}
use Rattle.sk_law.specs.Past.{Past}
use Rattle.sk_law.specs.Readings.{got, got_from, put, put_to, state_of, is_gone, open_step, next_time}
use Rattle.sk_msg.specs.Heads.{head_of}
use Rattle.sk_msg.specs.declared.head.Head.{Head}
use Rattle.sk_law.specs.Order.{is_hello, has_hello, is_leave, has_left, says_synchronised, is_synchronised, time_in, announced_of}
use Rattle.sk_law.specs.Links.{Seen, own_name, is_peer, peers, unseen, seen_after, of_peer, from, is_here, knows_all, has_announced, all_announced, limit}
use Rattle.sk_law.specs.Receivers.{receivers}
use Rattle.sk_law.specs.Rows.{Step, row, may_begin}
use Rattle.sk_law.specs.Blocks.{hello, get, judge_limits}
use Rattle.sk_law.specs.Lawful.{Lawful}
use Rattle.sk_law_world.specs.Meets.{MayPut, EachMeets}
use Rattle.sk_law.specs.World.{Member, IsWorld}
use mathlib.Core.List.{IsPrefix}
use Rattle.sk_law.specs.Safe.{hands, WasSentBefore, HasAnnounced, WasHanded, IsSafeAt}
use Rattle.sk_law_world.specs.Safety.{WorldIsSafe}
use Rattle.sk_law_world.proofs.RowLaws.{row-step}
use Rattle.sk_law_world.proofs.Meetings.{lawful_meets}
use Rattle.sk_law_world.proofs.Floors.{sent_after}
use Rattle.sk_law_world.proofs.Onces.{once, got-append}
use Rattle.sk_law_world.proofs.WalkLaws.{walks}
use Rattle.sk_law_world.proofs.HandOrders.{ordered}
use Rattle.sk_law_world.proofs.Lists.{split, find, cut_at, some_at}
use Rattle.sk_law_world.proofs.Growth as growth
use Rattle.sk_law_world.proofs.Growth.{Adds, both}
use Rattle.sk_law_world.proofs.Cuts.{any, all_kinds, leads_adds, leads_on, begun_at}
use Rattle.sk_law_world.proofs.Fates.{state_along, front_meets, running_linked}
use Rattle.sk_law_world.proofs.Heeds.{seen_so, Faithful, faithful}

-- ## Lists of peers

of_range : (test : ℕ → Bool) (a n i : ℕ) → list_all test (range_with_len a n) ≡ true → a ≤ i → i < a + n → test i ≡ true
of_range test a zero i h le lt = absurd (omega arith)
of_range test a (suc n) i h le lt =
    let b = and_parts (test a) (list_all test (range_with_len (a + 1) n)) h in on (i == a) refl (λ e. subst (λ x. test x ≡ true) (sym e) b.0) (λ f. of_range test (a + 1) n i b.1 f (omega arith))
  where
    on : (c : Bool) → (i == a) ≡ c → (i ≡ a → test i ≡ true) → (a + 1 ≤ i → test i ≡ true) → test i ≡ true
    on true e here there = here (eqb-true i a e)
    on false e here there = there (grind (arith, nat_tests))

-- a test of all that pass another
of_filter : {X : Type 0} (passes test : X → Bool) (xs : List X) → list_all test (filter passes xs) ≡ true → list_all (λ x. not (passes x) || test x) xs ≡ true
of_filter passes test [] h = refl
of_filter {X} passes test (x ∷ xs) h = on (λ k. of_filter passes test xs k) (passes x) h
  where
    on : (list_all test (filter passes xs) ≡ true → list_all (λ x. not (passes x) || test x) xs ≡ true) → (c : Bool) →
        list_all test (if c then x ∷ filter passes xs else filter passes xs) ≡ true → ((not c || test x) && list_all (λ x. not (passes x) || test x) xs) ≡ true
    on more true h = let b = and_parts (test x) (list_all test (filter passes xs)) h in and_from (test x) _ b.0 (more b.1)
    on more false h = more h

pub or_rest : (a b : Bool) → (not a || b) ≡ true → a ≡ true → b ≡ true
or_rest true b h e = h
or_rest false b h e = absurd cc

at_peer : (S : Setup) (test : ℕ → Bool) (p : ℕ) → list_all test (peers S) ≡ true → is_peer S p ≡ true → test p ≡ true
at_peer S test p h peer =
    let b = and_parts (nat_lt p (length S.names)) (not (p == S.number)) peer in
    let c : nat_lt p (length S.names) ≡ true = b.0 in
    or_rest (not (p == S.number)) (test p)
    (of_range (λ x. not (not (x == S.number)) || test x) 0 (length S.names) p (of_filter (λ x. not (x == S.number)) test (range_with_len 0 (length S.names)) h) (omega arith) (grind (arith, nat_tests)))
    b.1

-- ## What a Begin says

begin_facts : (S : Setup) (past : Past) → may_begin S past ≡ true → (knows_all S past ≡ true) × (all_announced S past (next_time (unwrap_or S.step 0) past.journal) ≡ true)
unfolding may_begin
begin_facts S past may = by S.step may
  where
    by : (step : Option ℕ) → may_begin (record S { step = step }) past ≡ true →
        (knows_all (record S { step = step }) past ≡ true) × (all_announced (record S { step = step }) past (next_time (unwrap_or step 0) past.journal) ≡ true)
    by None h = absurd cc
    by (Some size) h =
        let a = and_parts (is_none (open_step past.journal)) _ h in
        let b = and_parts (nat_lt (next_time size past.journal) (limit (record S { step = Some size }) past)) _ a.1 in
        and_parts (knows_all (record S { step = Some size }) past) (all_announced (record S { step = Some size }) past (next_time size past.journal)) b.1

-- ## What is put

-- a Hello is the own one
pub own_hello : (S : Setup) (past : Past) (m : Content) → MayPut S past m → is_hello m ≡ true → m ≡ hello S (own_name S)
own_hello S past (contents.Hello name role address) h e = h
own_hello S past contents.Leave h e = absurd cc
own_hello S past (contents.NextStep at size) h e = absurd cc
own_hello S past (contents.ServiceAdd service) h e = absurd cc
own_hello S past contents.ServicesEnd h e = absurd cc
own_hello S past (contents.Status state until) h e = absurd cc
own_hello S past (contents.Workflow required) h e = absurd cc
own_hello S past contents.Abort h e = absurd cc
own_hello S past (contents.Refuse reason) h e = absurd cc
own_hello S past (contents.Can head' frame) h e = absurd cc
own_hello S past (contents.Eth head' payload) h e = absurd cc
own_hello S past (contents.Lin head' frame) h e = absurd cc
own_hello S past (contents.LinResponse head' response) h e = absurd cc
own_hello S past (contents.Publish head' payload) h e = absurd cc
own_hello S past (contents.Call head' call payload) h e = absurd cc
own_hello S past (contents.Reply head' client call payload) h e = absurd cc

-- no data comes in Shutdown
not_over : (S : Setup) (past : Past) (t : ℕ) (m : Content) → MayPut S past m → WasSentBefore t m → is_state Shutdown (state_of past.journal) ≡ false
not_over S past t (contents.Can head' frame) h e = h.2
not_over S past t (contents.Eth head' payload) h e = h.2
not_over S past t (contents.Lin head' frame) h e = h.2
not_over S past t (contents.LinResponse head' response) h e = h.2
not_over S past t (contents.Publish head' payload) h e = h.2
not_over S past t (contents.Call head' call payload) h e = h.2
not_over S past t (contents.Reply head' client call payload) h e = h.2
not_over S past t (contents.Hello name role address) h e = absurd e
not_over S past t contents.Leave h e = absurd e
not_over S past t (contents.NextStep at size) h e = absurd e
not_over S past t (contents.ServiceAdd service) h e = absurd e
not_over S past t contents.ServicesEnd h e = absurd e
not_over S past t (contents.Status state until) h e = absurd e
not_over S past t (contents.Workflow required) h e = absurd e
not_over S past t contents.Abort h e = absurd e
not_over S past t (contents.Refuse reason) h e = absurd e

is_put : (q : ℕ) (e : Entry) (m : Content) → put_to q e ≡ Some m → e ≡ Put q m
is_put q (Put p n) m h = on (p == q) refl h
  where
    on : (b : Bool) → (p == q) ≡ b → (if b then Some n else None) ≡ Some m → Put p n ≡ Put q m
    on true e i = let a : p ≡ q = eqb-true p q e in let c : n ≡ m = cc in cc
    on false e i = absurd cc
is_put q (Got p n) m h = absurd cc
is_put q (Hand p k r) m h = absurd cc
is_put q (Entered s) m h = absurd cc
is_put q (Judged s) m h = absurd cc
is_put q (Begin n t) m h = absurd cc
is_put q (Done n) m h = absurd cc
is_put q (End n) m h = absurd cc
is_put q (Ask c v) m h = absurd cc
is_put q (Gone p r) m h = absurd cc
is_put q (Stray n) m h = absurd cc
is_put q (Did s c n) m h = absurd cc
is_put q (Fault n) m h = absurd cc

is_got : (p : ℕ) (e : Entry) (m : Content) → got_from p e ≡ Some m → e ≡ Got p m
is_got p (Got q n) m h = on (q == p) refl h
  where
    on : (b : Bool) → (q == p) ≡ b → (if b then Some n else None) ≡ Some m → Got q n ≡ Got p m
    on true e i = let a : q ≡ p = eqb-true q p e in let c : n ≡ m = cc in cc
    on false e i = absurd cc
is_got p (Put q n) m h = absurd cc
is_got p (Hand q k r) m h = absurd cc
is_got p (Entered s) m h = absurd cc
is_got p (Judged s) m h = absurd cc
is_got p (Begin n t) m h = absurd cc
is_got p (Done n) m h = absurd cc
is_got p (End n) m h = absurd cc
is_got p (Ask c v) m h = absurd cc
is_got p (Gone q r) m h = absurd cc
is_got p (Stray n) m h = absurd cc
is_got p (Did s c n) m h = absurd cc
is_got p (Fault n) m h = absurd cc

-- one message that was put, with the journal before it
pub record PutAt (es : List Entry) (q : ℕ) (us : List Content) (m : Content) : Type 0 where
  pub early : List Entry
  pub late : List Entry
  pub cut : es ≡ early ++ Put q m ∷ late
  pub front : put early q ≡ us

pub put_at : (es : List Entry) (q : ℕ) (us : List Content) (m : Content) (vs : List Content) → put es q ≡ us ++ m ∷ vs → PutAt es q us m
put_at es q us m vs e =
    let f = find (put_to q) es us m vs e in
    record { early = f.early; late = f.late; cut = f.cut ∙ ap (λ x. f.early ++ x ∷ f.late) (is_put q f.x m f.is); front = f.front }

pub shut_edge : (from to : State) → has_edge from to ≡ true → is_state Shutdown from ≡ true → is_state Shutdown to ≡ true
unfolding is_state has_edge
shut_edge from to e d = or_rest (is_state Shutdown from) (is_state Shutdown to)
    (or_rest (has_edge from to) _ (each_pair (λ a b. not (has_edge a b) || (not (is_state Shutdown a) || is_state Shutdown b)) refl from to) e) d

-- behind Leave no message of a step is put
after_leave : (S : Setup) (past : Past) (made : List Made) → Lawful S past made → (e1 : List Entry) (q t : ℕ) (e2 : List Entry) (m : Content) (late : List Entry) →
    past.journal ≡ (e1 ++ Put q contents.Leave ∷ e2) ++ Put q m ∷ late → WasSentBefore t m → ⊥
after_leave S past made law e1 q t e2 m late is sent =
    let meets : EachMeets S past.journal = lawful_meets S past made law in
    let leave : Entry = Put q contents.Leave in
    let there = meets (e1 ++ leave ∷ e2) (Put q m) late is in
    let here = meets e1 leave (e2 ++ Put q m ∷ late) (is ∙ append_assoc e1 (leave ∷ e2) (Put q m ∷ late)) in
    let front : EachMeets S (e1 ++ leave ∷ e2) = front_meets S (e1 ++ leave ∷ e2) (Put q m ∷ late) (subst (EachMeets S) is meets) in
    let shut : is_state Shutdown (state_of (e1 ++ leave ∷ e2)) ≡ true = state_along S (is_state Shutdown) shut_edge e1 (leave ∷ e2) front here.1 in
    let open_yet = not_over S (record { journal = e1 ++ leave ∷ e2; memory = there.0 }) t m there.1 sent in
    let k = sym shut ∙ open_yet in absurd cc

both_say : (t u : ℕ) (o : Option Head) → IfSome o (λ s. 0 < s.mark → u ≤ s.stamp) → IsSomeAnd o (λ s. (0 < s.mark) × (s.stamp < t)) → t ≤ u → ⊥
both_say t u None h i le = i
both_say t u (Some s) h i le = let a : u ≤ s.stamp = h i.0 in let b : s.stamp < t = i.1 in absurd (omega arith)

-- behind an announcement of t no message of a step before t is put
after_announced : (S : Setup) (past : Past) (made : List Made) → Lawful S past made → (e1 : List Entry) (q t u size : ℕ) (e2 : List Entry) (m : Content) (late : List Entry) →
    past.journal ≡ (e1 ++ Put q (contents.NextStep u size) ∷ e2) ++ Put q m ∷ late → t ≤ u → WasSentBefore t m → ⊥
after_announced S past made law e1 q t u size e2 m late is le sent =
    both_say t u (head_of m) (sent_after S past made law e1 q u size e2 q m late (is ∙ append_assoc e1 (Put q (contents.NextStep u size) ∷ e2) (Put q m ∷ late))) sent le

-- ## What was announced

more_of : (o : Option ℕ) (m : Content) (ms : List Content) (t : ℕ) →
    (has_announced t o ≡ true) ⊎ ((front : List Content) × (u size : ℕ) × (rest : List Content) × (ms ≡ front ++ contents.NextStep u size ∷ rest) × (t ≤ u)) →
    (has_announced t o ≡ true) ⊎ ((front : List Content) × (u size : ℕ) × (rest : List Content) × (m ∷ ms ≡ front ++ contents.NextStep u size ∷ rest) × (t ≤ u))
more_of o m ms t (inl h) = inl h
more_of o m ms t (inr r) = inr (m ∷ r.0, r.1, r.2, r.3, ap (λ z. m ∷ z) r.4, r.5)

announced_from : (o : Option ℕ) (ms : List Content) (t : ℕ) → has_announced t (last_or o (filter_map time_in ms)) ≡ true →
    (has_announced t o ≡ true) ⊎ ((front : List Content) × (u size : ℕ) × (rest : List Content) × (ms ≡ front ++ contents.NextStep u size ∷ rest) × (t ≤ u))
announced_from o [] t h = inl h
announced_from o (contents.NextStep u size ∷ ms) t h = ⊎_elim
    (λ (i : nat_le t u ≡ true). inr ([], u, size, ms, refl, grind (arith, nat_tests)))
    (λ (r : (front : List Content) × (v size' : ℕ) × (rest : List Content) × (ms ≡ front ++ contents.NextStep v size' ∷ rest) × (t ≤ v)).
    inr (contents.NextStep u size ∷ r.0, r.1, r.2, r.3, ap (λ z. contents.NextStep u size ∷ z) r.4, r.5))
    (announced_from (Some u) ms t h)
announced_from o (contents.Hello name role address ∷ ms) t h = more_of o (contents.Hello name role address) ms t (announced_from o ms t h)
announced_from o (contents.Leave ∷ ms) t h = more_of o contents.Leave ms t (announced_from o ms t h)
announced_from o (contents.ServiceAdd service ∷ ms) t h = more_of o (contents.ServiceAdd service) ms t (announced_from o ms t h)
announced_from o (contents.ServicesEnd ∷ ms) t h = more_of o contents.ServicesEnd ms t (announced_from o ms t h)
announced_from o (contents.Status state until ∷ ms) t h = more_of o (contents.Status state until) ms t (announced_from o ms t h)
announced_from o (contents.Workflow required ∷ ms) t h = more_of o (contents.Workflow required) ms t (announced_from o ms t h)
announced_from o (contents.Abort ∷ ms) t h = more_of o contents.Abort ms t (announced_from o ms t h)
announced_from o (contents.Refuse reason ∷ ms) t h = more_of o (contents.Refuse reason) ms t (announced_from o ms t h)
announced_from o (contents.Can head' frame ∷ ms) t h = more_of o (contents.Can head' frame) ms t (announced_from o ms t h)
announced_from o (contents.Eth head' payload ∷ ms) t h = more_of o (contents.Eth head' payload) ms t (announced_from o ms t h)
announced_from o (contents.Lin head' frame ∷ ms) t h = more_of o (contents.Lin head' frame) ms t (announced_from o ms t h)
announced_from o (contents.LinResponse head' response ∷ ms) t h = more_of o (contents.LinResponse head' response) ms t (announced_from o ms t h)
announced_from o (contents.Publish head' payload ∷ ms) t h = more_of o (contents.Publish head' payload) ms t (announced_from o ms t h)
announced_from o (contents.Call head' call payload ∷ ms) t h = more_of o (contents.Call head' call payload) ms t (announced_from o ms t h)
announced_from o (contents.Reply head' client call payload ∷ ms) t h = more_of o (contents.Reply head' client call payload) ms t (announced_from o ms t h)

-- ## What q knows of p where it begins a step

told_at : (R : Setup) (at : Past) (calls : List Made) → Lawful R at calls → row R at ≡ Some Step → (p : ℕ) → is_peer R p ≡ true → (t : ℕ) → t ≡ next_time (unwrap_or R.step 0) at.journal →
    (has_hello (got at.journal p) ≡ true → is_synchronised (got at.journal p) ≡ true) →
    (has_left (got at.journal p) ≡ true) ⊎ (has_announced t (announced_of (got at.journal p)) ≡ true)
told_at R at calls law next p peer t time sync = on (has_left (from R at p)) refl
  where
    facts : (is_state Running (state_of at.journal) ≡ true) × (may_begin R at ≡ true)
    facts = row-step R at next

    linked : is_gone at.journal p ≡ false
    linked = running_linked R at calls law facts.0 p peer

    heard : from R at p ≡ got at.journal p
    heard = (faithful R at calls law).all p linked

    begins : (knows_all R at ≡ true) × (all_announced R at (next_time (unwrap_or R.step 0) at.journal) ≡ true)
    begins = begin_facts R at facts.1

    synced : is_synchronised (from R at p) ≡ true
    synced = ap is_synchronised heard ∙ sync (ap has_hello (sym heard) ∙ at_peer R (λ x. has_hello (from R at x)) p begins.0 peer)

    announced : (not (is_here R at p) || has_announced t (announced_of (from R at p))) ≡ true
    announced = or_rest (is_synchronised (from R at p)) (not (is_here R at p) || has_announced t (announced_of (from R at p)))
        (at_peer R (λ x. not (is_synchronised (from R at x)) || (not (is_here R at x) || has_announced t (announced_of (from R at x)))) p
        (of_filter (λ x. is_synchronised (from R at x)) (λ x. not (is_here R at x) || has_announced t (announced_of (from R at x))) (peers R) (ap (all_announced R at) time ∙ begins.1)) peer)
        synced

    on : (l : Bool) → has_left (from R at p) ≡ l → (has_left (got at.journal p) ≡ true) ⊎ (has_announced t (announced_of (got at.journal p)) ≡ true)
    on true e = inl (ap has_left (sym heard) ∙ e)
    on false e = inr (ap (λ ms. has_announced t (announced_of ms)) (sym heard)
        ∙ or_rest (is_here R at p) (has_announced t (announced_of (from R at p))) announced (and_from (not (is_gone at.journal p)) (not (has_left (from R at p))) (ap not linked) (ap not e)))

pub or_right : (a b : Bool) → b ≡ true → (a || b) ≡ true
or_right true b h = refl
or_right false b h = h

pub or_left : (a b : Bool) → a ≡ true → (a || b) ≡ true
or_left true b h = refl
or_left false b h = absurd cc

-- a Hello that was got of a synchronised participant says so
synchronised_got : (P : Setup) (past : Past) (made : List Made) → Lawful P past made → IsSome P.step → (q : ℕ) (ms rest : List Content) → put past.journal q ≡ ms ++ rest →
    has_hello ms ≡ true → is_synchronised ms ≡ true
synchronised_got P past made law stepped q ms rest is h =
    let f = some_at is_hello ms h in
    let all : put past.journal q ≡ f.0 ++ f.1 ∷ (f.2 ++ rest) = is ∙ ap (λ x. x ++ rest) f.3 ∙ append_assoc f.0 (f.1 ∷ f.2) rest in
    let there = put_at past.journal q f.0 f.1 (f.2 ++ rest) all in
    let may = lawful_meets P past made law there.early (Put q f.1) there.late there.cut in
    let same : f.1 ≡ hello P (own_name P) = own_hello P (record { journal = there.early; memory = may.0 }) f.1 may.1 f.4 in
    let says : says_synchronised f.1 ≡ true = ap says_synchronised same ∙ stepped in
    ap is_synchronised f.3 ∙ list_any-append says_synchronised f.0 (f.1 ∷ f.2) ∙ or_right (list_any says_synchronised f.0) (list_any says_synchronised (f.1 ∷ f.2)) (or_left (says_synchronised f.1) (list_any says_synchronised f.2) says)

leave_is : (m : Content) → is_leave m ≡ true → m ≡ contents.Leave
leave_is (contents.Hello name role address) h = absurd cc
leave_is contents.Leave h = refl
leave_is (contents.NextStep at size) h = absurd cc
leave_is (contents.ServiceAdd service) h = absurd cc
leave_is contents.ServicesEnd h = absurd cc
leave_is (contents.Status state until) h = absurd cc
leave_is (contents.Workflow required) h = absurd cc
leave_is contents.Abort h = absurd cc
leave_is (contents.Refuse reason) h = absurd cc
leave_is (contents.Can head' frame) h = absurd cc
leave_is (contents.Eth head' payload) h = absurd cc
leave_is (contents.Lin head' frame) h = absurd cc
leave_is (contents.LinResponse head' response) h = absurd cc
leave_is (contents.Publish head' payload) h = absurd cc
leave_is (contents.Call head' call payload) h = absurd cc
leave_is (contents.Reply head' client call payload) h = absurd cc

-- ## What p puts later

-- two messages to one, one behind the other
two_puts : (es : List Entry) (q : ℕ) (front : List Content) (v : Content) (middle : List Content) (m : Content) (rest : List Content) → put es q ≡ front ++ v ∷ (middle ++ m ∷ rest) →
    (e1 e2 late : List Entry) × (es ≡ (e1 ++ Put q v ∷ e2) ++ Put q m ∷ late)
two_puts es q front v middle m rest is =
    let last = put_at es q (front ++ v ∷ middle) m rest (is ∙ sym (append_assoc front (v ∷ middle) (m ∷ rest))) in
    let first = put_at last.early q front v middle last.front in
    (first.early, first.late, last.late, last.cut ∙ ap (λ x. x ++ Put q m ∷ last.late) first.cut)

-- what p puts behind what q had got where it began a step at t is of no step before t
none_later : (P : Setup) (past : Past) (made : List Made) → Lawful P past made → (q t : ℕ) (ms middle : List Content) (m : Content) (rest : List Content) → put past.journal q ≡ ms ++ (middle ++ m ∷ rest) →
    (has_left ms ≡ true) ⊎ (has_announced t (announced_of ms) ≡ true) → WasSentBefore t m → ⊥
none_later P past made law q t ms middle m rest is (inl left) sent =
    let f = some_at is_leave ms left in
    let same : f.1 ≡ contents.Leave = leave_is f.1 f.4 in
    let shape : ms ≡ f.0 ++ contents.Leave ∷ f.2 = f.3 ∙ ap (λ x. f.0 ++ x ∷ f.2) same in
    let w = two_puts past.journal q f.0 contents.Leave (f.2 ++ middle) m rest
    (is ∙ ap (λ x. x ++ (middle ++ m ∷ rest)) shape ∙ append_assoc f.0 (contents.Leave ∷ f.2) (middle ++ m ∷ rest) ∙ ap (λ x. f.0 ++ contents.Leave ∷ x) (sym (append_assoc f.2 middle (m ∷ rest)))) in
    after_leave P past made law w.0 q t w.1 m w.2 w.3 sent
none_later P past made law q t ms middle m rest is (inr told) sent = ⊎_elim
    (λ (none : has_announced t None ≡ true). absurd cc)
    (λ (f : (front : List Content) × (u size : ℕ) × (rest : List Content) × (ms ≡ front ++ contents.NextStep u size ∷ rest) × (t ≤ u)).
    let w = two_puts past.journal q f.0 (contents.NextStep f.1 f.2) (f.3 ++ middle) m rest
    (is ∙ ap (λ x. x ++ (middle ++ m ∷ rest)) f.4 ∙ append_assoc f.0 (contents.NextStep f.1 f.2 ∷ f.3) (middle ++ m ∷ rest) ∙ ap (λ x. f.0 ++ contents.NextStep f.1 f.2 ∷ x) (sym (append_assoc f.3 middle (m ∷ rest)))) in
    let r : ⊥ = after_announced P past made law w.0 q t f.1 f.2 w.1 m w.2 w.3 f.5 sent in r)
    (announced_from None ms t told)

-- ## Two participants

module _ (P R : Setup) (sender receiver : Past) (sent_by got_by : List Made) (p q : ℕ)
    (law_p : Lawful P sender sent_by) (law_q : Lawful R receiver got_by) (peer : is_peer R p ≡ true) (stepped : IsSome P.step)
    (linked : IsPrefix (got receiver.journal p) (put sender.journal q)) where
  -- what p put besides what q had got
  rest_of : (before after : List Entry) (n t : ℕ) → receiver.journal ≡ before ++ Begin n t ∷ after → (rest : List Content) × (put sender.journal q ≡ got before p ++ rest)
  rest_of before after n t is = (
    got (Begin n t ∷ after) p ++ linked.0,
    sym linked.1 ∙ ap (λ x. x ++ linked.0) (ap (λ es. got es p) is ∙ got-append before (Begin n t ∷ after) p) ∙ append_assoc (got before p) (got (Begin n t ∷ after) p) linked.0,
  )

  told : (before after : List Entry) (n t : ℕ) → receiver.journal ≡ before ++ Begin n t ∷ after → (has_left (got before p) ≡ true) ⊎ (has_announced t (announced_of (got before p)) ≡ true)
  told before after n t is =
      let b = begun_at R receiver got_by law_q before n t after is in
      let more = rest_of before after n t is in
      subst (λ es. (has_left (got es p) ≡ true) ⊎ (has_announced t (announced_of (got es p)) ≡ true)) b.is
      (told_at R b.at b.calls b.lawful b.next p peer t b.time
      (synchronised_got P sender sent_by law_p stepped q (got b.at.journal p) more.0 (more.1 ∙ ap (λ es. got es p ++ more.0) (sym b.is))))

  heard_before : (before after : List Entry) (n t : ℕ) → receiver.journal ≡ before ++ Begin n t ∷ after → from R (record receiver { journal = before }) p ≡ got before p
  heard_before before after n t is =
      let b = begun_at R receiver got_by law_q before n t after is in
      let f : Faithful R b.at = faithful R b.at b.calls b.lawful in
      ap (λ es. of_peer p (fold (seen_after R receiver.memory.tools) unseen es).taken) (sym b.is)
      ∙ ap (λ ts. of_peer p (fold (seen_after R ts) unseen b.at.journal).taken) (sym b.tools.1)
      ∙ ap (λ (s : Seen). of_peer p s.taken) (seen_so R b.at.memory.tools b.tools.0 b.at.journal unseen f.below)
      ∙ f.all p (running_linked R b.at b.calls b.lawful (row-step R b.at b.next).0 p peer)
      ∙ ap (λ es. got es p) b.is

  announced : (before after : List Entry) (n t : ℕ) → receiver.journal ≡ before ++ Begin n t ∷ after → HasAnnounced R (record receiver { journal = before }) p t
  announced before after n t is = on (heard_before before after n t is) (told before after n t is)
    where
      on : from R (record receiver { journal = before }) p ≡ got before p → (has_left (got before p) ≡ true) ⊎ (has_announced t (announced_of (got before p)) ≡ true) → HasAnnounced R (record receiver { journal = before }) p t
      on same (inl left) = inr (ap has_left same ∙ left)
      on same (inr yet) = inl (ap (λ ms. has_announced t (announced_of ms)) same ∙ yet)

  -- what was got before the Begin was handed before it
  handed_there : (before after : List Entry) (n t place : ℕ) (m : Content) → receiver.journal ≡ before ++ Begin n t ∷ after →
      (front rest : List Content) → got before p ≡ front ++ m ∷ rest → length front ≡ place → WasHanded R receiver got_by before p place m
  handed_there before after n t place m is front rest shape len =
      let b = begun_at R receiver got_by law_q before n t after is in
      let f = find (got_from p) before front m rest shape in
      let cut : before ≡ f.early ++ Got p m ∷ f.late = f.cut ∙ ap (λ x. f.early ++ x ∷ f.late) (is_got p f.x m f.is) in
      let h = once R b.at b.calls b.lawful f.early p m f.late (b.is ∙ cut) in
      let placed : length (got f.early p) ≡ place = ap length f.front ∙ len in
      let early : hands before p (place + 1) ≡ receivers R h.at p m =
      ap (λ k. hands before p (k + 1)) (sym placed) ∙ ap (λ es. hands es p (length (got f.early p) + 1)) (sym b.is) ∙ h.once in
      let more : Adds any (get R p m h.meanwhile h.at) b.at =
      both (growth.limits all_kinds R (get R p m h.meanwhile h.at)) (leads_adds R (judge_limits R (get R p m h.meanwhile h.at)) h.rest b.at h.leads) in
      let inside : place + 1 ≤ length (got before p) = let l = ap length shape in let k = length-append front (m ∷ rest) in omega arith in
      let later : hands receiver.journal p (place + 1) ≡ hands before p (place + 1) = b.later p (place + 1) inside in
      record {
        at = h.at;
        calls = h.calls;
        lawful = h.lawful;
        meanwhile = h.meanwhile;
        happens = h.happens;
        front = (more.new, sym more.is ∙ b.is);
        rest = h.rest ++ b.rest;
        leads = leads_on R (judge_limits R (get R p m h.meanwhile h.at)) b.at receiver h.rest b.rest h.leads b.leads;
        called = ap (λ x. h.calls ++ x) (sym (append_assoc h.meanwhile h.rest b.rest)) ∙ sym (append_assoc h.calls (h.meanwhile ++ h.rest) b.rest) ∙ ap (λ x. x ++ b.rest) h.called ∙ b.called;
        place_is = ap (λ es. length (got es p)) h.is ∙ placed;
        once = later ∙ early;
        early = sym later;
      }

  handed : (before after : List Entry) (n t place : ℕ) (m : Content) → receiver.journal ≡ before ++ Begin n t ∷ after →
      slice_get (put sender.journal q) place ≡ Some m → WasSentBefore t m → WasHanded R receiver got_by before p place m
  handed before after n t place m is get sent =
      let more = rest_of before after n t is in
      let c = cut_at (put sender.journal q) place m get in
      ⊎_elim
      (λ (a : (rest : List Content) × (got before p ≡ c.0 ++ m ∷ rest)).
      let r : WasHanded R receiver got_by before p place m = handed_there before after n t place m is c.0 a.0 a.1 c.3 in r)
      (λ (a : (middle : List Content) × (c.0 ≡ got before p ++ middle) × (more.0 ≡ middle ++ m ∷ c.1)).
      let r : WasHanded R receiver got_by before p place m =
      absurd (none_later P sender sent_by law_p q t (got before p) a.0 m c.1 (more.1 ∙ ap (λ x. got before p ++ x) a.2) (told before after n t is) sent) in r)
      (split (got before p) more.0 c.0 m c.1 (sym more.1 ∙ c.2))

  pub safe_at : IsSafeAt R receiver got_by p (put sender.journal q)
  safe_at = record { announced = announced; handed = handed }

-- ## All of them

pub names_at : {X Y Z : Type 0} (f : X → Y) (c : Y) (xs : List X) (zs : List Z) (i : ℕ) (x : X) → map f xs ≡ map (λ z. c) zs → slice_get xs i ≡ Some x → f x ≡ c
names_at f c [] zs i x e h = absurd cc
names_at f c (y ∷ xs) [] i x e h = absurd cc
names_at f c (y ∷ xs) (z ∷ zs) zero x e h = let a : f y ≡ c = cc in let b : y ≡ x = cc in ap f (sym b) ∙ a
names_at f c (y ∷ xs) (z ∷ zs) (suc i) x e h = let a : map f xs ≡ map (λ z. c) zs = cc in names_at f c xs zs i x a h

pub other_peer : (names : List (List ℕ)) (members : List Member) → IsWorld names members → (p q : ℕ) (sender receiver : Member) →
    slice_get members p ≡ Some sender → slice_get members q ≡ Some receiver → p ≢ q → is_peer receiver.setup p ≡ true
other_peer names members w p q sender receiver sp sq apart =
    let lt = slice_get_within members p sender sp in
    let len = sym (length-map members (λ (m : Member). m.setup.names)) ∙ ap length w.all ∙ length-map names (λ name. names) in
    let named = ap length (names_at (λ (m : Member). m.setup.names) names members names q receiver w.all sq) in
    let within : nat_lt p (length receiver.setup.names) ≡ true = (let a : p < length receiver.setup.names = omega arith in grind (arith, nat_tests)) in
    let number : receiver.setup.number ≡ q = w.numbered q receiver sq in
    and_from (nat_lt p (length receiver.setup.names)) (not (p == receiver.setup.number)) within (ap not (ne_eqb p receiver.setup.number (λ e. apart (e ∙ number))))

pub world_safe : WorldIsSafe
world_safe names members w = record {
  pairs = λ p q sender receiver sp sq apart stepped.
      safe_at sender.setup receiver.setup sender.past receiver.past sender.made receiver.made p q (w.lawful p sender sp) (w.lawful q receiver sq)
      (other_peer names members w p q sender receiver sp sq apart) stepped (w.linked p q sender receiver sp sq apart);
  ordered = λ p q receiver sq. ordered receiver.setup receiver.past receiver.made (w.lawful q receiver sq) p;
  rules = w.lawful;
  walks = λ q member sq. walks member.setup member.past member.made (w.lawful q member sq);
}
