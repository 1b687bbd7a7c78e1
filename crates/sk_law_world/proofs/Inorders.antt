-- Whatever is got of a participant comes in order.
use Rattle.std.specs.Prelude.{◌≡◌, ◌<◌, ◌⊎◌, refl, ℕ, zero, suc, ◌+◌, ◌==◌, nat_lt, nat_le, Bool, true, false, cond, not, ◌&&◌, ◌||◌, List, [], ◌∷◌, ◌++◌, length, Option, Some, None, slice_get, slice_index_or, position, if◌then◌else◌}
use Rattle.std.specs.List.{fold, filter_map, cons_option, list_all, list_any, position_or_len}
use Rattle.std.specs.Option.{option_or}
use Rattle.std.specs.Str.{bytes_eq}
use Rattle.std.proofs.lemmas.Bool.{and_parts, eqb-true}
use Rattle.std.proofs.lemmas.Bool.Decides.{nat_tests}
use Rattle.std.proofs.lemmas.Slice.Eq.{bytes_eq-Decides}
use Rattle.std.proofs.lemmas.Option.{slice_get_within, slice_get-get_or}
use Rattle.std.proofs.lemmas.List.{length-map}
use Rattle.std.proofs.lemmas.List.Folds.{list_all-append, list_any-append}
use Rattle.std.proofs.lemmas.List.Elements.{filter_map-append}
use Rattle.std.proofs.lemmas.List.Sums.{fold-append}
use Rattle.std.proofs.Common.{ap, sym, ◌∙◌, subst, append_assoc, append-nil, length-append, arith, inl, inr, ⊎_elim}
use Rattle.sk_msg.specs.declared.content.Content.{Content}
use Rattle.sk_msg.specs.declared.content.Content.TheVariants as contents
use Rattle.sk_msg.specs.declared.state.State.{State}
use Rattle.sk_msg.specs.declared.state.State.TheVariants.{Invalid, ReadyToRun, Running, Paused}
use Rattle.sk_msg.specs.States.{is_state, has_reached}
use Rattle.sk_msg.specs.Edges.{has_edge}
use Rattle.sk_law_world.proofs.StateLaws.{is_state-same, each_state, each_pair}
use Rattle.sk_msg.specs.declared.entry.Entry.{Entry}
use Rattle.sk_msg.specs.declared.entry.Entry.TheVariants.{Got, Put, Hand, State as Entered, System as Judged, Begin, Done, End, Ask, Gone, Stray, Did, Fault}
use Rattle.sk_law.specs.declared.made.Made.{Made}
use Rattle.sk_law.specs.declared.setup.Setup.{Setup}
use Rattle.sk_law.specs.declared.memory.Memory.{Memory}
use Rattle.sk_law.specs.Past.{Past, add}
use Rattle.sk_law.specs.Readings.{got, got_from, put, put_to, state_after, state_of, is_gone, is_gone_entry, has_run, is_running_entry}
use Rattle.sk_law.specs.Order.{is_hello, has_hello, has_left, says_coordinated, is_coordinated, said_of, may_say}
use Rattle.sk_law.specs.Links.{may_say_as, own_name, is_peer, is_early, is_among, required_in, required_by, is_awaited, shows_running, is_in_order, Seen, unseen, take_in, taken_of, of_peer, seen_after, seen, taken, from, comes_in_order}
use Rattle.sk_law.specs.Blocks.{hello, get, heed, lose, judge_limits, making}
use Rattle.sk_law.specs.Lawful.{is_loss, Lawful, starts, goes_on}
use Rattle.sk_law_world.specs.Meets.{Meets, EachMeets}
use Rattle.sk_law.specs.World.{Member, is_before, are_sorted}
use mathlib.Core.List.{IsPrefix}
use Rattle.sk_law_world.specs.Barrier.{tells_ready}
use Rattle.sk_law_world.specs.Heard.{NoneOutOfOrder}
use Rattle.sk_law_world.proofs.Built.{state_of-add, has_run-add}
use Rattle.sk_law_world.proofs.Meetings.{last_or_before, lawful_meets}
use Rattle.sk_law_world.proofs.Floors.{along}
use Rattle.sk_law_world.proofs.Growth as growth
use Rattle.sk_law_world.proofs.Growth.{Adds, both}
use Rattle.sk_law_world.proofs.Onces.{is_quiet, is_no_got, no_got, no_got_calm, quiet, quietly, quiet_no_got, same_got, got-append, making_quiet, HasGot, cases, messages_of}
use Rattle.sk_law_world.proofs.Lists.{outside, in_front, split, some_at, get_left}
use Rattle.sk_law_world.proofs.Cuts.{making_all, any, all_kinds, as_any, whole}
use Rattle.sk_law_world.proofs.Fates.{is_no_gone, no_gone, HasLost, lost_cases, state_along, front_meets}
use Rattle.sk_law_world.proofs.Heeds.{got_below, untaken, same_taken, below_more, Faithful, faithful}
use Rattle.sk_law_world.proofs.Worlds.{put_at, or_rest, or_left, or_right, own_hello, names_at, other_peer}
use Rattle.sk_law_world.proofs.Saids.{IsOrderly}
use Rattle.sk_law_world.proofs.Tellings.{put-append}
use Rattle.sk_law_world.proofs.Spokens.{Spoken}
use Rattle.sk_law_world.proofs.Orders.{sized, spoken}
use Rattle.sk_law_world.proofs.Barriers.{required_is, barrier}

-- ## The own state

seen_state : (S : Setup) (tools : List (List ℕ)) (es : List Entry) (s : Seen) → (fold (seen_after S tools) s es).state ≡ fold state_after s.state es
seen_state S tools [] s = refl
seen_state S tools (Entered to ∷ es) s = seen_state S tools es (record s { state = to })
seen_state S tools (Got p m ∷ es) s = on (is_in_order S tools s p m) (λ s'. seen_state S tools es s')
  where
    on : (c : Bool) → ((s' : Seen) → (fold (seen_after S tools) s' es).state ≡ fold state_after s'.state es) → (fold (seen_after S tools) (if c then take_in p m s else s) es).state ≡ fold state_after s.state es
    on true h = h (take_in p m s)
    on false h = h s
seen_state S tools (Put x m ∷ es) s = seen_state S tools es s
seen_state S tools (Hand x k r ∷ es) s = seen_state S tools es s
seen_state S tools (Judged x ∷ es) s = seen_state S tools es s
seen_state S tools (Begin x t ∷ es) s = seen_state S tools es s
seen_state S tools (Done x ∷ es) s = seen_state S tools es s
seen_state S tools (End x ∷ es) s = seen_state S tools es s
seen_state S tools (Ask c v ∷ es) s = seen_state S tools es s
seen_state S tools (Gone x r ∷ es) s = seen_state S tools es s
seen_state S tools (Stray x ∷ es) s = seen_state S tools es s
seen_state S tools (Did x c m ∷ es) s = seen_state S tools es s
seen_state S tools (Fault x ∷ es) s = seen_state S tools es s

-- ## No Workflow without tools

no_and : (a : Bool) → (a && false) ≡ false
no_and true = refl
no_and false = refl

not_said : (o : Option (List ℕ)) (ms : List Content) (names : List (List ℕ)) → may_say_as o false ms (contents.Workflow names) ≡ false
unfolding may_say
not_said None ms names = refl
not_said (Some name) ms names = on (has_hello ms)
  where
    on : (b : Bool) → (if b then not (has_left ms) && false else false) ≡ false
    on true = no_and (not (has_left ms))
    on false = refl

names_none : (S : Setup) (tools : List (List ℕ)) (s : Seen) (p : ℕ) (m : Content) → nat_lt p (length S.names) ≡ true → is_in_order S tools s p m ≡ true → required_in (record { peer = p; message = m }) ≡ None
unfolding is_in_order
names_none S tools s p (contents.Workflow names) lt e =
    let other : nat_le (length S.names) p ≡ false = grind (arith, nat_tests) in
    let a = (and_parts (may_say_as (slice_get (S.names ++ tools) p) (nat_le (length S.names) p) (of_peer p s.taken) (contents.Workflow names)) _ e).0 in
    let k = sym a ∙ ap (λ t. may_say_as (slice_get (S.names ++ tools) p) t (of_peer p s.taken) (contents.Workflow names)) other ∙ not_said (slice_get (S.names ++ tools) p) (of_peer p s.taken) names in absurd cc
names_none S tools s p (contents.Hello name role address) lt e = refl
names_none S tools s p contents.Leave lt e = refl
names_none S tools s p (contents.NextStep at size) lt e = refl
names_none S tools s p (contents.ServiceAdd service) lt e = refl
names_none S tools s p contents.ServicesEnd lt e = refl
names_none S tools s p (contents.Status state until) lt e = refl
names_none S tools s p contents.Abort lt e = refl
names_none S tools s p (contents.Refuse reason) lt e = refl
names_none S tools s p (contents.Can head' frame) lt e = refl
names_none S tools s p (contents.Eth head' payload) lt e = refl
names_none S tools s p (contents.Lin head' frame) lt e = refl
names_none S tools s p (contents.LinResponse head' response) lt e = refl
names_none S tools s p (contents.Publish head' payload) lt e = refl
names_none S tools s p (contents.Call head' call payload) lt e = refl
names_none S tools s p (contents.Reply head' client call payload) lt e = refl

no_workflow : (S : Setup) (tools : List (List ℕ)) (es : List Entry) (s : Seen) → list_all (got_below (length S.names)) es ≡ true → filter_map required_in s.taken ≡ [] →
    filter_map required_in (fold (seen_after S tools) s es).taken ≡ []
no_workflow S tools [] s h none = none
no_workflow S tools (Got p m ∷ es) s h none =
    let b = and_parts (nat_lt p (length S.names)) (list_all (got_below (length S.names)) es) h in
    on b.0 (λ s' k. no_workflow S tools es s' b.1 k) (is_in_order S tools s p m) refl
  where
    on : nat_lt p (length S.names) ≡ true → ((s' : Seen) → filter_map required_in s'.taken ≡ [] → filter_map required_in (fold (seen_after S tools) s' es).taken ≡ []) →
        (c : Bool) → is_in_order S tools s p m ≡ c → filter_map required_in (fold (seen_after S tools) (if c then take_in p m s else s) es).taken ≡ []
    on lt more true e = more (take_in p m s) (filter_map-append required_in s.taken (record { peer = p; message = m } ∷ []) ∙ ap (λ xs. xs ++ cons_option (required_in (record { peer = p; message = m })) []) none ∙ ap (λ o. cons_option o []) (names_none S tools s p m lt e))
    on lt more false e = more s none
no_workflow S tools (Entered to ∷ es) s h none = no_workflow S tools es (record s { state = to }) h none
no_workflow S tools (Put x m ∷ es) s h none = no_workflow S tools es s h none
no_workflow S tools (Hand x k r ∷ es) s h none = no_workflow S tools es s h none
no_workflow S tools (Judged x ∷ es) s h none = no_workflow S tools es s h none
no_workflow S tools (Begin x t ∷ es) s h none = no_workflow S tools es s h none
no_workflow S tools (Done x ∷ es) s h none = no_workflow S tools es s h none
no_workflow S tools (End x ∷ es) s h none = no_workflow S tools es s h none
no_workflow S tools (Ask c v ∷ es) s h none = no_workflow S tools es s h none
no_workflow S tools (Gone x r ∷ es) s h none = no_workflow S tools es s h none
no_workflow S tools (Stray x ∷ es) s h none = no_workflow S tools es s h none
no_workflow S tools (Did x c m ∷ es) s h none = no_workflow S tools es s h none
no_workflow S tools (Fault x ∷ es) s h none = no_workflow S tools es s h none

-- ## Tables

is_on : State → Bool
is_on s = not (is_early s) && not (is_state Invalid s)

on_edge : (from to : State) → has_edge from to ≡ true → is_on from ≡ true → is_on to ≡ true
unfolding is_on is_state has_edge
on_edge from to e d = or_rest _ _ (or_rest (has_edge from to) _ (each_pair (λ a b. not (has_edge a b) || (not (not (is_early a) && not (is_state Invalid a)) || (not (is_early b) && not (is_state Invalid b)))) refl from to) e) d

reached_on : (s : State) → has_reached s ReadyToRun ≡ true → is_on s ≡ true
unfolding is_on is_state has_reached
reached_on s h = or_rest _ _ (each_state (λ a. not (has_reached a ReadyToRun) || (not (is_early a) && not (is_state Invalid a))) refl s) h

at_work : State → Bool
at_work s = is_state Running s || is_state Paused s

before_work : (from to : State) → has_edge from to ≡ true → is_state Paused to ≡ true → at_work from ≡ true
unfolding at_work is_state has_edge
before_work from to e d = or_rest _ _ (or_rest (has_edge from to) _ (each_pair (λ a b. not (has_edge a b) || (not (is_state Paused b) || (is_state Running a || is_state Paused a))) refl from to) e) d

before_run : (from : State) → has_edge from Running ≡ true → (is_state ReadyToRun from || is_state Paused from) ≡ true
unfolding is_state has_edge
before_run from e = or_rest _ _ (each_state (λ a. not (has_edge a Running) || (is_state ReadyToRun a || is_state Paused a)) refl from) e

-- ## Who works has run

Ran : List Entry → Type 0
Ran es = at_work (state_of es) ≡ true → has_run es ≡ true

kept_run : (es : List Entry) (e : Entry) → has_run es ≡ true → has_run (es ++ e ∷ []) ≡ true
kept_run es e h = has_run-add es e ∙ or_left (has_run es) (has_run (e ∷ [])) h

ran_still : (es : List Entry) (e : Entry) → state_of (es ++ e ∷ []) ≡ state_of es → Ran es → Ran (es ++ e ∷ [])
unfolding Ran
ran_still es e same h w = kept_run es e (h (ap at_work (sym same) ∙ w))

split_or : (a b : Bool) → (a || b) ≡ true → (a ≡ true) ⊎ (b ≡ true)
split_or true b h = inl refl
split_or false b h = inr h

ran_kept : (S : Setup) (es : List Entry) (memory : Memory) (e : Entry) → Meets S (record { journal = es; memory = memory }) e → Ran es → Ran (es ++ e ∷ [])
unfolding Ran at_work
ran_kept S es memory (Entered to) m h w = ⊎_elim
    (λ (r : is_state Running to ≡ true). let g : has_run (es ++ Entered to ∷ []) ≡ true = has_run-add es (Entered to) ∙ or_right (has_run es) (is_state Running to || false) (or_left (is_state Running to) false r) in g)
    (λ (p : is_state Paused to ≡ true). let g : has_run (es ++ Entered to ∷ []) ≡ true = kept_run es (Entered to) (h (before_work (state_of es) to m.edge p)) in g)
    (split_or (is_state Running to) (is_state Paused to) (ap (λ s. is_state Running s || is_state Paused s) (sym (state_of-add es (Entered to))) ∙ w))
ran_kept S es memory (Got x n) m' h w = ran_still es (Got x n) (state_of-add es (Got x n)) h w
ran_kept S es memory (Put x n) m' h w = ran_still es (Put x n) (state_of-add es (Put x n)) h w
ran_kept S es memory (Hand x k r) m' h w = ran_still es (Hand x k r) (state_of-add es (Hand x k r)) h w
ran_kept S es memory (Judged x) m' h w = ran_still es (Judged x) (state_of-add es (Judged x)) h w
ran_kept S es memory (Begin x t) m' h w = ran_still es (Begin x t) (state_of-add es (Begin x t)) h w
ran_kept S es memory (Done x) m' h w = ran_still es (Done x) (state_of-add es (Done x)) h w
ran_kept S es memory (End x) m' h w = ran_still es (End x) (state_of-add es (End x)) h w
ran_kept S es memory (Ask c v) m' h w = ran_still es (Ask c v) (state_of-add es (Ask c v)) h w
ran_kept S es memory (Gone x r) m' h w = ran_still es (Gone x r) (state_of-add es (Gone x r)) h w
ran_kept S es memory (Stray x) m' h w = ran_still es (Stray x) (state_of-add es (Stray x)) h w
ran_kept S es memory (Did x c n) m' h w = ran_still es (Did x c n) (state_of-add es (Did x c n)) h w
ran_kept S es memory (Fault x) m' h w = ran_still es (Fault x) (state_of-add es (Fault x)) h w

nothing_ran : Ran []
unfolding Ran at_work is_state
nothing_ran w = absurd cc

-- the first entry that passes a test
first_at : {X : Type 0} (test : X → Bool) (xs : List X) → list_any test xs ≡ true → (front : List X) × (x : X) × (rest : List X) × (xs ≡ front ++ x ∷ rest) × (test x ≡ true) × (list_any test front ≡ false)
first_at test [] e = absurd cc
first_at {X} test (x ∷ xs) e = by_case (λ h. first_at test xs h) (test x) refl e
  where
    by_case : (list_any test xs ≡ true → (front : List X) × (y : X) × (rest : List X) × (xs ≡ front ++ y ∷ rest) × (test y ≡ true) × (list_any test front ≡ false)) →
        (b : Bool) → test x ≡ b → (b || list_any test xs) ≡ true → (front : List X) × (y : X) × (rest : List X) × (x ∷ xs ≡ front ++ y ∷ rest) × (test y ≡ true) × (list_any test front ≡ false)
    by_case more true h e = ([], x, xs, refl, h, refl)
    by_case more false h e = let r = more e in (x ∷ r.0, r.1, r.2, ap (λ z. x ∷ z) r.3, r.4, ap (λ b. b || list_any test r.0) h ∙ r.5)

is_running : (e : Entry) → is_running_entry e ≡ true → e ≡ Entered Running
is_running (Entered s) h = ap Entered (sym (is_state-same Running s h))
is_running (Got x m) h = absurd cc
is_running (Put x m) h = absurd cc
is_running (Hand x k r) h = absurd cc
is_running (Judged x) h = absurd cc
is_running (Begin x t) h = absurd cc
is_running (Done x) h = absurd cc
is_running (End x) h = absurd cc
is_running (Ask c v) h = absurd cc
is_running (Gone x r) h = absurd cc
is_running (Stray x) h = absurd cc
is_running (Did x c m) h = absurd cc
is_running (Fault x) h = absurd cc

-- ## Names

not_before : (xs : List ℕ) → is_before xs xs ≡ false
not_before [] = refl
not_before (x ∷ xs) =
    let a : nat_lt x x ≡ false = grind (arith, nat_tests) in let b : (x == x) ≡ true = grind (arith, nat_tests) in
    ap (λ c. c || ((x == x) && is_before xs xs)) a ∙ ap (λ c. c && is_before xs xs) b ∙ not_before xs

bytes_same : (xs ys : List ℕ) → bytes_eq xs ys ≡ true → xs ≡ ys
bytes_same xs ys h = (bytes_eq-Decides xs ys).0 h

all_at : (test : List ℕ → Bool) (xs : List (List ℕ)) (i : ℕ) (x : List ℕ) → list_all test xs ≡ true → slice_get xs i ≡ Some x → test x ≡ true
all_at test [] i x h e = absurd cc
all_at test (y ∷ xs) zero x h e = let s : y ≡ x = cc in ap test (sym s) ∙ (and_parts (test y) (list_all test xs) h).0
all_at test (y ∷ xs) (suc i) x h e = all_at test xs i x (and_parts (test y) (list_all test xs) h).1 e

place_of : (xs : List (List ℕ)) (i : ℕ) (x : List ℕ) → are_sorted xs ≡ true → slice_get xs i ≡ Some x → position_or_len (bytes_eq x) xs ≡ i
place_of [] i x h e = absurd cc
place_of (y ∷ xs) zero x h e = let s : y ≡ x = cc in ap (λ b. cond (not b) (1 + position_or_len (bytes_eq x) xs) 0) ((bytes_eq-Decides x y).1 (sym s))
place_of (y ∷ xs) (suc i) x h e =
    let b = and_parts (list_all (is_before y) xs) (are_sorted xs) h in
    let before : is_before y x ≡ true = all_at (is_before y) xs i x b.0 e in
    on (bytes_eq x y) refl before ∙ ap (λ k. 1 + k) (place_of xs i x b.1 e) ∙ (let r : 1 + i ≡ suc i = omega arith in r)
  where
    on : (c : Bool) → bytes_eq x y ≡ c → is_before y x ≡ true → position_or_len (bytes_eq x) (y ∷ xs) ≡ 1 + position_or_len (bytes_eq x) xs
    on true f before = let same = bytes_same x y f in let k = sym before ∙ ap (is_before y) same ∙ not_before y in absurd cc
    on false f before = ap (λ b. cond (not b) (1 + position_or_len (bytes_eq x) xs) 0) f

place_in : (xs : List (List ℕ)) (i : ℕ) (x : List ℕ) → are_sorted xs ≡ true → slice_get xs i ≡ Some x → position (bytes_eq x) xs ≡ Some i
place_in xs i x h e =
    let p = place_of xs i x h e in let lt = slice_get_within xs i x e in
    let t : nat_lt (position_or_len (bytes_eq x) xs) (length xs) ≡ true = grind (arith, nat_tests) in
    ap (λ b. cond b (Some (position_or_len (bytes_eq x) xs)) None) t ∙ ap Some p

-- ## What a Hello says

coordinated_got : (P : Setup) (past : Past) (made : List Made) → Lawful P past made → (q : ℕ) (ms rest : List Content) → put past.journal q ≡ ms ++ rest → is_coordinated ms ≡ true → P.coordinated ≡ true
coordinated_got P past made law q ms rest is h =
    let f = some_at says_coordinated ms h in
    let all : put past.journal q ≡ f.0 ++ f.1 ∷ (f.2 ++ rest) = is ∙ ap (λ x. x ++ rest) f.3 ∙ append_assoc f.0 (f.1 ∷ f.2) rest in
    let there = put_at past.journal q f.0 f.1 (f.2 ++ rest) all in
    let may = lawful_meets P past made law there.early (Put q f.1) there.late there.cut in
    let same : f.1 ≡ hello P (own_name P) = own_hello P (record { journal = there.early; memory = may.0 }) f.1 may.1 (greets f.1 f.4) in
    ap says_coordinated (sym same) ∙ f.4
  where
    greets : (m : Content) → says_coordinated m ≡ true → is_hello m ≡ true
    greets (contents.Hello name role address) h = refl
    greets contents.Leave h = absurd cc
    greets (contents.NextStep at size) h = absurd cc
    greets (contents.ServiceAdd service) h = absurd cc
    greets contents.ServicesEnd h = absurd cc
    greets (contents.Status state until) h = absurd cc
    greets (contents.Workflow required) h = absurd cc
    greets contents.Abort h = absurd cc
    greets (contents.Refuse reason) h = absurd cc
    greets (contents.Can head' frame) h = absurd cc
    greets (contents.Eth head' payload) h = absurd cc
    greets (contents.Lin head' frame) h = absurd cc
    greets (contents.LinResponse head' response) h = absurd cc
    greets (contents.Publish head' payload) h = absurd cc
    greets (contents.Call head' call payload) h = absurd cc
    greets (contents.Reply head' client call payload) h = absurd cc

refused_by : (a b : Bool) → (a && not b) ≡ false → a ≡ true → b ≡ true
refused_by true true h i = refl
refused_by true false h i = absurd cc
refused_by false b h i = absurd cc

-- ## Two participants

-- where p's journal goes on to Running for the first time, q has told it before that it is ready
abbrev Told : Setup → Past → ℕ → Type 0
Told P sender q = (before after : List Entry) → sender.journal ≡ before ++ Entered Running ∷ after → is_state ReadyToRun (state_of before) ≡ true → list_any tells_ready (got before q) ≡ true

module _ (P R : Setup) (sender receiver : Past) (sent_by got_by : List Made) (p q : ℕ)
    (law_p : Lawful P sender sent_by) (law_q : Lawful R receiver got_by)
    (peer : is_peer R p ≡ true) (named : slice_index_or R.names p [] ≡ own_name P)
    (orderly : IsOrderly (own_name P) (put sender.journal q)) (spoke : Spoken R p receiver)
    (linked : IsPrefix (got receiver.journal p) (put sender.journal q)) (back : IsPrefix (got sender.journal q) (put receiver.journal p))
    (told : P.coordinated ≡ true → R.coordinated ≡ true → is_among (own_name R) R.required ≡ true → Told P sender q)
    (needs : (past : Past) (rest : List Entry) → receiver.journal ≡ past.journal ++ rest → R.coordinated ≡ true → is_among (own_name R) (required_by R (taken R past)) ≡ true → is_among (own_name R) R.required ≡ true) where
  tells_status : (m : Content) → tells_ready m ≡ true → (e : List Entry) (memory : Memory) → Meets R (record { journal = e; memory = memory }) (Put p m) → has_reached (state_of e) ReadyToRun ≡ true
  tells_status (contents.Hello name role address) h e memory may = absurd cc
  tells_status contents.Leave h e memory may = absurd cc
  tells_status (contents.NextStep at size) h e memory may = absurd cc
  tells_status (contents.ServiceAdd service) h e memory may = absurd cc
  tells_status contents.ServicesEnd h e memory may = absurd cc
  tells_status (contents.Status state until) h e memory may = ap (λ s. has_reached s ReadyToRun) (sym may) ∙ h
  tells_status (contents.Workflow required) h e memory may = absurd cc
  tells_status contents.Abort h e memory may = absurd cc
  tells_status (contents.Refuse reason) h e memory may = absurd cc
  tells_status (contents.Can head' frame) h e memory may = absurd cc
  tells_status (contents.Eth head' payload) h e memory may = absurd cc
  tells_status (contents.Lin head' frame) h e memory may = absurd cc
  tells_status (contents.LinResponse head' response) h e memory may = absurd cc
  tells_status (contents.Publish head' payload) h e memory may = absurd cc
  tells_status (contents.Call head' call payload) h e memory may = absurd cc
  tells_status (contents.Reply head' client call payload) h e memory may = absurd cc

  -- where q has told that it is ready, and has told nothing since this front, it was ready there
  ready_in : (front tail : List Entry) → receiver.journal ≡ front ++ tail → put tail p ≡ [] → (ms rest : List Content) → put receiver.journal p ≡ ms ++ rest → list_any tells_ready ms ≡ true → is_on (state_of front) ≡ true
  ready_in front tail is none ms rest puts ready =
      let f = some_at tells_ready ms ready in
      let all : put receiver.journal p ≡ f.0 ++ f.1 ∷ (f.2 ++ rest) = puts ∙ ap (λ x. x ++ rest) f.3 ∙ append_assoc f.0 (f.1 ∷ f.2) rest in
      let there = put_at receiver.journal p f.0 f.1 (f.2 ++ rest) all in
      let meets : EachMeets R receiver.journal = lawful_meets R receiver got_by law_q in
      let may = meets there.early (Put p f.1) there.late there.cut in
      let here : is_on (state_of there.early) ≡ true = reached_on (state_of there.early) (tells_status f.1 f.4 there.early may.0 may.1) in
      let fronts : EachMeets R front = front_meets R front tail (subst (EachMeets R) is meets) in
      ⊎_elim
      (λ (a : (r : List Entry) × (front ≡ there.early ++ Put p f.1 ∷ r)).
      let g : is_on (state_of front) ≡ true =
      ap (λ es. is_on (state_of es)) a.1 ∙ state_along R is_on on_edge there.early (Put p f.1 ∷ a.0) (subst (EachMeets R) a.1 fronts) here in g)
      (λ (a : (r : List Entry) × (there.early ≡ front ++ r) × (tail ≡ r ++ Put p f.1 ∷ there.late)).
      let self : put_to p (Put p f.1) ≡ Some f.1 = ap (λ b. if b then Some f.1 else None) (let t : (p == p) ≡ true = grind (arith, nat_tests) in t) in
      let k : put a.0 p ++ cons_option (put_to p (Put p f.1)) (put there.late p) ≡ [] = sym (put-append a.0 (Put p f.1 ∷ there.late) p) ∙ ap (λ es. put es p) (sym a.2) ∙ none in
      let n = ap length (ap (λ o. put a.0 p ++ cons_option o (put there.late p)) (sym self) ∙ k) in
      let l = length-append (put a.0 p) (f.1 ∷ put there.late p) in
      let g : is_on (state_of front) ≡ true = absurd (omega arith) in g)
      (split front tail there.early (Put p f.1) there.late (sym is ∙ there.cut))

  -- p has announced, so q has told it that it is ready
  announced_ready : (ms : List Content) (u size : ℕ) (rest : List Content) → put sender.journal q ≡ ms ++ contents.NextStep u size ∷ rest → is_coordinated ms ≡ true → R.coordinated ≡ true → is_among (own_name R) R.required ≡ true →
      (ns more : List Content) × (put receiver.journal p ≡ ns ++ more) × (list_any tells_ready ns ≡ true)
  unfolding Ran at_work
  announced_ready ms u size rest is coordinated co among =
      let meets : EachMeets P sender.journal = lawful_meets P sender sent_by law_p in
      let there = put_at sender.journal q ms (contents.NextStep u size) rest is in
      let may = meets there.early (Put q (contents.NextStep u size)) there.late there.cut in
      let first = first_at is_running_entry there.early may.1.3 in
      let entered : first.1 ≡ Entered Running = is_running first.1 first.4 in
      let cut : sender.journal ≡ first.0 ++ Entered Running ∷ (first.2 ++ Put q (contents.NextStep u size) ∷ there.late) =
      there.cut ∙ ap (λ es. es ++ Put q (contents.NextStep u size) ∷ there.late) (first.3 ∙ ap (λ e. first.0 ++ e ∷ first.2) entered) ∙ append_assoc first.0 (Entered Running ∷ first.2) (Put q (contents.NextStep u size) ∷ there.late) in
      let here = meets first.0 (Entered Running) (first.2 ++ Put q (contents.NextStep u size) ∷ there.late) cut in
      let front : EachMeets P first.0 = front_meets P first.0 (Entered Running ∷ (first.2 ++ Put q (contents.NextStep u size) ∷ there.late)) (subst (EachMeets P) cut meets) in
      let ran : Ran first.0 = along P Ran (ran_kept P) [] first.0 front nothing_ran in
      let ready : is_state ReadyToRun (state_of first.0) ≡ true = ⊎_elim
      (λ (r : is_state ReadyToRun (state_of first.0) ≡ true). r)
      (λ (r : is_state Paused (state_of first.0) ≡ true).
      let k = sym first.5 ∙ ran (or_right (is_state Running (state_of first.0)) (is_state Paused (state_of first.0)) r) in let g : is_state ReadyToRun (state_of first.0) ≡ true = absurd cc in g)
      (split_or (is_state ReadyToRun (state_of first.0)) (is_state Paused (state_of first.0)) (before_run (state_of first.0) here.1.edge)) in
      let heard = told (coordinated_got P sender sent_by law_p q ms (contents.NextStep u size ∷ rest) is coordinated) co among first.0 (first.2 ++ Put q (contents.NextStep u size) ∷ there.late) cut ready in
      let tail : List Entry = Entered Running ∷ (first.2 ++ Put q (contents.NextStep u size) ∷ there.late) in
      (got first.0 q, got tail q ++ back.0, sym back.1 ∙ ap (λ x. x ++ back.0) (ap (λ es. got es q) cut ∙ got-append first.0 tail q) ∙ append_assoc (got first.0 q) (got tail q) back.0, heard)

  -- the new line never fires
  no_bar : (was : Past) (m : Content) (more : List Content) (tail : List Entry) → receiver.journal ≡ ((was.journal ++ Got p m ∷ []) ++ Gone p 8 ∷ []) ++ tail → put sender.journal q ≡ got was.journal p ++ m ∷ more →
      from R was p ≡ got was.journal p → (is_awaited R (seen R was) && shows_running (from R was p) m) ≡ true → ⊥
  unfolding is_awaited is_on
  no_bar was m more tail is puts same both =
      let b = and_parts (is_awaited R (seen R was)) (shows_running (from R was p) m) both in
      let w = and_parts R.coordinated (is_early (seen R was).state && is_among (own_name R) (required_by R (taken R was))) b.0 in
      let v = and_parts (is_early (seen R was).state) (is_among (own_name R) (required_by R (taken R was))) w.1 in
      let among = needs was (Got p m ∷ (Gone p 8 ∷ tail)) (is ∙ append_assoc (was.journal ++ Got p m ∷ []) (Gone p 8 ∷ []) tail ∙ append_assoc was.journal (Got p m ∷ []) (Gone p 8 ∷ tail)) w.0 v.1 in
      let early : is_early (state_of was.journal) ≡ true = ap is_early (sym (seen_state R was.memory.tools was.journal unseen)) ∙ v.0 in
      let front : List Entry = (was.journal ++ Got p m ∷ []) ++ Gone p 8 ∷ [] in
      let state : state_of front ≡ state_of was.journal = state_of-add (was.journal ++ Got p m ∷ []) (Gone p 8) ∙ state_of-add was.journal (Got p m) in
      let lost : is_gone front p ≡ true = list_any-append (is_gone_entry p) (was.journal ++ Got p m ∷ []) (Gone p 8 ∷ []) ∙ or_right (is_gone (was.journal ++ Got p m ∷ []) p) ((p == p) || false) (or_left (p == p) false (let t : (p == p) ≡ true = grind (arith, nat_tests) in t)) in
      let none : put tail p ≡ [] = spoke.silent front tail is lost in
      let r = announced m puts (ap (λ ms. shows_running ms m) (sym same) ∙ b.1) w.0 among in
      let ready = ready_in front tail is none r.0 r.1 r.2 r.3 in
      let k = (and_parts (not (is_early (state_of front))) (not (is_state Invalid (state_of front))) ready).0 in
      let l = ap (λ s. not (is_early s)) state in let n = ap not early in absurd (let o = sym k ∙ l ∙ n in cc)
    where
      announced : (m : Content) → put sender.journal q ≡ got was.journal p ++ m ∷ more → shows_running (got was.journal p) m ≡ true → R.coordinated ≡ true → is_among (own_name R) R.required ≡ true →
          (ns rest : List Content) × (put receiver.journal p ≡ ns ++ rest) × (list_any tells_ready ns ≡ true)
      announced (contents.NextStep u size) e h co among = announced_ready (got was.journal p) u size more e h co among
      announced (contents.Hello name role address) e h co among = absurd cc
      announced contents.Leave e h co among = absurd cc
      announced (contents.ServiceAdd service) e h co among = absurd cc
      announced contents.ServicesEnd e h co among = absurd cc
      announced (contents.Status state until) e h co among = absurd cc
      announced (contents.Workflow required) e h co among = absurd cc
      announced contents.Abort e h co among = absurd cc
      announced (contents.Refuse reason) e h co among = absurd cc
      announced (contents.Can head' frame) e h co among = absurd cc
      announced (contents.Eth head' payload) e h co among = absurd cc
      announced (contents.Lin head' frame) e h co among = absurd cc
      announced (contents.LinResponse head' response) e h co among = absurd cc
      announced (contents.Publish head' payload) e h co among = absurd cc
      announced (contents.Call head' call payload) e h co among = absurd cc
      announced (contents.Reply head' client call payload) e h co among = absurd cc

  -- what comes next of p may be said
  may_be_said : (was : Past) (m : Content) (more : List Content) → put sender.journal q ≡ got was.journal p ++ m ∷ more → from R was p ≡ got was.journal p →
      may_say_as (slice_get (R.names ++ was.memory.tools) p) (nat_le (length R.names) p) (from R was p) m ≡ true
  may_be_said was m more puts same =
      let b = (and_parts (nat_lt p (length R.names)) (not (p == R.number)) peer).0 in let c : nat_lt p (length R.names) ≡ true = b in
      let other : nat_le (length R.names) p ≡ false = grind (arith, nat_tests) in
      let lt : p < length R.names = grind (arith, nat_tests) in
      ap (λ t. may_say_as (slice_get (R.names ++ was.memory.tools) p) t (from R was p) m) other
      ∙ ap (λ n. may_say_as n false (from R was p) m) (get_left R.names was.memory.tools p lt ∙ slice_get-get_or R.names p [] lt ∙ ap (λ n. Some n) named)
      ∙ ap (λ ms. may_say false (own_name P) (said_of ms) m) same ∙ orderly (got was.journal p) m more puts

  self_got : (m : Content) → got_from p (Got p m) ≡ Some m
  self_got m = ap (λ b. if b then Some m else None) (let t : (p == p) ≡ true = grind (arith, nat_tests) in t)

  taken_got : (was : Past) (m : Content) (g : ℕ) → from R was p ≡ got was.journal p → comes_in_order R was g m ≡ true → from R (add (Got g m) was) p ≡ got (was.journal ++ Got g m ∷ []) p
  taken_got was m g same order =
      ap (λ (s : Seen). of_peer p s.taken) (fold-append (seen_after R was.memory.tools) unseen was.journal (Got g m ∷ []) ∙ ap (λ c. if c then take_in g m (seen R was) else seen R was) order)
      ∙ filter_map-append (taken_of p) (taken R was) (record { peer = g; message = m } ∷ [])
      ∙ ap (λ xs. xs ++ cons_option (got_from p (Got g m)) []) same
      ∙ sym (got-append was.journal (Got g m ∷ []) p)

  other_got : (was : Past) (m : Content) (g : ℕ) → from R was p ≡ got was.journal p → comes_in_order R was g m ≡ false → (g == p) ≡ false → from R (add (Got g m) was) p ≡ got (was.journal ++ Got g m ∷ []) p
  other_got was m g same order other =
      ap (λ (s : Seen). of_peer p s.taken) (fold-append (seen_after R was.memory.tools) unseen was.journal (Got g m ∷ []) ∙ ap (λ c. if c then take_in g m (seen R was) else seen R was) order)
      ∙ same ∙ sym (got-append was.journal (Got g m ∷ []) p ∙ ap (λ b. got was.journal p ++ cons_option (if b then Some m else None) []) other ∙ append-nil (got was.journal p))

  -- none of them is refused
  refused : (was : Past) (m : Content) (tail : List Entry) → receiver.journal ≡ ((was.journal ++ Got p m ∷ []) ++ Gone p 8 ∷ []) ++ tail →
      from R was p ≡ got was.journal p → comes_in_order R was p m ≡ false → ⊥
  unfolding is_in_order
  refused was m tail is same order =
      let more : List Entry = (Gone p 8 ∷ []) ++ tail in
      let heard : got receiver.journal p ≡ got was.journal p ++ m ∷ got more p =
      ap (λ es. got es p) (is ∙ append_assoc (was.journal ++ Got p m ∷ []) (Gone p 8 ∷ []) tail ∙ append_assoc was.journal (Got p m ∷ []) more)
      ∙ got-append was.journal (Got p m ∷ more) p ∙ ap (λ o. got was.journal p ++ cons_option o (got more p)) (self_got m) in
      let puts : put sender.journal q ≡ got was.journal p ++ m ∷ (got more p ++ linked.0) = sym linked.1 ∙ ap (λ x. x ++ linked.0) heard ∙ append_assoc (got was.journal p) (m ∷ got more p) linked.0 in
      let says = may_be_said was m (got more p ++ linked.0) puts same in
      no_bar was m (got more p ++ linked.0) tail is puts same (refused_by _ _ order says)

  -- one message more
  next_got : (was : Past) (calls : List Made) → Lawful R was calls → (m : Content) (g : ℕ) (made : List Made) (last : Past) → Adds any (get R g m made was) last → (rest : List Entry) → receiver.journal ≡ last.journal ++ rest →
      from R was p ≡ got was.journal p → from R (add (Got g m) was) p ≡ got (was.journal ++ Got g m ∷ []) p
  unfolding get is_in_order
  next_got was calls law m g made last a rest is same = on (comes_in_order R was g m) refl a
    where
      on : (c : Bool) → comes_in_order R was g m ≡ c → Adds any (if c then heed R g m made (add (Got g m) was) else lose R g 8 (add (Got g m) was)) last → from R (add (Got g m) was) p ≡ got (was.journal ++ Got g m ∷ []) p
      on true e a = taken_got was m g same e
      on false e a = here (g == p) refl
        where
          lost : Adds any (add (Gone g 8) (add (Got g m) was)) last
          lost = both (growth.rest_of_lost all_kinds R g 8 (add (Got g m) was)) a

          shape : receiver.journal ≡ ((was.journal ++ Got g m ∷ []) ++ Gone g 8 ∷ []) ++ (lost.new ++ rest)
          shape = is ∙ ap (λ es. es ++ rest) lost.is ∙ append_assoc ((was.journal ++ Got g m ∷ []) ++ Gone g 8 ∷ []) lost.new rest

          -- a message of p is in order
          mine : g ≡ p → ⊥
          mine f =
              refused was m (lost.new ++ rest) (subst (λ x. receiver.journal ≡ ((was.journal ++ Got x m ∷ []) ++ Gone x 8 ∷ []) ++ (lost.new ++ rest)) f shape) same
              (ap (λ x. comes_in_order R was x m) (sym f) ∙ e)

          here : (c : Bool) → (g == p) ≡ c → from R (add (Got g m) was) p ≡ got (was.journal ++ Got g m ∷ []) p
          here true f = absurd (mine (eqb-true g p f))
          here false f = other_got was m g same e f

  pub in_order : (past : Past) (made : List Made) → Lawful R past made → (rest : List Entry) → receiver.journal ≡ past.journal ++ rest → from R past p ≡ got past.journal p
  in_order past made starts rest is =
      ap (of_peer p) (untaken R (making R).memory.tools (making R).journal unseen (quiet_no_got (making R).journal (making_quiet R)))
      ∙ sym (no_got (making R).journal p (quiet_no_got (making R).journal (making_quiet R)))
  in_order past made (goes_on was now before more law h) rest is =
      let last : Past = judge_limits R now in
      let a = whole R was more now h in
      let same : from R was p ≡ got was.journal p = in_order was before law (a.new ++ rest) (is ∙ ap (λ es. es ++ rest) a.is ∙ append_assoc was.journal a.new rest) in
      let f : Faithful R was = faithful R was before law in
      let lim : Adds is_no_got now last = quietly (growth.limits quiet R now) in
      ⊎_elim
      (λ (g : HasGot R was more now).
      let mid : Past = add (Got g.p g.m) was in
      let got_it : Adds any (get R g.p g.m more was) last = subst (λ (x : Past). Adds any x last) g.is (as_any lim) in
      let later : Adds is_no_got mid last = both (subst (λ (x : Past). Adds is_no_got mid x) (sym g.is) (growth.rest_of_got no_got_calm (λ p k r. refl) (λ p r. refl) R g.p g.m more was (messages_of R was more now g))) lim in
      let r : from R last p ≡ got last.journal p =
      ap (of_peer p) (same_taken R later (below_more R was g.p g.m g.linked f.below))
      ∙ next_got was before law g.m g.p more last got_it rest is same ∙ sym (same_got later p) in r)
      (λ (b : Adds is_quiet was now).
      let later : Adds is_no_got was last = both (quietly b) lim in
      let r : from R last p ≡ got last.journal p = ap (of_peer p) (same_taken R later f.below) ∙ same ∙ sym (same_got later p) in r)
      (cases R was more now h)

  -- so p isn't gone for that reason
  pub not_gone : (past : Past) (made : List Made) → Lawful R past made → (rest : List Entry) → receiver.journal ≡ past.journal ++ rest →
      (before after : List Entry) → past.journal ≡ before ++ Gone p 8 ∷ after → ⊥
  not_gone past made starts rest is before after e =
      let h = outside is_no_gone (making R).journal before (Gone p 8) after (making_all no_gone R) e in cc
  not_gone past made (goes_on was now calls more law h) rest is before after e =
      let last : Past = judge_limits R now in
      let a = whole R was more now h in
      let same : from R was p ≡ got was.journal p = in_order was calls law (a.new ++ rest) (is ∙ ap (λ es. es ++ rest) a.is ∙ append_assoc was.journal a.new rest) in
      let lim : Adds is_no_gone now last = growth.limits no_gone R now in
      let inner = in_front is_no_gone now.journal lim.new before (Gone p 8) after lim.all refl (sym lim.is ∙ e) in
      let old : (r : List Entry) → was.journal ≡ before ++ Gone p 8 ∷ r → ⊥ =
      (λ r f. not_gone was calls law (a.new ++ rest) (is ∙ ap (λ es. es ++ rest) a.is ∙ append_assoc was.journal a.new rest) before r f) in
      ⊎_elim
      (λ (g : HasLost R was now).
      let behind : Adds is_no_gone (add (Gone g.p g.reason) g.mid) now = subst (λ (x : Past). Adds is_no_gone (add (Gone g.p g.reason) g.mid) x) (sym g.is) (growth.rest_of_lost no_gone R g.p g.reason g.mid) in
      let there = in_front is_no_gone (g.mid.journal ++ Gone g.p g.reason ∷ []) behind.new before (Gone p 8) inner.0 behind.all refl (sym behind.is ∙ inner.1) in
      let r : ⊥ = ⊎_elim
      (λ (x : (g.mid.journal ≡ before) × (Gone g.p g.reason ≡ Gone p 8)).
      let peer' : g.p ≡ p = (let f = x.1 in cc) in let why : g.reason ≡ 8 = (let f = x.1 in cc) in
      let k : ⊥ = ⊎_elim
      (λ (loss : is_loss g.reason ≡ true). let l = ap is_loss (sym why) ∙ loss in let z : ⊥ = cc in z)
      (λ (o : (m : Content) × (g.reason ≡ 8) × (g.mid ≡ add (Got g.p m) was) × (comes_in_order R was g.p m ≡ false)).
      let tail : List Entry = behind.new ++ (lim.new ++ rest) in
      let shape : receiver.journal ≡ (g.mid.journal ++ Gone g.p g.reason ∷ []) ++ tail =
      is ∙ ap (λ es. es ++ rest) (lim.is ∙ ap (λ es. es ++ lim.new) behind.is)
      ∙ append_assoc ((g.mid.journal ++ Gone g.p g.reason ∷ []) ++ behind.new) lim.new rest ∙ append_assoc (g.mid.journal ++ Gone g.p g.reason ∷ []) behind.new (lim.new ++ rest) in
      let shape' : receiver.journal ≡ ((was.journal ++ Got p o.0 ∷ []) ++ Gone p 8 ∷ []) ++ tail =
      shape ∙ ap (λ e. (g.mid.journal ++ e ∷ []) ++ tail) x.1 ∙ ap (λ (y : Past). (y.journal ++ Gone p 8 ∷ []) ++ tail) o.2 ∙ ap (λ y. ((was.journal ++ Got y o.0 ∷ []) ++ Gone p 8 ∷ []) ++ tail) peer' in
      let z : ⊥ = refused was o.0 tail shape' same (ap (λ y. comes_in_order R was y o.0) (sym peer') ∙ o.3) in z)
      g.cause in k)
      (λ (x : (r : List Entry) × (g.mid.journal ≡ before ++ Gone p 8 ∷ r)).
      let w = in_front is_no_gone was.journal g.first.new before (Gone p 8) x.0 g.first.all refl (sym g.first.is ∙ x.1) in
      let z : ⊥ = old w.0 w.1 in z)
      (last_or_before g.mid.journal (Gone g.p g.reason) before (Gone p 8) there.0 there.1) in r)
      (λ (b : Adds is_no_gone was now).
      let w = in_front is_no_gone was.journal b.new before (Gone p 8) inner.0 b.all refl (sym b.is ∙ inner.1) in
      let z : ⊥ = old w.0 w.1 in z)
      (lost_cases R was more now h)

-- ## All of them

index_of : {X : Type 0} (xs front : List X) (x : X) (rest : List X) → xs ≡ front ++ x ∷ rest → slice_get xs (length front) ≡ Some x
index_of {X} xs front x rest e = ap (λ ys. slice_get ys (length front)) e ∙ at front
  where
    at : (front : List X) → slice_get (front ++ x ∷ rest) (length front) ≡ Some x
    at [] = refl
    at (y ∷ front) = at front

pub none_out : NoneOutOfOrder
none_out names members w required agreed p q sender receiver sp sq apart = (
  in_order P R sender.past receiver.past sender.made receiver.made p q law_p law_q (other_peer names members w p q sender receiver sp sq apart) named
      (spoken P q (other_peer names members w q p receiver sender sq sp (λ e. apart (sym e))) (sized P (w.setups p sender sp)) (w.setups p sender sp).numbered sender.past sender.made law_p).orderly
      (spoken R p (other_peer names members w p q sender receiver sp sq apart) (sized R (w.setups q receiver sq)) (w.setups q receiver sq).numbered receiver.past receiver.made law_q)
      (w.linked p q sender receiver sp sq apart) (w.linked q p receiver sender sq sp (λ e. apart (sym e)))
      told needs receiver.past receiver.made law_q [] (sym (append-nil receiver.past.journal)),
  not_gone P R sender.past receiver.past sender.made receiver.made p q law_p law_q (other_peer names members w p q sender receiver sp sq apart) named
      (spoken P q (other_peer names members w q p receiver sender sq sp (λ e. apart (sym e))) (sized P (w.setups p sender sp)) (w.setups p sender sp).numbered sender.past sender.made law_p).orderly
      (spoken R p (other_peer names members w p q sender receiver sp sq apart) (sized R (w.setups q receiver sq)) (w.setups q receiver sq).numbered receiver.past receiver.made law_q)
      (w.linked p q sender receiver sp sq apart) (w.linked q p receiver sender sq sp (λ e. apart (sym e)))
      told needs receiver.past receiver.made law_q [] (sym (append-nil receiver.past.journal)),
)
  where
    P : Setup
    P = sender.setup

    R : Setup
    R = receiver.setup

    law_p : Lawful P sender.past sender.made
    law_p = w.lawful p sender sp

    law_q : Lawful R receiver.past receiver.made
    law_q = w.lawful q receiver sq

    names_p : P.names ≡ names
    names_p = names_at (λ (m : Member). m.setup.names) names members names p sender w.all sp

    names_q : R.names ≡ names
    names_q = names_at (λ (m : Member). m.setup.names) names members names q receiver w.all sq

    named : slice_index_or R.names p [] ≡ own_name P
    named = ap (λ ns. slice_index_or ns p []) (names_q ∙ sym names_p) ∙ ap (λ i. slice_index_or P.names i []) (sym (w.numbered p sender sp))

    needs : (past : Past) (rest : List Entry) → receiver.past.journal ≡ past.journal ++ rest → R.coordinated ≡ true → is_among (own_name R) (required_by R (taken R past)) ≡ true → is_among (own_name R) R.required ≡ true
    needs past rest is co h = on R.required refl
      where
        on : (o : Option (List (List ℕ))) → R.required ≡ o → is_among (own_name R) R.required ≡ true
        on (Some r) e = ap (is_among (own_name R)) (e ∙ sym (ap (λ o. option_or o (slice_get (filter_map required_in (taken R past)) 0)) e)) ∙ h
        on None e =
            let alone : receiver.past.memory.tools ≡ [] = agreed.alone q receiver sq co (sym (agreed.same q receiver sq co) ∙ e) in
            let f : Faithful R receiver.past = faithful R receiver.past receiver.made law_q in
            let bound : length R.names + length receiver.past.memory.tools ≡ length R.names = (let l = ap length alone in omega arith) in
            let all : list_all (got_below (length R.names)) (past.journal ++ rest) ≡ true = ap (list_all (got_below (length R.names))) (sym is) ∙ ap (λ k. list_all (got_below k) receiver.past.journal) (sym bound) ∙ f.below in
            let below = (and_parts _ _ (sym (list_all-append (got_below (length R.names)) past.journal rest) ∙ all)).0 in
            let none : filter_map required_in (taken R past) ≡ [] = no_workflow R past.memory.tools past.journal unseen below refl in
            let k = sym h ∙ ap (λ o. is_among (own_name R) (option_or o (slice_get (filter_map required_in (taken R past)) 0))) e ∙ ap (λ xs. is_among (own_name R) (option_or None (slice_get xs 0))) none in absurd cc

    own_at : slice_get P.names q ≡ Some (own_name R)
    own_at =
        let len = sym (length-map members (λ (m : Member). m.setup.names)) ∙ ap length w.all ∙ length-map names (λ name. names) in
        let lt = slice_get_within members q receiver sq in let named' = ap length names_p in
        slice_get-get_or P.names q [] (omega arith) ∙ ap (λ ns. Some (slice_index_or ns q [])) (names_p ∙ sym names_q) ∙ ap (λ i. Some (slice_index_or R.names i [])) (sym (w.numbered q receiver sq))

    told : P.coordinated ≡ true → R.coordinated ≡ true → is_among (own_name R) R.required ≡ true → Told P sender.past q
    told cp cq among before after is ready = on required refl
      where
        on : (o : Option (List (List ℕ))) → required ≡ o → list_any tells_ready (got before q) ≡ true
        on None e = let k = sym among ∙ ap (is_among (own_name R)) (agreed.same q receiver sq cq ∙ e) in absurd cc
        on (Some names') e =
            let r = agreed.same q receiver sq cq ∙ e in
            let f = some_at (bytes_eq (own_name R)) names' (ap (is_among (own_name R)) (sym r) ∙ among) in
            let same : own_name R ≡ f.1 = bytes_same (own_name R) f.1 f.4 in
            let place : position (bytes_eq f.1) P.names ≡ Some q = ap (λ n. position (bytes_eq n) P.names) (sym same) ∙ place_in P.names q (own_name R) (ap are_sorted names_p ∙ w.sorted) own_at in
            (barrier names members w p sender sp before after names' (record { coordinated = cp; is = is; ready = ready; needs = required_is P (record sender.past { journal = before }) names' (agreed.same p sender sp cp ∙ e) }) (length f.0) q f.1 receiver (index_of names' f.0 f.1 f.2 f.3) place sq (λ e. apart (sym e))).0
