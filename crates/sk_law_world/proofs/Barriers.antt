-- The barrier.
use Rattle.std.specs.Prelude.{◌≡◌, ◌⊎◌, refl, ℕ, zero, suc, ◌+◌, ◌==◌, Bool, true, false, not, ◌&&◌, ◌||◌, List, [], ◌∷◌, ◌++◌, map, length, Option, Some, None, slice_get, position, option_and_then, unwrap_or, if◌then◌else◌}
use Rattle.std.specs.Bool.{then_some}
use Rattle.std.specs.List.{fold, filter_map, cons_option, list_all, list_any, last_or}
use Rattle.std.specs.Option.{option_or}
use Rattle.std.specs.Str.{bytes_eq}
use Rattle.std.proofs.lemmas.Bool.{and_parts, and_from, ne_eqb}
use Rattle.std.proofs.lemmas.List.Folds.{list_all-append, list_any-append}
use Rattle.std.proofs.lemmas.List.Elements.{filter_map-append}
use Rattle.std.proofs.Common.{ap, sym, ◌∙◌, subst, append_assoc, length-append, arith, inl, inr, ⊎_elim}
use Rattle.sk_msg.specs.declared.content.Content.{Content}
use Rattle.sk_msg.specs.declared.content.Content.TheVariants as contents
use Rattle.sk_msg.specs.declared.state.State.{State}
use Rattle.sk_msg.specs.declared.state.State.TheVariants.{Invalid, ReadyToRun, Running, Shutdown, Aborting}
use Rattle.sk_msg.specs.States.{is_state, has_reached}
use Rattle.sk_msg.specs.Edges.{has_edge, has_edge_of, IsPath}
use Rattle.sk_law_world.proofs.StateLaws.{is_state-same, each_state, each_pair}
use Rattle.sk_system.specs.System.{all_reached as all_have, all_required_reached, last_states}
use Rattle.sk_msg.specs.declared.entry.Entry.{Entry}
use Rattle.sk_msg.specs.declared.entry.Entry.TheVariants.{Got, Put, Hand, State as Entered, System as Judged, Begin, Done, End, Ask, Gone, Stray, Did, Fault}
use Rattle.sk_law.specs.declared.made.Made.{Made}
use Rattle.sk_law.specs.declared.setup.Setup.{Setup}
use Rattle.sk_law.specs.declared.memory.Memory.{Memory}
use Rattle.sk_law.specs.Past.{Past, add}
use Rattle.sk_law.specs.Readings.{got, got_from, put, state_in, states, state_of}
use Rattle.sk_law.specs.Order.{state_in as told_in, status_of}
use Rattle.sk_law.specs.Links.{required_in, taken, Seen, unseen, take_in, is_in_order, taken_of, of_peer, seen_after, from, required, known, known_state, all_reached}
use Rattle.sk_law.specs.Rows.{Move, row, row_in}
use Rattle.sk_law.specs.Lawful.{Lawful}
use Rattle.sk_law_world.specs.Meets.{Meets, EachMeets, MayEnter, is_by_row}
use mathlib.Core.List.{IsPrefix}
use Rattle.sk_law_world.specs.Barrier.{tells_ready, IsReadyOrAborted, ReadyWereTold, AllReadyBeforeRunning}
use Rattle.sk_law_world.proofs.Built as built
use Rattle.sk_law_world.proofs.Built.{Built, all_of}
use Rattle.sk_law_world.proofs.Meetings.{lawful_meets, lawful_built, last_or_before, not_empty}
use Rattle.sk_law_world.proofs.Heeds.{bound_of, got_below, still_below, linked_below, seen_so}
use Rattle.sk_law_world.proofs.Walks.{last_of, Path, step}
use Rattle.sk_law_world.proofs.Floors.{along}
use Rattle.sk_law_world.proofs.Onces.{got-append}
use Rattle.sk_law_world.proofs.Lists.{some_at}
use Rattle.sk_law_world.proofs.Fates.{state_along, front_meets}
use Rattle.sk_law_world.proofs.Worlds.{put_at, or_rest, or_left, or_right, shut_edge}

-- ## Bool

implies : (a b : Bool) → (not a || b) ≡ true → a ≡ true → b ≡ true
implies a b h e = or_rest a b h e

or_split : (a b : Bool) → (a || b) ≡ true → (a ≡ true) ⊎ (b ≡ true)
or_split true b h = inl refl
or_split false b h = inr h

-- ## What a participant knows

-- what came in order was got
within : (S : Setup) (tools : List (List ℕ)) (test : Content → Bool) (p : ℕ) (es : List Entry) (s : Seen) →
    list_any test (of_peer p (fold (seen_after S tools) s es).taken) ≡ true → (list_any test (of_peer p s.taken) || list_any test (got es p)) ≡ true
within S tools test p [] s h = or_left (list_any test (of_peer p s.taken)) false h
within S tools test p (Got q m ∷ es) s h = on (is_in_order S tools s q m) (λ s' k. within S tools test p es s' k) h
  where
    shuffle : (a b c : Bool) → ((a || b) || c) ≡ true → (a || (b || c)) ≡ true
    shuffle true b c i = refl
    shuffle false b c i = i

    later : (a b c : Bool) → (a || c) ≡ true → (a || (b || c)) ≡ true
    later true b c i = refl
    later false true c i = refl
    later false false c i = i

    one : (o : Option Content) (ms : List Content) → list_any test (cons_option o ms) ≡ (list_any test (cons_option o []) || list_any test ms)
    one None ms = refl
    one (Some x) ms = two (test x) (list_any test ms)
      where
        two : (a b : Bool) → (a || b) ≡ ((a || false) || b)
        two true b = refl
        two false b = refl

    on : (c : Bool) → ((s' : Seen) → list_any test (of_peer p (fold (seen_after S tools) s' es).taken) ≡ true → (list_any test (of_peer p s'.taken) || list_any test (got es p)) ≡ true) →
        list_any test (of_peer p (fold (seen_after S tools) (if c then take_in q m s else s) es).taken) ≡ true →
        (list_any test (of_peer p s.taken) || list_any test (got (Got q m ∷ es) p)) ≡ true
    on true more k =
        let a = more (take_in q m s) k in
        let b : (list_any test (of_peer p s.taken ++ cons_option (got_from p (Got q m)) []) || list_any test (got es p)) ≡ true =
        ap (λ x. list_any test x || list_any test (got es p)) (sym (filter_map-append (taken_of p) s.taken (record { peer = q; message = m } ∷ []))) ∙ a in
        let c : ((list_any test (of_peer p s.taken) || list_any test (cons_option (got_from p (Got q m)) [])) || list_any test (got es p)) ≡ true =
        ap (λ x. x || list_any test (got es p)) (sym (list_any-append test (of_peer p s.taken) (cons_option (got_from p (Got q m)) []))) ∙ b in
        ap (λ x. list_any test (of_peer p s.taken) || x) (one (got_from p (Got q m)) (got es p))
        ∙ shuffle (list_any test (of_peer p s.taken)) (list_any test (cons_option (got_from p (Got q m)) [])) (list_any test (got es p)) c
    on false more k =
        ap (λ x. list_any test (of_peer p s.taken) || x) (one (got_from p (Got q m)) (got es p))
        ∙ later (list_any test (of_peer p s.taken)) (list_any test (cons_option (got_from p (Got q m)) [])) (list_any test (got es p)) (more s k)
within S tools test p (Entered to ∷ es) s h = within S tools test p es (record s { state = to }) h
within S tools test p (Put x m ∷ es) s h = within S tools test p es s h
within S tools test p (Hand x k r ∷ es) s h = within S tools test p es s h
within S tools test p (Judged x ∷ es) s h = within S tools test p es s h
within S tools test p (Begin x t ∷ es) s h = within S tools test p es s h
within S tools test p (Done x ∷ es) s h = within S tools test p es s h
within S tools test p (End x ∷ es) s h = within S tools test p es s h
within S tools test p (Ask c v ∷ es) s h = within S tools test p es s h
within S tools test p (Gone x r ∷ es) s h = within S tools test p es s h
within S tools test p (Stray x ∷ es) s h = within S tools test p es s h
within S tools test p (Did x c m ∷ es) s h = within S tools test p es s h
within S tools test p (Fault x ∷ es) s h = within S tools test p es s h

known_from : (o : Option State) (ms : List Content) → has_reached (unwrap_or (last_or o (filter_map told_in ms)) Invalid) ReadyToRun ≡ true →
    (has_reached (unwrap_or o Invalid) ReadyToRun || list_any tells_ready ms) ≡ true
known_from o [] h = or_left (has_reached (unwrap_or o Invalid) ReadyToRun) false h
known_from o (contents.Status state until ∷ ms) h = or_right (has_reached (unwrap_or o Invalid) ReadyToRun) (list_any tells_ready (contents.Status state until ∷ ms)) (known_from (Some state) ms h)
known_from o (contents.Hello name role address ∷ ms) h = known_from o ms h
known_from o (contents.Leave ∷ ms) h = known_from o ms h
known_from o (contents.NextStep at size ∷ ms) h = known_from o ms h
known_from o (contents.ServiceAdd service ∷ ms) h = known_from o ms h
known_from o (contents.ServicesEnd ∷ ms) h = known_from o ms h
known_from o (contents.Workflow required ∷ ms) h = known_from o ms h
known_from o (contents.Abort ∷ ms) h = known_from o ms h
known_from o (contents.Refuse reason ∷ ms) h = known_from o ms h
known_from o (contents.Can head' frame ∷ ms) h = known_from o ms h
known_from o (contents.Eth head' payload ∷ ms) h = known_from o ms h
known_from o (contents.Lin head' frame ∷ ms) h = known_from o ms h
known_from o (contents.LinResponse head' response ∷ ms) h = known_from o ms h
known_from o (contents.Publish head' payload ∷ ms) h = known_from o ms h
known_from o (contents.Call head' call payload ∷ ms) h = known_from o ms h
known_from o (contents.Reply head' client call payload ∷ ms) h = known_from o ms h

nothing_reached : has_reached Invalid ReadyToRun ≡ false
unfolding has_reached is_state
nothing_reached = refl

-- a state that is known to have reached ReadyToRun was told
known_told : (ms : List Content) → has_reached (unwrap_or (status_of ms) Invalid) ReadyToRun ≡ true → list_any tells_ready ms ≡ true
known_told ms h = ap (λ b. b || list_any tells_ready ms) (sym nothing_reached) ∙ known_from None ms h

all_at : {X : Type 0} (f : X → State) (xs : List X) (i : ℕ) (x : X) → list_all (λ state. has_reached state ReadyToRun) (map f xs) ≡ true → slice_get xs i ≡ Some x → has_reached (f x) ReadyToRun ≡ true
all_at f [] i x h e = absurd cc
all_at f (y ∷ xs) zero x h e = let s : y ≡ x = cc in ap (λ z. has_reached (f z) ReadyToRun) (sym s) ∙ (and_parts (has_reached (f y) ReadyToRun) _ h).0
all_at f (y ∷ xs) (suc i) x h e = all_at f xs i x (and_parts (has_reached (f y) ReadyToRun) _ h).1 e

pub required_is : (S : Setup) (past : Past) (names : List (List ℕ)) → S.required ≡ Some names → required S past ≡ Some names
required_is S past names needs = ap (λ o. option_or o (slice_get (filter_map required_in (taken S past)) 0)) needs

-- where all required have reached ReadyToRun, each of the others has told so
required_told : (S : Setup) (past : Past) (names : List (List ℕ)) (i : ℕ) (name : List ℕ) → S.coordinated ≡ true → required S past ≡ Some names → all_reached S past ReadyToRun ≡ true →
    slice_get names i ≡ Some name → (p : ℕ) × (position (bytes_eq name) S.names ≡ Some p) × ((p ≡ S.number → ⊥) → list_any tells_ready (from S past p) ≡ true)
unfolding all_reached all_have
required_told S past names i name coordinated needs all at = on (position (bytes_eq name) S.names) refl
  where
    a : all_required_reached (required S past) (known S past) ReadyToRun ≡ true
    a = ap (λ c. not c || all_required_reached (required S past) (known S past) ReadyToRun) (sym coordinated) ∙ all

    b : list_all (λ state. has_reached state ReadyToRun) (last_states (known S past) names) ≡ true
    b = ap (λ o. all_required_reached o (known S past) ReadyToRun) (sym needs) ∙ a

    c : has_reached (unwrap_or (known S past name) Invalid) ReadyToRun ≡ true
    c = all_at (λ n. unwrap_or (known S past n) Invalid) names i name b at

    on : (o : Option ℕ) → position (bytes_eq name) S.names ≡ o → (p : ℕ) × (position (bytes_eq name) S.names ≡ Some p) × ((p ≡ S.number → ⊥) → list_any tells_ready (from S past p) ≡ true)
    on None place =
        let d : has_reached Invalid ReadyToRun ≡ true = ap (λ o. has_reached (unwrap_or (option_and_then (known_state S past) o) Invalid) ReadyToRun) (sym place) ∙ c in
        let k = sym nothing_reached ∙ d in absurd cc
    on (Some p) place = (
      p,
      place,
      (λ other.
          let d : has_reached (unwrap_or (if p == S.number then Some (state_of past.journal) else status_of (from S past p)) Invalid) ReadyToRun ≡ true =
          ap (λ o. has_reached (unwrap_or (option_and_then (known_state S past) o) Invalid) ReadyToRun) (sym place) ∙ c in
          known_told (from S past p)
          (ap (λ c. has_reached (unwrap_or (if c then Some (state_of past.journal) else status_of (from S past p)) Invalid) ReadyToRun) (sym (ne_eqb p S.number other)) ∙ d)),
    )

-- ## The row

ready_row : is_by_row ReadyToRun Running ≡ true
unfolding is_by_row is_state has_edge_of
ready_row = refl

row_open : (c : Bool) → then_some c (Move Running) ≡ Some (Move Running) → c ≡ true
row_open true h = refl
row_open false h = absurd cc

entered_ready : (S : Setup) (past : Past) → MayEnter S past Running → is_state ReadyToRun (state_of past.journal) ≡ true → all_reached S past ReadyToRun ≡ true
unfolding row
entered_ready S past may ready =
    let at : state_of past.journal ≡ ReadyToRun = sym (is_state-same ReadyToRun (state_of past.journal) ready) in
    let next : row_in S past (state_of past.journal) ≡ Some (Move Running) = may.by_row (ap (λ s. is_by_row s Running) at ∙ ready_row) in
    row_open (all_reached S past ReadyToRun) (ap (row_in S past) (sym at) ∙ next)

-- ## The others

ready_step : (from to : State) → (not (has_edge from to && has_reached to ReadyToRun) || (has_reached from ReadyToRun || (is_state Aborting from || is_state ReadyToRun to))) ≡ true
unfolding has_edge is_state has_reached
ready_step from to = each_pair (λ a b. not (has_edge a b && has_reached b ReadyToRun) || (has_reached a ReadyToRun || (is_state Aborting a || is_state ReadyToRun b))) refl from to

aborted_step : (from to : State) → (not (has_edge from to) || (not (is_state Aborting from || is_state Shutdown from) || (is_state Aborting to || is_state Shutdown to))) ≡ true
unfolding has_edge is_state
aborted_step from to = each_pair (λ a b. not (has_edge a b) || (not (is_state Aborting a || is_state Shutdown a) || (is_state Aborting b || is_state Shutdown b))) refl from to

aborted_edge : (from to : State) → has_edge from to ≡ true → (is_state Aborting from || is_state Shutdown from) ≡ true → (is_state Aborting to || is_state Shutdown to) ≡ true
aborted_edge from to e d = implies _ _ (implies (has_edge from to) _ (aborted_step from to) e) d

reached_shut : (s : State) → (not ((is_state Aborting s || is_state Shutdown s) && has_reached s ReadyToRun) || is_state Shutdown s) ≡ true
unfolding is_state has_reached
reached_shut s = each_state (λ a. not ((is_state Aborting a || is_state Shutdown a) && has_reached a ReadyToRun) || is_state Shutdown a) refl s

both_true : (a b : Bool) → a ≡ true → b ≡ true → (a && b) ≡ true
both_true true b h i = i
both_true false b h i = absurd cc

-- who has reached ReadyToRun was there, or was aborted
path_ready : (from : State) (path : List State) → IsPath from path → has_reached (last_of from path) ReadyToRun ≡ true →
    (has_reached from ReadyToRun || (is_state Aborting from || (list_any (is_state ReadyToRun) path || list_any (is_state Aborting) path))) ≡ true
path_ready from [] h reached = or_left (has_reached from ReadyToRun) _ reached
path_ready from (to ∷ more) h reached =
    on (has_reached from ReadyToRun) (is_state Aborting from) (has_reached to ReadyToRun) (is_state ReadyToRun to) (is_state Aborting to) (list_any (is_state ReadyToRun) more) (list_any (is_state Aborting) more)
    (path_ready to more h.1 reached) (λ r. implies _ _ (ready_step from to) (both_true (has_edge from to) (has_reached to ReadyToRun) h.0 r))
  where
    on : (f a t r b rs bs : Bool) → (t || (b || (rs || bs))) ≡ true → (t ≡ true → (f || (a || r)) ≡ true) → (f || (a || ((r || rs) || (b || bs)))) ≡ true
    on true a t r b rs bs h k = refl
    on false true t r b rs bs h k = refl
    on false false true r b rs bs h k = let c : r ≡ true = k refl in or_left (r || rs) (b || bs) (or_left r rs c)
    on false false false r true rs bs h k = or_right (r || rs) true refl
    on false false false r false true bs h k = or_left (r || true) bs (or_right r true refl)
    on false false false r false false bs h k = or_right (r || false) bs h

path_aborted : (from : State) (path : List State) → IsPath from path → (is_state Aborting from || (is_state Shutdown from || list_any (is_state Aborting) path)) ≡ true →
    (is_state Aborting (last_of from path) || is_state Shutdown (last_of from path)) ≡ true
path_aborted from [] h e = on (is_state Aborting from) (is_state Shutdown from) e
  where
    on : (a s : Bool) → (a || (s || false)) ≡ true → (a || s) ≡ true
    on true s h = refl
    on false true h = refl
    on false false h = h
path_aborted from (to ∷ more) h e =
    path_aborted to more h.1 (on (is_state Aborting from) (is_state Shutdown from) (is_state Aborting to) (is_state Shutdown to) (list_any (is_state Aborting) more) e (aborted_edge from to h.0))
  where
    on : (a s b t bs : Bool) → (a || (s || (b || bs))) ≡ true → ((a || s) ≡ true → (b || t) ≡ true) → (b || (t || bs)) ≡ true
    on a s true t bs h k = refl
    on a s false true bs h k = refl
    on true s false false bs h k = absurd (let i = k refl in cc)
    on false true false false bs h k = absurd (let i = k refl in cc)
    on false false false false bs h k = h

start_facts : (has_reached Invalid ReadyToRun ≡ false) × (is_state Aborting Invalid ≡ false)
unfolding has_reached is_state
start_facts = (refl, refl)

more_states : (test : State → Bool) (es rest : List Entry) → list_any test (states es) ≡ true → list_any test (states (es ++ rest)) ≡ true
more_states test es rest h = ap (list_any test) (filter_map-append state_in es rest) ∙ list_any-append test (states es) (states rest) ∙ or_left (list_any test (states es)) (list_any test (states rest)) h

path_at : (S : Setup) (es : List Entry) → EachMeets S es → Path es
path_at S es meets = along S Path (λ x memory e m h. step S (record { journal = x; memory = memory }) e m h) [] es meets (record { path = tt; last = refl })

was_ready : (S : Setup) (es rest : List Entry) → EachMeets S (es ++ rest) → has_reached (state_of es) ReadyToRun ≡ true → IsReadyOrAborted (es ++ rest)
was_ready S es rest meets reached = ⊎_elim
    (λ (r : list_any (is_state ReadyToRun) (states es) ≡ true). let g : IsReadyOrAborted (es ++ rest) = inl (more_states (is_state ReadyToRun) es rest r) in g)
    (λ (a : list_any (is_state Aborting) (states es) ≡ true).
    let ends : (is_state Aborting (state_of es) || is_state Shutdown (state_of es)) ≡ true =
    ap (λ s. is_state Aborting s || is_state Shutdown s) (sym path.last)
    ∙ path_aborted Invalid (states es) path.path (or_right (is_state Aborting Invalid) _ (or_right (is_state Shutdown Invalid) (list_any (is_state Aborting) (states es)) a)) in
    let shut : is_state Shutdown (state_of es) ≡ true = implies _ _ (reached_shut (state_of es)) (both_true _ (has_reached (state_of es) ReadyToRun) ends reached) in
    let g : IsReadyOrAborted (es ++ rest) = inr (more_states (is_state Aborting) es rest a, state_along S (is_state Shutdown) shut_edge es rest meets shut) in g)
    (or_split (list_any (is_state ReadyToRun) (states es)) (list_any (is_state Aborting) (states es))
    (ap (λ b. b || (list_any (is_state ReadyToRun) (states es) || list_any (is_state Aborting) (states es))) (sym start_facts.1)
    ∙ ap (λ b. b || (is_state Aborting Invalid || (list_any (is_state ReadyToRun) (states es) || list_any (is_state Aborting) (states es)))) (sym start_facts.0)
    ∙ path_ready Invalid (states es) path.path (ap (λ s. has_reached s ReadyToRun) path.last ∙ reached)))
  where
    path : Path es
    path = path_at S es (front_meets S es rest meets)

-- a Status that has reached ReadyToRun and was put says so of the journal
told_ready : (S : Setup) (past : Past) (made : List Made) → Lawful S past made → (q : ℕ) (front : List Content) (m : Content) (rest : List Content) → put past.journal q ≡ front ++ m ∷ rest → tells_ready m ≡ true →
    IsReadyOrAborted past.journal
told_ready S past made law q front (contents.Status state until) rest is ready =
    let there = put_at past.journal q front (contents.Status state until) rest is in
    let meets : EachMeets S past.journal = lawful_meets S past made law in
    let may = meets there.early (Put q (contents.Status state until)) there.late there.cut in
    subst IsReadyOrAborted (sym there.cut)
    (was_ready S there.early (Put q (contents.Status state until) ∷ there.late) (subst (EachMeets S) there.cut meets) (ap (λ s. has_reached s ReadyToRun) (sym may.1) ∙ ready))
told_ready S past made law q front (contents.Hello name role address) rest is ready = absurd cc
told_ready S past made law q front contents.Leave rest is ready = absurd cc
told_ready S past made law q front (contents.NextStep at size) rest is ready = absurd cc
told_ready S past made law q front (contents.ServiceAdd service) rest is ready = absurd cc
told_ready S past made law q front contents.ServicesEnd rest is ready = absurd cc
told_ready S past made law q front (contents.Workflow required) rest is ready = absurd cc
told_ready S past made law q front contents.Abort rest is ready = absurd cc
told_ready S past made law q front (contents.Refuse reason) rest is ready = absurd cc
told_ready S past made law q front (contents.Can head' frame) rest is ready = absurd cc
told_ready S past made law q front (contents.Eth head' payload) rest is ready = absurd cc
told_ready S past made law q front (contents.Lin head' frame) rest is ready = absurd cc
told_ready S past made law q front (contents.LinResponse head' response) rest is ready = absurd cc
told_ready S past made law q front (contents.Publish head' payload) rest is ready = absurd cc
told_ready S past made law q front (contents.Call head' call payload) rest is ready = absurd cc
told_ready S past made law q front (contents.Reply head' client call payload) rest is ready = absurd cc

-- ## One entry, with what was remembered then

-- the memory there: its tools are a front of the later ones, and each Got before is of a number below them
record TiedAt (S : Setup) (past : Past) (before : List Entry) (e : Entry) : Type 0 where
  memory : Memory
  meets : Meets S (record { journal = before; memory = memory }) e
  tools : IsPrefix memory.tools past.memory.tools
  below : list_all (got_below (length S.names + length memory.tools)) before ≡ true

any_below : (S : Setup) (past : Past) (e : Entry) → Meets S past e → got_below (bound_of S past) e ≡ true
any_below S past (Got p m) h = linked_below S past p h
any_below S past (Put q m) h = refl
any_below S past (Hand q k r) h = refl
any_below S past (Entered s) h = refl
any_below S past (Judged s) h = refl
any_below S past (Begin n t) h = refl
any_below S past (Done n) h = refl
any_below S past (End n) h = refl
any_below S past (Ask c v) h = refl
any_below S past (Gone q r) h = refl
any_below S past (Stray n) h = refl
any_below S past (Did x c m) h = refl
any_below S past (Fault n) h = refl

built_below : (S : Setup) (past : Past) → Built S past → list_all (got_below (bound_of S past)) past.journal ≡ true
built_below S past (built.empty memory) = refl
built_below S past (built.remembers was memory more b) =
    still_below (bound_of S was) (length S.names + length memory.tools)
    (let l = length-append was.memory.tools more.0 in let k = ap length more.1 in omega arith) was.journal (built_below S was b)
built_below S past (built.adds was e b meets) =
    list_all-append (got_below (bound_of S was)) was.journal (e ∷ [])
    ∙ and_from _ _ (built_below S was b) (and_from (got_below (bound_of S was) e) true (any_below S was e meets) refl)

tied : (S : Setup) (past : Past) → Built S past → (before : List Entry) (e : Entry) (after : List Entry) → past.journal ≡ before ++ e ∷ after → TiedAt S past before e
tied S past (built.empty memory) before e after h = absurd (not_empty before e after h)
tied S past (built.remembers was memory more b) before e after h =
    let t = tied S was b before e after h in
    record { memory = t.memory; meets = t.meets; tools = (t.tools.0 ++ more.0, sym (append_assoc t.memory.tools t.tools.0 more.0) ∙ ap (λ x. x ++ more.0) t.tools.1 ∙ more.1); below = t.below }
tied S past (built.adds was x b meets) before e after h = ⊎_elim
    (λ (a : (was.journal ≡ before) × (x ≡ e)).
    let g : TiedAt S (add x was) before e = record {
      memory = was.memory;
      meets = subst (λ y. Meets S (record { journal = before; memory = was.memory }) y) a.1 (subst (λ es. Meets S (record { journal = es; memory = was.memory }) x) a.0 meets);
      tools = all_of was.memory.tools;
      below = ap (list_all (got_below (bound_of S was))) (sym a.0) ∙ built_below S was b;
    } in g)
    (λ (a : (rest : List Entry) × (was.journal ≡ before ++ e ∷ rest)).
    let t = tied S was b before e a.0 a.1 in
    let g : TiedAt S (add x was) before e = record { memory = t.memory; meets = t.meets; tools = t.tools; below = t.below } in g)
    (last_or_before was.journal x before e after h)

-- what was known to be required then is what the later tools show
required_so : (S : Setup) (past : Past) (before : List Entry) (e : Entry) → (t : TiedAt S past before e) → required S (record { journal = before; memory = t.memory }) ≡ required S (record past { journal = before })
required_so S past before e t =
    ap (λ (s : Seen). option_or S.required (slice_get (filter_map required_in s.taken) 0))
    (sym (ap (λ ts. fold (seen_after S ts) unseen before) (sym t.tools.1) ∙ seen_so S t.memory.tools t.tools.0 before unseen t.below))

pub told_before : ReadyWereTold
told_before S past made law before after names on i name at =
    let t = tied S past (lawful_built S past made law) before (Entered Running) after on.is in
    let here : Past = record { journal = before; memory = t.memory } in
    let r = required_told S here names i name on.coordinated (required_so S past before (Entered Running) t ∙ on.needs) (entered_ready S here t.meets on.ready) at in
    (r.0, r.1, (λ apart. within S t.memory.tools tells_ready r.0 before unseen (r.2 apart)))

pub barrier : AllReadyBeforeRunning
barrier names members w q member mq before after known' on i p name other at place mp apart =
    let is = on.is in
    let r = told_before member.setup member.past member.made (w.lawful q member mq) before after known' on i name at in
    let same : r.0 ≡ p = (let k = sym r.1 ∙ place in cc) in
    let told : list_any tells_ready (got before p) ≡ true =
    ap (λ x. list_any tells_ready (got before x)) (sym same) ∙ r.2 (λ e. apart (sym same ∙ e ∙ w.numbered q member mq)) in
    let f = some_at tells_ready (got before p) told in
    let front : IsPrefix (got member.past.journal p) (put other.past.journal q) = w.linked p q other member mp mq apart in
    let put_is : put other.past.journal q ≡ f.0 ++ f.1 ∷ (f.2 ++ (got (Entered Running ∷ after) p ++ front.0)) =
    sym front.1 ∙ ap (λ x. x ++ front.0) (ap (λ es. got es p) is ∙ got-append before (Entered Running ∷ after) p) ∙ append_assoc (got before p) (got (Entered Running ∷ after) p) front.0
    ∙ ap (λ x. x ++ (got (Entered Running ∷ after) p ++ front.0)) f.3 ∙ append_assoc f.0 (f.1 ∷ f.2) (got (Entered Running ∷ after) p ++ front.0) in
    (told, told_ready other.setup other.past other.made (w.lawful p other mp) q f.0 f.1 (f.2 ++ (got (Entered Running ∷ after) p ++ front.0)) put_is f.4)
