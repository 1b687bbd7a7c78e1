-- Each block puts messages in order.
use Rattle.std.specs.Prelude.{◌≡◌, ◌⊎◌, ◌<◌, refl, ℕ, zero, suc, ◌-◌, max, ◌==◌, nat_le, Bool, true, false, not, ◌&&◌, ◌||◌, IsTrue, IfSome, IsSome, IsSomeAnd, List, [], ◌∷◌, ◌++◌, map, length, Option, Some, None, is_some, unwrap_or, slice_get, if◌then◌else◌}
use Rattle.std.specs.List.{cons_option, AllByRecursion}
use Rattle.std.proofs.lemmas.Bool.{and_parts, and_from, eqb-true}
use Rattle.std.proofs.lemmas.Bool.Decides.{nat_tests}
use Rattle.std.proofs.Common.{ap, sym, ◌∙◌, subst, arith, inl, inr, ⊎_elim}
use Rattle.sk_msg.specs.declared.command.Command.{Command}
use Rattle.sk_msg.specs.declared.command.Command.TheVariants.{Pause, Continue, Abort}
use Rattle.sk_msg.specs.declared.command.Verdict.TheVariants.{Accepted, Refused}
use Rattle.sk_msg.specs.declared.content.Content.{Content}
use Rattle.sk_msg.specs.declared.content.Content.TheVariants as contents
use Rattle.sk_msg.specs.declared.service.Service.{Service}
use Rattle.sk_msg.specs.declared.service.ServiceKind.{ServiceKind}
use Rattle.sk_msg.specs.declared.service.ServiceKind.TheVariants as kinds
use Rattle.sk_msg.specs.declared.bus.LinResponse.{LinResponse}
use Rattle.sk_msg.specs.declared.state.State.{State}
use Rattle.sk_msg.specs.declared.state.State.TheVariants.{Running, Error, Shutdown}
use Rattle.sk_msg.specs.States.{is_state}
use Rattle.sk_msg.specs.Edges.{has_edge, led_to, is_command}
use Rattle.sk_msg.specs.declared.action.Action.{Action}
use Rattle.sk_msg.specs.declared.action.Action.TheVariants as actions
use Rattle.sk_msg.specs.declared.entry.Entry.{Entry}
use Rattle.sk_msg.specs.declared.entry.Entry.TheVariants.{Got, Put, Hand, State as Entered, System as Judged, Begin, Done, End, Ask, Gone, Stray, Did, Fault}
use Rattle.sk_law.specs.declared.made.Call.{Call}
use Rattle.sk_law.specs.declared.made.Call.TheVariants as calls
use Rattle.sk_law.specs.declared.made.Made.{Made}
use Rattle.sk_law.specs.declared.setup.Setup.{Setup}
use Rattle.sk_law.specs.Past.{Past, add, put_each}
use Rattle.sk_law.specs.declared.memory.ServiceState.{ServiceState}
use Rattle.sk_law.specs.declared.memory.ServiceState.TheVariants.{Can as CanAt, Ethernet as EthernetAt, Lin as LinAt, Publisher as PublisherAt, Subscriber as SubscriberAt, Server as ServerAt, Client as ClientAt}
use Rattle.sk_msg.specs.Matching.{match_services}
use Rattle.sk_law.specs.declared.memory.Begun.{Begun}
use Rattle.sk_law.specs.Readings.{begun_after, put, state_of, is_gone, has_run, last_begun, open_step, next_time, time_after, number_of, stamp, mark}
use Rattle.sk_msg.specs.Heads.{head_of}
use Rattle.sk_msg.specs.declared.head.Head.{Head}
use Rattle.sk_law.specs.Order.{has_kind, is_at, is_kind, is_sendable, said_after}
use Rattle.sk_law.specs.Links.{is_peer, reached, told}
use Rattle.sk_law.specs.Receivers.{changed, with_services, received, noted, with_noted}
use Rattle.sk_law.specs.Outcomes.{Outcome, outcome, outcome_of, refused, named, caller}
use Rattle.sk_law.specs.Rows.{may_begin}
use Rattle.sk_law_world.specs.Meets.{is_by_row, Meets, MayBegin, MayEnter}
use Rattle.sk_law.specs.Blocks.{announce, enter_only, enter_until, enter, enter_if, asked, ask, until_of, with_pause, pause_for, count_down, put_some, did, answer, answers, fault, called, callback, callbacks}
use Rattle.sk_law_world.proofs.Built as built
use Rattle.sk_law_world.proofs.Built.{Built, SameMoment, IsAsked, asked_error, asked_aborting, state_still, state_of-add, last_begun-add, open_step-add, has_run-add, ran, unbegun, closed_unbegun, opened_is_last, built_enter_until, built_enter_if}
use Rattle.sk_law_world.proofs.BlocksBuilt.{asked_for, IsAlive, MayCall, IsMessage, may_call, asked_by, edge_by, led_alive, alive_enter, alive_answer, alive_called, alive_callback, built_answer, built_answers, built_called, built_callback}
use Rattle.sk_law_world.proofs.Stamps.{IsStampedData, IsStamped, outcome_of_is}
use Rattle.sk_law_world.proofs.Floors.{closed_at}
use Rattle.sk_law.specs.declared.said.Said.{Said}
use Rattle.sk_law_world.proofs.Saids.{fits, sent_by, sendable}
use Rattle.sk_law_world.proofs.Tellings.{unless, puts_none, puts_add, puts_each, put_reached, gone-add, gone-puts, moment_puts, moment_add}
use Rattle.sk_law_world.proofs.Spokens.{announcement, announced_at, stands, says_eq, stands_same, told_service, kind_at, Spoken, spoken_by, spoken_quiet, spoken_plain, spoken_memory, spoken_message, edge_alive, spoken_enter_only, spoken_shut, spoken_first}
use Rattle.sk_law_world.proofs.Addresses.{IsAddress, IsOwn, IsKindly, outcome_at_kind}

-- ## Services

slice_map : {X Y : Type 0} (f : X → Y) (xs : List X) (i : ℕ) (x : X) → slice_get xs i ≡ Some x → slice_get (map f xs) i ≡ Some (f x)
slice_map f [] i x e = absurd cc
slice_map f (y ∷ xs) zero x e = let s : y ≡ x = cc in ap (λ z. Some (f z)) s
slice_map f (y ∷ xs) (suc i) x e = slice_map f xs i x e

slice_none : {X Y : Type 0} (f : X → Y) (xs : List X) (i : ℕ) → slice_get xs i ≡ None → slice_get (map f xs) i ≡ None
slice_none f [] i e = refl
slice_none f (y ∷ xs) zero e = absurd cc
slice_none f (y ∷ xs) (suc i) e = slice_none f xs i e

kinds_put : (new at : ServiceState) (i : ℕ) (xs : List ServiceState) → slice_get xs i ≡ Some at → kind_at new ≡ kind_at at → map kind_at (changed (λ x. new) i xs) ≡ map kind_at xs
kinds_put new at i [] e k = absurd cc
kinds_put new at zero (x ∷ xs) e k = let s : x ≡ at = cc in ap (λ z. z ∷ map kind_at xs) (k ∙ ap kind_at (sym s))
kinds_put new at (suc i) (x ∷ xs) e k = ap (λ z. kind_at x ∷ z) (kinds_put new at i xs e k)

kinds_past : (new : ServiceState) (i : ℕ) (xs : List ServiceState) → slice_get xs i ≡ None → map kind_at (changed (λ x. new) i xs) ≡ map kind_at xs
kinds_past new i [] e = refl
kinds_past new zero (x ∷ xs) e = absurd cc
kinds_past new (suc i) (x ∷ xs) e = ap (λ z. kind_at x ∷ z) (kinds_past new i xs e)

kinds_changed : (change : ServiceState → ServiceState) → ((x : ServiceState) → kind_at (change x) ≡ kind_at x) → (i : ℕ) (xs : List ServiceState) → map kind_at (changed change i xs) ≡ map kind_at xs
kinds_changed change k i [] = refl
kinds_changed change k zero (x ∷ xs) = ap (λ z. z ∷ map kind_at xs) (k x)
kinds_changed change k (suc i) (x ∷ xs) = ap (λ z. kind_at x ∷ z) (kinds_changed change k i xs)

kinds_received : (p : ℕ) (m : Content) (x : ServiceState) → kind_at (received p m x) ≡ kind_at x
kinds_received p (contents.Hello name role address) x = refl
kinds_received p contents.Leave x = refl
kinds_received p (contents.NextStep at size) x = refl
kinds_received p (contents.ServiceAdd service) x = refl
kinds_received p contents.ServicesEnd x = refl
kinds_received p (contents.Status state until) x = refl
kinds_received p (contents.Workflow required) x = refl
kinds_received p contents.Abort x = refl
kinds_received p (contents.Refuse reason) x = refl
kinds_received p (contents.Can head' frame) x = refl
kinds_received p (contents.Eth head' payload) x = refl
kinds_received p (contents.Lin head' frame) (CanAt y) = refl
kinds_received p (contents.Lin head' frame) (EthernetAt y) = refl
kinds_received p (contents.Lin head' frame) (LinAt y) = refl
kinds_received p (contents.Lin head' frame) (PublisherAt y) = refl
kinds_received p (contents.Lin head' frame) SubscriberAt = refl
kinds_received p (contents.Lin head' frame) (ServerAt y) = refl
kinds_received p (contents.Lin head' frame) (ClientAt y) = refl
kinds_received p (contents.LinResponse head' response) x = refl
kinds_received p (contents.Publish head' payload) x = refl
kinds_received p (contents.Call head' call payload) (CanAt y) = refl
kinds_received p (contents.Call head' call payload) (EthernetAt y) = refl
kinds_received p (contents.Call head' call payload) (LinAt y) = refl
kinds_received p (contents.Call head' call payload) (PublisherAt y) = refl
kinds_received p (contents.Call head' call payload) SubscriberAt = refl
kinds_received p (contents.Call head' call payload) (ServerAt y) = refl
kinds_received p (contents.Call head' call payload) (ClientAt y) = refl
kinds_received p (contents.Reply head' client call payload) x = refl

kinds_with_noted : (p service : ℕ) (response : LinResponse) (x : ServiceState) → kind_at (with_noted p service response x) ≡ kind_at x
kinds_with_noted p service response (CanAt y) = refl
kinds_with_noted p service response (EthernetAt y) = refl
kinds_with_noted p service response (LinAt y) = refl
kinds_with_noted p service response (PublisherAt y) = refl
kinds_with_noted p service response SubscriberAt = refl
kinds_with_noted p service response (ServerAt y) = refl
kinds_with_noted p service response (ClientAt y) = refl

kinds_if : (b : Bool) (x y : ServiceState) → kind_at x ≡ kind_at y → kind_at (if b then x else y) ≡ kind_at y
kinds_if true x y h = h
kinds_if false x y h = refl

pub kinds_noted : (o : Option Service) (p service : ℕ) (response : LinResponse) (owns : List Service) (xs : List ServiceState) → length owns ≡ length xs → map kind_at (noted o p service response owns xs) ≡ map kind_at xs
kinds_noted None p service response owns xs e = refl
kinds_noted (Some other) p service response [] xs e = refl
kinds_noted (Some other) p service response (own ∷ owns) [] e = absurd cc
kinds_noted (Some other) p service response (own ∷ owns) (x ∷ xs) e =
    ap (λ z. z ∷ map kind_at (noted (Some other) p service response owns xs)) (kinds_if (match_services own other) (with_noted p service response x) x (kinds_with_noted p service response x))
    ∙ ap (λ z. kind_at x ∷ z) (kinds_noted (Some other) p service response owns xs (let l : length owns ≡ length xs = omega arith in l))

-- ## Facts

not_true : (b : Bool) → not b ≡ true → b ≡ false
not_true true h = absurd cc
not_true false h = refl

same_run : (t r : Bool) → (t && not r) ≡ false → (r || t) ≡ r
same_run true true h = refl
same_run true false h = absurd cc
same_run false true h = refl
same_run false false h = refl

pub or_right : (a b : Bool) → b ≡ true → (a || b) ≡ true
or_right true b h = refl
or_right false b h = h

pub or_left : (a b : Bool) → a ≡ true → (a || b) ≡ true
or_left true b h = refl
or_left false b h = absurd cc

may_stepped : (S : Setup) (past : Past) → IsTrue (may_begin S past) → is_some S.step ≡ true
unfolding may_begin
may_stepped S past may = by S.step may
  where
    by : (step : Option ℕ) → IsTrue (may_begin (record S { step = step }) past) → is_some step ≡ true
    by None h = absurd cc
    by (Some size) h = refl

-- only a synchronised participant begins steps
stepped_by : (S : Setup) (past : Past) (e : Entry) → Meets S past e → (last_begun past.journal ≡ None ⊎ (is_some S.step ≡ true)) → (begun_after (last_begun past.journal) e ≡ None) ⊎ (is_some S.step ≡ true)
stepped_by S past (Got p m) meets h = h
stepped_by S past (Put p m) meets h = h
stepped_by S past (Hand p k r) meets h = h
stepped_by S past (Entered s) meets h = h
stepped_by S past (Judged s) meets h = h
stepped_by S past (Done n) meets h = h
stepped_by S past (End n) meets h = h
stepped_by S past (Ask c v) meets h = h
stepped_by S past (Gone p r) meets h = h
stepped_by S past (Stray n) meets h = h
stepped_by S past (Did s c m) meets h = h
stepped_by S past (Fault n) meets h = h
stepped_by S past (Begin n t) meets h = inr (may_stepped S past meets.may)

pub stepped : {S : Setup} (past : Past) → Built S past → (last_begun past.journal ≡ None) ⊎ (is_some S.step ≡ true)
stepped past (built.empty memory) = inl refl
stepped past (built.remembers was memory more b) = stepped was b
stepped {S} past (built.adds was e b meets) = ⊎_elim
    (λ (a : begun_after (last_begun was.journal) e ≡ None). let r : (last_begun (was.journal ++ e ∷ []) ≡ None) ⊎ (is_some S.step ≡ true) = inl (last_begun-add was.journal e ∙ a) in r)
    (λ (a : is_some S.step ≡ true). let r : (last_begun (was.journal ++ e ∷ []) ≡ None) ⊎ (is_some S.step ≡ true) = inr a in r)
    (stepped_by S was e meets (stepped was b))

pub open_run : {S : Setup} (past : Past) (step : Begun) → open_step past.journal ≡ Some step → Built S past → has_run past.journal ≡ true
open_run past step open_is b = run (has_run past.journal) refl
  where
    last : last_begun past.journal ≡ Some step
    last = opened_is_last past.journal None None (λ b f. f) step open_is

    run : (c : Bool) → has_run past.journal ≡ c → c ≡ true
    run true f = refl
    run false f = let g = unbegun past b f in let l = last in absurd cc

-- what is announced in an open step is its time
pub open_announced : (S : Setup) (past : Past) (step : Begun) → open_step past.journal ≡ Some step → Built S past → announced_at S past ≡ Some step.time
open_announced S past step open_is b = by S.step refl
  where
    last : last_begun past.journal ≡ Some step
    last = opened_is_last past.journal None None (λ b f. f) step open_is

    run : (c : Bool) → has_run past.journal ≡ c → c ≡ true
    run true f = refl
    run false f = let g = unbegun past b f in let l = last in absurd cc

    some : is_some S.step ≡ true
    some = ⊎_elim (λ (a : last_begun past.journal ≡ None). let l = last in let r : is_some S.step ≡ true = absurd cc in r) (λ (a : is_some S.step ≡ true). a) (stepped past b)

    by : (o : Option ℕ) → S.step ≡ o → announced_at S past ≡ Some step.time
    by None e = let k = sym some ∙ ap is_some e in absurd cc
    by (Some size) e =
        ap (λ o. announcement o (has_run past.journal) (open_step past.journal) (last_begun past.journal)) e
        ∙ ap (λ r. announcement (Some size) r (open_step past.journal) (last_begun past.journal)) (run (has_run past.journal) refl)
        ∙ ap (λ o. announcement (Some size) true o (last_begun past.journal)) open_is

marked : (S : Setup) (past : Past) (stamp' mark' : ℕ) → stamp' ≡ stamp past.journal → mark' ≡ mark past.journal → Built S past → (mark' == 0 || is_at (announced_at S past) stamp') ≡ true
marked S past stamp' mark' s m b = by (open_step past.journal) refl
  where
    by : (o : Option Begun) → open_step past.journal ≡ o → (mark' == 0 || is_at (announced_at S past) stamp') ≡ true
    by None e = let z = m ∙ ap number_of e in or_left (mark' == 0) (is_at (announced_at S past) stamp') (grind (arith, nat_tests))
    by (Some step) e =
        let last = ap (time_after 0) (opened_is_last past.journal None None (λ b f. f) step e) in
        or_right (mark' == 0) (is_at (announced_at S past) stamp') (ap (λ o. is_at o stamp') (open_announced S past step e b) ∙ (let t : step.time ≡ stamp' = omega arith in grind (arith, nat_tests)))

-- ## Data

data_fits : (s : Said) (m : Content) → s.left ≡ false → s.ended ≡ true → sendable s (sent_by m) (head_of m) ≡ true → (fits s m ≡ true) × (said_after s m ≡ s)
data_fits s (contents.Can head' frame) l e h = (and_from (not s.left) (s.ended && is_sendable s kinds.Can head') (ap not l) (and_from s.ended (is_sendable s kinds.Can head') e h), refl)
data_fits s (contents.Eth head' payload) l e h = (and_from (not s.left) (s.ended && is_sendable s kinds.Ethernet head') (ap not l) (and_from s.ended (is_sendable s kinds.Ethernet head') e h), refl)
data_fits s (contents.Lin head' frame) l e h = (and_from (not s.left) (s.ended && is_sendable s kinds.Lin head') (ap not l) (and_from s.ended (is_sendable s kinds.Lin head') e h), refl)
data_fits s (contents.LinResponse head' response) l e h = (and_from (not s.left) (s.ended && is_sendable s kinds.Lin head') (ap not l) (and_from s.ended (is_sendable s kinds.Lin head') e h), refl)
data_fits s (contents.Publish head' payload) l e h = (and_from (not s.left) (s.ended && is_sendable s kinds.Publisher head') (ap not l) (and_from s.ended (is_sendable s kinds.Publisher head') e h), refl)
data_fits s (contents.Call head' call payload) l e h = (and_from (not s.left) (s.ended && is_sendable s kinds.Client head') (ap not l) (and_from s.ended (is_sendable s kinds.Client head') e h), refl)
data_fits s (contents.Reply head' client call payload) l e h = (and_from (not s.left) (s.ended && is_sendable s kinds.Server head') (ap not l) (and_from s.ended (is_sendable s kinds.Server head') e h), refl)
data_fits s (contents.Hello name role address) l e h = absurd cc
data_fits s contents.Leave l e h = absurd cc
data_fits s (contents.NextStep at size) l e h = absurd cc
data_fits s (contents.ServiceAdd service) l e h = absurd cc
data_fits s contents.ServicesEnd l e h = absurd cc
data_fits s (contents.Status state until) l e h = absurd cc
data_fits s (contents.Workflow required) l e h = absurd cc
data_fits s contents.Abort l e h = absurd cc
data_fits s (contents.Refuse reason) l e h = absurd cc

data_sendable : (S : Setup) (past : Past) (own : Service) (at : ServiceState) (s : ℕ) (k : Option ServiceKind) (o : Option Head) → slice_get S.services s ≡ Some own → own.kind ≡ kind_at at → Built S past →
    IsSomeAnd k (λ x. is_kind x (kind_at at) ≡ true) × IsSomeAnd o (λ x. x.service ≡ s) → IsSomeAnd o (λ x. (x.stamp ≡ stamp past.journal) × (x.mark ≡ mark past.journal)) →
    sendable (stands S past) k o ≡ true
data_sendable S past own at s None o place kind b h i = absurd h.0
data_sendable S past own at s (Some k) None place kind b h i = absurd h.1
data_sendable S past own at s (Some k) (Some x) place kind b h i =
    let there : slice_get (map told_service S.services) x.service ≡ Some (told_service own) = ap (slice_get (map told_service S.services)) h.1 ∙ slice_map told_service S.services s own place in
    and_from (has_kind k (slice_get (map told_service S.services) x.service)) (x.mark == 0 || is_at (announced_at S past) x.stamp)
    (ap (has_kind k) there ∙ ap (is_kind k) kind ∙ h.0)
    (marked S past x.stamp x.mark i.0 i.1 b)

module _ (S : Setup) (q : ℕ) (peer : is_peer S q ≡ true) (sized : (size : ℕ) → S.step ≡ Some size → 0 < size) where
  -- ## States

  pub spoken_enter_until : (to : State) (until : ℕ) (past : Past) → MayEnter S past to → Built S past → Spoken S q past → Spoken S q (enter_until S to until past)
  unfolding enter_until
  spoken_enter_until to until past may b h = on (is_state Shutdown to) (is_state Running to && not (has_run past.journal)) refl refl
    where
      now : Past
      now = enter_only S to until past

      alive : IsAlive past
      alive = edge_alive (state_of past.journal) to may.edge

      on : (shut first : Bool) → is_state Shutdown to ≡ shut → (is_state Running to && not (has_run past.journal)) ≡ first →
          Spoken S q (if shut then put_each (told S past) contents.Leave now else if first then announce S 0 now else now)
      on true first e f = spoken_shut S q peer to until past alive e h
      on false true e f =
          let r = and_parts (is_state Running to) (not (has_run past.journal)) f in
          let first = not_true (has_run past.journal) r.1 in
          let none = unbegun past b first in
          spoken_first S q peer to until past alive e r.0 first (closed_unbegun past.journal none) none h
      on false false e f =
          spoken_enter_only S q peer to until past alive e (ap (λ r. announcement S.step r (open_step past.journal) (last_begun past.journal)) (same_run (is_state Running to) (has_run past.journal) f)) h

  pub spoken_enter_if : (to : State) (past : Past) → IsAsked to → Built S past → Spoken S q past → Spoken S q (enter_if S to past)
  unfolding enter_if
  spoken_enter_if to past free b h = on (has_edge (state_of past.journal) to) refl
    where
      on : (edge : Bool) → has_edge (state_of past.journal) to ≡ edge → Spoken S q (if edge then enter S to past else past)
      on true e = spoken_enter_until to 0 past (record { edge = e; by_row = λ row. let no_row = free.0 (state_of past.journal) e in absurd cc; cause = inl free.1 }) b h
      on false e = h

  -- ## Commands

  spoken_asked : (command : Command) (past : Past) (to : Option State) → led_to (state_of past.journal) command ≡ to → Built S past → Spoken S q past → Spoken S q (asked S command to past)
  spoken_asked command past None e b h = spoken_plain past (Ask command (Refused (state_of past.journal))) refl refl (record { begun = λ l. refl; opened = λ l. refl; state = λ s. refl; run = refl }) h
  spoken_asked command past (Some to) e b h = aborted (is_command Abort command)
    where
      free : Past
      free = with_pause None past

      mid : Past
      mid = add (Ask command Accepted) free

      same : state_of mid.journal ≡ state_of past.journal
      same = state_still past.journal (Ask command Accepted) (λ s. refl)

      may : MayEnter S mid to
      may = record {
        edge = ap (λ s. has_edge s to) same ∙ edge_by (state_of past.journal) command to e;
        by_row = λ row. let no_row = sym row ∙ ap (λ s. is_by_row s to) same ∙ asked_by (state_of past.journal) command to e in absurd cc;
        cause = inr (inr (asked_for command past to e));
      }

      bm : Built S mid
      bm = built.adds free (Ask command Accepted) (built.remembers past free.memory (built.all_of past.memory.tools) b) (subst IsSome (sym e) refl)

      entered : Past
      entered = enter_until S to (until_of S command past) mid

      he : Spoken S q entered
      he = spoken_enter_until to (until_of S command past) mid may bm (spoken_plain free (Ask command Accepted) refl refl (record { begun = λ l. refl; opened = λ l. refl; state = λ s. refl; run = refl }) (spoken_memory past free.memory refl h))

      alive : IsAlive entered
      alive = alive_enter S to (until_of S command past) mid (led_alive (state_of past.journal) command to e)

      aborted : (c : Bool) → Spoken S q (if c then put_each (reached S entered) contents.Abort entered else entered)
      aborted true = spoken_message contents.Abort (puts_each q (reached S entered) contents.Abort entered (put_reached S q peer entered contents.Abort)) (moment_puts (reached S entered) contents.Abort entered) refl
          (and_from (not (is_state Shutdown (state_of entered.journal))) true (ap not alive) refl) refl he
      aborted false = he

  pub spoken_ask : (command : Command) (past : Past) → Built S past → Spoken S q past → Spoken S q (ask S command past)
  unfolding ask
  spoken_ask command past b h = spoken_asked command past (led_to (state_of past.journal) command) refl b h

  spoken_pause_for : (count : ℕ) (past : Past) → Built S past → Spoken S q past → Spoken S q (pause_for S count past)
  unfolding pause_for
  spoken_pause_for count past b h = on (is_state Running (state_of past.journal))
    where
      on : (c : Bool) → Spoken S q (if c then with_pause (Some (max count 1)) (ask S Pause past) else ask S Pause past)
      on true = spoken_memory (ask S Pause past) (with_pause (Some (max count 1)) (ask S Pause past)).memory refl (spoken_ask Pause past b h)
      on false = spoken_ask Pause past b h

  pub spoken_count_down : (count : ℕ) (past : Past) → Built S past → Spoken S q past → Spoken S q (count_down S count past)
  unfolding count_down
  spoken_count_down count past b h = on (nat_le count 1)
    where
      on : (c : Bool) → Spoken S q (if c then ask S Continue past else with_pause (Some (count - 1)) past)
      on true = spoken_ask Continue past b h
      on false = spoken_memory past (with_pause (Some (count - 1)) past).memory refl h

  -- ## Actions

  -- to all, or to one caller
  puts_to : (past : Past) (to : List ℕ) (m : Content) → IsAddress S past to → (put (map (λ x. Put x m) to) q ≡ unless (is_gone past.journal q) (m ∷ [])) ⊎ (put (map (λ x. Put x m) to) q ≡ [])
  puts_to past to m (inl e) = inl (ap (λ xs. put (map (λ x. Put x m) xs) q) e ∙ put_reached S q peer past m)
  puts_to past to m (inr (p, e)) = on (p == q) refl
    where
      all : put (map (λ x. Put x m) to) q ≡ put (map (λ x. Put x m) (caller past p)) q
      all = ap (λ xs. put (map (λ x. Put x m) xs) q) e

      self : (g : Bool) → put (map (λ x. Put x m) (if g then [] else q ∷ [])) q ≡ unless g (m ∷ [])
      self true = refl
      self false = ap (λ b. cons_option (if b then Some m else None) []) (let r : (q == q) ≡ true = grind (arith, nat_tests) in r)

      other : (p == q) ≡ false → (g : Bool) → put (map (λ x. Put x m) (if g then [] else p ∷ [])) q ≡ []
      other f true = refl
      other f false = ap (λ b. cons_option (if b then Some m else None) []) f

      on : (b : Bool) → (p == q) ≡ b → (put (map (λ x. Put x m) to) q ≡ unless (is_gone past.journal q) (m ∷ [])) ⊎ (put (map (λ x. Put x m) to) q ≡ [])
      on true f = inl (all ∙ ap (λ x. put (map (λ z. Put z m) (caller past x)) q) (eqb-true p q f) ∙ self (is_gone past.journal q))
      on false f = inr (all ∙ other f (is_gone past.journal p))

  spoken_data : (past base : Past) (to : List ℕ) (m : Content) → SameMoment base past → is_gone past.journal q ≡ is_gone base.journal q → IsAddress S base to → IsAlive base →
      sendable (stands S base) (sent_by m) (head_of m) ≡ true → Spoken S q past → Spoken S q (put_each to m past)
  spoken_data past base to m moments gone address alive sends h = ⊎_elim
      (λ (e : put (map (λ x. Put x m) to) q ≡ unless (is_gone base.journal q) (m ∷ [])).
      let same = stands_same S moments in
      let f = data_fits (stands S base) m alive refl sends in
      let r : Spoken S q (put_each to m past) =
      spoken_message m (puts_each q to m past (e ∙ ap (λ b. unless b (m ∷ [])) (sym gone))) (moment_puts to m past) refl
      (ap (λ s. fits s m) same ∙ f.0) (ap (λ s. said_after s m) same ∙ f.1 ∙ sym same) h in r)
      (λ (e : put (map (λ x. Put x m) to) q ≡ []).
      let r : Spoken S q (put_each to m past) =
      spoken_quiet (puts_none past (put_each to m past) (map (λ x. Put x m) to) refl e (gone-puts past.journal q to m)) (moment_puts to m past) refl h in r)
      (puts_to base to m address)

  spoken_did : (s : ℕ) (past : Past) (o : Outcome) (own : Service) (at : ServiceState) → slice_get S.services s ≡ Some own → slice_get past.memory.services s ≡ Some at → IsKindly S past at s o → IsStamped S past o →
      IsAlive past → Built S past → Spoken S q past → Spoken S q (did s o past)
  spoken_did s past o own at place place' kindly stamped alive b h = by o.message kindly.1 stamped
    where
      changes : Past
      changes = with_services (changed (λ x. o.state) s past.memory.services) past

      now : Past
      now = add (Did s o.code o.message) changes

      hn : Spoken S q now
      hn = spoken_plain changes (Did s o.code o.message) refl refl (record { begun = λ l. refl; opened = λ l. refl; state = λ s. refl; run = refl }) (spoken_memory past changes.memory (kinds_put o.state at s past.memory.services place' kindly.0) h)

      moments : SameMoment changes now
      moments = moment_add changes (Did s o.code o.message) (record { begun = λ l. refl; opened = λ l. refl; state = λ s. refl; run = refl })

      kind : own.kind ≡ kind_at at
      kind = let a = sym (slice_map (λ x. x.kind) S.services s own place) ∙ ap (λ xs. slice_get xs s) (sym h.kinds) ∙ slice_map kind_at past.memory.services s at place' in
          let r : own.kind ≡ kind_at at = cc in r

      by : (x : Option Content) → IfSome x (λ m. IsOwn at s m × IsAddress S past o.to) → IfSome x (IsStampedData past) → Spoken S q (put_some o.to x now)
      by None k i = hn
      by (Some m) k i =
          spoken_data now past o.to m (record { begun = moments.begun; opened = moments.opened; state = moments.state; run = moments.run }) (gone-add past.journal q (Did s o.code o.message) refl) k.1 alive
          (data_sendable S past own at s (sent_by m) (head_of m) place kind b k.0 i) hn

  spoken_refused : (s : ℕ) (past : Past) → slice_get past.memory.services s ≡ None → Spoken S q past → Spoken S q (did s (refused 1 SubscriberAt) past)
  spoken_refused s past none h =
      spoken_plain (with_services (changed (λ x. SubscriberAt) s past.memory.services) past) (Did s 1 None) refl refl (record { begun = λ l. refl; opened = λ l. refl; state = λ s. refl; run = refl })
      (spoken_memory past (with_services (changed (λ x. SubscriberAt) s past.memory.services) past).memory (kinds_past SubscriberAt s past.memory.services none) h)

  spoken_outcome : (past : Past) (a : Action) → IsAlive past → Built S past → Spoken S q past → Spoken S q (did (named a) (outcome S past a) past)
  spoken_outcome past a alive b h = by (slice_get S.services (named a)) (slice_get past.memory.services (named a)) refl refl
    where
      by : (own : Option Service) (at : Option ServiceState) → slice_get S.services (named a) ≡ own → slice_get past.memory.services (named a) ≡ at → Spoken S q (did (named a) (outcome_of S past a own at) past)
      by (Some own) (Some at) e f = spoken_did (named a) past (outcome_of S past a (Some own) (Some at)) own at e f (outcome_at_kind S past a own at) (outcome_of_is S past a (Some own) (Some at)) alive b h
      by (Some own) None e f = spoken_refused (named a) past f h
      by None None e f = spoken_refused (named a) past f h
      by None (Some at) e f =
          let k = sym (slice_none (λ x. x.kind) S.services (named a) e) ∙ ap (λ xs. slice_get xs (named a)) (sym h.kinds) ∙ slice_map kind_at past.memory.services (named a) at f in absurd cc

  pub spoken_answer : (past : Past) (a : Action) → IsAlive past → Built S past → Spoken S q past → Spoken S q (answer S past a)
  unfolding answer
  spoken_answer past (actions.Ask command) alive b h = spoken_ask command past b h
  spoken_answer past (actions.PauseFor count) alive b h = spoken_pause_for count past b h
  spoken_answer past (actions.CanBaud s rate) alive b h = spoken_outcome past (actions.CanBaud s rate) alive b h
  spoken_answer past (actions.CanStart s) alive b h = spoken_outcome past (actions.CanStart s) alive b h
  spoken_answer past (actions.CanStop s) alive b h = spoken_outcome past (actions.CanStop s) alive b h
  spoken_answer past (actions.CanReset s) alive b h = spoken_outcome past (actions.CanReset s) alive b h
  spoken_answer past (actions.CanSleep s) alive b h = spoken_outcome past (actions.CanSleep s) alive b h
  spoken_answer past (actions.CanSend s frame) alive b h = spoken_outcome past (actions.CanSend s frame) alive b h
  spoken_answer past (actions.EthActivate s) alive b h = spoken_outcome past (actions.EthActivate s) alive b h
  spoken_answer past (actions.EthDeactivate s) alive b h = spoken_outcome past (actions.EthDeactivate s) alive b h
  spoken_answer past (actions.EthSend s frame) alive b h = spoken_outcome past (actions.EthSend s frame) alive b h
  spoken_answer past (actions.LinInit s role) alive b h = spoken_outcome past (actions.LinInit s role) alive b h
  spoken_answer past (actions.LinSetResponse s response) alive b h = spoken_outcome past (actions.LinSetResponse s response) alive b h
  spoken_answer past (actions.LinHeader s id) alive b h = spoken_outcome past (actions.LinHeader s id) alive b h
  spoken_answer past (actions.LinSendFrame s response) alive b h = spoken_outcome past (actions.LinSendFrame s response) alive b h
  spoken_answer past (actions.LinSleep s) alive b h = spoken_outcome past (actions.LinSleep s) alive b h
  spoken_answer past (actions.LinWakeup s) alive b h = spoken_outcome past (actions.LinWakeup s) alive b h
  spoken_answer past (actions.Publish s payload) alive b h = spoken_outcome past (actions.Publish s payload) alive b h
  spoken_answer past (actions.Call s payload) alive b h = spoken_outcome past (actions.Call s payload) alive b h
  spoken_answer past (actions.Submit s peer client call payload) alive b h = spoken_outcome past (actions.Submit s peer client call payload) alive b h

  spoken_answers : (more : List Action) (past : Past) → IsAlive past → Built S past → Spoken S q past → Spoken S q (answers S more past)
  spoken_answers [] past alive b h = h
  spoken_answers (a ∷ more) past alive b h = spoken_answers more (answer S past a) (alive_answer S past a alive) (built_answer past a alive b) (spoken_answer past a alive b h)

  pub spoken_fault : (number : ℕ) (past : Past) → Built S past → Spoken S q past → Spoken S q (fault S number past)
  spoken_fault number past b h = spoken_enter_if Error (add (Fault number) past) asked_error (built.adds past (Fault number) b tt) (spoken_plain past (Fault number) refl refl (record { begun = λ l. refl; opened = λ l. refl; state = λ s. refl; run = refl }) h)

  -- ## Callbacks

  spoken_begin : (past : Past) (n t : ℕ) → MayBegin S past n t → Built S past → Spoken S q past → Spoken S q (add (Begin n t) past)
  spoken_begin past n t may b h = spoken_by (puts_add q past (Begin n t) refl refl) (λ g. sym stands_so) refl h
    where
      closed : open_step past.journal ≡ None
      closed = closed_at S past may.may

      run : has_run past.journal ≡ true
      run = ran past b may.running

      timed : (step : Option ℕ) → t ≡ next_time (unwrap_or step 0) past.journal → announcement step true (Some (record { number = n; time = t })) (Some (record { number = n; time = t })) ≡ announcement step true None (last_begun past.journal)
      timed None e = refl
      timed (Some size) e = ap Some e

      announced : announced_at S (add (Begin n t) past) ≡ announced_at S past
      announced =
          ap (λ o. announcement S.step (has_run (past.journal ++ Begin n t ∷ [])) o (last_begun (past.journal ++ Begin n t ∷ []))) (open_step-add past.journal (Begin n t))
          ∙ ap (announcement S.step (has_run (past.journal ++ Begin n t ∷ [])) (Some (record { number = n; time = t }))) (last_begun-add past.journal (Begin n t))
          ∙ ap (λ r. announcement S.step r (Some (record { number = n; time = t })) (Some (record { number = n; time = t }))) (has_run-add past.journal (Begin n t) ∙ or_left (has_run past.journal) false run)
          ∙ timed S.step may.time
          ∙ sym (ap (λ r. announcement S.step r (open_step past.journal) (last_begun past.journal)) run ∙ ap (λ o. announcement S.step true o (last_begun past.journal)) closed)

      stands_so : stands S (add (Begin n t) past) ≡ stands S past
      stands_so = says_eq S (state_of-add past.journal (Begin n t)) announced (ap (is_state Shutdown) (state_of-add past.journal (Begin n t)))

  spoken_called : (call : Call) (past : Past) → MayCall S past call → Built S past → Spoken S q past → Spoken S q (called call past)
  spoken_called calls.Ready past may b h = spoken_memory past (called calls.Ready past).memory refl h
  spoken_called (calls.Step n t) past may b h = spoken_begin past n t may b h
  spoken_called (calls.Message p place r m) past may b h =
      spoken_memory (add (Hand p place r) past) (called (calls.Message p place r m) past).memory (kinds_changed (received p m) (kinds_received p m) r past.memory.services)
      (spoken_plain past (Hand p place r) refl refl (record { begun = λ l. refl; opened = λ l. refl; state = λ s. refl; run = refl }) h)

  pub spoken_callback : (past : Past) (made : Made) → IsAlive past → MayCall S past made.call → Built S past → Spoken S q past → Spoken S q (callback S past made)
  unfolding callback
  spoken_callback past made alive may b h = on made.over
    where
      mid : Past
      mid = called made.call past

      bm : Built S mid
      bm = built_called made.call past may b

      am : IsAlive mid
      am = alive_called made.call past alive

      h' : Spoken S q (answers S made.actions mid)
      h' = spoken_answers made.actions mid am bm (spoken_called made.call past may b h)

      on : (over : Bool) → Spoken S q (if over then fault S 2 (answers S made.actions (called made.call past)) else answers S made.actions (called made.call past))
      on true = spoken_fault 2 (answers S made.actions mid) (built_answers made.actions mid am bm) h'
      on false = h'

  pub spoken_callbacks : (made : List Made) (past : Past) → AllByRecursion (λ one. IsMessage one.call) made → (made ≡ []) ⊎ IsAlive past → Built S past → Spoken S q past → Spoken S q (callbacks S made past)
  spoken_callbacks [] past all a b h = h
  spoken_callbacks (one ∷ more) past all (inl none) b h = absurd cc
  spoken_callbacks (one ∷ more) past all (inr alive) b h =
      spoken_callbacks more (callback S past one) all.1 (inr (alive_callback S past one alive)) (built_callback past one alive (may_call S past one.call all.0) b)
      (spoken_callback past one alive (may_call S past one.call all.0) b h)
