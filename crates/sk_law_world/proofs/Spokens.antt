-- What is put to a peer comes in order, and says where the participant stands.
use Rattle.std.specs.Prelude.{◌≡◌, refl, ℕ, Bool, true, false, not, ◌&&◌, ◌||◌, List, [], ◌∷◌, ◌++◌, map, Option, Some, None, is_some, if◌then◌else◌}
use Rattle.std.specs.Option.{option_map}
use Rattle.std.proofs.lemmas.Bool.{and_from}
use Rattle.std.proofs.Common.{ap, sym, ◌∙◌, subst, append-nil}
use Rattle.sk_msg.specs.declared.content.Content.{Content}
use Rattle.sk_msg.specs.declared.content.Content.TheVariants as contents
use Rattle.sk_msg.specs.declared.service.Service.{Service}
use Rattle.sk_msg.specs.declared.service.ServiceKind.{ServiceKind}
use Rattle.sk_msg.specs.declared.service.ServiceKind.TheVariants as kinds
use Rattle.sk_msg.specs.declared.state.State.{State}
use Rattle.sk_msg.specs.declared.state.State.TheVariants.{Running, Shutdown}
use Rattle.sk_msg.specs.States.{is_state}
use Rattle.sk_msg.specs.Edges.{has_edge}
use Rattle.sk_law_world.proofs.StateLaws.{each_state, each_pair}
use Rattle.sk_msg.specs.declared.entry.Entry.{Entry}
use Rattle.sk_msg.specs.declared.entry.Entry.TheVariants.{State as Entered, System as Judged}
use Rattle.sk_law.specs.declared.setup.Setup.{Setup}
use Rattle.sk_law.specs.declared.memory.Memory.{Memory}
use Rattle.sk_law.specs.Past.{Past, add, put_each}
use Rattle.sk_law.specs.declared.memory.ServiceState.{ServiceState}
use Rattle.sk_law.specs.declared.memory.ServiceState.TheVariants.{Can as CanAt, Ethernet as EthernetAt, Lin as LinAt, Publisher as PublisherAt, Subscriber as SubscriberAt, Server as ServerAt, Client as ClientAt}
use Rattle.sk_law.specs.declared.memory.Begun.{Begun}
use Rattle.sk_law.specs.Readings.{system_told, put, put_to, state_of, is_gone, is_gone_entry, has_run, last_begun, open_step, time_after}
use Rattle.sk_law.specs.Order.{is_above, said_of, said_after}
use Rattle.sk_law.specs.Links.{own_name, is_peer, reached, told, system}
use Rattle.sk_law.specs.Blocks.{judge_system, announce, enter_only}
use Rattle.sk_law_world.proofs.Built.{SameMoment, last_begun-add, open_step-add, state_of-add, has_run-add, unbegun}
use Rattle.sk_law_world.proofs.BlocksBuilt.{IsAlive}
use Rattle.sk_law.specs.declared.said.Said.{Said}
use Rattle.sk_law_world.proofs.Saids.{fits, IsOrderly, Runs, orderly_run}
use Rattle.sk_law_world.proofs.Tellings.{unless, IsSilent, silent_puts, puts_all, PutsTo, puts_both, puts_add, puts_system, puts_each, put_reached, put_told, moment, then_moment, moment_puts, IsPlain, moment_add, moment_system, or_no}

-- ## Where a participant stands

abbrev pub clock : ℕ → Option Begun → Option Begun → ℕ
clock size (Some step) begun = step.time
clock size None begun = time_after size begun

-- the announcement in force
abbrev pub announcement : Option ℕ → Bool → Option Begun → Option Begun → Option ℕ
announcement step true opened begun = option_map (λ size. clock size opened begun) step
announcement step false opened begun = None

-- as it is announced
abbrev pub told_service : Service → Service
told_service s = record s { history = false }

abbrev pub says : Setup → State → Option ℕ → Bool → Said
says S state announced left = record { hello = true; coordinated = S.coordinated; synchronised = is_some S.step; services = map told_service S.services; ended = true; status = Some state; announced = announced; left = left }

abbrev pub announced_at : Setup → Past → Option ℕ
announced_at S past = announcement S.step (has_run past.journal) (open_step past.journal) (last_begun past.journal)

-- what each peer that isn't gone has been told
abbrev pub stands : Setup → Past → Said
stands S past = says S (state_of past.journal) (announced_at S past) (is_state Shutdown (state_of past.journal))

pub says_eq : (S : Setup) {s s' : State} {a a' : Option ℕ} {l l' : Bool} → s ≡ s' → a ≡ a' → l ≡ l' → says S s a l ≡ says S s' a' l'
says_eq S {s} {s'} {a} {a'} {l} {l'} p q r = ap (λ x. says S x a l) p ∙ ap (λ x. says S s' x l) q ∙ ap (λ x. says S s' a' x) r

pub announced_eq : (S : Setup) {past now : Past} → SameMoment past now → announced_at S now ≡ announced_at S past
announced_eq S {past} {now} m =
    ap (λ r. announcement S.step r (open_step now.journal) (last_begun now.journal)) m.run
    ∙ ap (λ o. announcement S.step (has_run past.journal) o (last_begun now.journal)) m.opened
    ∙ ap (announcement S.step (has_run past.journal) (open_step past.journal)) m.begun

pub stands_same : (S : Setup) {past now : Past} → SameMoment past now → stands S now ≡ stands S past
stands_same S {past} {now} m = says_eq S m.state (announced_eq S m) (ap (is_state Shutdown) m.state)

-- ## The kinds of the own services

abbrev pub kind_at : ServiceState → ServiceKind
kind_at (CanAt state) = kinds.Can
kind_at (EthernetAt active) = kinds.Ethernet
kind_at (LinAt lin) = kinds.Lin
kind_at (PublisherAt last) = kinds.Publisher
kind_at SubscriberAt = kinds.Subscriber
kind_at (ServerAt calls) = kinds.Server
kind_at (ClientAt made) = kinds.Client

abbrev pub kinds_in : Past → List ServiceKind
kinds_in past = map kind_at past.memory.services

-- ## The invariant

pub record Spoken (S : Setup) (q : ℕ) (past : Past) : Type 0 where
  -- what was put to q comes in order,
  pub orderly : IsOrderly (own_name S) (put past.journal q)
  -- and where q isn't gone it says where the participant stands
  pub now : is_gone past.journal q ≡ false → said_of (put past.journal q) ≡ stands S past
  -- nothing is put to it behind its Gone
  pub silent : IsSilent q past.journal
  -- each own service is at a state of its kind
  pub kinds : kinds_in past ≡ map (λ s. s.kind) S.services

-- a block that puts messages that come in order, and say what stands then
pub spoken_by : {S : Setup} {q : ℕ} {past now : Past} {ms : List Content} → PutsTo q past now ms → (is_gone past.journal q ≡ false → Runs (stands S past) ms (stands S now)) →
    kinds_in now ≡ kinds_in past → Spoken S q past → Spoken S q now
spoken_by {S} {q} {past} {now} {ms} p runs k h = on (is_gone past.journal q) refl
  where
    on : (g : Bool) → is_gone past.journal q ≡ g → Spoken S q now
    on true e = record {
      orderly = subst (IsOrderly (own_name S)) (sym (puts_all p ∙ ap (λ b. put past.journal q ++ unless b ms) e ∙ append-nil (put past.journal q))) h.orderly;
      now = λ g. let c = sym e ∙ sym p.gone ∙ g in absurd cc;
      silent = silent_puts p h.silent;
      kinds = k ∙ h.kinds;
    }
    on false e =
        let was = h.now e in
        let same : put now.journal q ≡ put past.journal q ++ ms = puts_all p ∙ ap (λ b. put past.journal q ++ unless b ms) e in
        let r = orderly_run (own_name S) (put past.journal q) ms (stands S now) h.orderly (ap (λ (s : Said). s.hello) was) (subst (λ s. Runs s ms (stands S now)) (sym was) (runs e)) in
        record { orderly = subst (IsOrderly (own_name S)) (sym same) r.0; now = λ g. ap said_of same ∙ r.1; silent = silent_puts p h.silent; kinds = k ∙ h.kinds }

pub spoken_quiet : {S : Setup} {q : ℕ} {past now : Past} → PutsTo q past now [] → SameMoment past now → kinds_in now ≡ kinds_in past → Spoken S q past → Spoken S q now
spoken_quiet {S} p m k h = spoken_by p (λ g. sym (stands_same S m)) k h

pub spoken_plain : {S : Setup} {q : ℕ} (past : Past) (e : Entry) → put_to q e ≡ None → is_gone_entry q e ≡ false → IsPlain e → Spoken S q past → Spoken S q (add e past)
spoken_plain {S} {q} past e put gone plain h = spoken_quiet (puts_add q past e put gone) (moment_add past e plain) refl h

pub spoken_memory : {S : Setup} {q : ℕ} (past : Past) (memory : Memory) → map kind_at memory.services ≡ kinds_in past → Spoken S q past → Spoken S q (record { journal = past.journal; memory = memory })
spoken_memory past memory k h = record { orderly = h.orderly; now = h.now; silent = h.silent; kinds = k ∙ h.kinds }

-- a message that changes nothing of it
pub spoken_message : {S : Setup} {q : ℕ} {past now : Past} (m : Content) → PutsTo q past now (m ∷ []) → SameMoment past now → kinds_in now ≡ kinds_in past →
    fits (stands S past) m ≡ true → said_after (stands S past) m ≡ stands S past → Spoken S q past → Spoken S q now
spoken_message {S} m p same k f w h = spoken_by p (λ g. (f, w ∙ sym (stands_same S same))) k h

-- ## System

pub kinds_system : (S : Setup) (past : Past) → kinds_in (judge_system S past) ≡ kinds_in past
unfolding judge_system
kinds_system S past = on (is_state (system S past) (system_told past.journal))
  where
    on : (c : Bool) → kinds_in (if c then past else add (Judged (system S past)) past) ≡ kinds_in past
    on true = refl
    on false = refl

pub spoken_system : {S : Setup} {q : ℕ} (past : Past) → Spoken S q past → Spoken S q (judge_system S past)
spoken_system {S} {q} past h = spoken_quiet (puts_system S q past) (moment_system S past) (kinds_system S past) h

-- ## States

abbrev pub is_above_0 : Option ℕ → Bool
is_above_0 o = is_above o 0

entered_plain : (S : Setup) (past : Past) (to : State) → stands S (add (Entered to) past) ≡
    says S to (announcement S.step (has_run past.journal || is_state Running to) (open_step past.journal) (last_begun past.journal)) (is_state Shutdown to)
entered_plain S past to =
    says_eq S (state_of-add past.journal (Entered to))
    (ap (λ r. announcement S.step r (open_step (past.journal ++ Entered to ∷ [])) (last_begun (past.journal ++ Entered to ∷ []))) (has_run-add past.journal (Entered to) ∙ ap (λ b. has_run past.journal || b) (or_no (is_state Running to)))
    ∙ ap (λ o. announcement S.step (has_run past.journal || is_state Running to) o (last_begun (past.journal ++ Entered to ∷ []))) (open_step-add past.journal (Entered to))
    ∙ ap (announcement S.step (has_run past.journal || is_state Running to) (open_step past.journal)) (last_begun-add past.journal (Entered to)))
    (ap (is_state Shutdown) (state_of-add past.journal (Entered to)))

no_shut_run : (s : State) → (not (is_state Shutdown s) || not (is_state Running s)) ≡ true
unfolding is_state
no_shut_run s = each_state (λ a. not (is_state Shutdown a) || not (is_state Running a)) refl s

shut_run : (s : State) → is_state Shutdown s ≡ true → is_state Running s ≡ false
shut_run s h = by (is_state Shutdown s) (is_state Running s) (no_shut_run s) h
  where
    by : (a b : Bool) → (not a || not b) ≡ true → a ≡ true → b ≡ false
    by true true e f = absurd cc
    by true false e f = refl
    by false b e f = absurd cc

pub edge_alive : (s t : State) → has_edge s t ≡ true → is_state Shutdown s ≡ false
unfolding is_state has_edge
edge_alive s t e = by (has_edge s t) (is_state Shutdown s) (each_pair (λ a b. not (has_edge a b) || not (is_state Shutdown a)) refl s t) e
  where
    by : (a b : Bool) → (not a || not b) ≡ true → a ≡ true → b ≡ false
    by true true e f = absurd cc
    by true false e f = refl
    by false b e f = absurd cc

module _ (S : Setup) (q : ℕ) (peer : is_peer S q ≡ true) where
  pub puts_enter_only : (to : State) (until : ℕ) (past : Past) → PutsTo q past (enter_only S to until past) (contents.Status to until ∷ [])
  puts_enter_only to until past =
      puts_both (puts_add q past (Entered to) refl refl)
      (puts_both (puts_each q (told S past) (contents.Status to until) (add (Entered to) past)
      (put_told S q peer past (contents.Status to until) ∙ ap (λ b. unless b (contents.Status to until ∷ [])) (sym (puts_add q past (Entered to) refl refl).gone)))
      (puts_system S q (put_each (told S past) (contents.Status to until) (add (Entered to) past))))

  pub moment_enter_only : (to : State) (until : ℕ) (past : Past) → SameMoment (add (Entered to) past) (enter_only S to until past)
  moment_enter_only to until past =
      then_moment (moment_puts (told S past) (contents.Status to until) (add (Entered to) past)) (moment_system S (put_each (told S past) (contents.Status to until) (add (Entered to) past)))

  pub stands_entered : (to : State) (until : ℕ) (past now : Past) → SameMoment (enter_only S to until past) now → stands S now ≡
      says S to (announcement S.step (has_run past.journal || is_state Running to) (open_step past.journal) (last_begun past.journal)) (is_state Shutdown to)
  stands_entered to until past now m = stands_same S (then_moment (moment_enter_only to until past) m) ∙ entered_plain S past to

  pub kinds_enter_only : (to : State) (until : ℕ) (past : Past) → kinds_in (enter_only S to until past) ≡ kinds_in past
  kinds_enter_only to until past = kinds_system S (put_each (told S past) (contents.Status to until) (add (Entered to) past))

  status_fits : (past : Past) (to : State) (until : ℕ) → IsAlive past → fits (stands S past) (contents.Status to until) ≡ true
  status_fits past to until alive = and_from (not (is_state Shutdown (state_of past.journal))) true (ap not alive) refl

  -- Status alone, where nothing else changes
  pub spoken_enter_only : (to : State) (until : ℕ) (past : Past) → IsAlive past → is_state Shutdown to ≡ false →
      announcement S.step (has_run past.journal || is_state Running to) (open_step past.journal) (last_begun past.journal) ≡ announced_at S past → Spoken S q past → Spoken S q (enter_only S to until past)
  spoken_enter_only to until past alive open_to same h =
      spoken_by {S = S} {q = q} (puts_enter_only to until past)
      (λ g. (status_fits past to until alive, sym (stands_entered to until past (enter_only S to until past) (moment (enter_only S to until past)) ∙ says_eq S refl same (open_to ∙ sym alive))))
      (kinds_enter_only to until past) h

  pub spoken_shut : (to : State) (until : ℕ) (past : Past) → IsAlive past → is_state Shutdown to ≡ true → Spoken S q past → Spoken S q (put_each (told S past) contents.Leave (enter_only S to until past))
  spoken_shut to until past alive shut h =
      let now : Past = enter_only S to until past in
      let p = puts_enter_only to until past in
      let leave : PutsTo q now (put_each (told S past) contents.Leave now) (contents.Leave ∷ []) =
      puts_each q (told S past) contents.Leave now (put_told S q peer past contents.Leave ∙ ap (λ b. unless b (contents.Leave ∷ [])) (sym p.gone)) in
      spoken_by {S = S} {q = q} (puts_both p leave)
      (λ g. (
        status_fits past to until alive,
        (
          and_from (not (is_state Shutdown (state_of past.journal))) (is_state Shutdown to) (ap not alive) shut,
          says_eq S refl (ap (λ r. announcement S.step r (open_step past.journal) (last_begun past.journal)) (sym (ap (λ b. has_run past.journal || b) (shut_run to shut) ∙ or_no (has_run past.journal)))) (sym shut)
              ∙ sym (stands_entered to until past (put_each (told S past) contents.Leave now) (moment_puts (told S past) contents.Leave now)),
        ),
      ))
      (kinds_enter_only to until past) h

  -- an announcement
  pub puts_announce : (at size : ℕ) (past : Past) → S.step ≡ Some size → PutsTo q past (announce S at past) (contents.NextStep at size ∷ [])
  puts_announce at size past e =
      subst (λ o. PutsTo q past (announce (record S { step = o }) at past) (contents.NextStep at size ∷ [])) (sym e)
      (puts_each q (reached S past) (contents.NextStep at size) past (put_reached S q peer past (contents.NextStep at size)))

  pub moment_announce : (at : ℕ) (past : Past) → SameMoment past (announce S at past)
  moment_announce at past = on S.step
    where
      on : (o : Option ℕ) → SameMoment past (announce (record S { step = o }) at past)
      on None = moment past
      on (Some size) = moment_puts (reached S past) (contents.NextStep at size) past

  pub kinds_announce : (at : ℕ) (past : Past) → kinds_in (announce S at past) ≡ kinds_in past
  kinds_announce at past = on S.step
    where
      on : (o : Option ℕ) → kinds_in (announce (record S { step = o }) at past) ≡ kinds_in past
      on None = refl
      on (Some size) = refl

  pub spoken_first : (to : State) (until : ℕ) (past : Past) → IsAlive past → is_state Shutdown to ≡ false → is_state Running to ≡ true → has_run past.journal ≡ false →
      open_step past.journal ≡ None → last_begun past.journal ≡ None → Spoken S q past → Spoken S q (announce S 0 (enter_only S to until past))
  spoken_first to until past alive open_to running first closed unbegun h = on S.step refl
    where
      now : Past
      now = enter_only S to until past

      clocked : (step : Option ℕ) → announcement step (has_run past.journal || is_state Running to) (open_step past.journal) (last_begun past.journal) ≡ option_map (λ size. 0) step
      clocked step =
          ap (λ r. announcement step (has_run past.journal || r) (open_step past.journal) (last_begun past.journal)) running
          ∙ ap (λ r. announcement step (r || true) (open_step past.journal) (last_begun past.journal)) first
          ∙ ap (λ o. announcement step true o (last_begun past.journal)) closed ∙ ap (announcement step true None) unbegun

      silent : (step : Option ℕ) → announcement step (has_run past.journal) (open_step past.journal) (last_begun past.journal) ≡ None
      silent step = ap (λ r. announcement step r (open_step past.journal) (last_begun past.journal)) first

      on : (o : Option ℕ) → S.step ≡ o → Spoken S q (announce S 0 now)
      on None e =
          subst (λ o. Spoken S q (announce (record S { step = o }) 0 now)) (sym e)
          (spoken_enter_only to until past alive open_to (clocked S.step ∙ ap (option_map (λ size. 0)) e ∙ sym (silent S.step)) h)
      on (Some size) e =
          spoken_by {S = S} {q = q} (puts_both (puts_enter_only to until past) (puts_announce 0 size now e))
          (λ g. (
            status_fits past to until alive,
            (
              and_from (not (is_state Shutdown (state_of past.journal))) (is_some S.step && is_above_0 (announced_at S past)) (ap not alive) (and_from (is_some S.step) (is_above_0 (announced_at S past)) (ap is_some e) (ap is_above_0 (silent S.step))),
              says_eq S refl (ap (option_map (λ size. 0)) (sym e) ∙ sym (clocked S.step)) (alive ∙ sym open_to) ∙ sym (stands_entered to until past (announce S 0 now) (moment_announce 0 now)),
            ),
          ))
          (kinds_announce 0 now ∙ kinds_enter_only to until past) h
