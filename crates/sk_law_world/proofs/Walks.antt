-- The states of a lawful journal are a walk of the graph.
use Rattle.std.specs.Prelude.{◌≡◌, ◌≤◌, refl, length, true, List, [], ◌∷◌, ◌++◌, None}
use Rattle.std.specs.List.{cons_option}
use Rattle.std.proofs.lemmas.List.Elements.{filter_map-append}
use Rattle.std.proofs.lemmas.List.Sums.{fold-append}
use Rattle.std.proofs.lemmas.List.{append-nil}
use Rattle.std.proofs.Common.{ap, sym, ◌∙◌, subst, arith}
use Rattle.sk_msg.specs.declared.state.State.{State}
use Rattle.sk_msg.specs.declared.state.State.TheVariants.{Invalid, ServicesCreated, CommunicationInitializing, CommunicationInitialized, ReadyToRun, Running, Paused, Stopping, Stopped, Error, ShuttingDown, Shutdown, Aborting}
use Rattle.sk_msg.specs.Edges.{has_edge, IsPath, IsWalk}
use Rattle.sk_msg.specs.States.{is_state}
use Rattle.sk_msg.specs.declared.entry.Entry.{Entry}
use Rattle.sk_msg.specs.declared.entry.Entry.TheVariants.{Got, Put, Hand, State as Entered, System as Judged, Begin, Done, End, Ask, Gone, Stray, Did, Fault}
use Rattle.sk_law.specs.declared.setup.Setup.{Setup}
use Rattle.sk_law.specs.Past.{Past}
use Rattle.sk_law.specs.Readings.{state_of, state_after, state_in, states}
use Rattle.sk_law_world.specs.Meets.{Meets}
use Rattle.sk_law_world.proofs.Built as built
use Rattle.sk_law_world.proofs.Built.{Built}

-- the last state of a path
abbrev pub last_of : State → List State → State
last_of from [] = from
last_of from (to ∷ more) = last_of to more

longer : (from : State) (path : List State) (to : State) → IsPath from path → has_edge (last_of from path) to ≡ true → IsPath from (path ++ to ∷ [])
longer from [] to h edge = (edge, tt)
longer from (next ∷ more) to h edge = (h.0, longer next more to h.1 edge)

last_longer : (from : State) (path : List State) (to : State) → last_of from (path ++ to ∷ []) ≡ to
last_longer from [] to = refl
last_longer from (next ∷ more) to = last_longer next more to

-- so far a path, which leads to the last state
pub record Path (es : List Entry) : Type 0 where
  pub path : IsPath Invalid (states es)
  pub last : last_of Invalid (states es) ≡ state_of es

states-add : (es : List Entry) (e : Entry) → states (es ++ e ∷ []) ≡ states es ++ cons_option (state_in e) []
states-add es e = filter_map-append state_in es (e ∷ [])

still : (es : List Entry) (e : Entry) → state_in e ≡ None → ((s : State) → state_after s e ≡ s) → Path es → Path (es ++ e ∷ [])
still es e none stays h =
    let same : states (es ++ e ∷ []) ≡ states es = states-add es e ∙ ap (λ o. states es ++ cons_option o []) none ∙ append-nil (states es) in
    record {
      path = subst (IsPath Invalid) (sym same) h.path;
      last = ap (last_of Invalid) same ∙ h.last ∙ sym (stays (state_of es)) ∙ sym (fold-append state_after Invalid es (e ∷ []));
    }

pub step : (S : Setup) (past : Past) (e : Entry) → Meets S past e → Path past.journal → Path (past.journal ++ e ∷ [])
step S past (Entered to) meets h = record {
  path = subst (IsPath Invalid) (sym (states-add past.journal (Entered to)))
      (longer Invalid (states past.journal) to h.path (subst (λ s. has_edge s to ≡ true) (sym h.last) meets.edge));
  last = ap (last_of Invalid) (states-add past.journal (Entered to)) ∙ last_longer Invalid (states past.journal) to ∙ sym (fold-append state_after Invalid past.journal (Entered to ∷ []));
}
step S past (Got p m) meets h = still past.journal (Got p m) refl (λ s. refl) h
step S past (Put p m) meets h = still past.journal (Put p m) refl (λ s. refl) h
step S past (Hand p k r) meets h = still past.journal (Hand p k r) refl (λ s. refl) h
step S past (Judged state) meets h = still past.journal (Judged state) refl (λ s. refl) h
step S past (Begin n t) meets h = still past.journal (Begin n t) refl (λ s. refl) h
step S past (Done n) meets h = still past.journal (Done n) refl (λ s. refl) h
step S past (End n) meets h = still past.journal (End n) refl (λ s. refl) h
step S past (Ask command verdict) meets h = still past.journal (Ask command verdict) refl (λ s. refl) h
step S past (Gone p reason) meets h = still past.journal (Gone p reason) refl (λ s. refl) h
step S past (Stray n) meets h = still past.journal (Stray n) refl (λ s. refl) h
step S past (Did s code m) meets h = still past.journal (Did s code m) refl (λ s. refl) h
step S past (Fault n) meets h = still past.journal (Fault n) refl (λ s. refl) h

pub built_path : (S : Setup) (past : Past) → Built S past → Path past.journal
built_path S past (built.empty memory) = record { path = tt; last = refl }
built_path S past (built.remembers was memory more b) = built_path S was b
built_path S past (built.adds was e b meets) = step S was e meets (built_path S was b)

first_state : (s : State) → has_edge Invalid s ≡ true → s ≡ ServicesCreated
unfolding has_edge is_state
first_state ServicesCreated h = refl
first_state Invalid h = absurd cc
first_state CommunicationInitializing h = absurd cc
first_state CommunicationInitialized h = absurd cc
first_state ReadyToRun h = absurd cc
first_state Running h = absurd cc
first_state Paused h = absurd cc
first_state Stopping h = absurd cc
first_state Stopped h = absurd cc
first_state Error h = absurd cc
first_state ShuttingDown h = absurd cc
first_state Shutdown h = absurd cc
first_state Aborting h = absurd cc

pub walk_of : (path : List State) → IsPath Invalid path → 1 ≤ length path → IsWalk path
walk_of [] h some = absurd (omega arith)
walk_of (first ∷ more) h some = (first_state first h.0, h.1)
