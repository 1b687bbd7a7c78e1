-- Where none has reached Stopping, the least in the chain is the first place before Running at which one stands, else Running.
use Rattle.std.proofs.Common.{◌≡◌, Bool, true, false, cond, List, [], ◌∷◌, Option, Some, None, refl}
use Rattle.std.specs.Prelude.{◌||◌, map, unwrap_or}
use Rattle.std.proofs.lemmas.Bool.{or_parts, or_left}
use Rattle.sk_msg.specs.States.{is_state, counted, has_reached}
use Rattle.sk_msg.specs.declared.state.State.{State}
use Rattle.sk_msg.specs.declared.state.State.TheVariants.{Invalid, ServicesCreated, CommunicationInitializing, CommunicationInitialized, ReadyToRun, Running, Paused, Stopping, Stopped, Error, ShuttingDown, Shutdown, Aborting}
use Rattle.sk_system.specs.System.{some_is, some_reached, is_unknown, least, least_before_stopping}

-- before Running each state counts as itself
counts_as_itself : (place : State) → ((state : State) → is_state place (counted state) ≡ is_state place state) → (states : List State) → some_is place (map counted states) ≡ some_is place states
unfolding some_is
counts_as_itself place each [] = refl
counts_as_itself place each (state ∷ states) = rw (each state, counts_as_itself place each states) refl

-- before Running no state counts as another
record CountsAsItself (state : State) : Type 0 where
  created : is_state ServicesCreated (counted state) ≡ is_state ServicesCreated state
  initializing : is_state CommunicationInitializing (counted state) ≡ is_state CommunicationInitializing state
  initialized : is_state CommunicationInitialized (counted state) ≡ is_state CommunicationInitialized state
  ready : is_state ReadyToRun (counted state) ≡ is_state ReadyToRun state

itself : (state : State) → CountsAsItself state
unfolding is_state
itself Invalid = record { created = refl; initializing = refl; initialized = refl; ready = refl }
itself ServicesCreated = record { created = refl; initializing = refl; initialized = refl; ready = refl }
itself CommunicationInitializing = record { created = refl; initializing = refl; initialized = refl; ready = refl }
itself CommunicationInitialized = record { created = refl; initializing = refl; initialized = refl; ready = refl }
itself ReadyToRun = record { created = refl; initializing = refl; initialized = refl; ready = refl }
itself Running = record { created = refl; initializing = refl; initialized = refl; ready = refl }
itself Paused = record { created = refl; initializing = refl; initialized = refl; ready = refl }
itself Stopping = record { created = refl; initializing = refl; initialized = refl; ready = refl }
itself Stopped = record { created = refl; initializing = refl; initialized = refl; ready = refl }
itself Error = record { created = refl; initializing = refl; initialized = refl; ready = refl }
itself ShuttingDown = record { created = refl; initializing = refl; initialized = refl; ready = refl }
itself Shutdown = record { created = refl; initializing = refl; initialized = refl; ready = refl }
itself Aborting = record { created = refl; initializing = refl; initialized = refl; ready = refl }

-- each state is Running or Paused, or one of these
at_work : (state : State) → (is_state Invalid state || (is_state Aborting state || (is_state Error state || (has_reached state Stopping || (is_state ServicesCreated state || (is_state CommunicationInitializing state || (is_state CommunicationInitialized state || (is_state ReadyToRun state || is_state Running (counted state))))))))) ≡ true
unfolding is_state has_reached
at_work Invalid = refl
at_work ServicesCreated = refl
at_work CommunicationInitializing = refl
at_work CommunicationInitialized = refl
at_work ReadyToRun = refl
at_work Running = refl
at_work Paused = refl
at_work Stopping = refl
at_work Stopped = refl
at_work Error = refl
at_work ShuttingDown = refl
at_work Shutdown = refl
at_work Aborting = refl

-- so it is where the first of them is none of these
one_runs : (states : List State) → is_unknown states ≡ false → some_is Aborting states ≡ false → some_is Error states ≡ false → some_reached Stopping states ≡ false
    → some_is ServicesCreated states ≡ false → some_is CommunicationInitializing states ≡ false → some_is CommunicationInitialized states ≡ false → some_is ReadyToRun states ≡ false
    → some_is Running (map counted states) ≡ true
unfolding some_is some_reached
one_runs [] known a e s p q r t = absurd cc
one_runs (state ∷ states) known a e s p q r t =
    let no_invalid : is_state Invalid state ≡ false = (or_parts _ _ (or_parts _ _ known).1).0 in
    let no_aborting : is_state Aborting state ≡ false = (or_parts _ _ a).0 in
    let no_error : is_state Error state ≡ false = (or_parts _ _ e).0 in
    let no_stopping : has_reached state Stopping ≡ false = (or_parts _ _ s).0 in
    let no_created : is_state ServicesCreated state ≡ false = (or_parts _ _ p).0 in
    let no_initializing : is_state CommunicationInitializing state ≡ false = (or_parts _ _ q).0 in
    let no_initialized : is_state CommunicationInitialized state ≡ false = (or_parts _ _ r).0 in
    let no_ready : is_state ReadyToRun state ≡ false = (or_parts _ _ t).0 in
    let runs : is_state Running (counted state) ≡ true = rw (no_invalid, no_aborting, no_error, no_stopping, no_created, no_initializing, no_initialized, no_ready) at (at_work state) in
    or_left _ _ runs

pub least-early : (states : List State) → is_unknown states ≡ false → some_is Aborting states ≡ false → some_is Error states ≡ false → some_reached Stopping states ≡ false → least_before_stopping states ≡ least states
unfolding is_state
least-early states known a e s =
    rw (
      counts_as_itself ServicesCreated (λ s. (itself s).created) states,
      counts_as_itself CommunicationInitializing (λ s. (itself s).initializing) states,
      counts_as_itself CommunicationInitialized (λ s. (itself s).initialized) states,
      counts_as_itself ReadyToRun (λ s. (itself s).ready) states,
    )
    (split (some_is ServicesCreated states) (some_is CommunicationInitializing states) (some_is CommunicationInitialized states) (some_is ReadyToRun states) _ _ _ (λ p q r t. one_runs states known a e s p q r t))
  where
    split : (p q r t u : Bool) (rest : Option State) (other : State) → (p ≡ false → q ≡ false → r ≡ false → t ≡ false → u ≡ true)
        → unwrap_or (cond p (Some ServicesCreated) (cond q (Some CommunicationInitializing) (cond r (Some CommunicationInitialized) (cond t (Some ReadyToRun) None)))) Running
        ≡ unwrap_or (cond p (Some ServicesCreated) (cond q (Some CommunicationInitializing) (cond r (Some CommunicationInitialized) (cond t (Some ReadyToRun) (cond u (Some Running) rest))))) other
    split true q r t u rest other runs = refl
    split false true r t u rest other runs = refl
    split false false true t u rest other runs = refl
    split false false false true u rest other runs = refl
    split false false false false u rest other runs = rw (runs refl refl refl refl) refl

pub ruleset least_early = (least-early)
