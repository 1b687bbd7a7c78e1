-- The laws of states: one number each, and a table's rule from its test.
use Rattle.std.proofs.Common.{◌≡◌, Bool, true, false, List, [], ◌∷◌, Some, refl, ap, sym, ◌∙◌, eqb-true}
use Rattle.std.specs.Prelude.{◌||◌}
use Rattle.std.specs.Bool.{beq}
use Rattle.std.specs.List.{list_any, list_all}
use Rattle.std.proofs.lemmas.Bool.{and_parts}
use Rattle.sk_msg.specs.States.{state_number, state_of, is_state}
use Rattle.sk_msg.specs.declared.state.State.{State}
use Rattle.sk_msg.specs.declared.state.State.TheVariants.{Invalid, ServicesCreated, CommunicationInitializing, CommunicationInitialized, ReadyToRun, Running, Paused, Stopping, Stopped, Error, ShuttingDown, Shutdown, Aborting}

-- ## Numbers

-- the state of its number is the state
pub state_back : (state : State) → state_of (state_number state) ≡ Some state
state_back Invalid = refl
state_back ServicesCreated = refl
state_back CommunicationInitializing = refl
state_back CommunicationInitialized = refl
state_back ReadyToRun = refl
state_back Running = refl
state_back Paused = refl
state_back Stopping = refl
state_back Stopped = refl
state_back Error = refl
state_back ShuttingDown = refl
state_back Shutdown = refl
state_back Aborting = refl

-- two states are one where their numbers are
pub is_state-same : (a b : State) → is_state a b ≡ true → a ≡ b
unfolding is_state
is_state-same a b h =
    let number : state_number a ≡ state_number b = eqb-true (state_number a) (state_number b) h in
    let both : Some a ≡ Some b = sym (state_back a) ∙ ap state_of number ∙ state_back b in
    cc

-- ## A test over all states is a rule at each

abbrev pub all_states : List State
all_states =
    Invalid ∷ ServicesCreated ∷ CommunicationInitializing ∷ CommunicationInitialized ∷ ReadyToRun ∷ Running ∷ Paused ∷ Stopping ∷ Stopped ∷ Error ∷ ShuttingDown ∷ Shutdown ∷ Aborting ∷ []

in_all : (state : State) → list_any (is_state state) all_states ≡ true
unfolding is_state
in_all Invalid = refl
in_all ServicesCreated = refl
in_all CommunicationInitializing = refl
in_all CommunicationInitialized = refl
in_all ReadyToRun = refl
in_all Running = refl
in_all Paused = refl
in_all Stopping = refl
in_all Stopped = refl
in_all Error = refl
in_all ShuttingDown = refl
in_all Shutdown = refl
in_all Aborting = refl

-- a state among s and these others is s or among the others
or_later : (test : State → Bool) (s state : State) (others : Bool) → (is_state state s || others) ≡ true → test s ≡ true → (others ≡ true → test state ≡ true) → test state ≡ true
or_later test s state others among here later = split (is_state state s) refl
  where
    split : (same : Bool) → is_state state s ≡ same → test state ≡ true
    split true is = rw (is_state-same state s is) here
    split false is = later (rw is at among)

at_each : (test : State → Bool) (states : List State) (state : State) → list_any (is_state state) states ≡ true → list_all test states ≡ true → test state ≡ true
at_each test [] state among all = absurd cc
at_each test (s ∷ states) state among all =
    let parts = and_parts (test s) (list_all test states) all in
    or_later test s state (list_any (is_state state) states) among parts.0 (λ later. at_each test states state later parts.1)

pub each_state : (test : State → Bool) → list_all test all_states ≡ true → (state : State) → test state ≡ true
each_state test all state = at_each test all_states state (in_all state) all

pub each_pair : (test : State → State → Bool) → list_all (λ a. list_all (test a) all_states) all_states ≡ true → (a b : State) → test a b ≡ true
each_pair test all a b = each_state (test a) (each_state (λ s. list_all (test s) all_states) all a) b

-- the same of two ways to compute a Bool
pub beq-same : (a b : Bool) → beq a b ≡ true → a ≡ b
beq-same true true h = refl
beq-same true false h = absurd cc
beq-same false true h = absurd cc
beq-same false false h = refl
