-- The state of the whole simulation: what the required names and the last known state of each add up to.
use Rattle.std.specs.Prelude.{Bool, false, ◌&&◌, ◌||◌, ◌==◌, List, [], ◌∷◌, length, map, Option, Some, None, unwrap_or, find, if◌then◌else◌}
use Rattle.std.specs.List.{list_any, list_all}
use Rattle.sk_msg.specs.declared.state.State.{State}
use Rattle.sk_msg.specs.declared.state.State.TheVariants.{Invalid, ServicesCreated, CommunicationInitializing, CommunicationInitialized, ReadyToRun, Running, Paused, Stopping, Stopped, Error, ShuttingDown, Shutdown, Aborting}
use Rattle.sk_msg.specs.States.{is_state, chain, counted, has_reached}

-- ## Over the states of those that are required

unfoldable pub some_is : State → List State → Bool
some_is state states = list_any (is_state state) states

unfoldable pub some_reached : State → List State → Bool
some_reached goal states = list_any (λ state. has_reached state goal) states

unfoldable pub all_reached : State → List State → Bool
all_reached goal states = list_all (λ state. has_reached state goal) states

-- nobody is required, or one has the state Invalid or no known state, which counts as Invalid
abbrev pub is_unknown : List State → Bool
is_unknown states = length states == 0 || some_is Invalid states

abbrev pub is_running_or_paused : State → Bool
is_running_or_paused state = is_state Running state || is_state Paused state

-- all are Running or Paused, and one is Paused
abbrev pub is_paused : List State → Bool
is_paused states = list_all is_running_or_paused states && some_is Paused states

-- Shutdown, ShuttingDown or Stopped, the last in the chain that all have reached; else Stopping
abbrev pub ending : List State → State
ending states = unwrap_or (find (λ goal. all_reached goal states) (Shutdown ∷ ShuttingDown ∷ Stopped ∷ [])) Stopping

-- the first state of the chain at which one stands, with Paused taken as Running
abbrev pub least : List State → State
least states = unwrap_or (find (λ place. some_is place (map counted states)) chain) Invalid

-- the same where all are at work and none has reached Stopping
abbrev pub least_before_stopping : List State → State
least_before_stopping states =
    unwrap_or (find (λ place. some_is place states) (ServicesCreated ∷ CommunicationInitializing ∷ CommunicationInitialized ∷ ReadyToRun ∷ [])) Running

-- the first of the six rules that fits
unfoldable pub system_of : List State → State
system_of states =
    if is_unknown states then Invalid else
    if some_is Aborting states then Aborting else
    if some_is Error states then Error else
    if some_reached Stopping states then ending states else
    if is_paused states then Paused else
    least states

-- ## Over names

-- the last known state of each name; a name of which nothing is known counts as Invalid
abbrev pub last_states : {N : Type 0} → (N → Option State) → List N → List State
last_states known names = map (λ name. unwrap_or (known name) Invalid) names

-- none where the workflow isn't known
abbrev pub system_state : {N : Type 0} → Option (List N) → (N → Option State) → State
system_state None known = Invalid
system_state (Some names) known = system_of (last_states known names)

-- all required have reached this state; false where the workflow isn't known
abbrev pub all_required_reached : {N : Type 0} → Option (List N) → (N → Option State) → State → Bool
all_required_reached None known goal = false
all_required_reached (Some names) known goal = all_reached goal (last_states known names)
