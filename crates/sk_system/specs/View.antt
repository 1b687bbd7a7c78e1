-- What a system view stands for: the required names and the last known states, by participant number.
use Rattle.std.specs.Prelude.{ℕ, Bool, List, Option, Some, None, slice_index_or}
use Rattle.sk_msg.specs.declared.state.State.{State}
use Rattle.sk_system.specs.System.{last_states, system_state, all_required_reached}

-- the required names, where the workflow is known: a participant's number, or none for a name that is no participant;
-- and by number the last known state of each participant
pub record View : Type 0 where
  pub required : Option (List (Option ℕ))
  pub known : List (Option State)

-- what is known of a name
abbrev pub known_of : List (Option State) → Option ℕ → Option State
known_of known None = None
known_of known (Some number) = slice_index_or known number None

-- the last known states of these names
abbrev pub states_in : List (Option State) → List (Option ℕ) → List State
states_in known names = last_states (known_of known) names

-- the state of the whole simulation
unfoldable pub view_system : View → State
view_system view = system_state view.required (known_of view.known)

-- all that are required have reached this state
unfoldable pub view_reached : View → State → Bool
view_reached view goal = all_required_reached view.required (known_of view.known) goal
