-- The system state is the same however those that are required are named.
use Rattle.std.proofs.Common.{◌≡◌, List, [], ◌∷◌, Option, Some, None, refl, ap}
use Rattle.std.specs.Prelude.{map, option_map, unwrap_or}
use Rattle.sk_msg.specs.declared.state.State.{State}
use Rattle.sk_msg.specs.declared.state.State.TheVariants.{Invalid}
use Rattle.sk_system.specs.System.{system_of, all_reached, last_states, system_state, all_required_reached}

pub last_states-map : {N M : Type 0} (number_of : N → M) (known : M → Option State) (names : List N)
    → last_states known (map number_of names) ≡ last_states (λ name. known (number_of name)) names
last_states-map number_of known [] = refl
last_states-map number_of known (name ∷ names) =
    ap (λ states. unwrap_or (known (number_of name)) Invalid ∷ states) (last_states-map number_of known names)

pub system_state-map : {N M : Type 0} (number_of : N → M) (known : M → Option State) (required : Option (List N))
    → system_state (option_map (map number_of) required) known ≡ system_state required (λ name. known (number_of name))
system_state-map number_of known None = refl
system_state-map number_of known (Some names) = ap system_of (last_states-map number_of known names)

pub all_required_reached-map : {N M : Type 0} (number_of : N → M) (known : M → Option State) (required : Option (List N)) (goal : State)
    → all_required_reached (option_map (map number_of) required) known goal ≡ all_required_reached required (λ name. known (number_of name)) goal
all_required_reached-map number_of known None goal = refl
all_required_reached-map number_of known (Some names) goal = ap (all_reached goal) (last_states-map number_of known names)
