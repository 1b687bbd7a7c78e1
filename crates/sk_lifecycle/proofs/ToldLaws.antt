-- No edge leads to Invalid.
use Rattle.std.proofs.Common.{◌≡◌, Bool, true, false, Option, Some, None, refl}
use Rattle.std.specs.Prelude.{◌||◌, not, IsTrue, IfSome}
use Rattle.sk_msg.specs.States.{is_state}
use Rattle.sk_msg.specs.Edges.{has_edge, has_edge_of, led_to}
use Rattle.sk_msg.specs.Rules.{is_told}
use Rattle.sk_msg.specs.declared.command.Command.{Command}
use Rattle.sk_msg.specs.declared.state.State.{State}
use Rattle.sk_msg.specs.declared.state.State.TheVariants.{ServicesCreated}
use Rattle.sk_lifecycle.proofs.EdgeLaws.{led_to-edge, has_edge_of-edge}
use Rattle.sk_lifecycle.proofs.StateLaws.{each_pair}
use Rattle.sk_lifecycle.specs.declared.known.Known.{Known}
use Rattle.sk_lifecycle.specs.Course.{chain_row}
use Rattle.sk_lifecycle.proofs.CourseLaws.{chain_row-edge}

leads_to_told : (from to : State) → (not (has_edge from to) || is_told to) ≡ true
unfolding is_state has_edge is_told
leads_to_told from to = each_pair (λ a b. not (has_edge a b) || is_told b) refl from to

second : (edge told : Bool) → (not edge || told) ≡ true → edge ≡ true → told ≡ true
second true told h e = h
second false told h e = absurd cc

pub edge-told : (from to : State) → has_edge from to ≡ true → IsTrue (is_told to)
edge-told from to edge = second (has_edge from to) (is_told to) (leads_to_told from to) edge

pub led_to-has_edge : (from : State) (command : Command) (to : State) → led_to from command ≡ Some to → IsTrue (has_edge from to)
led_to-has_edge from command to leads = has_edge_of-edge command from to (led_to-edge from command to leads)

pub led_to-told : (from : State) (command : Command) (to : State) → led_to from command ≡ Some to → IsTrue (is_told to)
led_to-told from command to leads = edge-told from to (led_to-has_edge from command to leads)

pub chain_row-told : (coordinated : Bool) (reached : State → Bool) (known : Known) (from to : State) → chain_row coordinated reached known from ≡ Some to → IsTrue (is_told to)
chain_row-told coordinated reached known from to row = edge-told from to (chain_row-edge coordinated reached known from to row)

pub start-told : IsTrue (is_told ServicesCreated)
unfolding is_told
start-told = refl

pub ruleset told = (edge-told, led_to-told, chain_row-told, start-told)

-- ## Of what a command leads to, where it leads anywhere

pub has_edge-led_to : (from : State) (command : Command) (leads : Option State) → led_to from command ≡ leads → IfSome leads (λ to. IsTrue (has_edge from to))
has_edge-led_to from command None is = tt
has_edge-led_to from command (Some to) is = led_to-has_edge from command to is

pub told-led_to : (from : State) (command : Command) (leads : Option State) → led_to from command ≡ leads → IfSome leads (λ to. IsTrue (is_told to))
told-led_to from command None is = tt
told-led_to from command (Some to) is = led_to-told from command to is
