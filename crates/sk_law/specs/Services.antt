-- What an own service is at in the beginning.
use Rattle.std.specs.Prelude.{false, List, [], map, None}
use Rattle.sk_msg.specs.declared.service.Service.{Service}
use Rattle.sk_msg.specs.declared.service.ServiceKind.TheVariants as kinds
use Rattle.sk_msg.specs.declared.service.ServiceKind.{ServiceKind}
use Rattle.sk_can.specs.Can.{new_can}
use Rattle.sk_lin.specs.Lin.{new_lin}
use Rattle.sk_law.specs.declared.memory.ServiceState.{ServiceState}
use Rattle.sk_law.specs.declared.memory.ServiceState.TheVariants as states

-- of this kind
abbrev pub new_state_of : Service → ServiceKind → ServiceState
new_state_of service kinds.Can = states.Can new_can
new_state_of service kinds.Ethernet = states.Ethernet false
new_state_of service kinds.Lin = states.Lin new_lin
new_state_of service kinds.Publisher = states.Publisher (record { history = service.history; last = None })
new_state_of service kinds.Subscriber = states.Subscriber
new_state_of service kinds.Server = states.Server []
new_state_of service kinds.Client = states.Client 0

-- of each of these services
abbrev pub new_states : List Service → List ServiceState
new_states services = map (λ s. new_state_of s s.kind) services
