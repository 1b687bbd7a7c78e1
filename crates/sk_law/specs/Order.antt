-- The order of a link: what a peer or a tool has said, and what it may say next.
use Rattle.std.specs.Prelude.{ℕ, ◌==◌, nat_lt, Bool, true, false, not, ◌&&◌, ◌||◌, List, [], ◌∷◌, ◌++◌, length, Option, Some, None, slice_get, if◌then◌else◌}
use Rattle.std.specs.List.{list_any, filter_map, last_or}
use Rattle.std.specs.Str.{bytes_eq}
use Rattle.sk_msg.specs.declared.content.Content.{Content}
use Rattle.sk_msg.specs.declared.content.Content.TheVariants.{Hello, Leave, NextStep, ServiceAdd, ServicesEnd, Status, Workflow, Abort, Can, Eth, Lin, LinResponse, Publish, Call, Reply, Refuse}
use Rattle.sk_msg.specs.declared.head.Head.{Head}
use Rattle.sk_msg.specs.declared.role.Role.{Role}
use Rattle.sk_msg.specs.declared.role.Role.TheVariants.{Participant, Tool}
use Rattle.sk_msg.specs.declared.service.Service.{Service}
use Rattle.sk_msg.specs.declared.service.ServiceKind.{ServiceKind}
use Rattle.sk_msg.specs.declared.service.ServiceKind.TheVariants as kinds
use Rattle.sk_msg.specs.declared.state.State.{State}
use Rattle.sk_msg.specs.declared.state.State.TheVariants.{Shutdown}
use Rattle.sk_msg.specs.Roles.{is_coordinated_role, is_synchronised_role}
use Rattle.sk_msg.specs.States.{is_state}
use Rattle.sk_law.specs.declared.said.Said.{Said}

-- ## Data messages

-- the bytes that a data message carries; no other carries any
abbrev pub carried : Content → List ℕ
carried (Can head frame) = frame.payload
carried (Eth head payload) = payload
carried (Lin head frame) = frame.payload
carried (LinResponse head response) = response.payload
carried (Publish head payload) = payload
carried (Call head call payload) = payload
carried (Reply head client call payload) = payload
carried _ = []

-- the kinds are the same
abbrev pub is_kind : ServiceKind → ServiceKind → Bool
is_kind kinds.Can kinds.Can = true
is_kind kinds.Ethernet kinds.Ethernet = true
is_kind kinds.Lin kinds.Lin = true
is_kind kinds.Publisher kinds.Publisher = true
is_kind kinds.Subscriber kinds.Subscriber = true
is_kind kinds.Server kinds.Server = true
is_kind kinds.Client kinds.Client = true
is_kind _ _ = false

-- ## What was said

-- it is Hello
abbrev pub is_hello : Content → Bool
is_hello (Hello name role address) = true
is_hello _ = false

-- it is ServicesEnd
abbrev pub is_services_end : Content → Bool
is_services_end ServicesEnd = true
is_services_end _ = false

-- it is Leave
abbrev pub is_leave : Content → Bool
is_leave Leave = true
is_leave _ = false

-- a Hello of one that is synchronised
abbrev pub says_synchronised : Content → Bool
says_synchronised (Hello name role address) = is_synchronised_role role
says_synchronised _ = false

-- a Hello of one that is coordinated
abbrev pub says_coordinated : Content → Bool
says_coordinated (Hello name role address) = is_coordinated_role role
says_coordinated _ = false

-- what a message says: a service
abbrev pub service_in : Content → Option Service
service_in (ServiceAdd service) = Some service
service_in _ = None

-- a time of a step
abbrev pub time_in : Content → Option ℕ
time_in (NextStep at duration) = Some at
time_in _ = None

-- a state
abbrev pub state_in : Content → Option State
state_in (Status state until) = Some state
state_in _ = None

-- a bound of steps, which 0 is not
abbrev pub until_in : Content → Option ℕ
until_in (Status state until) = if until == 0 then None else Some until
until_in _ = None

-- its Hello
abbrev pub has_hello : List Content → Bool
has_hello ms = list_any is_hello ms

-- its ServicesEnd
abbrev pub has_ended : List Content → Bool
has_ended ms = list_any is_services_end ms

-- its Leave
abbrev pub has_left : List Content → Bool
has_left ms = list_any is_leave ms

-- it is synchronised, as its Hello says
abbrev pub is_synchronised : List Content → Bool
is_synchronised ms = list_any says_synchronised ms

-- it is coordinated, as its Hello says
abbrev pub is_coordinated : List Content → Bool
is_coordinated ms = list_any says_coordinated ms

-- its services
abbrev pub services_of : List Content → List Service
services_of ms = filter_map service_in ms

-- the time of the step that it announced last
abbrev pub announced_of : List Content → Option ℕ
announced_of ms = last_or None (filter_map time_in ms)

-- the state that it told last
abbrev pub status_of : List Content → Option State
status_of ms = last_or None (filter_map state_in ms)

-- the bounds that it told
abbrev pub untils_of : List Content → List ℕ
untils_of ms = filter_map until_in ms

-- all this in one record
abbrev pub said_of : List Content → Said
said_of ms = record {
  hello = has_hello ms;
  coordinated = is_coordinated ms;
  synchronised = is_synchronised ms;
  services = services_of ms;
  ended = has_ended ms;
  announced = announced_of ms;
  status = status_of ms;
  left = has_left ms;
}

-- what one message more makes of it
abbrev pub said_after : Said → Content → Said
said_after s (Hello name role address) = record s {
  hello = true;
  coordinated = s.coordinated || says_coordinated (Hello name role address);
  synchronised = s.synchronised || says_synchronised (Hello name role address);
}
said_after s (ServiceAdd service) = record s { services = s.services ++ service ∷ [] }
said_after s ServicesEnd = record s { ended = true }
said_after s (NextStep at duration) = record s { announced = Some at }
said_after s (Status state until) = record s { status = Some state }
said_after s Leave = record s { left = true }
said_after s _ = s

-- ## What may be said next

-- a tool has the role of a tool, and a peer has not
abbrev pub is_hello_of : Role → Bool → Bool
is_hello_of Tool tool = tool
is_hello_of (Participant coordinated synchronised) tool = not tool

-- the Hello that comes first: with the name, and with the tool's role exactly from a tool
abbrev pub opens : Bool → List ℕ → Content → Bool
opens tool name (Hello given role address) = bytes_eq given name && is_hello_of role tool
opens tool name _ = false

-- above the last one, if there is one
abbrev pub is_above : Option ℕ → ℕ → Bool
is_above None at = true
is_above (Some last) at = nat_lt last at

-- it is the last one
abbrev pub is_at : Option ℕ → ℕ → Bool
is_at None at = false
is_at (Some last) at = last == at

-- the last state is this one
abbrev pub has_status : State → Option State → Bool
has_status state None = false
has_status state (Some told) = is_state state told

-- there is such a service, and it is of this kind
abbrev pub has_kind : ServiceKind → Option Service → Bool
has_kind kind None = false
has_kind kind (Some service) = is_kind kind service.kind

-- a data message names an announced service of the kind that sends it; a marked one has the stamp of the last announcement
abbrev pub is_sendable : Said → ServiceKind → Head → Bool
is_sendable s kind head =
    has_kind kind (slice_get s.services head.service) && (head.mark == 0 || is_at s.announced head.stamp)

-- of a peer, behind its Hello: services numbered from 0, ServicesEnd, then the rest. NextStep comes from a synchronised one
-- alone, above the last one; Leave where the last Status is Shutdown; Hello, Workflow and Refuse never
abbrev pub follows : Said → Content → Bool
follows s (Hello name role address) = false
follows s (ServiceAdd service) = not s.ended && service.id == length s.services
follows s ServicesEnd = not s.ended
follows s (NextStep at duration) = s.ended && (s.synchronised && is_above s.announced at)
follows s (Status state until) = s.ended
follows s Abort = s.ended
follows s Leave = has_status Shutdown s.status
follows s (Workflow required) = false
follows s (Refuse reason) = false
follows s (Can head frame) = s.ended && is_sendable s kinds.Can head
follows s (Eth head payload) = s.ended && is_sendable s kinds.Ethernet head
follows s (Lin head frame) = s.ended && is_sendable s kinds.Lin head
follows s (LinResponse head response) = s.ended && is_sendable s kinds.Lin head
follows s (Publish head payload) = s.ended && is_sendable s kinds.Publisher head
follows s (Call head call payload) = s.ended && is_sendable s kinds.Client head
follows s (Reply head client call payload) = s.ended && is_sendable s kinds.Server head

-- of a tool, behind its Hello
abbrev pub follows_of_tool : Content → Bool
follows_of_tool (Workflow required) = true
follows_of_tool Abort = true
follows_of_tool Leave = true
follows_of_tool _ = false

-- after what was said in order this comes in order too: Hello first, and nothing behind Leave
unfoldable pub may_say : Bool → List ℕ → Said → Content → Bool
may_say tool name s m =
    if s.hello then not s.left && (if tool then follows_of_tool m else follows s m) else opens tool name m
