-- Which own services a message is handed to, and what that changes in them.
use Rattle.std.specs.Prelude.{ℕ, zero, suc, Bool, true, not, ◌||◌, List, [], ◌∷◌, map, filter, Option, Some, None, slice_get, slice_index_or, if◌then◌else◌}
use Rattle.sk_msg.specs.declared.content.Content.{Content}
use Rattle.sk_msg.specs.declared.content.Content.TheVariants as contents
use Rattle.sk_msg.specs.declared.bus.LinResponse.{LinResponse}
use Rattle.sk_msg.specs.declared.service.Service.{Service}
use Rattle.sk_msg.specs.declared.service.ServiceKind.TheVariants as kinds
use Rattle.sk_msg.specs.declared.state.State.{State}
use Rattle.sk_msg.specs.declared.state.State.TheVariants.{Error, Aborting, Shutdown}
use Rattle.sk_msg.specs.States.{is_state}
use Rattle.sk_msg.specs.declared.head.Head.{Head}
use Rattle.sk_msg.specs.Heads.{head_of}
use Rattle.sk_msg.specs.Matching.{match_services, matching}
use Rattle.sk_can.specs.Can.{is_started}
use Rattle.sk_lin.specs.declared.kept.Source.TheVariants.{Noted}
use Rattle.sk_lin.specs.Lin.{with_kept, admits_lin, received_lin}
use Rattle.sk_rpc.specs.OpenCalls.{call_of, opened}
use Rattle.sk_law.specs.declared.memory.ServiceState.{ServiceState}
use Rattle.sk_law.specs.declared.memory.ServiceState.TheVariants as states
use Rattle.sk_law.specs.declared.setup.Setup.{Setup}
use Rattle.sk_law.specs.Order.{services_of, has_kind}
use Rattle.sk_law.specs.Past.{Past}
use Rattle.sk_law.specs.Readings.{state_of}
use Rattle.sk_law.specs.Links.{from, comes_in_order}

-- the announced service of p that sends this message
abbrev pub sender : Setup → Past → ℕ → Option Head → Option Service
sender S past p None = None
sender S past p (Some head) = slice_get (services_of (from S past p)) head.service

-- a service in this state takes the message: a CAN controller that is started, an Ethernet controller that is active,
-- a LIN controller as its table says; every other service any
abbrev pub admits : Content → ServiceState → Bool
admits (contents.Lin head frame) (states.Lin lin) = admits_lin frame lin
admits m (states.Can can) = is_started can.state
admits m (states.Ethernet active) = active
admits m _ = true

-- those that match the sender and admit the message, in rising number
abbrev pub takers : Setup → Past → Content → Option Service → List ℕ
takers S past m None = []
takers S past m (Some other) =
    map (λ s. s.id) (filter (λ s. admits m (slice_index_or past.memory.services s.id states.Subscriber)) (matching S.services other))

-- a Reply goes to the client that it names; a LinResponse is noted and not handed
abbrev pub handed_to : Setup → Past → ℕ → Content → List ℕ
handed_to S past p (contents.Reply head client call payload) =
    if has_kind kinds.Client (slice_get S.services client) then client ∷ [] else []
handed_to S past p (contents.LinResponse head response) = []
handed_to S past p m = takers S past m (sender S past p (head_of m))

-- in these states nothing is handed
abbrev pub is_over : State → Bool
is_over state = is_state Error state || (is_state Aborting state || is_state Shutdown state)

-- judged before the message is got
unfoldable pub receivers : Setup → Past → ℕ → Content → List ℕ
receivers S past p m =
    if is_over (state_of past.journal) || not (comes_in_order S past p m) then [] else handed_to S past p m

-- ## What a message changes

-- of the service to which p's message is handed
abbrev pub received : ℕ → Content → ServiceState → ServiceState
received p (contents.Lin head frame) (states.Lin lin) = states.Lin (received_lin frame lin)
received p (contents.Call head call payload) (states.Server calls) = states.Server (opened (call_of p head.service call) calls)
received p m at = at

-- one item changed
abbrev pub changed : {X : Type 0} → (X → X) → ℕ → List X → List X
changed change i [] = []
changed change zero (x ∷ xs) = change x ∷ xs
changed change (suc i) (x ∷ xs) = x ∷ changed change i xs

-- the services are at these states
abbrev pub with_services : List ServiceState → Past → Past
with_services services past = record past { memory = record past.memory { services = services } }

-- p's message was handed to the service of this number
abbrev pub receive : ℕ → Content → ℕ → Past → Past
receive p m r past = with_services (changed (received p m) r past.memory.services) past

-- a LIN controller keeps the response of a service of a peer
abbrev pub with_noted : ℕ → ℕ → LinResponse → ServiceState → ServiceState
with_noted p service response (states.Lin lin) = states.Lin (with_kept (Noted p service) response lin)
with_noted p service response at = at

-- each LIN controller that matches the sender keeps the response
abbrev pub noted : Option Service → ℕ → ℕ → LinResponse → List Service → List ServiceState → List ServiceState
noted None p service response owns states = states
noted (Some other) p service response (own ∷ owns) (at ∷ states) =
    (if match_services own other then with_noted p service response at else at) ∷ noted (Some other) p service response owns states
noted (Some other) p service response [] states = states
noted (Some other) p service response (own ∷ owns) [] = []

-- p's service tells its response; judged before the message is got
abbrev pub note : Setup → ℕ → ℕ → LinResponse → Past → Past
note S p service response past =
    with_services (noted (slice_get (services_of (from S past p)) service) p service response S.services past.memory.services) past
