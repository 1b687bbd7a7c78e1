-- What the code answers for an action, as an outcome of the law.
use Rattle.std.specs.Prelude.{ℕ, ◌+◌, Bool, not, ◌&&◌, List, Some, slice_get, if◌then◌else◌}
use Rattle.sk_msg.specs.Rules.{is_lin_id, is_sent}
use Rattle.sk_msg.specs.declared.action.Action.{Action}
use Rattle.sk_msg.specs.declared.bus.LinResponse.{LinResponse}
use Rattle.sk_msg.specs.declared.bus.LinRole.{LinRole}
use Rattle.sk_msg.specs.declared.content.Content.TheVariants as contents
use Rattle.sk_msg.specs.declared.head.Head.{Head}
use Rattle.sk_can.specs.declared.refused.CanRefused.{CanRefused}
use Rattle.sk_can.specs.declared.refused.CanRefused.TheVariants as can
use Rattle.sk_eth.specs.declared.refused.EthRefused.{EthRefused}
use Rattle.sk_eth.specs.declared.refused.EthRefused.TheVariants as eth
use Rattle.sk_lin.specs.Lin.{with_kept, header_frame, is_uninit, is_operational, is_asleep, is_free_master, is_lin_response, sleep_frame, wakeup_frame}
use Rattle.sk_lin.specs.declared.kept.Source.TheVariants.{Own}
use Rattle.sk_lin.specs.declared.refused.LinRefused.{LinRefused}
use Rattle.sk_lin.specs.declared.refused.LinRefused.TheVariants.{State, Role, BadFrame, WantOfMemory}
use Rattle.sk_lin.specs.declared.state.LinState.TheVariants.{Operational, Sleep}
use Rattle.sk_pubsub.specs.Publishing.{published}
use Rattle.sk_rpc.specs.OpenCalls.{call_of, has_call, without}
use Rattle.sk_law.specs.declared.memory.ServiceState.{ServiceState}
use Rattle.sk_law.specs.declared.memory.ServiceState.TheVariants as states
use Rattle.sk_law.specs.declared.setup.Setup.{Setup}
use Rattle.sk_law.specs.Past.{Past}
use Rattle.sk_law.specs.Outcomes.{Outcome, named, outcome_of, on_lin, on_publisher, on_client, on_server, done, refused, sends}
use Rattle.sk_node.specs.declared.services.Answer.{Answer}

-- with what the service is at then
abbrev pub outcome_by : Answer → ServiceState → Outcome
outcome_by answer at = record { code = answer.code; message = answer.message; to = answer.to.items; state = at }

-- what an action comes to, where the service that it names is at this
abbrev pub comes_to : Setup → Past → Action → ServiceState → Outcome
comes_to S past a at = outcome_of S past a (slice_get S.services (named a)) (Some at)

-- The code of a refusal for this reason; want of memory is no answer.

-- of a CAN controller
abbrev pub can_code : CanRefused → ℕ
can_code (can.State state) = 1
can_code (can.BadFrame rule) = 2

-- of an Ethernet controller
abbrev pub eth_code : EthRefused → ℕ
eth_code eth.ControllerInactive = 1
eth_code (eth.InvalidFrameFormat n) = 2
eth_code eth.WantOfMemory = 0

-- of a LIN controller
abbrev pub lin_code : LinRefused → ℕ
lin_code (State state) = 1
lin_code Role = 1
lin_code BadFrame = 2
lin_code WantOfMemory = 0

-- What the law says of one action, by what it is sent to and what it is sent with.

-- LinInit
abbrev pub lin_inits : LinRole → ServiceState → Outcome
lin_inits role at = on_lin at (λ lin.
    if is_uninit lin.state then done (states.Lin (record lin { state = Operational; role = role })) else refused 1 at)

-- LinSetResponse
abbrev pub lin_sets : List ℕ → Head → LinResponse → ServiceState → Outcome
lin_sets to head response at = on_lin at (λ lin.
    if not (is_operational lin.state) then refused 1 at else
    if not (is_lin_response response) then refused 2 at else
    sends to (contents.LinResponse head response) (states.Lin (with_kept Own response lin)))

-- LinHeader
abbrev pub lin_heads : List ℕ → Head → ℕ → ServiceState → Outcome
lin_heads to head id at = on_lin at (λ lin.
    if not (is_free_master lin) then refused 1 at else
    if not (is_lin_id id) then refused 2 at else
    sends to (contents.Lin head (header_frame id lin)) at)

-- LinSendFrame
abbrev pub lin_sends : List ℕ → Head → LinResponse → ServiceState → Outcome
lin_sends to head response at = on_lin at (λ lin.
    if not (is_free_master lin) then refused 1 at else
    if not (is_lin_response response && is_sent response.mode) then refused 2 at else
    sends to (contents.Lin head (header_frame response.id (with_kept Own response lin))) (states.Lin (with_kept Own response lin)))

-- LinSleep
abbrev pub lin_sleeps : List ℕ → Head → ServiceState → Outcome
lin_sleeps to head at = on_lin at (λ lin.
    if not (is_free_master lin) then refused 1 at else
    sends to (contents.Lin head sleep_frame) (states.Lin (record lin { state = Sleep })))

-- LinWakeup
abbrev pub lin_wakes : List ℕ → Head → ServiceState → Outcome
lin_wakes to head at = on_lin at (λ lin.
    if not (is_asleep lin.state) then refused 1 at else
    sends to (contents.Lin head wakeup_frame) (states.Lin (record lin { state = Operational })))

-- Publish
abbrev pub publishes : List ℕ → Head → List ℕ → ServiceState → Outcome
publishes to head payload at = on_publisher at (λ publisher.
    sends to (contents.Publish head payload) (states.Publisher (published payload publisher)))

-- Call, where there is a server or isn't
abbrev pub calls : Bool → List ℕ → Head → List ℕ → ServiceState → Outcome
calls found to head payload at = on_client at (λ made.
    if not found then refused 3 at else
    sends to (contents.Call head (made + 1) payload) (states.Client (made + 1)))

-- Submit
abbrev pub submits : List ℕ → Head → ℕ → ℕ → ℕ → List ℕ → ServiceState → Outcome
submits to head peer client call payload at = on_server at (λ calls.
    if not (has_call (call_of peer client call) calls) then refused 4 at else
    sends to (contents.Reply head client call payload) (states.Server (without (call_of peer client call) calls)))
