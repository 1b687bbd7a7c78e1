-- What one action on an own service comes to.
use Rattle.std.specs.Prelude.{ℕ, ◌+◌, Bool, true, false, not, ◌&&◌, List, [], ◌∷◌, Option, Some, None, slice_get, if◌then◌else◌}
use Rattle.std.specs.List.{list_any}
use Rattle.sk_msg.specs.Rules.{is_can_frame, is_lin_id, is_sent}
use Rattle.sk_msg.specs.Matching.{match_services}
use Rattle.sk_msg.specs.declared.action.Action.{Action}
use Rattle.sk_msg.specs.declared.action.Action.TheVariants.{CanBaud, CanStart, CanStop, CanReset, CanSleep, CanSend, EthActivate, EthDeactivate, EthSend, LinInit, LinSetResponse, LinHeader, LinSendFrame, LinSleep, LinWakeup, Publish, Call, Submit, Ask, PauseFor}
use Rattle.sk_msg.specs.declared.content.Content.{Content}
use Rattle.sk_msg.specs.declared.content.Content.TheVariants as contents
use Rattle.sk_msg.specs.declared.bus.CanFrame.{CanFrame}
use Rattle.sk_msg.specs.declared.service.Service.{Service}
use Rattle.sk_can.specs.Can.{Can, moved, with_rate, can_baud, can_start, can_stop, can_reset, can_sleep, is_started}
use Rattle.sk_can.specs.declared.state.CanState.{CanState}
use Rattle.sk_eth.specs.Ethernet.{is_sendable, padded}
use Rattle.sk_lin.specs.Lin.{Lin, with_kept, header_frame, is_uninit, is_operational, is_asleep, is_free_master, is_lin_response, sleep_frame, wakeup_frame}
use Rattle.sk_lin.specs.declared.kept.Source.TheVariants.{Own}
use Rattle.sk_lin.specs.declared.state.LinState.TheVariants.{Operational, Sleep}
use Rattle.sk_pubsub.specs.Publishing.{Publishing, published}
use Rattle.sk_rpc.specs.OpenCalls.{call_of, has_call, without}
use Rattle.sk_rpc.specs.declared.open_call.OpenCall.{OpenCall}
use Rattle.sk_law.specs.declared.memory.ServiceState.{ServiceState}
use Rattle.sk_law.specs.declared.memory.ServiceState.TheVariants as states
use Rattle.sk_law.specs.declared.setup.Setup.{Setup}
use Rattle.sk_law.specs.Order.{services_of}
use Rattle.sk_law.specs.Past.{Past}
use Rattle.sk_law.specs.Readings.{head_at, is_gone}
use Rattle.sk_law.specs.Links.{from, reached}

-- what an action comes to
pub record Outcome : Type 0 where
  pub code : ℕ
  -- what is sent, and to whom
  pub message : Option Content
  pub to : List ℕ
  -- what the service is at from now on
  pub state : ServiceState

-- 0 done, 1 refused by the state or role, 2 bad frame, 3 no server, 4 unknown call; what is refused changes nothing
abbrev pub refused : ℕ → ServiceState → Outcome
refused code at = record { code = code; message = None; to = []; state = at }

-- what sends nothing
abbrev pub done : ServiceState → Outcome
done at = record { code = 0; message = None; to = []; state = at }

-- what sends a message to these
abbrev pub sends : List ℕ → Content → ServiceState → Outcome
sends to m at = record { code = 0; message = Some m; to = to; state = at }

-- ## CAN

-- an action on a CAN controller
abbrev pub on_can : ServiceState → (Can → Outcome) → Outcome
on_can (states.Can can) act = act can
on_can at act = refused 1 at

-- where the table leads nowhere the call is refused
abbrev pub turned : ServiceState → Option CanState → Can → Outcome
turned at None after = refused 1 at
turned at (Some to) after = done (states.Can after)

-- by the table
abbrev pub by_table : (CanState → Option CanState) → ServiceState → Outcome
by_table call at = on_can at (λ can. turned at (call can.state) (moved (call can.state) can))

-- the state is judged first, then the frame
abbrev pub can_sends : List ℕ → Content → CanFrame → ServiceState → Outcome
can_sends to m frame at = on_can at (λ can.
    if not (is_started can.state) then refused 1 at else
    if not (is_can_frame frame.id frame.extended frame.fd frame.payload) then refused 2 at else
    sends to m at)

-- ## Ethernet

-- an action on an Ethernet controller
abbrev pub on_ethernet : ServiceState → (Bool → Outcome) → Outcome
on_ethernet (states.Ethernet active) act = act active
on_ethernet at act = refused 1 at

-- the state is judged first, then the length
abbrev pub ethernet_sends : List ℕ → Content → List ℕ → ServiceState → Outcome
ethernet_sends to m frame at = on_ethernet at (λ active.
    if not active then refused 1 at else
    if not (is_sendable frame) then refused 2 at else
    sends to m at)

-- ## LIN

-- an action on a LIN controller
abbrev pub on_lin : ServiceState → (Lin → Outcome) → Outcome
on_lin (states.Lin lin) act = act lin
on_lin at act = refused 1 at

-- ## Publications

-- an action on a publisher
abbrev pub on_publisher : ServiceState → (Publishing → Outcome) → Outcome
on_publisher (states.Publisher publisher) act = act publisher
on_publisher at act = refused 1 at

-- ## Remote calls

-- an action on a server
abbrev pub on_server : ServiceState → (List OpenCall → Outcome) → Outcome
on_server (states.Server calls) act = act calls
on_server at act = refused 1 at

-- an action on a client
abbrev pub on_client : ServiceState → (ℕ → Outcome) → Outcome
on_client (states.Client made) act = act made
on_client at act = refused 1 at

-- a peer that isn't gone has announced a server that matches
abbrev pub has_server : Setup → Past → Service → Bool
has_server S past own = list_any (λ p. list_any (match_services own) (services_of (from S past p))) (reached S past)

-- to the caller alone, where it isn't gone
abbrev pub caller : Past → ℕ → List ℕ
caller past p = if is_gone past.journal p then [] else p ∷ []

-- ## All

-- the own service that an action names; a command names none
abbrev pub named : Action → ℕ
named (CanBaud s rate) = s
named (CanStart s) = s
named (CanStop s) = s
named (CanReset s) = s
named (CanSleep s) = s
named (CanSend s frame) = s
named (EthActivate s) = s
named (EthDeactivate s) = s
named (EthSend s frame) = s
named (LinInit s role) = s
named (LinSetResponse s response) = s
named (LinHeader s id) = s
named (LinSendFrame s response) = s
named (LinSleep s) = s
named (LinWakeup s) = s
named (Publish s payload) = s
named (Call s payload) = s
named (Submit s peer client call payload) = s
named (Ask command) = 0
named (PauseFor count) = 0

-- of this own service, which is at this
unfoldable pub outcome_at : Setup → Past → Action → Service → ServiceState → Outcome
outcome_at S past (CanBaud s rate) own at =
    on_can at (λ can. turned at (can_baud can.state) (with_rate rate (can_baud can.state) can))
outcome_at S past (CanStart s) own at = by_table can_start at
outcome_at S past (CanStop s) own at = by_table can_stop at
outcome_at S past (CanReset s) own at = by_table can_reset at
outcome_at S past (CanSleep s) own at = by_table can_sleep at
outcome_at S past (CanSend s frame) own at =
    can_sends (reached S past) (contents.Can (head_at s past.journal) frame) frame at
outcome_at S past (EthActivate s) own at = on_ethernet at (λ active. done (states.Ethernet true))
outcome_at S past (EthDeactivate s) own at = on_ethernet at (λ active. done (states.Ethernet false))
outcome_at S past (EthSend s frame) own at =
    ethernet_sends (reached S past) (contents.Eth (head_at s past.journal) (padded frame)) frame at
outcome_at S past (LinInit s role) own at = on_lin at (λ lin.
    if is_uninit lin.state then done (states.Lin (record lin { state = Operational; role = role })) else refused 1 at)
outcome_at S past (LinSetResponse s response) own at = on_lin at (λ lin.
    if not (is_operational lin.state) then refused 1 at else
    if not (is_lin_response response) then refused 2 at else
    sends (reached S past) (contents.LinResponse (head_at s past.journal) response) (states.Lin (with_kept Own response lin)))
outcome_at S past (LinHeader s id) own at = on_lin at (λ lin.
    if not (is_free_master lin) then refused 1 at else
    if not (is_lin_id id) then refused 2 at else
    sends (reached S past) (contents.Lin (head_at s past.journal) (header_frame id lin)) at)
outcome_at S past (LinSendFrame s response) own at = on_lin at (λ lin.
    if not (is_free_master lin) then refused 1 at else
    if not (is_lin_response response && is_sent response.mode) then refused 2 at else
    sends (reached S past)
    (contents.Lin (head_at s past.journal) (header_frame response.id (with_kept Own response lin)))
    (states.Lin (with_kept Own response lin)))
outcome_at S past (LinSleep s) own at = on_lin at (λ lin.
    if not (is_free_master lin) then refused 1 at else
    sends (reached S past) (contents.Lin (head_at s past.journal) sleep_frame) (states.Lin (record lin { state = Sleep })))
outcome_at S past (LinWakeup s) own at = on_lin at (λ lin.
    if not (is_asleep lin.state) then refused 1 at else
    sends (reached S past) (contents.Lin (head_at s past.journal) wakeup_frame) (states.Lin (record lin { state = Operational })))
outcome_at S past (Publish s payload) own at = on_publisher at (λ publisher.
    sends (reached S past) (contents.Publish (head_at s past.journal) payload) (states.Publisher (published payload publisher)))
outcome_at S past (Call s payload) own at = on_client at (λ made.
    if not (has_server S past own) then refused 3 at else
    sends (reached S past) (contents.Call (head_at s past.journal) (made + 1) payload) (states.Client (made + 1)))
outcome_at S past (Submit s peer client call payload) own at = on_server at (λ calls.
    if not (has_call (call_of peer client call) calls) then refused 4 at else
    sends (caller past peer) (contents.Reply (head_at s past.journal) client call payload)
    (states.Server (without (call_of peer client call) calls)))
outcome_at S past (Ask command) own at = refused 1 at
outcome_at S past (PauseFor count) own at = refused 1 at

-- where there is such a service; else code 1
abbrev pub outcome_of : Setup → Past → Action → Option Service → Option ServiceState → Outcome
outcome_of S past a (Some own) (Some at) = outcome_at S past a own at
outcome_of S past a own at = refused 1 states.Subscriber

-- of the own service that the action names
abbrev pub outcome : Setup → Past → Action → Outcome
outcome S past a = outcome_of S past a (slice_get S.services (named a)) (slice_get past.memory.services (named a))
