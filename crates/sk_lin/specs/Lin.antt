-- A LIN controller: its calls, what it keeps, and what a header brings.
use Rattle.std.specs.Prelude.{◌≡◌, ◌⊎◌, Result, Err, ℕ, ◌==◌, Bool, true, false, not, ◌&&◌, ◌||◌, List, [], ◌∷◌, filter, Option, Some, None, IsTrue, if◌then◌else◌}
use Rattle.std.specs.List.{AllByRecursion}
use Rattle.std.specs.Str.{bytes_eq}
use Rattle.sk_msg.specs.Rules.{is_lin_id, is_lin_payload, is_received, is_sent}
use Rattle.sk_msg.specs.declared.bus.LinFrame.{LinFrame}
use Rattle.sk_msg.specs.declared.bus.LinResponse.{LinResponse}
use Rattle.sk_msg.specs.declared.bus.LinChecksum.TheVariants as checksums
use Rattle.sk_msg.specs.declared.bus.LinStatus.{LinStatus}
use Rattle.sk_msg.specs.declared.bus.LinStatus.TheVariants as statuses
use Rattle.sk_msg.specs.declared.bus.LinRole.{LinRole}
use Rattle.sk_msg.specs.declared.bus.LinRole.TheVariants.{Master, Slave}
use Rattle.sk_lin.specs.Kept.{keep}
use Rattle.sk_lin.specs.declared.kept.Kept.{Kept}
use Rattle.sk_lin.specs.declared.kept.Source.{Source}
use Rattle.sk_lin.specs.declared.refused.LinRefused.{LinRefused}
use Rattle.sk_lin.specs.declared.refused.LinRefused.TheVariants.{State, Role, BadFrame, WantOfMemory}
use Rattle.sk_lin.specs.declared.state.LinState.{LinState}
use Rattle.sk_lin.specs.declared.state.LinState.TheVariants.{Uninit, Operational, Sleep}

-- what contracts see of a controller
pub record Lin : Type 0 where
  pub state : LinState
  -- Slave before it is initialised
  pub role : LinRole
  pub kept : List Kept

-- it keeps nothing at first
abbrev pub new_lin : Lin
new_lin = record { state = Uninit; role = Slave; kept = [] }

-- it was not initialised
abbrev pub is_uninit : LinState → Bool
is_uninit Uninit = true
is_uninit Operational = false
is_uninit Sleep = false

-- it takes part in the bus
abbrev pub is_operational : LinState → Bool
is_operational Uninit = false
is_operational Operational = true
is_operational Sleep = false

-- its bus sleeps
abbrev pub is_asleep : LinState → Bool
is_asleep Uninit = false
is_asleep Operational = false
is_asleep Sleep = true

-- it sends the headers
abbrev pub is_master : LinRole → Bool
is_master Master = true
is_master Slave = false

-- ## What is kept

-- with this response in place of the earlier one of its identifier and source
abbrev pub with_kept : Source → LinResponse → Lin → Lin
with_kept source response lin = record lin { kept = keep (record { source = source; response = response }) lin.kept }

-- ## What a header brings

-- it answers a header of this identifier
abbrev pub responds_to : ℕ → Kept → Bool
responds_to id one = one.response.id == id && is_sent one.response.mode

-- those that answer a header of this identifier
abbrev pub responders : ℕ → List Kept → List Kept
responders id kept = filter (responds_to id) kept

-- what a response that answers alone brings
abbrev pub answered : ℕ → LinResponse → LinFrame
answered id r = record { id = id; checksum = r.checksum; status = statuses.RxOk; payload = r.payload }

-- nobody answers, one does, or more do
abbrev pub frame_of : ℕ → List Kept → LinFrame
frame_of id [] = record { id = id; checksum = checksums.Unknown; status = statuses.RxNoResponse; payload = [] }
frame_of id (one ∷ []) = answered id one.response
frame_of id (one ∷ other ∷ more) = record { id = id; checksum = checksums.Unknown; status = statuses.RxError; payload = [] }

-- by all that is kept
unfoldable pub header_frame : ℕ → Lin → LinFrame
header_frame id lin = frame_of id (responders id lin.kept)

-- ## What responses and frames may be

-- it keeps the rules on identifiers and bytes
unfoldable pub is_lin_response : LinResponse → Bool
is_lin_response r = is_lin_id r.id && is_lin_payload (is_sent r.mode) r.checksum r.payload

-- each of these keeps them
abbrev pub AreResponses : List Kept → Type 0
AreResponses kept = AllByRecursion (λ one. IsTrue (is_lin_response one.response)) kept

-- a frame that a message may have
unfoldable pub is_lin_frame : LinFrame → Bool
is_lin_frame f = is_lin_id f.id && is_lin_payload (is_received f.status) f.checksum f.payload

-- ## Which calls are allowed

-- a master in operation
abbrev pub is_free_master : Lin → Bool
is_free_master lin = is_operational lin.state && is_master lin.role

-- Why a call is refused: none where it is allowed. The state is judged first, then the role, then the frame.

-- to initialise it
abbrev pub init_refusal : Lin → Option LinRefused
init_refusal lin = if is_uninit lin.state then None else Some (State lin.state)

-- to set a response
abbrev pub set_refusal : Lin → LinResponse → Option LinRefused
set_refusal lin response =
    if not (is_operational lin.state) then Some (State lin.state) else
    if not (is_lin_response response) then Some BadFrame else
    None

-- a master's call without a frame, as going to sleep
abbrev pub master_refusal : Lin → Option LinRefused
master_refusal lin =
    if not (is_operational lin.state) then Some (State lin.state) else
    if not (is_master lin.role) then Some Role else
    None

-- a master's call that brings this frame, which is good or isn't
abbrev pub sends_refusal : Lin → Bool → Option LinRefused
sends_refusal lin is_good =
    if not (is_operational lin.state) then Some (State lin.state) else
    if not (is_master lin.role) then Some Role else
    if not is_good then Some BadFrame else
    None

-- to send a header
abbrev pub header_refusal : Lin → ℕ → Option LinRefused
header_refusal lin id = sends_refusal lin (is_lin_id id)

-- to send a frame, with a response that answers
abbrev pub frame_refusal : Lin → LinResponse → Option LinRefused
frame_refusal lin response = sends_refusal lin (is_lin_response response && is_sent response.mode)

-- to wake the bus up
abbrev pub wakeup_refusal : Lin → Option LinRefused
wakeup_refusal lin = if is_asleep lin.state then None else Some (State lin.state)

-- a reason against the call is its answer
abbrev pub AnswersReason : {X : Type 0} → Option LinRefused → Result X LinRefused → Type 0
AnswersReason against result = (reason : LinRefused) → against ≡ Some reason → result ≡ Err reason

-- besides the reason against the call there is want of memory alone
abbrev pub IsReason : Option LinRefused → LinRefused → Type 0
IsReason against reason = (reason ≡ WantOfMemory) ⊎ (against ≡ Some reason)

-- ## Going to sleep and waking up

-- eight of them
abbrev pub sleep_bytes : List ℕ
sleep_bytes = 0 ∷ 255 ∷ 255 ∷ 255 ∷ 255 ∷ 255 ∷ 255 ∷ 255 ∷ []

-- identifier 0x3C
abbrev pub sleep_frame : LinFrame
sleep_frame = record { id = 60; checksum = checksums.Classic; status = statuses.RxOk; payload = sleep_bytes }

-- a signal without a header
abbrev pub wakeup_frame : LinFrame
wakeup_frame = record { id = 0; checksum = checksums.Unknown; status = statuses.Wakeup; payload = [] }

-- of this signal
abbrev pub is_wakeup : LinStatus → Bool
is_wakeup statuses.RxOk = false
is_wakeup statuses.RxError = false
is_wakeup statuses.RxNoResponse = false
is_wakeup statuses.Wakeup = true

-- of a whole response
abbrev pub is_rx_ok : LinStatus → Bool
is_rx_ok statuses.RxOk = true
is_rx_ok statuses.RxError = false
is_rx_ok statuses.RxNoResponse = false
is_rx_ok statuses.Wakeup = false

-- it puts a bus to sleep
unfoldable pub is_sleep_frame : LinFrame → Bool
is_sleep_frame frame = frame.id == 60 && (is_rx_ok frame.status && bytes_eq frame.payload sleep_bytes)

-- it is handed the frame
unfoldable pub admits_lin : LinFrame → Lin → Bool
admits_lin frame lin = is_operational lin.state || (is_asleep lin.state && is_wakeup frame.status)

-- after a frame that was handed to it; one that it doesn't admit changes nothing
unfoldable pub received_lin : LinFrame → Lin → Lin
received_lin frame lin =
    if not (admits_lin frame lin) then lin else
    if is_sleep_frame frame then record lin { state = Sleep } else
    if is_wakeup frame.status then record lin { state = Operational } else lin
