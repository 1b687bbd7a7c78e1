-- The table of kinds: the fields of each, in order.
use Rattle.std.specs.Prelude.{ℕ, Bool, true, false, ◌+◌, List, Option, Some, None, ◌==◌, if◌then◌else◌}
use Rattle.std.specs.Int.{w8, w16, w32, w64}
use Rattle.sk_base.specs.Ranges.{is_name, is_text, is_time, is_payload}
use Rattle.sk_msg.specs.Rules.{is_step_size, is_u32, is_mark, is_call, is_service_id, is_told, is_required_count, is_new_name, is_can_frame, is_eth_frame, is_lin_id, is_lin_payload, is_received, is_sent}
use Rattle.sk_msg.specs.Specs.{is_new_key, is_label_count}
use Rattle.sk_msg.specs.States.{state_number, state_of}
use Rattle.sk_msg.specs.declared.head.Head.{Head}
use Rattle.sk_msg.specs.declared.state.State.{State}
use Rattle.sk_msg.specs.declared.role.Role.{Role}
use Rattle.sk_msg.specs.declared.role.Role.TheVariants.{Participant, Tool}
use Rattle.sk_msg.specs.declared.label.Label.{Label}
use Rattle.sk_msg.specs.declared.label.LabelKind.{LabelKind}
use Rattle.sk_msg.specs.declared.label.LabelKind.TheVariants.{Optional, Mandatory}
use Rattle.sk_msg.specs.declared.service.ServiceKind.{ServiceKind}
use Rattle.sk_msg.specs.declared.service.ServiceKind.TheVariants as kinds
use Rattle.sk_msg.specs.declared.bus.LinChecksum.{LinChecksum}
use Rattle.sk_msg.specs.declared.bus.LinChecksum.TheVariants as checksums
use Rattle.sk_msg.specs.declared.bus.LinStatus.{LinStatus}
use Rattle.sk_msg.specs.declared.bus.LinStatus.TheVariants as statuses
use Rattle.sk_msg.specs.declared.bus.LinMode.{LinMode}
use Rattle.sk_msg.specs.declared.bus.LinMode.TheVariants as modes
use Rattle.sk_msg.specs.declared.reason.RefuseReason.{RefuseReason}
use Rattle.sk_msg.specs.declared.reason.RefuseReason.TheVariants as reasons
use Rattle.sk_wire.specs.Fields.{Field, number, counted, choice, nothing, ◌&◌, held, such_that, list}

-- ## The types of fields

-- a length of one byte, 1 to 64, and so many bytes of UTF-8 without control characters
unfoldable pub name : Field (List ℕ)
name = counted w8 is_name

-- the same, from 0
unfoldable pub text : Field (List ℕ)
text = counted w8 is_text

-- a length of two bytes, at most 4,096, and so many bytes
unfoldable pub payload : Field (List ℕ)
payload = counted w16 is_payload

-- four bytes
unfoldable pub any32 : Field ℕ
any32 = number w32 is_u32

-- eight bytes, at most 2^62
unfoldable pub time : Field ℕ
time = number w64 is_time

-- eight bytes, 1 to 2^60
unfoldable pub step_size : Field ℕ
step_size = number w64 is_step_size

-- eight bytes, at most 2^63
unfoldable pub mark : Field ℕ
mark = number w64 is_mark

-- what stands in front of all that goes from service to service: service, stamp, mark
unfoldable pub head : Field Head
head =
    held (λ x. record { service = x.0; stamp = x.1.0; mark = x.1.1 }) (λ h. (h.service, (h.stamp, h.mark)))
    (any32 & λ service. time & λ stamp. mark)

-- eight bytes, 1 to 2^63
unfoldable pub call : Field ℕ
call = number w64 is_call

-- the bits 1 coordinated and 2 synchronised of a participant; 4 alone is a tool
abbrev pub role_number : Role → ℕ
role_number (Participant coordinated synchronised) = (if coordinated then 1 else 0) + (if synchronised then 2 else 0)
role_number Tool = 4

abbrev pub role_of : ℕ → Option Role
role_of n =
    if n == 0 then Some (Participant false false) else
    if n == 1 then Some (Participant true false) else
    if n == 2 then Some (Participant false true) else
    if n == 3 then Some (Participant true true) else
    if n == 4 then Some Tool else None

unfoldable pub role : Field Role
role = choice role_number role_of

-- four bytes, at most 63
unfoldable pub service_id : Field ℕ
service_id = number w32 is_service_id

abbrev pub service_kind_number : ServiceKind → ℕ
service_kind_number kinds.Can = 1
service_kind_number kinds.Ethernet = 2
service_kind_number kinds.Lin = 3
service_kind_number kinds.Publisher = 4
service_kind_number kinds.Subscriber = 5
service_kind_number kinds.Server = 6
service_kind_number kinds.Client = 7

abbrev pub service_kind_of : ℕ → Option ServiceKind
service_kind_of n =
    if n == 1 then Some kinds.Can else
    if n == 2 then Some kinds.Ethernet else
    if n == 3 then Some kinds.Lin else
    if n == 4 then Some kinds.Publisher else
    if n == 5 then Some kinds.Subscriber else
    if n == 6 then Some kinds.Server else
    if n == 7 then Some kinds.Client else None

unfoldable pub service_kind : Field ServiceKind
service_kind = choice service_kind_number service_kind_of

abbrev pub label_kind_number : LabelKind → ℕ
label_kind_number Optional = 0
label_kind_number Mandatory = 1

abbrev pub label_kind_of : ℕ → Option LabelKind
label_kind_of n =
    if n == 0 then Some Optional else
    if n == 1 then Some Mandatory else None

unfoldable pub label_kind : Field LabelKind
label_kind = choice label_kind_number label_kind_of

abbrev pub lin_checksum_number : LinChecksum → ℕ
lin_checksum_number checksums.Unknown = 0
lin_checksum_number checksums.Classic = 1
lin_checksum_number checksums.Enhanced = 2

abbrev pub lin_checksum_of : ℕ → Option LinChecksum
lin_checksum_of n =
    if n == 0 then Some checksums.Unknown else
    if n == 1 then Some checksums.Classic else
    if n == 2 then Some checksums.Enhanced else None

unfoldable pub lin_checksum : Field LinChecksum
lin_checksum = choice lin_checksum_number lin_checksum_of

abbrev pub lin_status_number : LinStatus → ℕ
lin_status_number statuses.RxOk = 0
lin_status_number statuses.RxError = 1
lin_status_number statuses.RxNoResponse = 2
lin_status_number statuses.Wakeup = 3

abbrev pub lin_status_of : ℕ → Option LinStatus
lin_status_of n =
    if n == 0 then Some statuses.RxOk else
    if n == 1 then Some statuses.RxError else
    if n == 2 then Some statuses.RxNoResponse else
    if n == 3 then Some statuses.Wakeup else None

unfoldable pub lin_status : Field LinStatus
lin_status = choice lin_status_number lin_status_of

abbrev pub lin_mode_number : LinMode → ℕ
lin_mode_number modes.Unused = 0
lin_mode_number modes.Rx = 1
lin_mode_number modes.TxUnconditional = 2

abbrev pub lin_mode_of : ℕ → Option LinMode
lin_mode_of n =
    if n == 0 then Some modes.Unused else
    if n == 1 then Some modes.Rx else
    if n == 2 then Some modes.TxUnconditional else None

unfoldable pub lin_mode : Field LinMode
lin_mode = choice lin_mode_number lin_mode_of

abbrev pub reason_number : RefuseReason → ℕ
reason_number reasons.NameTaken = 1
reason_number reasons.Full = 2
reason_number reasons.Late = 3

abbrev pub reason_of : ℕ → Option RefuseReason
reason_of n =
    if n == 1 then Some reasons.NameTaken else
    if n == 2 then Some reasons.Full else
    if n == 3 then Some reasons.Late else None

unfoldable pub reason : Field RefuseReason
reason = choice reason_number reason_of

-- a label whose key doesn't stand in those before it: key, value, kind
abbrev pub new_label : List Label → Field Label
new_label before =
    held (λ x. record { key = x.0; value = x.1.0; kind = x.1.1 }) (λ label. (label.key, (label.value, label.kind)))
    (such_that (is_new_key before) name & λ key. text & λ value. label_kind)

-- at most 16
unfoldable pub labels : Field (List Label)
labels = list is_label_count new_label

-- the number of a state, other than that of Invalid
unfoldable pub state : Field State
state = such_that is_told (choice state_number state_of)

-- a name that doesn't stand among those before it
abbrev pub new_name : List (List ℕ) → Field (List ℕ)
new_name before = such_that (is_new_name before) name

-- 1 to 32
unfoldable pub required_names : Field (List (List ℕ))
required_names = list is_required_count new_name

-- whether a CAN frame is extended, and whether it is of CAN FD
abbrev pub Flags : Type 0
Flags = Bool × Bool

abbrev pub flags : Bool → Bool → Flags
flags extended fd = (extended, fd)

-- the bits 1 extended and 2 FD
abbrev pub flags_number : Flags → ℕ
flags_number f = (if f.0 then 1 else 0) + (if f.1 then 2 else 0)

abbrev pub flags_of : ℕ → Option Flags
flags_of n =
    if n == 0 then Some (flags false false) else
    if n == 1 then Some (flags true false) else
    if n == 2 then Some (flags false true) else
    if n == 3 then Some (flags true true) else None

unfoldable pub can_flags : Field Flags
can_flags = choice flags_number flags_of

-- the rule of the frame is judged at its bytes
abbrev pub can_bytes : ℕ → Flags → Field (List ℕ)
can_bytes id f = such_that (is_can_frame id f.0 f.1) payload

-- 60 to 1,518 bytes
unfoldable pub eth_bytes : Field (List ℕ)
eth_bytes = such_that is_eth_frame payload

-- one byte, at most 63
unfoldable pub lin_id : Field ℕ
lin_id = number w8 is_lin_id

-- the rule on checksum and payload is judged at the payload
abbrev pub lin_bytes : Bool → LinChecksum → Field (List ℕ)
lin_bytes carries checksum = such_that (is_lin_payload carries checksum) payload

-- ## The kinds

-- 1: name, role, address
abbrev pub hello_row : Field (List ℕ × (Role × List ℕ))
hello_row = name & λ name. role & λ role. text

-- 2: no fields
abbrev pub leave_row : Field (Unit {0})
leave_row = nothing

-- 3: at, duration
abbrev pub next_step_row : Field (ℕ × ℕ)
next_step_row = time & λ at. step_size

-- 4: id, kind, own, topic, media, labels
abbrev pub service_add_row : Field (ℕ × (ServiceKind × (List ℕ × (List ℕ × (List ℕ × List Label)))))
service_add_row = service_id & λ id. service_kind & λ kind. name & λ own. name & λ topic. text & λ media. labels

-- 5: no fields
abbrev pub services_end_row : Field (Unit {0})
services_end_row = nothing

-- 6: state, until
abbrev pub status_row : Field (State × ℕ)
status_row = state & λ state. time

-- 7: required
abbrev pub workflow_row : Field (List (List ℕ))
workflow_row = required_names

-- 8: no fields
abbrev pub abort_row : Field (Unit {0})
abort_row = nothing

-- 9: head, id, flags, bytes
abbrev pub can_row : Field (Head × (ℕ × (Flags × List ℕ)))
can_row = head & λ head. any32 & λ id. can_flags & λ f. can_bytes id f

-- 10: head, bytes
abbrev pub eth_row : Field (Head × List ℕ)
eth_row = head & λ head. eth_bytes

-- 11: head, id, checksum, status, bytes
abbrev pub lin_row : Field (Head × (ℕ × (LinChecksum × (LinStatus × List ℕ))))
lin_row = head & λ head. lin_id & λ id. lin_checksum & λ checksum. lin_status & λ status. lin_bytes (is_received status) checksum

-- 12: head, id, mode, checksum, bytes
abbrev pub lin_response_row : Field (Head × (ℕ × (LinMode × (LinChecksum × List ℕ))))
lin_response_row = head & λ head. lin_id & λ id. lin_mode & λ mode. lin_checksum & λ checksum. lin_bytes (is_sent mode) checksum

-- 13: head, bytes
abbrev pub publish_row : Field (Head × List ℕ)
publish_row = head & λ head. payload

-- 14: head, call, bytes
abbrev pub call_row : Field (Head × (ℕ × List ℕ))
call_row = head & λ head. call & λ call. payload

-- 15: head, client, call, bytes
abbrev pub reply_row : Field (Head × (ℕ × (ℕ × List ℕ)))
reply_row = head & λ head. any32 & λ client. call & λ call. payload

-- 16: reason
abbrev pub refuse_row : Field (RefuseReason)
refuse_row = reason
