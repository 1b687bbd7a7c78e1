-- Which contents are messages: the rules on their fields, one case for each kind.
use Rattle.std.specs.Prelude.{ℕ, ◌^◌, Bool, true, false, not, ◌&&◌, ◌||◌, List, [], ◌∷◌, length, nat_lt, nat_le, ◌==◌, IsTrue, if◌then◌else◌}
use Rattle.std.specs.List.{list_any}
use Rattle.std.specs.Str.{bytes_eq}
use Rattle.sk_base.specs.Ranges.{is_name, is_text, is_time, is_payload}
use Rattle.sk_msg.specs.Each.{any, each_after}
use Rattle.sk_msg.specs.Specs.{is_new_key, is_label_count}
use Rattle.sk_msg.specs.declared.content.Content.{Content}
use Rattle.sk_msg.specs.declared.content.Content.TheVariants.{Hello, Leave, NextStep, ServiceAdd, ServicesEnd, Status, Workflow, Abort, Can, Eth, Lin, LinResponse, Publish, Call, Reply, Refuse}
use Rattle.sk_msg.specs.declared.head.Head.{Head}
use Rattle.sk_msg.specs.declared.label.Label.{Label}
use Rattle.sk_msg.specs.declared.bus.LinChecksum.{LinChecksum}
use Rattle.sk_msg.specs.declared.bus.LinChecksum.TheVariants as checksums
use Rattle.sk_msg.specs.declared.bus.LinStatus.{LinStatus}
use Rattle.sk_msg.specs.declared.bus.LinStatus.TheVariants as statuses
use Rattle.sk_msg.specs.declared.bus.LinMode.{LinMode}
use Rattle.sk_msg.specs.declared.bus.LinMode.TheVariants as modes
use Rattle.sk_msg.specs.declared.state.State.{State}
use Rattle.sk_msg.specs.States.{state_number}

-- 1 to 2^60 nanoseconds
unfoldable pub is_step_size : ℕ → Bool
is_step_size ns = nat_le 1 ns && nat_le ns (2 ^ 60)

-- any number of 32 bits
unfoldable pub is_u32 : ℕ → Bool
is_u32 n = nat_lt n (2 ^ 32)

-- at most 2^63
unfoldable pub is_mark : ℕ → Bool
is_mark mark = nat_le mark (2 ^ 63)

-- what stands in front of all that goes from service to service
unfoldable pub is_head : Head → Bool
is_head head = is_u32 head.service && (is_time head.stamp && is_mark head.mark)

-- 1 to 2^63
unfoldable pub is_call : ℕ → Bool
is_call call = nat_le 1 call && nat_le call (2 ^ 63)

-- at most 63
unfoldable pub is_service_id : ℕ → Bool
is_service_id id = nat_le id 63

-- a label whose key is new
abbrev pub is_new_label : List Label → Label → Bool
is_new_label before label = (is_name label.key && is_new_key before label.key) && (is_text label.value && any label.kind)

-- a label whose key is a name and whose value is a text
abbrev pub IsNamed : Label → Type 0
IsNamed label = IsTrue (is_name label.key) × IsTrue (is_text label.value)

-- a state that a participant tells: not Invalid
unfoldable pub is_told : State → Bool
is_told state = not (state_number state == 0)

-- 1 to 32
unfoldable pub is_required_count : ℕ → Bool
is_required_count n = nat_le 1 n && nat_le n 32

-- a name that doesn't stand among these
unfoldable pub is_new_name : List (List ℕ) → List ℕ → Bool
is_new_name names name = not (list_any (λ other. bytes_eq other name) names)

-- a name that is new behind these
abbrev pub is_next_name : List (List ℕ) → List ℕ → Bool
is_next_name before name = is_name name && is_new_name before name

-- 11 bits of identifier, or 29 where it is extended; 0 to 8 bytes, and of CAN FD some longer lengths
unfoldable pub is_can_frame : ℕ → Bool → Bool → List ℕ → Bool
is_can_frame id extended fd bytes =
    nat_lt id (if extended then 2 ^ 29 else 2 ^ 11)
    && (nat_le (length bytes) 8 || (fd && list_any (λ n. n == length bytes) (12 ∷ 16 ∷ 20 ∷ 24 ∷ 32 ∷ 48 ∷ 64 ∷ [])))

-- 60 to 1,518 bytes
unfoldable pub is_eth_frame : List ℕ → Bool
is_eth_frame bytes = nat_le 60 (length bytes) && nat_le (length bytes) 1518

-- at most 63
unfoldable pub is_lin_id : ℕ → Bool
is_lin_id id = nat_le id 63

-- it isn't known how the checksum is made
abbrev pub is_unknown : LinChecksum → Bool
is_unknown checksums.Unknown = true
is_unknown checksums.Classic = false
is_unknown checksums.Enhanced = false

-- with this status there are bytes
abbrev pub is_received : LinStatus → Bool
is_received statuses.RxOk = true
is_received statuses.RxError = false
is_received statuses.RxNoResponse = false
is_received statuses.Wakeup = false

-- with this mode there are bytes
abbrev pub is_sent : LinMode → Bool
is_sent modes.Unused = false
is_sent modes.Rx = false
is_sent modes.TxUnconditional = true

-- at most 8 bytes; without a payload neither bytes nor a checksum
unfoldable pub is_lin_payload : Bool → LinChecksum → List ℕ → Bool
is_lin_payload carries checksum bytes = nat_le (length bytes) 8 && (carries || (is_unknown checksum && length bytes == 0))

-- in the order of the fields, so that a rule stands where the wire judges it
unfoldable pub is_message : Content → Bool
is_message (Hello name role address) = is_name name && (any role && is_text address)
is_message Leave = true
is_message (NextStep at duration) = is_time at && is_step_size duration
is_message (ServiceAdd s) =
    not s.history
    && (is_service_id s.id && (any s.kind && (is_name s.name && (is_name s.spec.topic && (is_text s.spec.media
    && (is_label_count (length s.spec.labels) && each_after is_new_label [] s.spec.labels))))))
is_message ServicesEnd = true
is_message (Status state until) = (any state && is_told state) && is_time until
is_message (Workflow required) = is_required_count (length required) && each_after is_next_name [] required
is_message Abort = true
is_message (Can head f) =
    is_head head
    && (is_u32 f.id && (any f.extended && (is_payload f.payload && is_can_frame f.id f.extended f.fd f.payload)))
is_message (Eth head bytes) = is_head head && (is_payload bytes && is_eth_frame bytes)
is_message (Lin head f) =
    is_head head
    && (is_lin_id f.id && (any f.checksum && (any f.status && (is_payload f.payload && is_lin_payload (is_received f.status) f.checksum f.payload))))
is_message (LinResponse head r) =
    is_head head
    && (is_lin_id r.id && (any r.mode && (any r.checksum && (is_payload r.payload && is_lin_payload (is_sent r.mode) r.checksum r.payload))))
is_message (Publish head bytes) = is_head head && is_payload bytes
is_message (Call head call bytes) = is_head head && (is_call call && is_payload bytes)
is_message (Reply head client call bytes) = is_head head && (is_u32 client && (is_call call && is_payload bytes))
is_message (Refuse reason) = any reason
