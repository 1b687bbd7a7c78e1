-- Why rules are carried out, and which ones.
use Rattle.std.specs.Prelude.{ℕ, ◌-◌, ◌%◌, ◌==◌, nat_le, Bool, false, ◌&&◌, List, [], Option, Some, None, slice_get}
use Rattle.std.specs.Int.{w64, from_le_bytes}
use Rattle.sk_config.specs.Applied.{is_kind}
use Rattle.sk_law.specs.Script.{Delivery}
use Rattle.sk_msg.specs.declared.content.Content.{Content}
use Rattle.sk_msg.specs.declared.content.Content.TheVariants as contents
use Rattle.sk_msg.specs.declared.service.ServiceKind.{ServiceKind}
use Rattle.sk_msg.specs.declared.service.ServiceKind.TheVariants as kinds
use Rattle.sk_rpc.specs.declared.open_call.OpenCall.{OpenCall}
use Rattle.sk_rules.specs.declared.rule.When.{When}
use Rattle.sk_rules.specs.declared.rule.When.TheVariants.{At, Every, On}
use Rattle.sk_machine.specs.declared.cause.Cause.{Cause}
use Rattle.sk_machine.specs.declared.cause.Cause.TheVariants.{Ready, Time, Message}

-- ## What a message gives to the actions that it leads to

-- the bytes that a message carries
abbrev pub payload_of : Content → List ℕ
payload_of (contents.Can head frame) = frame.payload
payload_of (contents.Eth head payload) = payload
payload_of (contents.Lin head frame) = frame.payload
payload_of (contents.LinResponse head response) = response.payload
payload_of (contents.Publish head payload) = payload
payload_of (contents.Call head call payload) = payload
payload_of (contents.Reply head client call payload) = payload
payload_of _ = []

-- the little-endian number of the first 8 bytes; where there are fewer, 0 stands for each that is missing
abbrev pub first_number : List ℕ → ℕ
first_number bytes = from_le_bytes w64 bytes

-- the call that this peer's message is
abbrev pub call_in : ℕ → Content → Option OpenCall
call_in peer (contents.Call head call payload) = Some (record { peer = peer; client = head.service; call = call })
call_in peer _ = None

-- a message that was handed to a service, as the cause of what its rules do
abbrev pub cause_of : Delivery → Cause
cause_of item = Message item.service (first_number (payload_of item.message)) (call_in item.peer item.message)

-- the number that a cause has: without a message it is 0
abbrev pub number_of : Cause → ℕ
number_of Ready = 0
number_of (Time t) = 0
number_of (Message service number call) = number

-- the call to answer, if the cause is one
abbrev pub call_of : Cause → Option OpenCall
call_of Ready = None
call_of (Time t) = None
call_of (Message service number call) = call

-- ## Which messages rules look at

-- a service of this kind takes such a message; none takes a LinResponse, which isn't handed
abbrev pub takes : ServiceKind → Content → Bool
takes kind (contents.Can head frame) = is_kind kind kinds.Can
takes kind (contents.Eth head payload) = is_kind kind kinds.Ethernet
takes kind (contents.Lin head frame) = is_kind kind kinds.Lin
takes kind (contents.Publish head payload) = is_kind kind kinds.Subscriber
takes kind (contents.Call head call payload) = is_kind kind kinds.Server
takes kind (contents.Reply head client call payload) = is_kind kind kinds.Client
takes kind _ = false

-- the service exists, and is of a kind that takes the message
abbrev pub is_taken_by : Option ServiceKind → Content → Bool
is_taken_by None m = false
is_taken_by (Some kind) m = takes kind m

-- the own services have these kinds, by their numbers
abbrev pub is_taken : List ServiceKind → Delivery → Bool
is_taken kinds item = is_taken_by (slice_get kinds item.service) item.message

-- ## Which rules are carried out

-- a rule with this condition is carried out at this time
abbrev pub is_due : ℕ → When → Bool
is_due t (At at) = t == at
is_due t (Every size from) = nat_le from t && (t - from) % size == 0
is_due t (On own) = false

-- a rule with this condition is carried out for a message that this service was handed
abbrev pub is_of : ℕ → When → Bool
is_of service (At at) = false
is_of service (Every size from) = false
is_of service (On own) = service == own

-- a rule with this condition is carried out for this cause
abbrev pub fires : Cause → When → Bool
fires Ready when = false
fires (Time t) when = is_due t when
fires (Message service number call) when = is_of service when
