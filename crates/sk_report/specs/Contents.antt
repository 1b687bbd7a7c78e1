-- What a report shows of a message: the kind, its numbers in decimal, and its data.
use Rattle.std.specs.Prelude.{ℕ, ◌+◌, Bool, List, [], ◌∷◌, ◌++◌, codes, decimal, Option, Some, None, is_some, if◌then◌else◌}
use Rattle.hex.specs.Hex.{encode_lower}
use Rattle.sk_msg.specs.declared.bus.CanFrame.{CanFrame}
use Rattle.sk_msg.specs.declared.bus.LinStatus.{LinStatus}
use Rattle.sk_msg.specs.declared.bus.LinStatus.TheVariants.{RxOk, RxError, RxNoResponse, Wakeup}
use Rattle.sk_msg.specs.declared.content.Content.{Content}
use Rattle.sk_msg.specs.declared.content.Content.TheVariants.{Hello, Leave, NextStep, ServiceAdd, ServicesEnd, Status, Workflow, Abort, Can, Eth, Lin, LinResponse, Publish, Call, Reply, Refuse}

-- words with a space between each two
abbrev pub spaced : List (List ℕ) → List ℕ
spaced [] = []
spaced (word ∷ []) = word
spaced (word ∷ next ∷ words) = word ++ (codes " " ++ spaced (next ∷ words))

-- the data in lower-case hexadecimal, or `-` where there is none
unfoldable pub hex_text : List ℕ → List ℕ
hex_text [] = codes "-"
hex_text (byte ∷ bytes) = encode_lower (byte ∷ bytes)

-- the flags of a CAN frame: 1 where it is extended and 2 where it is CAN FD, added
unfoldable pub can_flags : Bool → Bool → ℕ
can_flags extended fd = (if extended then 1 else 0) + (if fd then 2 else 0)

-- the number of a LIN status
unfoldable pub status_number : LinStatus → ℕ
status_number RxOk = 0
status_number RxError = 1
status_number RxNoResponse = 2
status_number Wakeup = 3

-- what is shown of a message; of all but six kinds nothing
unfoldable pub content_text : Content → Option (List ℕ)
content_text (Hello name role address) = None
content_text Leave = None
content_text (NextStep at duration) = None
content_text (ServiceAdd service) = None
content_text ServicesEnd = None
content_text (Status state until) = None
content_text (Workflow required) = None
content_text Abort = None
content_text (Can head frame) =
    Some (spaced (codes "can" ∷ decimal frame.id ∷ decimal (can_flags frame.extended frame.fd) ∷ hex_text frame.payload ∷ []))
content_text (Eth head payload) = Some (spaced (codes "eth" ∷ hex_text payload ∷ []))
content_text (Lin head frame) =
    Some (spaced (codes "lin" ∷ decimal frame.id ∷ decimal (status_number frame.status) ∷ hex_text frame.payload ∷ []))
content_text (LinResponse head response) = None
content_text (Publish head payload) = Some (spaced (codes "pub" ∷ hex_text payload ∷ []))
content_text (Call head call payload) = Some (spaced (codes "call" ∷ decimal call ∷ hex_text payload ∷ []))
content_text (Reply head client call payload) = Some (spaced (codes "reply" ∷ decimal call ∷ hex_text payload ∷ []))
content_text (Refuse reason) = None

-- a report shows it
unfoldable pub is_shown : Content → Bool
is_shown m = is_some (content_text m)
