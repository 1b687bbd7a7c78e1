-- What an Ethernet controller sends, and what it refuses.
use Rattle.std.specs.Prelude.{ℕ, ◌-◌, Bool, not, ◌&&◌, List, ◌++◌, length, nat_le, replicate, Option, Some, None, if◌then◌else◌, ◌≡◌, ◌⊎◌, Result, Err}
use Rattle.sk_eth.specs.declared.refused.EthRefused.{EthRefused}
use Rattle.sk_eth.specs.declared.refused.EthRefused.TheVariants.{ControllerInactive, InvalidFrameFormat, WantOfMemory}

-- 14 to 1,518 bytes
unfoldable pub is_sendable : List ℕ → Bool
is_sendable frame = nat_le 14 (length frame) && nat_le (length frame) 1518

-- with zeros behind it up to 60 bytes
unfoldable pub padded : List ℕ → List ℕ
padded frame = frame ++ replicate (60 - length frame) 0

-- why a controller that is active, or isn't, doesn't send the frame; none where it does
unfoldable pub refusal : Bool → List ℕ → Option EthRefused
refusal active frame =
    if not active then Some ControllerInactive else
    if not (is_sendable frame) then Some (InvalidFrameFormat (length frame)) else
    None

-- a reason against the call is its answer
abbrev pub AnswersReason : {X : Type 0} → Option EthRefused → Result X EthRefused → Type 0
AnswersReason against result = (reason : EthRefused) → against ≡ Some reason → result ≡ Err reason

-- besides the reason against the call there is want of memory alone
abbrev pub IsReason : Option EthRefused → EthRefused → Type 0
IsReason against reason = (reason ≡ WantOfMemory) ⊎ (against ≡ Some reason)
