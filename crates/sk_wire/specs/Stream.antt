-- A stream of bytes: the spellings of messages, and behind them an open rest or the place of a fault.
use Rattle.std.specs.Prelude.{◌≡◌, ℕ, ◌+◌, ◌≤◌, ◌<◌, Bool, true, ◌&&◌, IsTrue, List, [], ◌++◌, length, Option, Some, None, slice_index, nat_lt, nat_le, if◌then◌else◌}
use Rattle.std.specs.List.{flat_map, AllByRecursion}
use Rattle.sk_msg.specs.declared.content.Content.{Content}
use Rattle.sk_msg.specs.Rules.{is_message}
use Rattle.sk_wire.specs.declared.fault.WireFault.{WireFault}
use Rattle.sk_wire.specs.Grammar.{spelling}
use Rattle.sk_wire.specs.Faults.{announced, FrameFaults}

-- each is a byte
abbrev pub AreBytes : List ℕ → Type 0
AreBytes bytes = (i : ℕ) → slice_index bytes i < 256

-- four bytes with a length in range
pub record Announces (bytes : List ℕ) : Type 0 where
  pub head : 4 ≤ length bytes
  pub least : 2 ≤ announced bytes
  pub most : announced bytes ≤ 8192

-- fewer than four bytes, or four with a length in range and fewer bytes behind them than that
unfoldable pub is_open : List ℕ → Bool
is_open bytes =
    if nat_lt (length bytes) 4 then true else
    nat_le 2 (announced bytes) && (nat_le (announced bytes) 8192 && nat_lt (length bytes) (4 + announced bytes))

-- the parts of a stream: its messages, and the open rest or the fault behind them
pub record Parts : Type 0 where
  pub messages : List Content
  pub rest : List ℕ
  pub fault : Option WireFault

-- behind the messages, at this offset of the stream
abbrev pub Ends : ℕ → List ℕ → List ℕ → Option WireFault → Type 0
Ends offset tail rest None = IsTrue (is_open tail) × (rest ≡ tail)
Ends offset tail rest (Some fault) =
    (rest ≡ []) × ((here : WireFault) × FrameFaults tail here × (fault ≡ record { at = offset + here.at; what = here.what }))

-- the bytes, the first of which has this offset in the stream, have these parts
pub record HasParts (from : ℕ) (bytes : List ℕ) (parts : Parts) : Type 0 where
  pub tail : List ℕ
  pub whole : bytes ≡ flat_map spelling parts.messages ++ tail
  pub each : AllByRecursion (λ m. IsTrue (is_message m)) parts.messages
  pub end : Ends (from + length (flat_map spelling parts.messages)) tail parts.rest parts.fault
