-- The parts of a stream as functions: the plain program beside the grammar.
use Rattle.std.specs.Prelude.{ℕ, zero, suc, ◌+◌, ◌-◌, List, [], ◌∷◌, length, take, drop, Option, Some, None, Result, Ok, Err, nat_lt, if◌then◌else◌}
use Rattle.sk_msg.specs.declared.content.Content.{Content}
use Rattle.sk_wire.specs.declared.fault.What.TheVariants.{Short, TooLong}
use Rattle.sk_wire.specs.declared.fault.BodyFault.{BodyFault}
use Rattle.sk_wire.specs.declared.fault.WireFault.{WireFault}
use Rattle.sk_wire.specs.Grammar.{body_at}
use Rattle.sk_wire.specs.Faults.{announced}
use Rattle.sk_wire.specs.Stream.{Parts}

-- what stands at the front: less than a message, a message and the bytes behind it, or a fault counted from there
pub data Front : Type 0 where
  Open : Front
  Whole : Content → List ℕ → Front
  Broken : WireFault → Front

-- a body of this length, with the bytes behind it
abbrev pub front_by : ℕ → List ℕ → Result Content BodyFault → Front
front_by size behind (Ok m) = Whole m behind
front_by size behind (Err f) = Broken (record { at = 4 + size - f.left; what = f.what })

unfoldable pub front : List ℕ → Front
front bytes =
    if nat_lt (length bytes) 4 then Open else
    if nat_lt (announced bytes) 2 then Broken (record { at = 0; what = Short }) else
    if nat_lt 8192 (announced bytes) then Broken (record { at = 0; what = TooLong }) else
    if nat_lt (length bytes) (4 + announced bytes) then Open else
    front_by (announced bytes) (drop (announced bytes) (drop 4 bytes)) (body_at (take (announced bytes) (drop 4 bytes)))

-- one message more in front
abbrev pub and_before : Content → Parts → Parts
and_before m p = record { messages = m ∷ p.messages; rest = p.rest; fault = p.fault }

-- the parts of bytes by what stands at their front
abbrev pub parts_by : ℕ → List ℕ → Front → (ℕ → List ℕ → Parts) → Parts
parts_by from bytes Open go_on = record { messages = []; rest = bytes; fault = None }
parts_by from bytes (Broken f) go_on = record { messages = []; rest = []; fault = Some (record { at = from + f.at; what = f.what }) }
parts_by from bytes (Whole m behind) go_on = and_before m (go_on (from + (length bytes - length behind)) behind)

-- of at most so many messages
abbrev pub parts_within : ℕ → ℕ → List ℕ → Parts
parts_within zero from bytes = record { messages = []; rest = bytes; fault = None }
parts_within (suc n) from bytes = parts_by from bytes (front bytes) (parts_within n)

-- the parts of bytes, the first of which has this offset in the stream; a message has more than one byte
unfoldable pub parts : ℕ → List ℕ → Parts
parts from bytes = parts_within (length bytes) from bytes

-- of a whole stream
abbrev pub messages : List ℕ → List Content
messages bytes = (parts 0 bytes).messages

abbrev pub rest : List ℕ → List ℕ
rest bytes = (parts 0 bytes).rest

abbrev pub fault : List ℕ → Option WireFault
fault bytes = (parts 0 bytes).fault
