-- What a decoder stands for, and what a piece does to it.
use Rattle.std.specs.Prelude.{◌≡◌, ℕ, ◌+◌, ◌-◌, ◌≤◌, IsTrue, List, [], ◌++◌, length, Option, Some, None}
use Rattle.sk_msg.specs.declared.content.Content.{Content}
use Rattle.sk_wire.specs.declared.fault.WireFault.{WireFault}
use Rattle.sk_wire.specs.Stream.{is_open}
use Rattle.sk_wire.specs.Parts.{parts, messages, rest, fault}

-- the open rest, the number of bytes fed so far, and the fault
pub record Waiting : Type 0 where
  pub rest : List ℕ
  pub fed : ℕ
  pub fault : Option WireFault

-- a fault stays, and nothing is read behind it; else the rest and the piece together have these parts
abbrev pub FeedsFrom : Option WireFault → Waiting → List ℕ → List Content → Option WireFault → Waiting → Type 0
FeedsFrom (Some f) old piece messages fault new =
    (messages ≡ []) × (fault ≡ Some f) × (new ≡ record old { fed = old.fed + length piece })
FeedsFrom None old piece messages fault new =
    (parts (old.fed - length old.rest) (old.rest ++ piece) ≡ record { messages = messages; rest = new.rest; fault = fault })
    × (new.fed ≡ old.fed + length piece) × (new.fault ≡ fault)

abbrev pub Feeds : Waiting → List ℕ → List Content → Option WireFault → Waiting → Type 0
Feeds old piece messages fault new = FeedsFrom old.fault old piece messages fault new

abbrev pub RestsAt : Option WireFault → List ℕ → Type 0
RestsAt (Some f) rest = rest ≡ []
RestsAt None rest = IsTrue (is_open rest)

-- the open rest is among the bytes fed, and there is none behind a fault
pub record IsWaiting (w : Waiting) : Type 0 where
  pub within : length w.rest ≤ w.fed
  pub rests : RestsAt w.fault w.rest

-- a decoder that was fed these bytes
abbrev pub fed_with : List ℕ → Waiting
fed_with b = record { rest = rest b; fed = length b; fault = fault b }

-- behind the bytes b, a piece gave these messages and this fault: they are those of the whole stream
pub record Continues (b piece : List ℕ) (given : List Content) (found : Option WireFault) (new : Waiting) : Type 0 where
  pub stands : new ≡ fed_with (b ++ piece)
  pub all : messages (b ++ piece) ≡ messages b ++ given
  pub first : found ≡ fault (b ++ piece)

-- whatever bytes were fed before
abbrev pub GoesOn : Waiting → List ℕ → List Content → Option WireFault → Waiting → Type 0
GoesOn old piece given found new = (b : List ℕ) → old ≡ fed_with b → Continues b piece given found new
