-- The two ends of a ring, as contracts see them: plain data.
use Rattle.std.specs.Prelude.{ℕ, List}
use denote.RawPtr.{Ptr}
use Rattle.std.specs.declared.alloc.Global.{Global}
use Rattle.rtrb.specs.Shared.{Names}
use Rattle.rtrb.specs.declared.end.End.{End}
use Rattle.rtrb.specs.declared.AnyItems.{AnyItems}
use Rattle.sk_msg.specs.declared.content.Content.{Content}

-- which ring it is: both its ends have the same, and no call changes it
pub record Ring : Type 0 where
  pub words : Ptr
  pub slots : Ptr
  pub names : Names
  pub heap : Global

abbrev pub ring_of : End Content Global AnyItems → Ring
ring_of e = record { words = e.words; slots = e.slots; names = e.names; heap = e.heap }

-- the end that pushes
pub record Outgoing : Type 0 where
  pub ring : Ring
  -- how many messages the ring has room for
  pub room : ℕ
  -- all that was pushed, oldest first
  pub pushed : List Content
  -- how many slots are known to be free
  pub free : ℕ

-- the end that pops
pub record Incoming : Type 0 where
  pub ring : Ring
  -- all that was popped, oldest first
  pub popped : List Content
  -- the messages that are known to be in the ring, oldest first
  pub waiting : List Content
