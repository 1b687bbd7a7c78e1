-- What contracts say of the two rings to and from a peer, where there are any.
use Rattle.std.specs.Prelude.{◌≡◌, ◌+◌, ◌≤◌, ℕ, List, [], ◌++◌, length, Option, Some, None}
use mathlib.Core.List.{IsPrefix}
use Rattle.sk_msg.specs.declared.content.Content.{Content}
use Rattle.sk_mesh.specs.declared.ring_pair.RingPair.{RingPair}
use Rattle.sk_mesh.specs.Places.{Way, way_at}

abbrev pub pushed_by : Option RingPair → List Content
pushed_by None = []
pushed_by (Some l) = l.to.pushed

abbrev pub popped_by : Option RingPair → List Content
popped_by None = []
popped_by (Some l) = l.from.popped

abbrev pub free_by : Option RingPair → ℕ
free_by None = 0
free_by (Some l) = l.to.free

abbrev pub waiting_by : Option RingPair → List Content
waiting_by None = []
waiting_by (Some l) = l.from.waiting

abbrev pub room_by : Option Way → ℕ
room_by None = 0
room_by (Some w) = w.room

-- the same two rings
abbrev pub IsSameWay : Option RingPair → Option RingPair → Type 0
IsSameWay a b = way_at b ≡ way_at a

-- nothing was pushed, and no more is known of free slots
abbrev pub SamePushes : Option RingPair → Option RingPair → Type 0
SamePushes a b = (pushed_by b ≡ pushed_by a) × (free_by b ≡ free_by a)

-- nothing was popped, and no more is known of messages that wait
abbrev pub SamePops : Option RingPair → Option RingPair → Type 0
SamePops a b = (popped_by b ≡ popped_by a) × (waiting_by b ≡ waiting_by a)

-- nothing was pushed or popped, and no less is known
pub record Looked (a b : Option RingPair) : Type 0 where
  pub way : IsSameWay a b
  pub pushed : pushed_by b ≡ pushed_by a
  pub popped : popped_by b ≡ popped_by a
  pub free : free_by a ≤ free_by b
  pub waiting : IsPrefix (waiting_by a) (waiting_by b)

-- a and b know all of the ring from a to b
pub record KnowsRing (a b : Option RingPair) : Type 0 where
  pub slots : free_by a + length (pushed_by a) ≡ room_by (way_at a) + length (popped_by b)
  pub order : popped_by b ++ waiting_by b ≡ pushed_by a

-- a side of two rings through which nothing went yet
pub record IsNew (capacity : ℕ) (l : RingPair) : Type 0 where
  pub pushed : l.to.pushed ≡ []
  pub popped : l.from.popped ≡ []
  pub free : l.to.free ≡ capacity
  pub waiting : l.from.waiting ≡ []
  pub room : l.to.room ≡ capacity
