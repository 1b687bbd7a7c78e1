-- What contracts say of a participant's ends.
use Rattle.std.specs.Prelude.{◌≡◌, ◌≢◌, ℕ, ◌+◌, ◌≤◌, List, [], ◌++◌, length, Option, Some, None}
use Rattle.std.specs.List.{slice_get}
use mathlib.Core.List.{IsPrefix}
use Rattle.sk_msg.specs.declared.content.Content.{Content}
use Rattle.sk_mesh.specs.declared.ring_pair.RingPair.{RingPair}
use Rattle.sk_mesh.specs.Places.{Account, Place, place, way, IsPeer}
use Rattle.sk_mesh.specs.Pairs.{pushed_by, popped_by, free_by, waiting_by, room_by}

abbrev pub pair_in : Option (Option RingPair) → Option RingPair
pair_in None = None
pair_in (Some l) = l

-- the rings to and from a peer
abbrev pub pair : Account → ℕ → Option RingPair
pair a p = pair_in (slice_get a.pairs p)

-- all that was pushed to a peer, oldest first
unfoldable pub pushed : Account → ℕ → List Content
pushed a p = pushed_by (pair a p)

-- all that was popped from a peer, oldest first
unfoldable pub popped : Account → ℕ → List Content
popped a p = popped_by (pair a p)

-- how many slots of the ring to a peer are known to be free
unfoldable pub free : Account → ℕ → ℕ
free a p = free_by (pair a p)

-- the messages of a peer that are known to be in the ring, oldest first
unfoldable pub waiting : Account → ℕ → List Content
waiting a p = waiting_by (pair a p)

-- how many messages the ring to a peer has room for
unfoldable pub room : Place → ℕ → ℕ
room a p = room_by (way a p)

-- at most the ring to this peer was pushed to, and looked at
pub record OnlyPushes (a b : Account) (p : ℕ) : Type 0 where
  pub place : place b ≡ place a
  pub popped : (q : ℕ) → popped b q ≡ popped a q
  pub waiting : (q : ℕ) → waiting b q ≡ waiting a q
  pub pushed : (q : ℕ) → q ≢ p → pushed b q ≡ pushed a q
  pub free : (q : ℕ) → q ≢ p → free b q ≡ free a q

-- at most the ring of this peer was popped from, and looked at
pub record OnlyPops (a b : Account) (p : ℕ) : Type 0 where
  pub place : place b ≡ place a
  pub pushed : (q : ℕ) → pushed b q ≡ pushed a q
  pub free : (q : ℕ) → free b q ≡ free a q
  pub popped : (q : ℕ) → q ≢ p → popped b q ≡ popped a q
  pub waiting : (q : ℕ) → q ≢ p → waiting b q ≡ waiting a q

-- nothing was pushed or popped, and at most of the rings to and from this peer more is known
pub record Looks (a b : Account) (p : ℕ) : Type 0 where
  pub place : place b ≡ place a
  pub pushed : (q : ℕ) → pushed b q ≡ pushed a q
  pub popped : (q : ℕ) → popped b q ≡ popped a q
  pub more : free a p ≤ free b p
  pub longer : IsPrefix (waiting a p) (waiting b p)
  pub free : (q : ℕ) → q ≢ p → free b q ≡ free a q
  pub waiting : (q : ℕ) → q ≢ p → waiting b q ≡ waiting a q

-- what a and b know of the ring from a to b is so: that many slots are free, or more, and what was popped, followed by what is known to wait, is a beginning of what was pushed
pub record Agrees (a b : Account) : Type 0 where
  pub slots : free a b.number + length (pushed a b.number) ≤ room (place a) b.number + length (popped b a.number)
  pub order : IsPrefix (popped b a.number ++ waiting b a.number) (pushed a b.number)

-- a and b know all of the ring from a to b
pub record Knows (a b : Account) : Type 0 where
  pub slots : free a b.number + length (pushed a b.number) ≡ room (place a) b.number + length (popped b a.number)
  pub order : popped b a.number ++ waiting b a.number ≡ pushed a b.number

-- nothing was pushed or popped by these ends yet: all slots are known to be free, and no message is known to wait
pub record IsUnused (capacity : ℕ) (a : Account) : Type 0 where
  pub pushed : (q : ℕ) → pushed a q ≡ []
  pub popped : (q : ℕ) → popped a q ≡ []
  pub waiting : (q : ℕ) → waiting a q ≡ []
  pub free : (q : ℕ) → IsPeer (place a) q → free a q ≡ capacity
  pub room : (q : ℕ) → IsPeer (place a) q → room (place a) q ≡ capacity

-- the ring from a to b has no free slot
abbrev pub IsFull : Account → Account → Type 0
IsFull a b = length (pushed a b.number) ≡ room (place a) b.number + length (popped b a.number)

-- the ring from a to b has no message
abbrev pub IsEmpty : Account → Account → Type 0
IsEmpty a b = pushed a b.number ≡ popped b a.number

-- by these ends nothing was pushed or popped in between
pub record SameHistory (a b : Account) : Type 0 where
  pub place : place b ≡ place a
  pub pushed : (q : ℕ) → pushed b q ≡ pushed a q
  pub popped : (q : ℕ) → popped b q ≡ popped a q

-- nothing was popped, and at most to this peer something was pushed
pub record PushesAlone (a b : Account) (p : ℕ) : Type 0 where
  pub place : place b ≡ place a
  pub popped : (q : ℕ) → popped b q ≡ popped a q
  pub pushed : (q : ℕ) → q ≢ p → pushed b q ≡ pushed a q

-- nothing was pushed, and at most of this peer something was popped
pub record PopsAlone (a b : Account) (p : ℕ) : Type 0 where
  pub place : place b ≡ place a
  pub pushed : (q : ℕ) → pushed b q ≡ pushed a q
  pub popped : (q : ℕ) → q ≢ p → popped b q ≡ popped a q
