-- What was noted so far: the own steps, and each peer.
use Rattle.std.specs.Prelude.{◌≡◌, ◌<◌, ◌+◌, ◌≤◌, ◌*◌, ◌^◌, ◌==◌, ℕ, Bool, true, false, Option, Some, None, option_and_then, List, map, find, if◌then◌else◌}
use Rattle.std.specs.List.Sorted.{IsStrictlyIncreasing}

-- of one peer
pub record PeerNotes : Type 0 where
  pub number : ℕ
  -- whether it is synchronised, once it is known
  pub synchronised : Option Bool
  pub left : Bool
  -- the time of its last announcement
  pub announced : Option ℕ

-- of the own steps, and of the peers in rising number
pub record Notes : Type 0 where
  pub size : ℕ
  -- how many steps were begun
  pub begun : ℕ
  -- whether the last of them hasn't ended
  pub is_open : Bool
  -- when the next step begins: at 0, and one size later with each step that was begun
  pub next : ℕ
  pub peers : List PeerNotes

-- a peer that was added, and no more
abbrev pub unheard : ℕ → PeerNotes
unheard number = record { number = number; synchronised = None; left = false; announced = None }

-- the numbers of the peers that were added
abbrev pub numbers : Notes → List ℕ
numbers notes = map (λ peer. peer.number) notes.peers

-- the last announcement of the peer of this number
abbrev pub announced_by : Notes → ℕ → Option ℕ
announced_by notes number = option_and_then (λ peer. peer.announced) (find (λ peer. peer.number == number) notes.peers)

-- nothing was noted but which peers there are
pub record IsFresh (notes : Notes) : Type 0 where
  pub begun : notes.begun ≡ 0
  pub peers : notes.peers ≡ map unheard (numbers notes)

-- one peer after one more note
abbrev pub with_known : Bool → PeerNotes → PeerNotes
with_known synchronised peer = record peer { synchronised = Some synchronised }

abbrev pub with_announced : ℕ → PeerNotes → PeerNotes
with_announced at peer = record peer { announced = Some at }

abbrev pub with_left : PeerNotes → PeerNotes
with_left peer = record peer { left = true }

-- the notes with this change at the peer of this number, and at no other
abbrev pub with_peer : ℕ → (PeerNotes → PeerNotes) → Notes → Notes
with_peer number change notes =
    record notes { peers = map (λ peer. if peer.number == number then change peer else peer) notes.peers }

-- what holds of the notes at every moment
pub record IsKept (notes : Notes) : Type 0 where
  pub least : 1 ≤ notes.size
  pub most : notes.size ≤ 2 ^ 60
  pub rising : IsStrictlyIncreasing (numbers notes)
  -- the next step begins one size behind the last one, and the first at 0
  pub timed : notes.next ≡ notes.begun * notes.size
  -- no step is shorter than a nanosecond, so at most so many were begun
  pub counted : notes.begun ≤ notes.next
  -- so that the time behind it is one too
  pub latest : notes.next < 2 ^ 61 + 2 ^ 60
