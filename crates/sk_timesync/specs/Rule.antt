-- When the next step may begin.
use Rattle.std.specs.Prelude.{◌≡◌, ◌<◌, ◌≤◌, ◌⊎◌, ℕ, true, false, Option, Some, None, IsSome, IfSome, IsSomeAnd, List, All, Contains}
use Rattle.sk_timesync.specs.Notes.{PeerNotes, Notes}
use Rattle.sk_timesync.specs.declared.answer.MayBegin.{MayBegin}
use Rattle.sk_timesync.specs.declared.answer.MayBegin.TheVariants.{Yes, Waits, Open}

-- a peer holds the step at this time up: it is unknown, or it is synchronised, hasn't left, and has announced nothing or an earlier time
abbrev pub HoldsUp : ℕ → PeerNotes → Type 0
HoldsUp at peer =
    (peer.synchronised ≡ None)
    ⊎ ((peer.synchronised ≡ Some true) × (peer.left ≡ false) × IfSome peer.announced (λ time. time < at))

-- it doesn't: it is known, and where it is synchronised and present it has announced this time or a later one
pub record IsReady (at : ℕ) (peer : PeerNotes) : Type 0 where
  pub known : IsSome peer.synchronised
  pub announced : peer.synchronised ≡ Some true → peer.left ≡ false → IsSomeAnd peer.announced (λ time. at ≤ time)

-- no step is open, and no peer holds the next one up
pub record IsClear (notes : Notes) : Type 0 where
  pub closed : notes.is_open ≡ false
  pub ready : All (IsReady notes.next) notes.peers

-- a peer of this number, which announced this, holds the step at this time up, and none of a lower number does
pub record FirstHoldsUp (at : ℕ) (peers : List PeerNotes) (number : ℕ) (announced : Option ℕ) : Type 0 where
  pub peer : PeerNotes
  pub added : Contains peers peer
  pub is_number : number ≡ peer.number
  pub is_announced : announced ≡ peer.announced
  pub holds : HoldsUp at peer
  pub lower : All (λ other. other.number < number → IsReady at other) peers

-- what is answered: the open step; the first peer that holds the next one up; or that it may begin, and when
abbrev pub Answers : Notes → MayBegin → Type 0
Answers notes (Open number) = (notes.is_open ≡ true) × (number ≡ notes.begun)
Answers notes (Waits number announced) = (notes.is_open ≡ false) × FirstHoldsUp notes.next notes.peers number announced
Answers notes (Yes at) = IsClear notes × (at ≡ notes.next)
