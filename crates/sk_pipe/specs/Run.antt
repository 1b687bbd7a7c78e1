-- The talk of a run of the step protocol on its link, and how the run ends.
use Rattle.std.specs.Prelude.{◌≡◌, ◌≤◌, ◌<◌, ◌^◌, ◌⊎◌, ℕ, true, false, Some, None, List, [], ◌∷◌, ◌++◌, length, take}
use Rattle.std.specs.List.{list_any, slice_get}
use mathlib.Core.List.{IsPrefix}
use Rattle.sk_base.specs.Talk.{Said, NoneGiven, taken, given, Rose}
use Rattle.sk_connection.specs.Talks.{is_end, is_take, waiting, IsHeldBack, IsTired, IsPatient}
use Rattle.sk_pipe.specs.Pipe.{end_of, pipe_out}
use Rattle.sk_pipe.specs.declared.peer.PeerEnding.TheVariants.{Left, Broken}
use Rattle.sk_pipe.specs.declared.ending.PipeEnding.{PipeEnding}
use Rattle.sk_pipe.specs.declared.ending.PipeEnding.TheVariants as endings

-- a take may follow: neither the peer's Leave, nor anything wrong, nor End, nor 2^32 bytes were taken
pub record MayFollow (talk : List Said) : Type 0 where
  pub open_still : end_of (taken talk) ≡ None
  pub no_end : list_any is_end talk ≡ false
  pub not_full : length (taken talk) < 2 ^ 32

-- At every place of the talk what was given is a prefix of what `pipe_out` says of the bytes taken. Before each take it is all
-- of that, or a give since the last take answered NotYet. A take comes only where one may follow; and there a give that
-- answered NotYet is followed by a take.
pub record IsInStep (name : List ℕ) (step duration : ℕ) (talk : List Said) : Type 0 where
  pub prefix : (k : ℕ) → k ≤ length talk → IsPrefix (given (take k talk)) (pipe_out name step duration (taken (take k talk)))
  pub whole : (k : ℕ) (said : Said) → slice_get talk k ≡ Some said → is_take said ≡ true →
      (given (take k talk) ≡ pipe_out name step duration (taken (take k talk))) ⊎ IsHeldBack (take k talk)
  pub asks : (k : ℕ) (said : Said) → slice_get talk k ≡ Some said → is_take said ≡ true → MayFollow (take k talk)
  pub yields : (k : ℕ) (said : Said) (front : List Said) → slice_get talk k ≡ Some said → take k talk ≡ front ++ NoneGiven ∷ [] →
      MayFollow (take k talk) → is_take said ≡ true

-- ## Causes

-- the peer left in order
abbrev pub HasLeft : List Said → Type 0
HasLeft talk = end_of (taken talk) ≡ Some Left

-- bytes that are no message, or a message out of order, came before the peer's Leave
abbrev pub IsBroken : List Said → Type 0
IsBroken talk = end_of (taken talk) ≡ Some Broken

-- End came before the peer's Leave, and nothing was wrong
abbrev pub HasNoLeave : List Said → Type 0
HasNoLeave talk = (end_of (taken talk) ≡ None) × (list_any is_end talk ≡ true)

-- 2^32 bytes were taken with neither the peer's Leave nor anything wrong among them
abbrev pub IsFull : List Said → Type 0
IsFull talk = (end_of (taken talk) ≡ None) × (2 ^ 32 ≤ length (taken talk))

-- what an ending says of the talk
abbrev pub Cause : PipeEnding → List Said → Type 0
Cause endings.Left talk = HasLeft talk × IsPatient talk
Cause endings.BadInput talk = IsBroken talk × IsPatient talk
Cause endings.NoLeave talk = HasNoLeave talk × (length (taken talk) < 2 ^ 32) × IsPatient talk
Cause endings.Limit talk = IsFull talk ⊎ (1048576 ≤ waiting talk)
Cause endings.LinkFault talk = IsPatient talk
Cause endings.Memory talk = IsPatient talk

-- with these all of it was given
abbrev pub IsWhole : PipeEnding → Type 0
IsWhole endings.Left = Unit {0}
IsWhole endings.BadInput = Unit {0}
IsWhole endings.NoLeave = Unit {0}
IsWhole endings.Limit = ⊥
IsWhole endings.LinkFault = ⊥
IsWhole endings.Memory = ⊥

-- a run that ended so
pub record IsPipe (name : List ℕ) (step duration : ℕ) (talk : List Said) (ended : PipeEnding) : Type 0 where
  pub in_step : IsInStep name step duration talk
  pub whole : IsWhole ended → given talk ≡ pipe_out name step duration (taken talk)
  pub cause : Cause ended talk

-- the count of the link's faults rose where the link failed, and stands still everywhere else
abbrev pub CountsFaults : PipeEnding → ℕ → ℕ → Type 0
CountsFaults endings.LinkFault before now = Rose before now
CountsFaults endings.Left before now = now ≡ before
CountsFaults endings.BadInput before now = now ≡ before
CountsFaults endings.NoLeave before now = now ≡ before
CountsFaults endings.Limit before now = now ≡ before
CountsFaults endings.Memory before now = now ≡ before
