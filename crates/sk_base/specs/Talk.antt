-- What was said on a link: each answer of its calls but Failed, in one order.
use Rattle.std.specs.Prelude.{◌≤◌, ◌+◌, ◌-◌, ◌^◌, ℕ, List, [], take, min}
use Rattle.std.specs.List.{flat_map}
use Rattle.sk_base.specs.declared.link.Took.{Took}
use Rattle.sk_base.specs.declared.link.Took.TheVariants as took
use Rattle.sk_base.specs.declared.link.Gave.{Gave}
use Rattle.sk_base.specs.declared.link.Gave.TheVariants as gave

-- one answer of a call on a link
pub data Said : Type 0 where
  -- a take answered with these bytes
  Taken : List ℕ → Said
  -- a give let these bytes through
  Given : List ℕ → Said
  -- a take answered NotYet
  NoneTaken : Said
  -- a give answered NotYet
  NoneGiven : Said
  -- a take answered End
  Ended : Said

-- what a take said, with the buffer that it left
abbrev pub said_by_take : Took → List ℕ → Said
said_by_take (took.Bytes count) buffer = Taken (take count buffer)
said_by_take took.NotYet buffer = NoneTaken
said_by_take took.End buffer = Ended

-- what a give of this piece said
abbrev pub said_by_give : Gave → List ℕ → Said
said_by_give (gave.Bytes count) piece = Given (take count piece)
said_by_give gave.NotYet piece = NoneGiven

-- a count is from 1 to the length of the slice
abbrev pub IsCountOf : ℕ → ℕ → Type 0
IsCountOf room count = (1 ≤ count) × (count ≤ room)

-- a take gave no more than its buffer holds
abbrev pub TakesWithin : ℕ → Took → Type 0
TakesWithin room (took.Bytes count) = IsCountOf room count
TakesWithin room took.NotYet = Unit {0}
TakesWithin room took.End = Unit {0}

-- a give let no more through than its piece
abbrev pub GivesWithin : ℕ → Gave → Type 0
GivesWithin room (gave.Bytes count) = IsCountOf room count
GivesWithin room gave.NotYet = Unit {0}

-- the bytes that one answer took
abbrev pub bytes_taken : Said → List ℕ
bytes_taken (Taken bytes) = bytes
bytes_taken (Given bytes) = []
bytes_taken NoneTaken = []
bytes_taken NoneGiven = []
bytes_taken Ended = []

-- the bytes that one answer let through
abbrev pub bytes_given : Said → List ℕ
bytes_given (Taken bytes) = []
bytes_given (Given bytes) = bytes
bytes_given NoneTaken = []
bytes_given NoneGiven = []
bytes_given Ended = []

-- all bytes taken
abbrev pub taken : List Said → List ℕ
taken talk = flat_map bytes_taken talk

-- all bytes given
abbrev pub given : List Said → List ℕ
given talk = flat_map bytes_given talk

-- a count of faults rose: it never falls, and stands still at the end of a u64
abbrev pub Rose : ℕ → ℕ → Type 0
Rose before now = (before ≤ now) × (min (before + 1) (2 ^ 64 - 1) ≤ now)
