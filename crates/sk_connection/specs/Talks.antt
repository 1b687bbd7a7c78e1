-- What a talk on a link comes to.
use Rattle.std.specs.Prelude.{◌≡◌, ◌≤◌, ◌<◌, ℕ, Bool, true, false, List, ◌∷◌, ◌++◌, length, take, reverse}
use Rattle.std.specs.List.{list_any, prefix_len}
use Rattle.sk_base.specs.Talk.{Said, Taken, Given, NoneTaken, NoneGiven, Ended}

abbrev pub is_not_yet : Said → Bool
is_not_yet (Taken bytes) = false
is_not_yet (Given bytes) = false
is_not_yet NoneTaken = true
is_not_yet NoneGiven = true
is_not_yet Ended = false

abbrev pub is_end : Said → Bool
is_end (Taken bytes) = false
is_end (Given bytes) = false
is_end NoneTaken = false
is_end NoneGiven = false
is_end Ended = true

abbrev pub is_take : Said → Bool
is_take (Taken bytes) = true
is_take (Given bytes) = false
is_take NoneTaken = true
is_take NoneGiven = false
is_take Ended = true

-- how many answers NotYet stand at the end of the talk, in a row
abbrev pub waiting : List Said → ℕ
waiting talk = prefix_len is_not_yet (reverse talk)

-- a give since the last take answered NotYet
abbrev pub IsHeldBack : List Said → Type 0
IsHeldBack talk = (front : List Said) × (since : List Said) × (talk ≡ front ++ NoneGiven ∷ since) × (list_any is_take since ≡ false)

-- 1,048,576 answers NotYet came in a row, at the end or before
abbrev pub IsTired : List Said → Type 0
IsTired talk = (k : ℕ) × (k ≤ length talk) × (1048576 ≤ waiting (take k talk))

-- and never did
abbrev pub IsPatient : List Said → Type 0
IsPatient talk = (k : ℕ) → k ≤ length talk → waiting (take k talk) < 1048576
