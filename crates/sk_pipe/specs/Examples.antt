-- Worked examples of what `pipe` writes, in the bytes of the format.
use Rattle.std.specs.Prelude.{ℕ, List, [], ◌∷◌, ◌++◌}

-- Hello of A and of B, each synchronised and autonomous, with an empty address
abbrev pub hello_a : List ℕ
hello_a = 6 ∷ 0 ∷ 0 ∷ 0 ∷ 1 ∷ 1 ∷ 1 ∷ 65 ∷ 2 ∷ 0 ∷ []

abbrev pub hello_b : List ℕ
hello_b = 6 ∷ 0 ∷ 0 ∷ 0 ∷ 1 ∷ 1 ∷ 1 ∷ 66 ∷ 2 ∷ 0 ∷ []

-- a frame of 18 bytes: NextStep at a time, which the next eight bytes are, of a step of 1,000,000 ns
abbrev pub step_at : List ℕ → List ℕ
step_at time = (18 ∷ 0 ∷ 0 ∷ 0 ∷ 1 ∷ 3 ∷ []) ++ time ++ (64 ∷ 66 ∷ 15 ∷ 0 ∷ 0 ∷ 0 ∷ 0 ∷ 0 ∷ [])

-- 0, 999,999, 1,000,000, 2,000,000, 3,000,000 and 5,000,000 ns, the lowest byte first
abbrev pub ms_0 : List ℕ
ms_0 = 0 ∷ 0 ∷ 0 ∷ 0 ∷ 0 ∷ 0 ∷ 0 ∷ 0 ∷ []

abbrev pub below_ms_1 : List ℕ
below_ms_1 = 63 ∷ 66 ∷ 15 ∷ 0 ∷ 0 ∷ 0 ∷ 0 ∷ 0 ∷ []

abbrev pub ms_1 : List ℕ
ms_1 = 64 ∷ 66 ∷ 15 ∷ 0 ∷ 0 ∷ 0 ∷ 0 ∷ 0 ∷ []

abbrev pub ms_2 : List ℕ
ms_2 = 128 ∷ 132 ∷ 30 ∷ 0 ∷ 0 ∷ 0 ∷ 0 ∷ 0 ∷ []

abbrev pub ms_3 : List ℕ
ms_3 = 192 ∷ 198 ∷ 45 ∷ 0 ∷ 0 ∷ 0 ∷ 0 ∷ 0 ∷ []

abbrev pub ms_5 : List ℕ
ms_5 = 64 ∷ 75 ∷ 76 ∷ 0 ∷ 0 ∷ 0 ∷ 0 ∷ 0 ∷ []

abbrev pub leave_frame : List ℕ
leave_frame = 2 ∷ 0 ∷ 0 ∷ 0 ∷ 1 ∷ 2 ∷ []

-- the peer announces 5 ms at once, and leaves
abbrev pub taken_ahead : List ℕ
taken_ahead = hello_b ++ step_at ms_0 ++ step_at ms_5 ++ leave_frame

abbrev pub given_ahead : List ℕ
given_ahead = hello_a ++ step_at ms_0 ++ step_at ms_1 ++ step_at ms_2 ++ step_at ms_3 ++ leave_frame

-- the peer announces 1 ms and ends
abbrev pub taken_ended : List ℕ
taken_ended = hello_b ++ step_at ms_0 ++ step_at ms_1

abbrev pub given_ended : List ℕ
given_ended = hello_a ++ step_at ms_0 ++ step_at ms_1 ++ step_at ms_2

-- one nanosecond less
abbrev pub taken_below : List ℕ
taken_below = hello_b ++ step_at ms_0 ++ step_at below_ms_1

abbrev pub given_below : List ℕ
given_below = hello_a ++ step_at ms_0 ++ step_at ms_1

-- a step of 1 ns and a duration of 0: nothing was taken, and Leave is due at once
abbrev pub given_at_once : List ℕ
given_at_once = hello_a ++ (18 ∷ 0 ∷ 0 ∷ 0 ∷ 1 ∷ 3 ∷ []) ++ ms_0 ++ (1 ∷ 0 ∷ 0 ∷ 0 ∷ 0 ∷ 0 ∷ 0 ∷ 0 ∷ []) ++ leave_frame
