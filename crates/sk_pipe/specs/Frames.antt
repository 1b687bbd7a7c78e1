-- What is written, cut into its messages.
use Rattle.std.specs.Prelude.{ℕ, zero, suc, ◌+◌, ◌-◌, ◌*◌, ◌/◌, nat_lt, nat_le, List, [], ◌++◌, if◌then◌else◌}
use Rattle.sk_pipe.specs.Pipe.{hello, next_step, leave}

-- how many whole numbers i have i * step below the duration
abbrev pub all_steps : ℕ → ℕ → ℕ
all_steps step duration = (duration + (step - 1)) / step

-- the message of this number: Hello, then NextStep at i * step for i from 0 to total, then Leave
abbrev pub frame : List ℕ → ℕ → ℕ → ℕ → List ℕ
frame name step total zero = hello name
frame name step total (suc i) = if nat_le i total then next_step (i * step) step else leave

-- the first k messages
abbrev pub frames : List ℕ → ℕ → ℕ → ℕ → List ℕ
frames name step total zero = []
frames name step total (suc k) = frames name step total k ++ frame name step total k

-- how many messages are due after n steps
abbrev pub due_after : ℕ → ℕ → ℕ
due_after n total = if nat_lt n total then suc (suc n) else suc (suc (suc n))
