-- What the status of `pipe` says.
use Rattle.std.specs.Prelude.{◌≡◌, ◌⊎◌, ℕ, ◌==◌, Bool, true, Some, List, [], ◌∷◌, length, drop, IsTrue}
use Rattle.std.specs.List.{list_any}
use Rattle.sk_base.specs.Talk.{Said}
use Rattle.sk_base.specs.declared.status.ExitStatus.{ExitStatus}
use Rattle.sk_base.specs.declared.status.ExitStatus.TheVariants as exit
use Rattle.sk_tools.specs.Words.{PipePlan, plan_of}
use Rattle.sk_pipe.specs.declared.ending.PipeEnding.{PipeEnding}
use Rattle.sk_pipe.specs.declared.ending.PipeEnding.TheVariants as endings

-- how `pipe` ends
abbrev pub pipe_exit : PipeEnding → ExitStatus
pipe_exit endings.Left = exit.Done
pipe_exit endings.LinkFault = exit.WriteFault
pipe_exit endings.Memory = exit.OutOfMemory
pipe_exit endings.Limit = exit.Limit
pipe_exit endings.BadInput = exit.BadInput
pipe_exit endings.NoLeave = exit.EndedEarly

-- `pipe` ends with one of these
abbrev pub IsPipeStatus : ℕ → Type 0
IsPipeStatus answer = IsTrue (list_any (λ status. status == answer) (0 ∷ 2 ∷ 4 ∷ 5 ∷ 8 ∷ 10 ∷ 11 ∷ []))

-- what was said on a link since it had said this
abbrev pub said_since : List Said → List Said → List Said
said_since before now = drop (length before) now

-- on a link that tells its talk, where the words have a reading: this holds of that plan and of what was said in this call
abbrev pub InRun : List (List ℕ) → Bool → List Said → List Said → (PipePlan → List Said → Type 0) → Type 0
InRun words tells before now P = tells ≡ true → (plan : PipePlan) → plan_of words ≡ Some plan → P plan (said_since before now)

-- the run was stopped: by a fault of the link, want of memory, or a bound
abbrev pub IsStopped : ℕ → Type 0
IsStopped answer = (answer ≡ 4) ⊎ ((answer ≡ 5) ⊎ (answer ≡ 8))

-- the answer is this status exactly where P holds, unless the run was stopped
pub record IsExactly (status : ℕ) (P : Type 0) (answer : ℕ) : Type 0 where
  pub only : answer ≡ status → P
  pub wherever : P → (answer ≡ status) ⊎ IsStopped answer

-- the run went through: the peer left, something was wrong, or the input ended
abbrev pub IsThrough : ℕ → Type 0
IsThrough answer = (answer ≡ 0) ⊎ ((answer ≡ 10) ⊎ (answer ≡ 11))
