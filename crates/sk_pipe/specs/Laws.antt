-- Laws of the definitions, which the functions of laws.rt carry.
use Rattle.std.specs.Prelude.{◌≤◌, ℕ, true, false, List, [], ◌∷◌, ◌++◌}
use Rattle.sk_base.specs.Talk.{Said, Taken, Given, NoneTaken}
use Rattle.sk_msg.specs.declared.role.Role.TheVariants.{Participant}
use Rattle.sk_msg.specs.declared.content.Content.TheVariants.{Hello, Leave, NextStep}
use Rattle.sk_wire.specs.Grammar.{spelling}
use Rattle.sk_pipe.specs.Pipe.{hello, next_step, pipe_out}
use mathlib.Core.List.{IsPrefix}
use Rattle.sk_pipe.specs.Run.{IsInStep}

-- more bytes taken only add to what is written
abbrev pub MoreIsMore : Type 0
MoreIsMore = (name : List ℕ) (step duration : ℕ) (b more : List ℕ) → 1 ≤ step →
    IsPrefix (pipe_out name step duration b) (pipe_out name step duration (b ++ more))

-- ## Talks that no run has, of a participant A with step 10 and duration 30, however they go on

abbrev pub IsNoRun : (List Said → List Said) → Type 0
IsNoRun talk = (more : List Said) → IsInStep (65 ∷ []) 10 30 (talk more) → ⊥

-- a step before its announcement was taken
abbrev pub early_talk : List Said → List Said
early_talk more = Given (hello (65 ∷ []) ++ next_step 0 10 ++ next_step 10 10) ∷ more

-- a take while something due wasn't given
abbrev pub late_talk : List Said → List Said
late_talk more = NoneTaken ∷ more

-- a step at 10 on an announcement of 9
abbrev pub one_earlier_talk : List Said → List Said
one_earlier_talk more =
    Given (hello (65 ∷ []) ++ next_step 0 10)
    ∷ Taken (spelling (Hello (66 ∷ []) (Participant false true) []) ++ spelling (NextStep 9 10))
    ∷ Given (next_step 10 10 ++ next_step 20 10) ∷ more

-- a take behind the peer's Leave
abbrev pub longer_talk : List Said → List Said
longer_talk more =
    Given (hello (65 ∷ []) ++ next_step 0 10) ∷ Taken (spelling (Hello (66 ∷ []) (Participant false false) []) ++ spelling Leave) ∷ NoneTaken ∷ more
