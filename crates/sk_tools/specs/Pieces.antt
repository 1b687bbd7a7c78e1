-- A text that is written piece by piece as it is made.
use Rattle.std.specs.Prelude.{◌≡◌, ◌++◌, ℕ, List}
use Rattle.sk_base.specs.Talk.{Rose}
use Rattle.sk_tools.specs.Outside.{IsPartWritten}
use Rattle.sk_tools.specs.declared.simulate.writing.Unwritten.{Unwritten}
use Rattle.sk_tools.specs.declared.simulate.writing.Unwritten.TheVariants.{Fault, WantOfMemory}

-- these lines came behind the text that waited; so much was sent, and the rest waits
pub record Sends (waits lines before now waits_now : List ℕ) : Type 0 where
  pub sent : List ℕ
  pub written : now ≡ before ++ sent
  pub rest : sent ++ waits_now ≡ waits ++ lines

-- of what waited and these lines a part was sent, and no more
abbrev pub IsCutOff : List ℕ → List ℕ → List ℕ → List ℕ → Type 0
IsCutOff waits lines before now = IsPartWritten before now (waits ++ lines)

-- the count of faults rose where a write failed, and stands still where memory ran out
abbrev pub CountsCut : ℕ → ℕ → Unwritten → Type 0
CountsCut before now Fault = Rose before now
CountsCut before now WantOfMemory = now ≡ before
