-- What `generate` writes and says.
use Rattle.std.specs.Prelude.{◌≡◌, ◌≤◌, ◌⊎◌, ℕ, List, [], ◌∷◌, codes, if◌then◌else◌, ◌==◌, ⊤, IsTrue}
use Rattle.std.specs.List.{list_any}
use Rattle.sk_base.specs.Statuses.{status_number}
use Rattle.sk_script.specs.Generated.{generated}
use Rattle.sk_script.specs.Scenarios.{ScenarioValue}
use Rattle.sk_script_text.specs.Written.{canonical}
use Rattle.sk_tools.specs.Found.{line}
use Rattle.sk_tools.specs.declared.check.status.CheckStatus.{CheckStatus}
use Rattle.sk_tools.specs.declared.check.status.CheckStatus.TheVariants.{Done, BadFile, ReadFault, WriteFault, OutOfMemory}
use Rattle.sk_tools.specs.Running.{LeavesRan}
use Rattle.sk_tools.specs.Seen.{SinkSeen}
use Rattle.sk_tools.specs.Simulate.{exit_of}
use Rattle.sk_tools.specs.declared.generate.GeneratePlan.{GeneratePlan}
use Rattle.sk_tools.specs.declared.simulate.running.RunText.TheVariants.{Totals}
use Rattle.sk_tools.specs.declared.simulate.status.SimulateStatus.{SimulateStatus}

-- 2 to 32 participants, and 1 to 2,000 steps
pub record IsPlan (plan : GeneratePlan) : Type 0 where
  pub least : 2 ≤ plan.participants
  pub most : plan.participants ≤ 32
  pub some : 1 ≤ plan.steps
  pub few : plan.steps ≤ 2000

-- the one text of the scenario that is made so
unfoldable pub generated_text : GeneratePlan → List ℕ
generated_text plan = canonical (generated plan.number plan.participants plan.steps)

-- no file is read, so none is refused
abbrev pub MayWrite : CheckStatus → Type 0
MayWrite Done = ⊤
MayWrite BadFile = ⊥
MayWrite ReadFault = ⊥
MayWrite WriteFault = ⊤
MayWrite OutOfMemory = ⊤

-- what is said of how it ended; nothing is said here of want of memory
abbrev pub said_written : CheckStatus → List ℕ
said_written Done = []
said_written BadFile = []
said_written ReadFault = []
said_written WriteFault = line (codes "silkit: write fault")
said_written OutOfMemory = []

-- the same by the number that is answered
abbrev pub written_by : ℕ → List ℕ
written_by answer = if answer == 4 then line (codes "silkit: write fault") else []

-- with one of these numbers
abbrev pub IsGenerateStatus : ℕ → Type 0
IsGenerateStatus answer = (answer ≡ 0) ⊎ ((answer ≡ 4) ⊎ (answer ≡ 5))

-- ## The scenario is run

-- with one of these numbers
abbrev pub IsRunCallStatus : ℕ → Type 0
IsRunCallStatus answer = IsTrue (list_any (λ status. status == answer) (0 ∷ 4 ∷ 5 ∷ 6 ∷ 12 ∷ []))

-- a way to end has this number, and this is what the run leaves: of its report the last line
abbrev pub RanBy : ℕ → ScenarioValue → SinkSeen → SinkSeen → Type 0
RanBy answer S out err = (ended : SimulateStatus) × (answer ≡ status_number (exit_of ended)) × LeavesRan Totals S ended out err
