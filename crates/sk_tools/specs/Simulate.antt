-- What `simulate` answers, writes and says, by what its file holds.
use Rattle.std.specs.Prelude.{◌≡◌, ℕ, Bool, false, true, ◌==◌, List, [], ◌∷◌, codes, IsTrue, option_map, unwrap_or, if◌then◌else◌}
use Rattle.std.specs.List.{list_any}
use Rattle.sk_base.specs.declared.status.ExitStatus.{ExitStatus}
use Rattle.sk_base.specs.declared.status.ExitStatus.TheVariants as exit
use Rattle.sk_base.specs.Statuses.{status_number}
use Rattle.sk_base.specs.Talk.{Rose}
use Rattle.sk_rules.specs.Faults.{fault_path, fault_rule, rule_text}
use Rattle.sk_rules.specs.declared.fault.ScenarioFault.{ScenarioFault}
use Rattle.sk_script.specs.Scenarios.{ScenarioReadValue}
use Rattle.sk_tools.specs.Outside.{Says}
use Rattle.sk_tools.specs.Check.{warning_lines}
use Rattle.sk_tools.specs.Found.{Found, Valid, is_valid, complaint, remarks_by}
use Rattle.sk_tools.specs.Running.{IsRanTo, IsCutShort}
use Rattle.sk_tools.specs.Seen.{SinkSeen}
use Rattle.sk_tools.specs.declared.outside.reading.ReadRefused.{ReadRefused}
use Rattle.sk_tools.specs.declared.outside.reading.ReadRefused.TheVariants as refused
use Rattle.sk_tools.specs.declared.simulate.running.RunText.{RunText}
use Rattle.sk_tools.specs.declared.simulate.running.RunText.TheVariants.{Journals, Report}
use Rattle.sk_tools.specs.declared.simulate.status.SimulateStatus.{SimulateStatus}
use Rattle.sk_tools.specs.declared.simulate.status.SimulateStatus.TheVariants.{Done, BadFile, ReadFault, WriteFault, OutOfMemory, Aborted, Stalled}

-- what a path leads to, read as a scenario
abbrev pub FoundScenario : Type 0
FoundScenario = Found ScenarioFault ScenarioReadValue

-- the report is asked for, or the journals
abbrev pub text_asked : Bool → RunText
text_asked report = if report then Report else Journals

-- ## What is said of the file

-- the text of the rule that is broken
abbrev pub broken_rule : ScenarioFault → List ℕ
broken_rule fault = unwrap_or (option_map rule_text (fault_rule fault)) []

-- of what was found
abbrev pub remarks : List ℕ → FoundScenario → List ℕ
remarks file found =
    remarks_by (λ (fault : ScenarioFault). complaint (fault_path fault) (broken_rule fault)) (λ (read : ScenarioReadValue). warning_lines read.warnings) file found

-- ## How it ends

abbrev pub exit_of : SimulateStatus → ExitStatus
exit_of Done = exit.Done
exit_of BadFile = exit.BadFile
exit_of ReadFault = exit.ReadFault
exit_of WriteFault = exit.WriteFault
exit_of OutOfMemory = exit.OutOfMemory
exit_of Aborted = exit.Aborted
exit_of Stalled = exit.Stalled

-- with one of these numbers
abbrev pub IsSimulateStatus : ℕ → Type 0
IsSimulateStatus answer = IsTrue (list_any (λ status. status == answer) (0 ∷ 1 ∷ 3 ∷ 4 ∷ 5 ∷ 6 ∷ 12 ∷ []))

-- the count of the files' faults rose with ReadFault, and with nothing else
abbrev pub CountsReads : SimulateStatus → ℕ → ℕ → Type 0
CountsReads ReadFault before now = Rose before now
CountsReads _ before now = now ≡ before

-- and that of the output's with WriteFault
abbrev pub CountsWrites : SimulateStatus → ℕ → ℕ → Type 0
CountsWrites WriteFault before now = Rose before now
CountsWrites _ before now = now ≡ before

-- of a file that wasn't read
abbrev pub EndsUnread : ReadRefused → SimulateStatus → Type 0
EndsUnread refused.Absent ended = ended ≡ BadFile
EndsUnread refused.TooLong ended = ended ≡ BadFile
EndsUnread refused.Fault ended = ended ≡ ReadFault
EndsUnread refused.WantOfMemory ended = ended ≡ OutOfMemory

-- ## What it leaves

-- memory ran out before anything was written, or while the text of a run was
abbrev pub IsCut : RunText → FoundScenario → SinkSeen → Type 0
IsCut what (Valid read) out = IsCutShort what read.scenario out
IsCut what _ out = out.tells ≡ true → out.written_now ≡ out.written

-- a file that says this was run; of another one nothing is written
abbrev pub RunsTo : RunText → FoundScenario → SimulateStatus → SinkSeen → SinkSeen → Type 0
RunsTo what (Valid read) ended out err = IsRanTo what read.scenario ended out err (warning_lines read.warnings)
RunsTo what _ ended out err = ⊥

-- nothing was run: nothing is written, and this is said
pub record IsUnrun (out err : SinkSeen) (text : List ℕ) : Type 0 where
  pub nothing : out.tells ≡ true → out.written_now ≡ out.written
  pub said : Says err.tells err.faults err.faults_now err.written err.written_now text

-- by how it ended
abbrev pub Leaves : RunText → SimulateStatus → List ℕ → FoundScenario → SinkSeen → SinkSeen → Type 0
Leaves what BadFile file found out err = (is_valid found ≡ false) × IsUnrun out err (remarks file found)
Leaves what ReadFault file found out err = IsUnrun out err (complaint (codes "read fault") file)
Leaves what OutOfMemory file found out err = IsCut what found out
Leaves what ended file found out err = RunsTo what found ended out err

-- ## By the number that is answered

-- a way to end has this number, and this is what it leaves
abbrev pub LeavesBy : RunText → ℕ → List ℕ → FoundScenario → SinkSeen → SinkSeen → Type 0
LeavesBy what answer file found out err = (ended : SimulateStatus) × (answer ≡ status_number (exit_of ended)) × Leaves what ended file found out err
