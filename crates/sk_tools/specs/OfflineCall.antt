-- What the commands on files promise: the clauses of their own call and of the top call.
use Rattle.std.specs.Prelude.{◌≡◌, ◌≢◌, ◌⊎◌, ◌++◌, ℕ, true, Some, None, List}
use Rattle.sk_base.specs.Talk.{Rose}
use Rattle.sk_config.specs.Reading.{reading}
use Rattle.sk_script.specs.Reading as scenario
use Rattle.sk_script.specs.Generated.{generated}
use Rattle.sk_script_text.specs.Written.{canonical}
use Rattle.sk_tools.specs.Usage.{IsUsage}
use Rattle.sk_tools.specs.Outside.{HasNoFault}
use Rattle.sk_tools.specs.Found.{found_in, IsJudged, IsOutput}
use Rattle.sk_tools.specs.Check.{IsCheckStatus, checked_text, said_by}
use Rattle.sk_tools.specs.Generate.{IsGenerateStatus, IsRunCallStatus, written_by, RanBy}
use Rattle.sk_tools.specs.Jobs.{Job, Check, Simulate, Generate, Run, offline_job}
use Rattle.sk_tools.specs.Simulate.{IsSimulateStatus, LeavesBy, text_asked}
use Rattle.sk_tools.specs.Seen.{FilesSeen, SinkSeen}
use Rattle.sk_tools.specs.Words.{SimulationPlan, ScenarioPlan}

-- the count of the files' faults rose with status 3, that of the output's with status 4, and with no other
pub record IsCounted (files : FilesSeen) (out : SinkSeen) (answer : ℕ) : Type 0 where
  pub read_fault : answer ≡ 3 → Rose files.faults files.faults_now
  pub reads_steady : answer ≢ 3 → files.faults_now ≡ files.faults
  pub write_fault : answer ≡ 4 → Rose out.faults out.faults_now
  pub writes_steady : answer ≢ 4 → out.faults_now ≡ out.faults

-- `check FILE`, by the files, the output, standard error and the answer
pub record IsCheckCall (file : List ℕ) (files : FilesSeen) (out err : SinkSeen) (answer : ℕ) : Type 0 where
  pub known : IsCheckStatus answer
  pub counted : IsCounted files out answer
  -- what the file holds is judged by the status: a configuration, or not
  pub judged : files.tells ≡ true → IsJudged (found_in reading (files.content file)) answer
  -- what is written, and what is said: of the file, and of how the call ended
  pub output : files.tells ≡ true → out.tells ≡ true →
      IsOutput (checked_text (found_in reading (files.content file))) answer out.written out.written_now
  pub said : files.tells ≡ true → err.tells ≡ true → HasNoFault err.faults err.faults_now → answer ≢ 5 →
      err.written_now ≡ err.written ++ said_by file (found_in reading (files.content file)) answer

-- `simulate FILE [--report]`, by the files, the output, standard error and the answer
pub record IsSimulateCall (plan : SimulationPlan) (files : FilesSeen) (out err : SinkSeen) (answer : ℕ) : Type 0 where
  pub known : IsSimulateStatus answer
  pub counted : IsCounted files out answer
  -- what the file holds is judged by the status: a scenario, or not; and what is left of the run of one
  pub leaves : files.tells ≡ true →
      LeavesBy (text_asked plan.report) answer plan.file (found_in scenario.reading (files.content plan.file)) out err

-- `generate NUMBER PARTICIPANTS STEPS`, by the files, the output, standard error and the answer: the text of the scenario that is
-- made so, and nothing of files
pub record IsGenerateCall (plan : ScenarioPlan) (files : FilesSeen) (out err : SinkSeen) (answer : ℕ) : Type 0 where
  pub known : IsGenerateStatus answer
  pub counted : IsCounted files out answer
  pub output : out.tells ≡ true → IsOutput (canonical (generated plan.number plan.participants plan.steps)) answer out.written out.written_now
  pub said : err.tells ≡ true → HasNoFault err.faults err.faults_now → answer ≢ 5 → err.written_now ≡ err.written ++ written_by answer

-- `generate NUMBER PARTICIPANTS STEPS --run`, by the same: the last line of the report of the scenario that is made so
pub record IsRunCall (plan : ScenarioPlan) (files : FilesSeen) (out err : SinkSeen) (answer : ℕ) : Type 0 where
  pub known : IsRunCallStatus answer
  pub counted : IsCounted files out answer
  pub leaves : RanBy answer (generated plan.number plan.participants plan.steps) out err

-- what is done of a job: a record for each
abbrev pub Does : Job → FilesSeen → SinkSeen → SinkSeen → ℕ → Type 0
Does (Check file) files out err answer = IsCheckCall file files out err answer
Does (Simulate plan) files out err answer = IsSimulateCall plan files out err answer
Does (Generate plan) files out err answer = IsGenerateCall plan files out err answer
Does (Run plan) files out err answer = IsRunCall plan files out err answer

-- words without a reading: nothing is read, and nothing is written
pub record IsRefusedCall (files : FilesSeen) (out : SinkSeen) (answer : ℕ) : Type 0 where
  pub known : (answer ≡ 2) ⊎ (answer ≡ 5)
  pub reads_steady : files.faults_now ≡ files.faults
  pub writes_steady : out.faults_now ≡ out.faults
  pub silent : out.tells ≡ true → out.written_now ≡ out.written

-- a command on files, by the words, the files, the output, standard error and the answer
pub record IsOfflineCall (words : List (List ℕ)) (files : FilesSeen) (out err : SinkSeen) (answer : ℕ) : Type 0 where
  pub usage : IsUsage (offline_job words) answer
  pub refused : offline_job words ≡ None → IsRefusedCall files out answer
  pub does : (job : Job) → offline_job words ≡ Some job → Does job files out err answer
