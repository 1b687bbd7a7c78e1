-- From how `generate` ended to what the call promises by its number.
use Rattle.std.proofs.Common.{◌≡◌, ◌≢◌, ℕ, inl, inr, Bool, List, ◌++◌, true, false, refl, sym, ap, subst, ◌∙◌, arith, if◌then◌else◌}
use Rattle.sk_base.specs.Statuses.{status_number}
use Rattle.sk_tools.specs.Outside.{HasNoFault, Says}
use Rattle.sk_tools.specs.Found.{IsOutput}
use Rattle.sk_tools.specs.Check.{exit_of, Leaves, CountsReads, CountsWrites}
use Rattle.sk_tools.specs.Generate.{generated_text, MayWrite, said_written, written_by, IsGenerateStatus, IsRunCallStatus}
use Rattle.sk_tools.specs.OfflineCall.{IsCounted, IsGenerateCall, IsRunCall, Does}
use Rattle.sk_tools.specs.Jobs.{Generate, Run, job_of}
use Rattle.sk_tools.specs.Seen.{FilesSeen, SinkSeen}
use Rattle.sk_tools.specs.Words.{ScenarioPlan}
use Rattle.sk_tools.specs.declared.check.status.CheckStatus.{CheckStatus}
use Rattle.sk_tools.specs.declared.check.status.CheckStatus.TheVariants.{Done, BadFile, ReadFault, WriteFault, OutOfMemory}
use Rattle.sk_tools.specs.declared.generate.GeneratePlan.{GeneratePlan}
use Rattle.sk_script.specs.Generated.{generated}
use Rattle.sk_script.specs.Scenarios.{ScenarioValue}
use Rattle.sk_tools.specs.Running.{LeavesRan}
use Rattle.sk_tools.specs.Simulate as simulate
use Rattle.sk_tools.specs.declared.simulate.running.RunText.TheVariants.{Totals}
use Rattle.sk_tools.specs.declared.simulate.status.SimulateStatus.{SimulateStatus}
use Rattle.sk_tools.specs.declared.simulate.status.SimulateStatus.TheVariants as ends
use Rattle.sk_tools.proofs.SimulateLaws as run
use Rattle.sk_tools.proofs.OfflineLaws.{by_counts, by_text, ran}

known : (ended : CheckStatus) → MayWrite ended → IsGenerateStatus (status_number (exit_of ended))
known Done may = inl refl
known WriteFault may = inr (inl refl)
known OutOfMemory may = inr (inr refl)
known BadFile may = absurd may
known ReadFault may = absurd may

-- no file is read
unread : (ended : CheckStatus) (before now : ℕ) → MayWrite ended → now ≡ before → CountsReads ended before now
unread Done before now may same = same
unread WriteFault before now may same = same
unread OutOfMemory before now may same = same
unread BadFile before now may same = absurd may
unread ReadFault before now may same = absurd may

said_same : (ended : CheckStatus) → MayWrite ended → status_number (exit_of ended) ≢ 5 → said_written ended ≡ written_by (status_number (exit_of ended))
said_same Done may n = refl
said_same WriteFault may n = refl
said_same OutOfMemory may n = absurd (n refl)
said_same BadFile may n = absurd may
said_same ReadFault may n = absurd may

-- what `generate` leaves is what its call promises
pub generate_ran : (plan : GeneratePlan) (files : FilesSeen) (out err : SinkSeen) (ended : CheckStatus) → files.faults_now ≡ files.faults
    → MayWrite ended → CountsWrites ended out.faults out.faults_now
    → (out.tells ≡ true → Leaves ended (generated_text plan) out.written out.written_now)
    → (ended ≢ OutOfMemory → Says err.tells err.faults err.faults_now err.written err.written_now (said_written ended))
    → IsGenerateCall (record { number = plan.number; participants = plan.participants; steps = plan.steps; run = plan.run }) files out err (status_number (exit_of ended))
unfolding generated_text
generate_ran plan files out err ended same may writes leaves says = record {
  known = known ended may;
  counted = by_counts ended files out (unread ended files.faults files.faults_now may same) writes;
  output = λ told. by_text ended (generated_text plan) out.written out.written_now (leaves told);
  said = λ told none n. (says (ran ended n)).said told none ∙ ap (λ text. err.written ++ text) (said_same ended may n);
}

-- memory ran out before anything was done
pub generate_unrun : (plan : ScenarioPlan) (files : FilesSeen) (out err : SinkSeen) → files.faults_now ≡ files.faults → out.faults_now ≡ out.faults → out.written_now ≡ out.written
    → IsGenerateCall plan files out err 5
generate_unrun plan files out err reads writes same = record {
  known = inr (inr refl);
  counted = record { read_fault = λ e. absurd (omega arith); reads_steady = λ _. reads; write_fault = λ e. absurd (omega arith); writes_steady = λ _. writes };
  output = λ told. record { whole = λ e. absurd (omega arith); part = λ e. absurd (omega arith); nothing = λ _ _. same };
  said = λ told none n. absurd (n refl);
}

-- ## The scenario is run

run_known : (S : ScenarioValue) (ended : SimulateStatus) (out err : SinkSeen) → LeavesRan Totals S ended out err → IsRunCallStatus (status_number (simulate.exit_of ended))
run_known S ends.Done out err leaves = refl
run_known S ends.WriteFault out err leaves = refl
run_known S ends.OutOfMemory out err leaves = refl
run_known S ends.Aborted out err leaves = refl
run_known S ends.Stalled out err leaves = refl
run_known S ends.BadFile out err leaves = absurd leaves
run_known S ends.ReadFault out err leaves = absurd leaves

-- no file is read
run_unread : (S : ScenarioValue) (ended : SimulateStatus) (out err : SinkSeen) (before now : ℕ) → LeavesRan Totals S ended out err → now ≡ before → simulate.CountsReads ended before now
run_unread S ends.Done out err before now leaves same = same
run_unread S ends.WriteFault out err before now leaves same = same
run_unread S ends.OutOfMemory out err before now leaves same = same
run_unread S ends.Aborted out err before now leaves same = same
run_unread S ends.Stalled out err before now leaves same = same
run_unread S ends.BadFile out err before now leaves same = same
run_unread S ends.ReadFault out err before now leaves same = absurd leaves

-- what the run leaves is what the call promises
pub run_ran : (plan : GeneratePlan) (files : FilesSeen) (out err : SinkSeen) (ended : SimulateStatus) → files.faults_now ≡ files.faults
    → simulate.CountsWrites ended out.faults out.faults_now
    → LeavesRan Totals (generated plan.number plan.participants plan.steps) ended out err
    → IsRunCall (record { number = plan.number; participants = plan.participants; steps = plan.steps; run = plan.run }) files out err (status_number (simulate.exit_of ended))
run_ran plan files out err ended same writes leaves =
    let S = generated plan.number plan.participants plan.steps in record {
      known = run_known S ended out err leaves;
      counted = run.by_counts ended files out (run_unread S ended out err files.faults files.faults_now leaves same) writes;
      leaves = (ended, refl, leaves);
    }

-- what is done with the scenario is done of the words
module _ (plan : ScenarioPlan) (files : FilesSeen) (out err : SinkSeen) (answer : ℕ) where
  pub does_run : plan.run ≡ true → IsRunCall plan files out err answer → Does (job_of plan) files out err answer
  does_run is does = subst (λ (b : Bool). Does (if b then Run plan else Generate plan) files out err answer) (sym is) does

  pub does_generate : plan.run ≡ false → IsGenerateCall plan files out err answer → Does (job_of plan) files out err answer
  does_generate is does = subst (λ (b : Bool). Does (if b then Run plan else Generate plan) files out err answer) (sym is) does

-- memory ran out before anything was done
pub run_unrun : (plan : ScenarioPlan) (files : FilesSeen) (out err : SinkSeen) → files.faults_now ≡ files.faults → out.faults_now ≡ out.faults → out.written_now ≡ out.written
    → IsRunCall plan files out err 5
run_unrun plan files out err reads writes same = record {
  known = refl;
  counted = record { read_fault = λ e. absurd (omega arith); reads_steady = λ _. reads; write_fault = λ e. absurd (omega arith); writes_steady = λ _. writes };
  leaves = (ends.OutOfMemory, refl, λ told. inl same);
}
