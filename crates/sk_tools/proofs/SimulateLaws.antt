-- From how a run ended to what the call of `simulate` promises by its number.
use Rattle.std.proofs.Common.{◌≡◌, ◌≢◌, inl, inr, ℕ, List, [], ◌∷◌, ◌+◌, length, map, Bool, true, false, not, cond, ltb, Option, Some, None, position, refl, sym, ap, ap₂, ◌∙◌, arith}
use Rattle.std.specs.List.{position_or_len}
use Rattle.std.proofs.lemmas.List.{length-map}
use Rattle.sk_base.specs.Statuses.{status_number}
use Rattle.sk_msg.specs.declared.entry.Entry.{Entry}
use Rattle.sk_law.specs.World.{Member}
use Rattle.sk_script.specs.Reading.{reading}
use Rattle.sk_script.specs.Scenarios.{ScenarioValue, ScenarioReadValue}
use Rattle.sk_sim.specs.Simulations.{IsSimulation}
use Rattle.sk_tools.specs.Outside.{Says, Explains}
use Rattle.sk_tools.specs.Found.{Absent, TooLong, Faulty, Valid, found_in, said_unread}
use Rattle.sk_tools.specs.Check.{warning_lines}
use Rattle.sk_tools.specs.Running.{run_text, LeavesRun, LeavesRan, IsRanTo, IsRunStatus, run_remarks}
use Rattle.sk_tools.specs.Simulate.{FoundScenario, exit_of, text_asked, IsSimulateStatus, Leaves, IsCut, EndsUnread, CountsReads, CountsWrites}
use Rattle.sk_tools.specs.Seen.{FilesSeen, SinkSeen}
use Rattle.sk_tools.specs.OfflineCall.{IsCounted, IsSimulateCall}
use Rattle.sk_tools.specs.Words.{SimulationPlan}
use Rattle.sk_tools.specs.declared.simulate.running.RunText.{RunText}
use Rattle.sk_tools.specs.declared.outside.reading.ReadRefused.{ReadRefused}
use Rattle.sk_tools.specs.declared.outside.reading.ReadRefused.TheVariants as why
use Rattle.sk_tools.specs.declared.simulate.status.SimulateStatus.{SimulateStatus}
use Rattle.sk_tools.specs.declared.simulate.status.SimulateStatus.TheVariants.{Done, BadFile, ReadFault, WriteFault, OutOfMemory, Aborted, Stalled}
use Rattle.sk_tools.proofs.OfflineLaws.{found_none, found_long, says_more}

-- ## By the number that is answered

pub by_counts : (ended : SimulateStatus) (files : FilesSeen) (out : SinkSeen) → CountsReads ended files.faults files.faults_now → CountsWrites ended out.faults out.faults_now
    → IsCounted files out (status_number (exit_of ended))
by_counts Done files out reads writes = record { read_fault = λ e. absurd (omega arith); reads_steady = λ _. reads; write_fault = λ e. absurd (omega arith); writes_steady = λ _. writes }
by_counts BadFile files out reads writes = record { read_fault = λ e. absurd (omega arith); reads_steady = λ _. reads; write_fault = λ e. absurd (omega arith); writes_steady = λ _. writes }
by_counts ReadFault files out reads writes = record { read_fault = λ _. reads; reads_steady = λ n. absurd (n refl); write_fault = λ e. absurd (omega arith); writes_steady = λ _. writes }
by_counts WriteFault files out reads writes = record { read_fault = λ e. absurd (omega arith); reads_steady = λ _. reads; write_fault = λ _. writes; writes_steady = λ n. absurd (n refl) }
by_counts OutOfMemory files out reads writes = record { read_fault = λ e. absurd (omega arith); reads_steady = λ _. reads; write_fault = λ e. absurd (omega arith); writes_steady = λ _. writes }
by_counts Aborted files out reads writes = record { read_fault = λ e. absurd (omega arith); reads_steady = λ _. reads; write_fault = λ e. absurd (omega arith); writes_steady = λ _. writes }
by_counts Stalled files out reads writes = record { read_fault = λ e. absurd (omega arith); reads_steady = λ _. reads; write_fault = λ e. absurd (omega arith); writes_steady = λ _. writes }

known : (ended : SimulateStatus) → IsSimulateStatus (status_number (exit_of ended))
known Done = refl
known BadFile = refl
known ReadFault = refl
known WriteFault = refl
known OutOfMemory = refl
known Aborted = refl
known Stalled = refl

-- what `simulate` leaves is what its call promises
pub simulate_ran : (plan : SimulationPlan) (files : FilesSeen) (out err : SinkSeen) (ended : SimulateStatus)
    → CountsReads ended files.faults files.faults_now → CountsWrites ended out.faults out.faults_now
    → (files.tells ≡ true → Leaves (text_asked plan.report) ended plan.file (found_in reading (files.content plan.file)) out err)
    → IsSimulateCall plan files out err (status_number (exit_of ended))
simulate_ran plan files out err ended reads writes leaves = record {
  known = known ended;
  counted = by_counts ended files out reads writes;
  leaves = λ told. (ended, refl, leaves told);
}

-- nothing was written
short_none : (what : RunText) (found : FoundScenario) (out : SinkSeen) → (out.tells ≡ true → out.written_now ≡ out.written) → IsCut what found out
short_none what Absent out same = same
short_none what TooLong out same = same
short_none what (Faulty fault) out same = same
short_none what (Valid read) out same = λ told. inl (same told)

-- memory ran out before anything was done
pub simulate_unrun : (plan : SimulationPlan) (files : FilesSeen) (out err : SinkSeen) → files.faults_now ≡ files.faults
    → out.faults_now ≡ out.faults → out.written_now ≡ out.written → IsSimulateCall plan files out err 5
simulate_unrun plan files out err reads writes same = record {
  known = refl;
  counted = record { read_fault = λ e. absurd (omega arith); reads_steady = λ _. reads; write_fault = λ e. absurd (omega arith); writes_steady = λ _. writes };
  leaves = λ told. (OutOfMemory, refl, short_none (text_asked plan.report) (found_in reading (files.content plan.file)) out (λ _. same));
}

-- ## A file that wasn't read

pub unread : (what : RunText) (file : List ℕ) (content : Option (List ℕ)) (refused : ReadRefused) (ended : SimulateStatus) (out err : SinkSeen) → Explains content refused
    → EndsUnread refused ended → (out.tells ≡ true → out.written_now ≡ out.written)
    → (ended ≢ OutOfMemory → Says err.tells err.faults err.faults_now err.written err.written_now (said_unread file refused))
    → Leaves what ended file (found_in reading content) out err
unread what file content why.Absent ended out err explains ends same said =
    rw (ends, found_none reading content explains) (refl, record { nothing = same; said = said (λ e. let no : BadFile ≡ OutOfMemory = sym ends ∙ e in absurd cc) })
unread what file content why.TooLong ended out err explains ends same said =
    rw (ends, found_long reading content explains) (refl, record { nothing = same; said = said (λ e. let no : BadFile ≡ OutOfMemory = sym ends ∙ e in absurd cc) })
unread what file content why.Fault ended out err explains ends same said =
    rw ends (record { nothing = same; said = said (λ e. let no : ReadFault ≡ OutOfMemory = sym ends ∙ e in absurd cc) })
unread what file content why.WantOfMemory ended out err explains ends same said =
    rw ends (short_none what (found_in reading content) out same)

-- ## Runs

position_or_len-map : {A B : Type 0} (test : B → Bool) (f : A → B) (xs : List A) → position_or_len test (map f xs) ≡ position_or_len (λ x. test (f x)) xs
position_or_len-map test f [] = refl
position_or_len-map test f (x ∷ xs) = ap (λ n. cond (not (test (f x))) (1 + n) 0) (position_or_len-map test f xs)

-- the first of what was mapped
pub position-map : {A B : Type 0} (test : B → Bool) (f : A → B) (xs : List A) → position test (map f xs) ≡ position (λ x. test (f x)) xs
position-map test f xs = ap₂ (λ n k. cond (ltb n k) (Some n) None) (position_or_len-map test f xs) (length-map xs f)

-- mapped twice
pub map_of_map : {A B C : Type 0} (f : A → B) (g : B → C) (xs : List A) → map g (map f xs) ≡ map (λ x. g (f x)) xs
map_of_map f g [] = refl
map_of_map f g (x ∷ xs) = ap (λ ys. g (f x) ∷ ys) (map_of_map f g xs)

-- as many names as journals
pub counted : (ended : Bool) (S : ScenarioValue) (names : List (List ℕ)) (journals : List (List Entry)) → IsSimulation ended S names journals → length names ≡ length journals
counted ended S names journals run =
    ap length run.named
    ∙ length-map S.participants (λ part. part.name)
    ∙ sym run.count
    ∙ sym (length-map run.members (λ (m : Member). m.past.journal))
    ∙ sym (ap length run.journals_are)

-- what the text of a run and the judgement of it left
pub ran_to : (what : RunText) (S : ScenarioValue) (ended : SimulateStatus) (names : List (List ℕ)) (journals : List (List Entry)) (out err : SinkSeen)
    → IsSimulation true S names journals → IsRunStatus ended journals
    → (out.tells ≡ true → LeavesRun ended (run_text what S names journals) out.written out.written_now)
    → (ended ≢ OutOfMemory → Says err.tells err.faults err.faults_now err.written err.written_now (run_remarks ended names journals))
    → LeavesRan what S ended out err
ran_to what S Done names journals out err run status left said =
    record { names = names; journals = journals; run = run; aborts = status; output = left; said = said (λ e. absurd cc) }
ran_to what S Aborted names journals out err run status left said =
    record { names = names; journals = journals; run = run; aborts = status; output = left; said = said (λ e. absurd cc) }
ran_to what S WriteFault names journals out err run status left said =
    record { names = names; journals = journals; run = run; aborts = tt; output = left; said = said (λ e. absurd cc) }
ran_to what S OutOfMemory names journals out err run status left said = λ told. inr (names, journals, run, left told)
ran_to what S BadFile names journals out err run status left said = absurd status
ran_to what S ReadFault names journals out err run status left said = absurd status
ran_to what S Stalled names journals out err run status left said = absurd status

-- the same of a run that stalled
pub stalled_to : (what : RunText) (S : ScenarioValue) (names : List (List ℕ)) (journals : List (List Entry)) (out err : SinkSeen)
    → IsSimulation false S names journals → (out.tells ≡ true → out.written_now ≡ out.written)
    → Says err.tells err.faults err.faults_now err.written err.written_now (run_remarks Stalled names journals)
    → LeavesRan what S Stalled out err
stalled_to what S names journals out err run left said =
    record { names = names; journals = journals; run = run; aborts = tt; output = left; said = said }

-- ## Behind the warnings of the file

module _ (out err : SinkSeen) (told : Bool) (faults : ℕ) (written first : List ℕ) (same : told ≡ err.tells) (warned : Says err.tells err.faults faults err.written written first) where
  -- standard error behind them
  abbrev behind : SinkSeen
  behind = record { tells = told; faults = faults; faults_now = err.faults_now; written = written; written_now = err.written_now }

  ran_behind : (what : RunText) (S : ScenarioValue) (ended : SimulateStatus) → IsRanTo what S ended out behind [] → IsRanTo what S ended out err first
  ran_behind what S ended ran = record {
    names = ran.names;
    journals = ran.journals;
    run = ran.run;
    aborts = ran.aborts;
    output = ran.output;
    said = says_more err.tells told err.faults faults err.faults_now err.written written err.written_now first _ warned same ran.said;
  }

-- what the run left is what the command leaves of the file
pub behind_warnings : (what : RunText) (file : List ℕ) (read : ScenarioReadValue) (ended : SimulateStatus) (out err : SinkSeen) (told : Bool) (faults : ℕ) (written : List ℕ)
    → told ≡ err.tells → Says err.tells err.faults faults err.written written (warning_lines read.warnings)
    → LeavesRan what read.scenario ended out (record { tells = told; faults = faults; faults_now = err.faults_now; written = written; written_now = err.written_now })
    → Leaves what ended file (Valid read) out err
behind_warnings what file read Done out err told faults written same warned ran = ran_behind out err told faults written (warning_lines read.warnings) same warned what read.scenario Done ran
behind_warnings what file read Aborted out err told faults written same warned ran = ran_behind out err told faults written (warning_lines read.warnings) same warned what read.scenario Aborted ran
behind_warnings what file read WriteFault out err told faults written same warned ran = ran_behind out err told faults written (warning_lines read.warnings) same warned what read.scenario WriteFault ran
behind_warnings what file read Stalled out err told faults written same warned ran = ran_behind out err told faults written (warning_lines read.warnings) same warned what read.scenario Stalled ran
behind_warnings what file read OutOfMemory out err told faults written same warned ran = ran
behind_warnings what file read BadFile out err told faults written same warned ran = absurd ran
behind_warnings what file read ReadFault out err told faults written same warned ran = absurd ran
