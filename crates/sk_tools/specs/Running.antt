-- What a run of a scenario answers, writes and says.
use Rattle.std.specs.Prelude.{◌≡◌, ◌⊎◌, ◌++◌, ℕ, Bool, true, false, List, [], codes, map, IsSome, Option, None, unwrap_or, position, slice_index_or}
use Rattle.std.specs.List.{list_any}
use Rattle.sk_msg.specs.declared.entry.Entry.{Entry}
use Rattle.sk_law.specs.Script.{Step, steps_of}
use Rattle.sk_report.specs.Names.{PartNames, part_names}
use Rattle.sk_report.specs.Report.{report}
use Rattle.sk_report.specs.Totals.{totals_line}
use Rattle.sk_script.specs.Scenarios.{PartValue, ScenarioValue}
use Rattle.sk_sim.specs.Simulations.{IsSimulation, is_aborting}
use Rattle.sk_text.specs.Lines.{world_text}
use Rattle.sk_tools.specs.Outside.{IsPartWritten, Says}
use Rattle.sk_tools.specs.Found.{line, complaint}
use Rattle.sk_tools.specs.Seen.{SinkSeen}
use Rattle.sk_tools.specs.declared.simulate.running.RunText.{RunText}
use Rattle.sk_tools.specs.declared.simulate.running.RunText.TheVariants.{Journals, Report, Totals}
use Rattle.sk_tools.specs.declared.simulate.status.SimulateStatus.{SimulateStatus}
use Rattle.sk_tools.specs.declared.simulate.status.SimulateStatus.TheVariants.{Done, BadFile, ReadFault, WriteFault, OutOfMemory, Aborted, Stalled}

-- ## What is written

-- the steps of each journal
abbrev pub steps_in : List (List Entry) → List (List Step)
steps_in journals = map steps_of journals

-- what a report calls these participants and their services
abbrev pub names_shown : List PartValue → List PartNames
names_shown parts = map (λ part. part_names part.name part.services) parts

-- the text of a run of the scenario: its journals, its report, or the last line of that
unfoldable pub run_text : RunText → ScenarioValue → List (List ℕ) → List (List Entry) → List ℕ
run_text Journals S names journals = world_text names journals
run_text Report S names journals = report (names_shown S.participants) (steps_in journals)
run_text Totals S names journals = totals_line (steps_in journals)

-- ## Aborted participants

-- State(Aborting) stands in the journal
unfoldable pub has_aborted : List Entry → Bool
has_aborted es = list_any is_aborting es

-- the participant of least number whose journal has it
abbrev pub first_aborted : List (List Entry) → Option ℕ
first_aborted journals = position has_aborted journals

-- its name
abbrev pub aborted_name : List (List ℕ) → List (List Entry) → List ℕ
aborted_name names journals = slice_index_or names (unwrap_or (first_aborted journals) 0) []

-- ## How it ends

-- all are finished, unless it stalled
abbrev pub has_ended : SimulateStatus → Bool
has_ended Done = true
has_ended Aborted = true
has_ended WriteFault = true
has_ended OutOfMemory = true
has_ended BadFile = true
has_ended ReadFault = true
has_ended Stalled = false

-- with Done no participant was aborted, with Aborted one was
abbrev pub Aborts : SimulateStatus → List (List Entry) → Type 0
Aborts Done journals = first_aborted journals ≡ None
Aborts Aborted journals = IsSome (first_aborted journals)
Aborts _ journals = Unit {0}

-- what stands on the output of a run: all of the text, a part of it, or nothing new
abbrev pub LeavesRun : SimulateStatus → List ℕ → List ℕ → List ℕ → Type 0
LeavesRun Done text before now = now ≡ before ++ text
LeavesRun Aborted text before now = now ≡ before ++ text
LeavesRun Stalled text before now = now ≡ before
LeavesRun _ text before now = IsPartWritten before now text

-- what is said of it
abbrev pub run_remarks : SimulateStatus → List (List ℕ) → List (List Entry) → List ℕ
run_remarks Aborted names journals = complaint (codes "ended by abort") (aborted_name names journals)
run_remarks Stalled names journals = line (codes "silkit: stalled")
run_remarks WriteFault names journals = line (codes "silkit: write fault")
run_remarks _ names journals = []

-- a run all of whose text was written: one was aborted, or none
abbrev pub JudgesRun : SimulateStatus → List (List Entry) → Type 0
JudgesRun Done journals = first_aborted journals ≡ None
JudgesRun Aborted journals = IsSome (first_aborted journals)
JudgesRun _ journals = ⊥

-- the same, unless the text was cut off
abbrev pub IsRunStatus : SimulateStatus → List (List Entry) → Type 0
IsRunStatus WriteFault journals = Unit {0}
IsRunStatus OutOfMemory journals = Unit {0}
IsRunStatus ended journals = JudgesRun ended journals

-- a run of the scenario, and what it left by how it ended: this text, and what was said before and of the run
pub record IsRanTo (what : RunText) (S : ScenarioValue) (ended : SimulateStatus) (out err : SinkSeen) (first : List ℕ) : Type 0 where
  pub names : List (List ℕ)
  pub journals : List (List Entry)
  pub run : IsSimulation (has_ended ended) S names journals
  pub aborts : Aborts ended journals
  pub output : out.tells ≡ true → LeavesRun ended (run_text what S names journals) out.written out.written_now
  pub said : Says err.tells err.faults err.faults_now err.written err.written_now (first ++ run_remarks ended names journals)

-- memory ran out before anything was written, or while the text of a run was
abbrev pub IsCutShort : RunText → ScenarioValue → SinkSeen → Type 0
IsCutShort what S out = out.tells ≡ true →
    (out.written_now ≡ out.written)
    ⊎ ((names : List (List ℕ)) × (journals : List (List Entry)) × IsSimulation true S names journals
    × IsPartWritten out.written out.written_now (run_text what S names journals))

-- what the run of a scenario leaves, by how it ended
abbrev pub LeavesRan : RunText → ScenarioValue → SimulateStatus → SinkSeen → SinkSeen → Type 0
LeavesRan what S BadFile out err = ⊥
LeavesRan what S ReadFault out err = ⊥
LeavesRan what S OutOfMemory out err = IsCutShort what S out
LeavesRan what S ended out err = IsRanTo what S ended out err []
