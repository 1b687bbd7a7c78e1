-- What the run of a scenario comes to.
use Rattle.std.specs.Prelude.{◌≡◌, ◌≢◌, ◌⊎◌, ℕ, Bool, true, false, List, ◌∷◌, ◌++◌, length, map, Some, slice_get, IsTrue}
use Rattle.std.specs.List.{list_any}
use Rattle.sk_msg.specs.declared.command.Command.TheVariants.{ReportError}
use Rattle.sk_msg.specs.declared.command.Verdict.TheVariants.{Accepted}
use Rattle.sk_msg.specs.declared.entry.Entry.{Entry}
use Rattle.sk_msg.specs.declared.entry.Entry.TheVariants.{State as Entered, Ask, Gone, Fault}
use Rattle.sk_msg.specs.declared.state.State.TheVariants.{Aborting}
use Rattle.sk_msg.specs.States.{is_state}
use Rattle.sk_law.specs.Readings.{got, put}
use Rattle.sk_law.specs.Rows.{is_quiet}
use Rattle.sk_law.specs.Script.{Follows, HasNoTools}
use Rattle.sk_law.specs.World.{Member, IsWorld, AreFinished}
use Rattle.sk_law.specs.Safe.{IsSafe}
use Rattle.sk_script.specs.Closed.{is_closed}
use Rattle.sk_script.specs.Scenarios.{PartValue, ScenarioValue, names_of}
use Rattle.sk_sim.specs.Parts.{is_stray}
use Rattle.sk_sim.specs.Runs.{WereReady}
use Rattle.sk_sim.specs.Scripts.{script_by, setup_by, Origin, no_lists}
use Rattle.sk_mesh.specs.Places.{Account}
use Rattle.sk_sim.specs.Wiring.{IsFresh}
use Rattle.sk_sim.specs.Views.{View, IsUnturned}
use Rattle.sk_sim.specs.declared.simulation.Finished.{Finished}
use Rattle.sk_sim.specs.declared.simulation.SimFault.{SimFault}
use Rattle.sk_sim.specs.declared.simulation.SimFault.TheVariants.{Stalled, WantOfMemory}

-- the seat of this participant of a scenario, before its first turn
pub record IsSeat (S : ScenarioValue) (i : ℕ) (v : View Origin) : Type 0 where
  pub setup : (part : PartValue) → slice_get S.participants i ≡ Some part → v.card.setup ≡ setup_by S i part
  pub lists : v.lists ≡ no_lists
  pub origin : v.origin ≡ record { scenario = S; number = i }
  pub unturned : IsUnturned v

-- those of all its participants, in number order
pub record AreSeats (S : ScenarioValue) (vs : List (View Origin)) : Type 0 where
  pub count : length vs ≡ length S.participants
  pub each : (i : ℕ) (v : View Origin) → slice_get vs i ≡ Some v → IsSeat S i v

-- through none of these ends anything went yet
abbrev pub AreFresh : List Account → Type 0
AreFresh ends = (i : ℕ) (a : Account) → slice_get ends i ≡ Some a → IsFresh a

-- a participant of the scenario: it has the setup that the scenario gives it, its app asked for what its script says, no tool was
-- added, and no completion came that doesn't fit
pub record Plays (S : ScenarioValue) (i : ℕ) (part : PartValue) (m : Member) : Type 0 where
  pub setup : m.setup ≡ setup_by S i part
  pub follows : Follows (script_by part) m.past m.made
  pub alone : HasNoTools m.past
  pub fitting : list_any is_stray m.past.journal ≡ false

-- Aborting is entered
abbrev pub is_aborting : Entry → Bool
is_aborting (Entered state) = is_state Aborting state
is_aborting _ = false

-- a limit is reached
abbrev pub is_fault : Entry → Bool
is_fault (Fault limit) = true
is_fault _ = false

-- an error of its own is reported, and that is accepted
abbrev pub is_error_report : Entry → Bool
is_error_report (Ask ReportError Accepted) = true
is_error_report _ = false

-- one of these reported an error
abbrev pub HasError : List Member → Type 0
HasError members = (q : ℕ) × (other : Member) × (slice_get members q ≡ Some other) × IsTrue (list_any is_error_report other.past.journal)

-- one of these reached a limit
abbrev pub IsLimited : List Member → Type 0
IsLimited members = (q : ℕ) × (other : Member) × (slice_get members q ≡ Some other) × IsTrue (list_any is_fault other.past.journal)

-- these journals, of participants of these names, are of a run of the scenario: a lawful world, so a safe one, in which each
-- follows the scenario, whoever was coordinated ran only behind the required ones, no link is gone, each message that was put
-- was got, and nothing follows by itself. A participant was aborted only where one reached a limit or reported an error; and in a
-- closed scenario none reports one. All are finished, or not all are
pub record IsSimulation (ended : Bool) (S : ScenarioValue) (names : List (List ℕ)) (journals : List (List Entry)) : Type 0 where
  pub members : List Member
  pub count : length members ≡ length S.participants
  pub named : names ≡ names_of S.participants
  pub journals_are : journals ≡ map (λ m. m.past.journal) members
  pub each : (i : ℕ) (part : PartValue) (m : Member) → slice_get S.participants i ≡ Some part → slice_get members i ≡ Some m → Plays S i part m
  pub world : IsWorld names members
  pub safe : IsSafe members
  pub ready : WereReady members
  pub linked : (p : ℕ) (m : Member) (q reason : ℕ) (before after : List Entry) → slice_get members p ≡ Some m →
      m.past.journal ≡ before ++ Gone q reason ∷ after → ⊥
  pub all_got : (p q : ℕ) (sender receiver : Member) → slice_get members p ≡ Some sender → slice_get members q ≡ Some receiver →
      p ≢ q → got receiver.past.journal p ≡ put sender.past.journal q
  pub quiet : (p : ℕ) (m : Member) → slice_get members p ≡ Some m → is_quiet m.setup m.past ≡ true
  pub caused : (p : ℕ) (m : Member) → slice_get members p ≡ Some m → IsTrue (list_any is_aborting m.past.journal) →
      IsLimited members ⊎ HasError members
  pub closed : is_closed S ≡ true → HasError members → ⊥
  pub finished : ended ≡ true → AreFinished members
  pub unfinished : ended ≡ false → AreFinished members → ⊥

-- the journals of a run, as lists
abbrev pub journals_of : Finished → List (List Entry)
journals_of run = map (λ journal. journal.items) run.journals.items

-- where a run stalled, its journals are those of a run of the scenario in which not all are finished
abbrev pub IsStall : ScenarioValue → SimFault → Type 0
IsStall S (Stalled run) = IsSimulation false S run.names (journals_of run)
IsStall S WantOfMemory = Unit {0}
