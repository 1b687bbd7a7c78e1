-- What a run of several seats comes to.
use Rattle.std.specs.Prelude.{◌≡◌, ◌≢◌, ℕ, Bool, true, false, IsTrue, List, [], ◌∷◌, ◌++◌, length, Some, slice_get, position}
use Rattle.std.specs.List.{list_any}
use Rattle.std.specs.Str.{bytes_eq}
use Rattle.sk_msg.specs.declared.entry.Entry.{Entry}
use Rattle.sk_msg.specs.declared.entry.Entry.TheVariants.{Gone}
use Rattle.sk_law.specs.Readings.{got, put}
use Rattle.sk_law.specs.Rows.{is_quiet}
use Rattle.sk_law.specs.World.{Member, IsWorld, are_sorted, AreFinished}
use Rattle.sk_law.specs.Safe.{IsSafe}
use Rattle.sk_law_world.specs.Barrier.{tells_ready, IsReadyOrAborted, GoesOn}
use Rattle.sk_node.specs.Lists.{Tells}
use Rattle.sk_sim.specs.Parts.{is_stray}
use Rattle.sk_sim.specs.Views.{View}

-- the names that the first was given
abbrev pub names_in : {O : Type 0} → List (View O) → List (List ℕ)
names_in [] = []
names_in (v ∷ vs) = v.card.setup.names

-- all have the same names, in the order of bytes, and those who are coordinated the same required ones in the same order
pub record AreAlike {O : Type 0} (vs : List (View O)) : Type 0 where
  pub sorted : IsTrue (are_sorted (names_in vs))
  pub names : (i : ℕ) (v : View O) → slice_get vs i ≡ Some v → v.card.setup.names ≡ names_in vs
  pub required : (i j : ℕ) (v w : View O) → slice_get vs i ≡ Some v → slice_get vs j ≡ Some w →
      v.card.setup.coordinated ≡ true → w.card.setup.coordinated ≡ true → v.card.setup.required ≡ w.card.setup.required

-- who stood so at first and so at the end: its rings, its setup and its app's origin are the same, memory wasn't refused,
-- what its app has gained since is what its journal tells, and nobody else had a hand in it: no caller asked for a command, no
-- tool was added, and no completion came that doesn't fit
pub record IsMember {O : Type 0} (v w : View O) (m : Member) : Type 0 where
  pub setup : m.setup ≡ v.card.setup
  pub kept : w.card.setup ≡ v.card.setup
  pub place : w.card.place ≡ v.card.place
  pub sound : w.failed ≡ false
  pub past : m.past ≡ w.card.past
  pub made : w.lists.made ≡ v.lists.made ++ m.made
  pub told : Tells v.card.past.journal m.past.journal v.lists w.lists
  pub origin : w.origin ≡ v.origin
  pub unasked : m.past.memory.asked ≡ false
  pub alone : m.past.memory.tools ≡ []
  pub fitting : list_any is_stray m.past.journal ≡ false

-- each required name is that of a participant; each other one than itself has told it before that it had reached ReadyToRun,
-- and was at ReadyToRun, or was aborted and is at Shutdown
pub record AreReady (members : List Member) (q : ℕ) (member : Member) (before : List Entry) (names : List (List ℕ)) : Type 0 where
  pub there : (i : ℕ) (name : List ℕ) → slice_get names i ≡ Some name →
      (p : ℕ) × (other : Member) × (position (bytes_eq name) member.setup.names ≡ Some p) × (slice_get members p ≡ Some other)
  pub told : (i p : ℕ) (name : List ℕ) (other : Member) → slice_get names i ≡ Some name →
      position (bytes_eq name) member.setup.names ≡ Some p → slice_get members p ≡ Some other → p ≢ q →
      IsTrue (list_any tells_ready (got before p)) × IsReadyOrAborted other.past.journal

-- so it is behind these entries wherever one who is coordinated goes on to Running
abbrev pub WereReady : List Member → Type 0
WereReady members = (q : ℕ) (member : Member) → slice_get members q ≡ Some member →
    (before after : List Entry) (names : List (List ℕ)) → GoesOn member.setup member.past before after names →
    AreReady members q member before names

-- the run of those who stood so at first and so at the end. The journals are a lawful world, so a safe one, and whoever
-- runs waited for the required ones; no link is gone; and all stand still: each message that was put was got, and nothing
-- follows by itself. It answers whether all are finished
pub record IsRun {O : Type 0} (ended : Bool) (vs ws : List (View O)) : Type 0 where
  pub members : List Member
  pub count : (length ws ≡ length vs) × (length members ≡ length vs)
  pub each : (i : ℕ) (v w : View O) (m : Member) → slice_get vs i ≡ Some v → slice_get ws i ≡ Some w →
      slice_get members i ≡ Some m → IsMember v w m
  pub world : IsWorld (names_in vs) members
  pub safe : IsSafe members
  pub ready : WereReady members
  pub linked : (p : ℕ) (m : Member) (q reason : ℕ) (before after : List Entry) → slice_get members p ≡ Some m →
      m.past.journal ≡ before ++ Gone q reason ∷ after → ⊥
  pub all_got : (p q : ℕ) (sender receiver : Member) → slice_get members p ≡ Some sender → slice_get members q ≡ Some receiver →
      p ≢ q → got receiver.past.journal p ≡ put sender.past.journal q
  pub quiet : (p : ℕ) (m : Member) → slice_get members p ≡ Some m → is_quiet m.setup m.past ≡ true
  pub finished : ended ≡ true → AreFinished members
  pub unfinished : ended ≡ false → AreFinished members → ⊥
