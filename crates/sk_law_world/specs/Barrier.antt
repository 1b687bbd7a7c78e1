-- The barrier: nobody coordinated goes on to Running before each other required one has told that it has reached ReadyToRun.
use Rattle.std.specs.Prelude.{◌≡◌, ◌≢◌, ◌⊎◌, ℕ, Bool, true, false, IsTrue, List, ◌∷◌, ◌++◌, Some, slice_get, position}
use Rattle.std.specs.List.{list_any}
use Rattle.std.specs.Str.{bytes_eq}
use Rattle.sk_msg.specs.declared.content.Content.{Content}
use Rattle.sk_msg.specs.declared.content.Content.TheVariants.{Status}
use Rattle.sk_msg.specs.declared.state.State.TheVariants.{ReadyToRun, Running, Shutdown, Aborting}
use Rattle.sk_msg.specs.States.{is_state, has_reached}
use Rattle.sk_msg.specs.declared.entry.Entry.{Entry}
use Rattle.sk_msg.specs.declared.entry.Entry.TheVariants.{State as Entered}
use Rattle.sk_law.specs.Readings.{got, states, state_of}
use Rattle.sk_law.specs.declared.made.Made.{Made}
use Rattle.sk_law.specs.declared.setup.Setup.{Setup}
use Rattle.sk_law.specs.Past.{Past}
use Rattle.sk_law.specs.Links.{required}
use Rattle.sk_law.specs.Lawful.{Lawful}
use Rattle.sk_law.specs.World.{Member, IsWorld}

-- the Status of a state that has reached ReadyToRun; Shutdown is one, also behind Aborting
abbrev pub tells_ready : Content → Bool
tells_ready (Status state until) = has_reached state ReadyToRun
tells_ready _ = false

-- it was at ReadyToRun; or it was aborted and is at Shutdown
abbrev pub IsReadyOrAborted : List Entry → Type 0
IsReadyOrAborted es =
    IsTrue (list_any (is_state ReadyToRun) (states es))
    ⊎ (IsTrue (list_any (is_state Aborting) (states es)) × IsTrue (is_state Shutdown (state_of es)))

-- a coordinated participant goes on from ReadyToRun to Running behind these entries, where it knows that these names are
-- required
pub record GoesOn (S : Setup) (past : Past) (before after : List Entry) (names : List (List ℕ)) : Type 0 where
  pub coordinated : S.coordinated ≡ true
  pub is : past.journal ≡ before ++ Entered Running ∷ after
  pub ready : is_state ReadyToRun (state_of before) ≡ true
  pub needs : required S (record past { journal = before }) ≡ Some names

-- the law of one journal: each required name is a participant's, and of each of them other than itself the Status of a
-- state that has reached ReadyToRun was got before
abbrev pub ReadyWereTold : Type 0
ReadyWereTold = (S : Setup) (past : Past) (made : List Made) → Lawful S past made → (before after : List Entry) (names : List (List ℕ)) → GoesOn S past before after names →
    (i : ℕ) (name : List ℕ) → slice_get names i ≡ Some name →
    (p : ℕ) × (position (bytes_eq name) S.names ≡ Some p) × ((p ≢ S.number) → IsTrue (list_any tells_ready (got before p)))

-- the law of a world: and the journal of that one, as it stands in the world, says that it was ready, or aborted
abbrev pub AllReadyBeforeRunning : Type 0
AllReadyBeforeRunning = (names : List (List ℕ)) (members : List Member) → IsWorld names members →
    (q : ℕ) (member : Member) → slice_get members q ≡ Some member →
    (before after : List Entry) (names : List (List ℕ)) → GoesOn member.setup member.past before after names →
    (i p : ℕ) (name : List ℕ) (other : Member) → slice_get names i ≡ Some name → position (bytes_eq name) member.setup.names ≡ Some p →
    slice_get members p ≡ Some other → (p ≢ q) →
    IsTrue (list_any tells_ready (got before p)) × IsReadyOrAborted other.past.journal
