-- The journals of all participants of a run together.
use Rattle.std.specs.Prelude.{◌≡◌, ◌≢◌, ℕ, Bool, true, false, not, ◌&&◌, ◌||◌, ◌==◌, nat_lt, IsTrue, List, [], ◌∷◌, map, Some, slice_get}
use Rattle.std.specs.List.{list_all}
use mathlib.Core.List.{IsPrefix}
use Rattle.sk_msg.specs.declared.state.State.TheVariants.{Shutdown}
use Rattle.sk_msg.specs.States.{is_state}
use Rattle.sk_law.specs.declared.made.Made.{Made}
use Rattle.sk_law.specs.declared.setup.Setup.{Setup}
use Rattle.sk_law.specs.Past.{Past}
use Rattle.sk_law.specs.Readings.{got, put, state_of}
use Rattle.sk_law.specs.Links.{peers, is_here}
use Rattle.sk_law.specs.Lawful.{Lawful}
use Rattle.sk_law.specs.Setups.{IsSetup}

-- a participant: what it was made with, what has happened to it, and the calls of its app
pub record Member : Type 0 where
  pub setup : Setup
  pub past : Past
  pub made : List Made

-- it comes before the other in the order of bytes
abbrev pub is_before : List ℕ → List ℕ → Bool
is_before [] [] = false
is_before [] (y ∷ ys) = true
is_before (x ∷ xs) [] = false
is_before (x ∷ xs) (y ∷ ys) = nat_lt x y || (x == y && is_before xs ys)

-- each name comes before all that follow it
abbrev pub are_sorted : List (List ℕ) → Bool
are_sorted [] = true
are_sorted (x ∷ xs) = list_all (is_before x) xs && are_sorted xs

-- a lawful world: the participants of these names, in the order of bytes, each of a setup as `IsSetup` asks; each
-- journal is lawful with the calls of its app, and what one got from another is the beginning of what that one put to it
pub record IsWorld (names : List (List ℕ)) (members : List Member) : Type 0 where
  pub sorted : IsTrue (are_sorted names)
  pub all : map (λ m. m.setup.names) members ≡ map (λ name. names) names
  pub numbered : (p : ℕ) (m : Member) → slice_get members p ≡ Some m → m.setup.number ≡ p
  pub setups : (p : ℕ) (m : Member) → slice_get members p ≡ Some m → IsSetup m.setup
  pub lawful : (p : ℕ) (m : Member) → slice_get members p ≡ Some m → Lawful m.setup m.past m.made
  pub linked : (p q : ℕ) (sender receiver : Member) → slice_get members p ≡ Some sender → slice_get members q ≡ Some receiver →
      (p ≢ q) → IsPrefix (got receiver.past.journal p) (put sender.past.journal q)

-- each is at Shutdown, and each of its peers has left or is gone
abbrev pub is_finished : Member → Bool
is_finished m = is_state Shutdown (state_of m.past.journal) && list_all (λ p. not (is_here m.setup m.past p)) (peers m.setup)

-- the run is over
abbrev pub AreFinished : List Member → Type 0
AreFinished members = IsTrue (list_all is_finished members)
