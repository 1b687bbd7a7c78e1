-- A mesh while it grows.
use Rattle.std.specs.Prelude.{◌≡◌, ◌≢◌, ℕ, ◌<◌, ◌≤◌, List, length, Some, None}
use Rattle.std.specs.List.{slice_get}
use Rattle.sk_mesh.specs.declared.ring_pair.RingPair.{RingPair}
use Rattle.sk_mesh.specs.Places.{Account}
use Rattle.sk_mesh.specs.Growth.{AreSides, HasMet}

-- the first n of the participants have met the newcomer
pub record HaveMet (capacity : ℕ) (before after : List Account) (newcomer : Account) (n : ℕ) : Type 0 where
  pub size : length after ≡ length before
  pub pairs : length newcomer.pairs ≡ n
  pub met : (i : ℕ) (a0 : Account) → i < n → slice_get before i ≡ Some a0 → HasMet capacity after newcomer i a0
  pub others : (i : ℕ) → n ≤ i → slice_get after i ≡ slice_get before i

-- the participants of the numbers i and j are joined by two new rings
pub record AreJoined (capacity : ℕ) (i j : ℕ) (a b : Account) : Type 0 where
  pub near : RingPair
  pub far : RingPair
  pub sides : AreSides capacity near far
  pub is_near : slice_get a.pairs j ≡ Some (Some near)
  pub is_far : slice_get b.pairs i ≡ Some (Some far)

-- each two participants are joined so, and none is joined to itself
pub record AllJoined (capacity : ℕ) (accounts : List Account) : Type 0 where
  pub placed : (i : ℕ) (a : Account) → slice_get accounts i ≡ Some a → (a.number ≡ i) × (length a.pairs ≡ length accounts) × (slice_get a.pairs i ≡ Some None)
  pub joined : (i j : ℕ) (a b : Account) → i ≢ j → slice_get accounts i ≡ Some a → slice_get accounts j ≡ Some b → AreJoined capacity i j a b
