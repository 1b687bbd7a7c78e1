-- How a mesh grows by one participant after the other.
use Rattle.std.specs.Prelude.{◌≡◌, ◌+◌, ◌<◌, ℕ, List, [], ◌∷◌, ◌++◌, length, Option, Some, None}
use Rattle.std.specs.List.{slice_get}
use Rattle.sk_mesh.specs.declared.ring_pair.RingPair.{RingPair}
use Rattle.sk_mesh.specs.Places.{Account, way_of, AreFacing}
use Rattle.sk_mesh.specs.Pairs.{IsNew}

abbrev pub with_pair : Account → Option RingPair → Account
with_pair a l = record a { pairs = a.pairs ++ l ∷ [] }

-- the two sides of two new rings
pub record AreSides (capacity : ℕ) (near far : RingPair) : Type 0 where
  pub facing : AreFacing (Some (way_of near)) (Some (way_of far))
  pub near_new : IsNew capacity near
  pub far_new : IsNew capacity far

-- between a and b, which were a0 and b0, there are two rings now
pub record Meet (capacity : ℕ) (a0 a b0 b : Account) : Type 0 where
  pub near : RingPair
  pub far : RingPair
  pub sides : AreSides capacity near far
  pub is_a : a ≡ with_pair a0 (Some near)
  pub is_b : b ≡ with_pair b0 (Some far)

-- the participant of number i, which was a0, has met the newcomer
pub record HasMet (capacity : ℕ) (accounts : List Account) (newcomer : Account) (i : ℕ) (a0 : Account) : Type 0 where
  pub near : RingPair
  pub far : RingPair
  pub sides : AreSides capacity near far
  pub is_near : slice_get accounts i ≡ Some (with_pair a0 (Some near))
  pub is_far : slice_get newcomer.pairs i ≡ Some (Some far)

-- all participants have met the newcomer, which has no rings to itself
pub record Joined (capacity : ℕ) (before after : List Account) (newcomer : Account) : Type 0 where
  pub size : length after ≡ length before
  pub pairs : length newcomer.pairs ≡ length before + 1
  pub own : slice_get newcomer.pairs (length before) ≡ Some None
  pub met : (i : ℕ) (a0 : Account) → i < length before → slice_get before i ≡ Some a0 → HasMet capacity after newcomer i a0
