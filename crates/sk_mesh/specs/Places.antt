-- Whose ends they are, and of which rings.
use Rattle.std.specs.Prelude.{◌≡◌, ◌≢◌, ℕ, ◌<◌, List, length, map, Option, Some, None}
use Rattle.std.specs.List.{slice_get}
use Rattle.sk_mesh.specs.Rings.{Ring}
use Rattle.sk_mesh.specs.declared.ring_pair.RingPair.{RingPair}

-- a participant's ends: its two rings to and from each participant in number order, and none to itself
pub record Account : Type 0 where
  pub number : ℕ
  pub pairs : List (Option RingPair)

-- the ring to a peer, with its room, and the ring from it
pub record Way : Type 0 where
  pub to : Ring
  pub room : ℕ
  pub from : Ring

abbrev pub way_of : RingPair → Way
way_of l = record { to = l.to.ring; room = l.to.room; from = l.from.ring }

abbrev pub way_at : Option RingPair → Option Way
way_at None = None
way_at (Some l) = Some (way_of l)

-- whose ends they are, of which rings: no call changes it
pub record Place : Type 0 where
  pub number : ℕ
  pub ways : List (Option Way)

abbrev pub place : Account → Place
place a = record { number = a.number; ways = map way_at a.pairs }

-- how many participants the mesh has
abbrev pub size : Place → ℕ
size a = length a.ways

-- another one of the mesh
abbrev pub IsPeer : Place → ℕ → Type 0
IsPeer a p = (p < size a) × (p ≢ a.number)

abbrev pub way_in : Option (Option Way) → Option Way
way_in None = None
way_in (Some w) = w

-- the two rings between it and a peer
abbrev pub way : Place → ℕ → Option Way
way a p = way_in (slice_get a.ways p)

-- the two sides of the same two rings
pub record AreFacing (a b : Option Way) : Type 0 where
  pub here : Way
  pub there : Way
  pub is_here : a ≡ Some here
  pub is_there : b ≡ Some there
  pub arrives : there.from ≡ here.to
  pub returns : here.from ≡ there.to

-- the places of two different participants of one mesh
pub record AreOfOneMesh (a b : Place) : Type 0 where
  pub different : a.number ≢ b.number
  pub facing : AreFacing (way a b.number) (way b a.number)

-- the places of all participants of one mesh, in number order
pub record IsMesh (ps : List Place) : Type 0 where
  pub placed : (i : ℕ) (a : Place) → slice_get ps i ≡ Some a → (a.number ≡ i) × (size a ≡ length ps)
  pub joined : (i j : ℕ) (a b : Place) → i ≢ j → slice_get ps i ≡ Some a → slice_get ps j ≡ Some b → AreOfOneMesh a b
