-- Seats that were made for one run.
use Rattle.std.specs.Prelude.{◌≡◌, ◌≤◌, ℕ, IsTrue, List, [], length, Some, slice_get}
use Rattle.sk_msg.specs.Each.{each_after}
use Rattle.sk_msg.specs.Rules.{is_new_name}
use Rattle.sk_law.specs.World.{are_sorted}
use Rattle.sk_mesh.specs.Places.{Account}
use Rattle.sk_sim.specs.Wiring.{IsFresh}
use Rattle.sk_sim.specs.Views.{View, IsUnturned}

-- at most 32 names in the order of bytes, none twice
pub record AreNames (names : List (List ℕ)) : Type 0 where
  pub few : length names ≤ 32
  pub distinct : IsTrue (each_after is_new_name [] names)
  pub sorted : IsTrue (are_sorted names)

-- of a participant of these names, all required, that has taken no turn
pub record IsMade {O : Type 0} (all : List (List ℕ)) (v : View O) : Type 0 where
  pub unturned : IsUnturned v
  pub names : v.card.setup.names ≡ all
  pub required : v.card.setup.required ≡ Some all

-- each of them is
abbrev pub AreMade : {O : Type 0} → List (List ℕ) → List (View O) → Type 0
AreMade {O} all vs = (i : ℕ) (v : View O) → slice_get vs i ≡ Some v → IsMade all v

-- through none of these ends anything went yet
abbrev pub AreFresh : List Account → Type 0
AreFresh xs = (i : ℕ) (a : Account) → slice_get xs i ≡ Some a → IsFresh a
