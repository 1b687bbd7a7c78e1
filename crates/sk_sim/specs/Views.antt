-- Seats, as contracts see them.
use Rattle.std.specs.Prelude.{◌≡◌, ℕ, Bool, false, List, map, Some, slice_get}
use Rattle.sk_law.specs.Blocks.{making}
use Rattle.sk_law.specs.Setups.{IsSetup}
use Rattle.sk_mesh.specs.Places.{Place}
use Rattle.sk_node.specs.Lists.{Lists}
use Rattle.sk_node.specs.declared.app.App as App
use Rattle.sk_sim.specs.declared.seat.Seat.{Seat}
use Rattle.sk_sim.specs.Cards.{Card, card_of, count_at}

-- what no look at a ring changes: its card, whether memory was refused, what its app was called with and is made of
pub record View (O : Type 0) : Type 0 where
  pub card : Card
  pub failed : Bool
  pub lists : Lists
  pub origin : O

-- no turn was taken yet: nothing has happened since its participant was made, and nothing was pushed
pub record IsUnturned {O : Type 0} (v : View O) : Type 0 where
  pub past : v.card.past ≡ making v.card.setup
  pub unpushed : (q : ℕ) → count_at v.card q ≡ 0
  pub sound : v.failed ≡ false
  pub setup : IsSetup v.card.setup

-- their cards
abbrev pub cards_in : {O : Type 0} → List (View O) → List Card
cards_in {O} vs = map (λ (v : View O). v.card) vs

module _ {A : Type 0} {G : App.Ghosts A} where
  abbrev pub view : Seat A G → View G.Origin
  view s = record { card = card_of s.wired; failed = s.failed; lists = G.lists s.app; origin = G.origin s.app }

  abbrev pub views : List (Seat A G) → List (View G.Origin)
  views ss = map (λ (s : Seat A G). view s) ss

  abbrev pub cards : List (Seat A G) → List Card
  cards ss = cards_in (views ss)

-- of which rings each has the ends
abbrev pub places : List Card → List Place
places cs = map (λ (c : Card). c.place) cs

-- none of them has met want of memory
abbrev pub NoneFailed : {O : Type 0} → List (View O) → Type 0
NoneFailed {O} vs = (i : ℕ) (v : View O) → slice_get vs i ≡ Some v → v.failed ≡ false

-- none of them has taken a turn
abbrev pub AreUnturned : {O : Type 0} → List (View O) → Type 0
AreUnturned {O} vs = (i : ℕ) (v : View O) → slice_get vs i ≡ Some v → IsUnturned v
