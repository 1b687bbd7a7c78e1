-- What a participant knows of the rings between it and another one.
use Rattle.std.specs.Prelude.{◌≡◌, ◌≢◌, ℕ, ◌+◌, ◌<◌, ◌++◌, List, length, Some, slice_get}
use Rattle.sk_law.specs.Readings.{got, put}
use Rattle.sk_mesh.specs.Places.{Account, place}
use Rattle.sk_mesh.specs.Ends.{pushed, popped, free, waiting, room, Looks}
use Rattle.sk_node.specs.declared.app.App as App
use Rattle.sk_sim.specs.declared.seat.Seat.{Seat}
use Rattle.sk_sim.specs.Cards.{Card, waits_at}
use Rattle.sk_sim.specs.Views.{views, cards}

-- of the ring from the one of number k all messages are known, and of the ring to it all slots
pub record Sees (a : Account) (k : ℕ) (c : Card) : Type 0 where
  pub in_ring : (popped a k ++ waiting a k) ++ waits_at c a.number ≡ put c.past.journal a.number
  pub slots : free a k + length (pushed a k) ≡ room (place a) k + length (got c.past.journal a.number)

module _ {A : Type 0} {G : App.Ghosts A} where
  -- the one of number i sees those below n
  pub record SeesTo (i n : ℕ) (ss : List (Seat A G)) : Type 0 where
    pub sees : (s : Seat A G) (k : ℕ) (c : Card) → k < n → k ≢ i → slice_get ss i ≡ Some s → slice_get (cards ss) k ≡ Some c → Sees s.wired.ends k c

  -- i looked at the rings between it and k
  pub record LooksAt (i k : ℕ) (old new : List (Seat A G)) : Type 0 where
    pub same : views new ≡ views old
    pub sees : (s : Seat A G) (c : Card) → slice_get new i ≡ Some s → slice_get (cards old) k ≡ Some c → Sees s.wired.ends k c
    pub looks : (s t : Seat A G) → slice_get old i ≡ Some s → slice_get new i ≡ Some t → Looks s.wired.ends t.wired.ends k
