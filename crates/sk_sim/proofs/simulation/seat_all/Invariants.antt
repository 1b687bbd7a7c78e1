use Rattle.std.proofs.Common.{◌≡◌, ◌++◌, map}
use Rattle.std.specs.Vec.Iter.{into_iter_items}
use Rattle.sk_mesh.specs.Places.{place}
use Rattle.sk_sim.specs.Views.{views, cards, places}
use Rattle.sk_sim.specs.Simulations.{IsSeat, AreFresh}
use Rattle.sk_sim.proofs.Seating.{Each}
use Rattle.sk_sim.proofs.simulation.seat_all.Given as goal

abbrev pub invariant-loop-own : goal.invariant-loop-own
invariant-loop-own l = record {
  of : Each (IsSeat l.scenario) (views l.seats.items);
  fresh : AreFresh (into_iter_items l.own-iterator);
  all : places (cards l.seats.items) ++ map place (into_iter_items l.own-iterator) ≡ map place l.fn.ends.items;
}
