use Rattle.std.proofs.Common.{◌≡◌, ◌++◌, map}
use Rattle.std.specs.Vec.Iter.{into_iter_items}
use Rattle.sk_mesh.specs.Places.{place}
use Rattle.sk_sim.specs.Views.{views, cards, places}
use Rattle.sk_sim_tests.specs.Made.{AreMade, AreFresh}
use Rattle.sk_sim_tests.proofs.making.seat_all.Given as goal

abbrev pub invariant-loop-own : goal.invariant-loop-own
invariant-loop-own g l = record {
  made : AreMade l.names (views l.seats.items);
  fresh : AreFresh (into_iter_items l.own-iterator);
  all : places (cards l.seats.items) ++ map place (into_iter_items l.own-iterator) ≡ map place l.fn.ends.items;
}
