use Rattle.sk_mesh.specs.Places.{IsMesh}
use Rattle.sk_sim.specs.Views.{views, cards, places, NoneFailed}
use Rattle.sk_run_tests.proofs.by_hand.turn_each.Given as goal

abbrev pub invariant-loop-i : goal.invariant-loop-i
invariant-loop-i l = record {
  mesh : IsMesh (places (cards l.seats));
  sound : NoneFailed (views l.seats);
}
