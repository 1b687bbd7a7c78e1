use Rattle.sk_mesh.specs.Places.{IsMesh}
use Rattle.sk_sim.specs.Views.{views, cards, places, NoneFailed}
use Rattle.sk_run_tests.proofs.by_hand.turn_to_end.Given as goal

abbrev pub invariant-rounds : goal.invariant-rounds
invariant-rounds l = record {
  mesh : IsMesh (places (cards l.seats));
  sound : NoneFailed (views l.seats);
}
