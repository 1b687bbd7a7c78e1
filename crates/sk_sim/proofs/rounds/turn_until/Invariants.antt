use Rattle.std.proofs.Common.{◌≡◌}
use Rattle.sk_sim.specs.Views.{views, NoneFailed, cards, places}
use Rattle.sk_sim.specs.Rounds.{AllWentOn}
use Rattle.sk_sim.specs.Work.{work}
use Rattle.sk_sim.proofs.rounds.turn_until.Given as goal

abbrev pub invariant-rounds : goal.invariant-rounds
invariant-rounds g l = record {
  same : places (cards l.seats) ≡ places (cards l.fn.seats);
  sound : NoneFailed (views l.seats);
  went : AllWentOn (views l.fn.seats) (views l.seats);
}

abbrev pub decreases-rounds : goal.decreases-rounds
decreases-rounds g l = work (cards l.seats)
