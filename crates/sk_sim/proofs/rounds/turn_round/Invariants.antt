use Rattle.std.proofs.Common.{◌≡◌}
use Rattle.sk_sim.specs.Views.{views, NoneFailed, cards, places}
use Rattle.sk_sim.specs.Rounds.{Round, AllWentOn}
use Rattle.sk_sim.proofs.rounds.turn_round.Given as goal

abbrev pub invariant-loop-i : goal.invariant-loop-i
invariant-loop-i g l = record {
  same : places (cards l.seats) ≡ places (cards l.fn.seats);
  sound : NoneFailed (views l.seats);
  went : AllWentOn (views l.fn.seats) (views l.seats);
  round : Round l.so_far (cards l.fn.seats) (cards l.seats) l.i;
}
