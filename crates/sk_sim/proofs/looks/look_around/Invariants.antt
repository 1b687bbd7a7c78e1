use Rattle.std.proofs.Common.{◌≡◌}
use Rattle.sk_sim.specs.Views.{views}
use Rattle.sk_sim.specs.Sees.{SeesTo}
use Rattle.sk_sim.proofs.looks.look_around.Given as goal

abbrev pub invariant-loop-k : goal.invariant-loop-k
invariant-loop-k g l = record {
  same : views l.seats ≡ views l.fn.seats;
  sees : SeesTo l.i l.k l.seats;
}
