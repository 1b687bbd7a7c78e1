use Rattle.sk_sim.specs.Wiring.{IsTied}
use Rattle.sk_sim.specs.Parts.{Pushes}
use Rattle.sk_sim.proofs.pushing.push_all.Given as goal

abbrev pub invariant-loop-peer : goal.invariant-loop-peer
invariant-loop-peer l = record {
  tied : IsTied l.wired;
  pushes : Pushes l.moved l.initial.wired l.wired l.peer;
}
