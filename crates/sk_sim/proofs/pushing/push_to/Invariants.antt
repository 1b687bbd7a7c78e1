use Rattle.std.proofs.Common.{◌≡◌, ◌++◌, ◌<◌, ◌≤◌, length, true, false}
use Rattle.sk_mesh.specs.Ends.{pushed, OnlyPushes}
use Rattle.sk_sim.specs.Wiring.{OnlyOut, waits_of}
use Rattle.sk_sim.proofs.pushing.push_to.Given as goal

abbrev pub invariant-loop-message : goal.invariant-loop-message
invariant-loop-message l = record {
  only : OnlyOut l.initial.node l.node l.peer;
  ring : OnlyPushes l.initial.ends l.ends l.peer;
  all : pushed l.ends l.peer ++ waits_of l.node.kept l.held l.peer ≡ pushed l.initial.ends l.peer ++ waits_of l.initial.node.kept l.initial.held l.peer;
  more : length (pushed l.initial.ends l.peer) ≤ length (pushed l.ends l.peer);
  moved : l.moved ≡ true → length (pushed l.initial.ends l.peer) < length (pushed l.ends l.peer);
  still : l.moved ≡ false → (l.ends ≡ l.initial.ends) × (l.node ≡ l.initial.node) × (l.held ≡ l.initial.held);
}

abbrev pub decreases-loop-message : goal.decreases-loop-message
decreases-loop-message l = length (waits_of l.node.kept l.held l.peer)
