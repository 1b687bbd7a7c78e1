use Rattle.std.proofs.Common.{◌≡◌, length}
use Rattle.sk_mesh.proofs.Growing.{AllJoined}
use Rattle.sk_mesh.proofs.making.mesh.Given as goal

abbrev pub invariant-loop-number : goal.invariant-loop-number
invariant-loop-number l = record {
  size : length l.ends.items ≡ l.number;
  joined : AllJoined l.fn.capacity l.ends.items;
}
