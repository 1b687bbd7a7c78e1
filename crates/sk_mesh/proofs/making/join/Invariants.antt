use Rattle.std.proofs.Common.{◌≡◌}
use Rattle.sk_mesh.proofs.Growing.{HaveMet}
use Rattle.sk_mesh.proofs.making.join.Given as goal

abbrev pub invariant-loop-earlier : goal.invariant-loop-earlier
invariant-loop-earlier l = record {
  number : l.newcomer.number ≡ l.fn.number;
  met : HaveMet l.fn.capacity l.fn.ends l.ends l.newcomer l.earlier-index;
}
