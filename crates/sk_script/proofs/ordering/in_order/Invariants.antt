use Rattle.std.proofs.Common.{◌≡◌}
use Rattle.sk_script.specs.Placing.{in_order}
use Rattle.sk_script.proofs.ordering.in_order.Given as goal

abbrev pub invariant-loop-one : goal.invariant-loop-one
invariant-loop-one l = l.ordered.items ≡ in_order l.yielded
