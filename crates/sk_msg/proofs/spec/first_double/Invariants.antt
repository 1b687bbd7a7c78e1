use Rattle.std.proofs.Common.{◌≡◌, take, drop, []}
use Rattle.sk_msg.specs.Specs.{double_key}
use Rattle.sk_msg.proofs.spec.first_double.Given as goal

abbrev pub invariant-loop-at : goal.invariant-loop-at
invariant-loop-at l = double_key (take l.at l.labels) l.at (drop l.at l.labels) ≡ double_key [] 0 l.labels
