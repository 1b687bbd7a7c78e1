use Rattle.std.proofs.Common.{◌≡◌, ◌++◌}
use Rattle.sk_script.proofs.part.joined.Given as goal

abbrev pub invariant-loop-warning : goal.invariant-loop-warning
invariant-loop-warning l = l.all.items ≡ l.fn.warnings ++ l.yielded
