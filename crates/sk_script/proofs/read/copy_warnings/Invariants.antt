use Rattle.std.proofs.Common.{◌≡◌, ◌++◌, drop}
use Rattle.sk_script.proofs.read.copy_warnings.Given as goal

abbrev pub invariant-loop-warning : goal.invariant-loop-warning
invariant-loop-warning l = l.all.items ++ drop l.warning-index l.warnings ≡ l.fn.all.items ++ l.warnings
