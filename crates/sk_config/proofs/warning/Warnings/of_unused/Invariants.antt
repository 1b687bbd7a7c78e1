use Rattle.std.proofs.Common.{◌≡◌, map}
use Rattle.sk_config.specs.Reading.{not_used}
use Rattle.sk_config.proofs.warning.Warnings.of_unused.Given as goal

abbrev pub invariant-loop-path : goal.invariant-loop-path
invariant-loop-path l = l.warnings.items ≡ map not_used l.yielded
