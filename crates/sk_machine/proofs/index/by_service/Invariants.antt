use Rattle.std.proofs.Common.{◌≡◌}
use Rattle.std.specs.Prelude.{map}
use Rattle.std.specs.List.{range_with_len}
use Rattle.sk_machine.specs.Index.{rules_of}
use Rattle.sk_machine.proofs.index.by_service.Given as goal

abbrev pub invariant-loop-service : goal.invariant-loop-service
invariant-loop-service l = l.on.items ≡ map (rules_of l.rules) (range_with_len 0 l.service)
