use Rattle.std.proofs.Common.{◌≡◌, ◌++◌, ◌<◌, ◌-◌, ◌^◌}
use Rattle.sk_script.specs.Generated.{parts, all_parts}
use Rattle.sk_script.proofs.generator.all_parts.Given as goal

abbrev pub invariant-loop-number : goal.invariant-loop-number
invariant-loop-number l = (l.seed < 2 ^ 31) × (l.parts.items ++ parts l.count l.seed l.number (l.count - l.number) ≡ all_parts l.fn.number l.count)
