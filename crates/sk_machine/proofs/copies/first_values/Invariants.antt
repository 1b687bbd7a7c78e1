use Rattle.std.proofs.Common.{◌≡◌, take}
use Rattle.std.specs.Prelude.{map}
use Rattle.sk_machine.proofs.copies.first_values.Given as goal

abbrev pub invariant-loop-var : goal.invariant-loop-var
invariant-loop-var l = l.values.items ≡ map (λ var. var.value) (take l.var-index l.vars)
