use Rattle.std.proofs.Common.{refl}
use Rattle.sk_rules.specs.Vars.{are_vars}
use Rattle.sk_rules.proofs.vars.Vars.none.Goals as goal

pub invariant_of-result : goal.invariant_of-result
unfolding are_vars
invariant_of-result c = rw c.new.ensures.items refl
