use Rattle.std.proofs.Common.{arith, sym, ◌∙◌}
use Rattle.sk_rules.proofs.VarLaws.{place_small}
use Rattle.sk_rules.proofs.vars.Vars.position.Goals as goal

pub overflow_cast-result : goal.overflow_cast-result
overflow_cast-result c =
    let small = place_small _ _ c.in_ok-place.place c.self.invariant (rw c.deref.ensures.value at (sym c.position_of.ensures ∙ c.in_ok-place.was)) in
    omega (arith, small)
