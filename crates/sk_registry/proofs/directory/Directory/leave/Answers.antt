use Rattle.std.proofs.Common.{◌∙◌, ap, is_some}
use Rattle.sk_registry.proofs.MapLaws.{found_named}
use Rattle.sk_registry.proofs.KeptLaws.{after_removal}
use Rattle.sk_registry.proofs.directory.Directory.leave.Goals as goal

pub invariant_of-self : goal.invariant_of-self
invariant_of-self c =
    (after_removal c.self.inside (record c.self.inside { table = c.shift_remove.new.self }) c.as_str.result.now c.self.invariant c.shift_remove.ensures.entries).kept

pub returns-clause-joined : goal.returns-clause-joined
returns-clause-joined c =
    let found = found_named c.as_str.result.now c.self.inside.table.entries c.self.invariant.keyed in
    rw (← c.self.view_is, ← c.as_str.ensures.value) (c.is_some.ensures ∙ ap is_some c.shift_remove.ensures.value ∙ found)

pub returns-clause-others : goal.returns-clause-others
returns-clause-others c =
    rw (← c.self.view_is, ← c.as_str.ensures.value)
    (after_removal c.self.inside (record c.self.inside { table = c.shift_remove.new.self }) c.as_str.result.now c.self.invariant c.shift_remove.ensures.entries).shows

pub returns-clause-step : goal.returns-clause-step
returns-clause-step c = returns-clause-others c

pub returns-clause-table : goal.returns-clause-table
returns-clause-table c = (invariant_of-self c).table
