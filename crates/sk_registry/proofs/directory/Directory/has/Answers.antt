use Rattle.std.proofs.Common.{◌∙◌}
use Rattle.sk_registry.proofs.MapLaws.{found_named}
use Rattle.sk_registry.proofs.directory.Directory.has.Goals as goal

pub returns-clause-joined : goal.returns-clause-joined
returns-clause-joined c =
    let found = found_named c.as_str.result.now c.self.inside.table.entries c.self.invariant.keyed in
    rw (← c.self.view_is, ← c.as_str.ensures.value) (c.contains_key.ensures ∙ found)
