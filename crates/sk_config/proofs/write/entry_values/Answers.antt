use Rattle.std.proofs.Common.{◌≡◌, take, map, ap, ◌∙◌, arith}
use Rattle.std.proofs.lemmas.Grind.{common_steps}
use Rattle.sk_config.specs.Written.{entry_data}
use Rattle.sk_config.proofs.WriteLaws.{all_entries}
use Rattle.sk_config.proofs.write.entry_values.Goals as goal

pub returns : goal.returns
returns c =
    let whole : take c.loop-entry.entry-index c.args.entries.now ≡ c.args.entries.now = grind (arith, common_steps) in
    all_entries _ _ _ (c.loop-entry.invariant ∙ ap (map (entry_data c.args.kind)) whole)
