use Rattle.std.proofs.Common.{◌≡◌, take, map}
use Rattle.serde_json.specs.View.{view}
use Rattle.sk_config.specs.Written.{entry_data}
use Rattle.sk_config.proofs.write.entry_values.Given as goal

abbrev pub invariant-loop-entry : goal.invariant-loop-entry
invariant-loop-entry l = map view l.values.items ≡ map (entry_data l.kind) (take l.entry-index l.entries)
