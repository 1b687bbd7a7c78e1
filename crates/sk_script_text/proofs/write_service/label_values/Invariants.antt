use Rattle.std.proofs.Common.{◌≡◌, ◌++◌, map, drop}
use Rattle.serde_json.specs.View.{view}
use Rattle.sk_script_text.specs.Services.{label_data}
use Rattle.sk_script_text.proofs.write_service.label_values.Given as goal

abbrev pub invariant-loop-label : goal.invariant-loop-label
invariant-loop-label l =
    map view l.values.items ++ map label_data (drop l.label-index l.labels) ≡ map label_data l.labels
