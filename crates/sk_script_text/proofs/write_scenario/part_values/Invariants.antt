use Rattle.std.proofs.Common.{◌≡◌, ◌++◌, map, drop}
use Rattle.std.specs.List.{list_all}
use Rattle.serde_json.specs.View.{view}
use Rattle.sk_script_text.specs.Fitting.{part_fits}
use Rattle.sk_script_text.specs.Written.{part_data}
use Rattle.sk_script_text.proofs.write_scenario.part_values.Given as goal

abbrev pub invariant-loop-part : goal.invariant-loop-part
invariant-loop-part l =
    (map view l.values.items ++ map part_data (drop l.part-index l.parts) ≡ map part_data l.parts)
    × (list_all part_fits (drop l.part-index l.parts) ≡ list_all part_fits l.parts)
