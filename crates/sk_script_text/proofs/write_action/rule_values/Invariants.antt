use Rattle.std.proofs.Common.{◌≡◌, ◌++◌, map, drop}
use Rattle.std.specs.List.{list_all}
use Rattle.serde_json.specs.View.{view}
use Rattle.sk_script_text.specs.Actions.{rule_data}
use Rattle.sk_script_text.specs.Fitting.{rule_fits}
use Rattle.sk_script_text.proofs.write_action.rule_values.Given as goal

abbrev pub invariant-loop-rule : goal.invariant-loop-rule
invariant-loop-rule l =
    (map view l.values.items ++ map (rule_data l.scope) (drop l.rule-index l.rules) ≡ map (rule_data l.scope) l.rules)
    × (list_all rule_fits (drop l.rule-index l.rules) ≡ list_all rule_fits l.rules)
