use Rattle.std.proofs.Common.{◌≡◌, ◌++◌, map, drop}
use Rattle.std.specs.List.{list_all}
use Rattle.serde_json.specs.View.{view}
use Rattle.sk_script_text.specs.Actions.{action_data}
use Rattle.sk_script_text.specs.Fitting.{action_fits}
use Rattle.sk_script_text.proofs.write_action.action_values.Given as goal

abbrev pub invariant-loop-action : goal.invariant-loop-action
invariant-loop-action l =
    (map view l.values.items ++ map (action_data l.scope) (drop l.action-index l.actions) ≡ map (action_data l.scope) l.actions)
    × (list_all action_fits (drop l.action-index l.actions) ≡ list_all action_fits l.actions)
