use Rattle.sk_script_text.specs.Actions.{action_data}
use Rattle.sk_script_text.proofs.WriteLaws.{all_done}
use Rattle.sk_script_text.proofs.write_action.action_values.Goals as goal

pub returns-clause-value : goal.returns-clause-value
returns-clause-value c = all_done (action_data c.args.scope.now) _ _ _ c.loop-action-test.false c.loop-action.invariant.0
