use Rattle.sk_script_text.specs.Actions.{rule_data}
use Rattle.sk_script_text.proofs.WriteLaws.{all_done}
use Rattle.sk_script_text.proofs.write_action.rule_values.Goals as goal

pub returns-clause-value : goal.returns-clause-value
returns-clause-value c = all_done (rule_data c.args.scope.now) _ _ _ c.loop-rule-test.false c.loop-rule.invariant.0
