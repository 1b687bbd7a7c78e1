use Rattle.sk_script_text.specs.Written.{part_data}
use Rattle.sk_script_text.proofs.WriteLaws.{all_done}
use Rattle.sk_script_text.proofs.write_scenario.part_values.Goals as goal

pub returns-clause-value : goal.returns-clause-value
returns-clause-value c = all_done part_data _ _ _ c.loop-part-test.false c.loop-part.invariant.0
