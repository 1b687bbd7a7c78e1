use Rattle.serde_json.specs.Data.{string}
use Rattle.sk_script_text.proofs.WriteLaws.{all_done}
use Rattle.sk_script_text.proofs.write_scenario.name_values.Goals as goal

pub returns : goal.returns
returns c = all_done string _ _ _ c.loop-name-test.false c.loop-name.invariant
