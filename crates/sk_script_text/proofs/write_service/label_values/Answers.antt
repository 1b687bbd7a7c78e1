use Rattle.sk_script_text.specs.Services.{label_data}
use Rattle.sk_script_text.proofs.WriteLaws.{all_done}
use Rattle.sk_script_text.proofs.write_service.label_values.Goals as goal

pub returns : goal.returns
returns c = all_done label_data _ _ _ c.loop-label-test.false c.loop-label.invariant
