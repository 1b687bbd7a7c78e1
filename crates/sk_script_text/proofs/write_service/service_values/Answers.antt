use Rattle.sk_script_text.specs.Services.{service_data}
use Rattle.sk_script_text.proofs.WriteLaws.{all_done}
use Rattle.sk_script_text.proofs.write_service.service_values.Goals as goal

pub returns : goal.returns
returns c = all_done service_data _ _ _ c.loop-service-test.false c.loop-service.invariant
