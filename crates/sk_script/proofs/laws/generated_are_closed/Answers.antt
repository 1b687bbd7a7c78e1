use Rattle.sk_script.proofs.GeneratedLaws.{generated_closed}
use Rattle.sk_script.proofs.laws.generated_are_closed.Goals as goal

pub returns : goal.returns
returns c = generated_closed
