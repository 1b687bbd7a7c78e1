use Rattle.sk_law_world.proofs.Refusals.{gone_cause}
use Rattle.sk_law_world.proofs.laws.gone_has_a_cause.Goals as goal

pub returns : goal.returns
returns c = gone_cause
