use Rattle.sk_law.proofs.Ends.{limits}
use Rattle.sk_law.proofs.laws.limits_hold.Goals as goal

pub returns : goal.returns
returns c = limits
