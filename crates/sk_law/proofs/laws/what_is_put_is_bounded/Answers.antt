use Rattle.sk_law.proofs.Resting.{puts_bounded}
use Rattle.sk_law.proofs.laws.what_is_put_is_bounded.Goals as goal

pub returns : goal.returns
returns c = puts_bounded
