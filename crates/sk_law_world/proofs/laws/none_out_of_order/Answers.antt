use Rattle.sk_law_world.proofs.Inorders.{none_out}
use Rattle.sk_law_world.proofs.laws.none_out_of_order.Goals as goal

pub returns : goal.returns
returns c = none_out
