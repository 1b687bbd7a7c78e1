use Rattle.sk_law_world.proofs.Orders.{puts_in_order}
use Rattle.sk_law_world.proofs.laws.puts_are_in_order.Goals as goal

pub returns : goal.returns
returns c = puts_in_order
