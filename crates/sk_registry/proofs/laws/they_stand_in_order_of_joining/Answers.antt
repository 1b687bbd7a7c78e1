use Rattle.sk_registry.proofs.EventLaws.{in_order}
use Rattle.sk_registry.proofs.laws.they_stand_in_order_of_joining.Goals as goal

pub returns : goal.returns
returns c = λ events earlier later. in_order earlier later
