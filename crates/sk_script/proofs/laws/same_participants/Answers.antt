use Rattle.sk_script.proofs.PlacingLaws.{in_order_same}
use Rattle.sk_script.proofs.laws.same_participants.Goals as goal

pub returns : goal.returns
returns c = in_order_same
