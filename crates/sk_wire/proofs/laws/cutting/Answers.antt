use Rattle.sk_wire.proofs.StreamLaws.{cutting}
use Rattle.sk_wire.proofs.laws.cutting.Goals as goal

pub returns : goal.returns
returns c = cutting
