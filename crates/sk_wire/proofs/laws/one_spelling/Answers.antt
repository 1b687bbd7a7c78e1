use Rattle.sk_wire.proofs.ReadingLaws.{one_spelling}
use Rattle.sk_wire.proofs.laws.one_spelling.Goals as goal

pub returns : goal.returns
returns c = one_spelling
