use Rattle.sk_law.proofs.Ends.{turns_end}
use Rattle.sk_law.proofs.laws.turns_come_to_an_end.Goals as goal

pub returns : goal.returns
returns c = turns_end
