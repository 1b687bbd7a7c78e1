use Rattle.sk_system.proofs.HistoryLaws.{end_stays}
use Rattle.sk_system.proofs.laws.ends_stay.Goals as goal

pub returns : goal.returns
returns c = end_stays
