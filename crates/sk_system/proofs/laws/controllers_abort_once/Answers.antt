use Rattle.sk_system.proofs.HistoryLaws.{at_most_once}
use Rattle.sk_system.proofs.laws.controllers_abort_once.Goals as goal

pub returns : goal.returns
returns c = at_most_once
