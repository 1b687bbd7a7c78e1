use Rattle.sk_system.proofs.HistoryLaws as laws
use Rattle.sk_system.proofs.laws.errors_abort.Goals as goal

pub returns : goal.returns
returns c = laws.errors_abort
