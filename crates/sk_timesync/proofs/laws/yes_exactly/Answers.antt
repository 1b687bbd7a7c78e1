use Rattle.sk_timesync.proofs.RuleLaws.{yes_exactly}
use Rattle.sk_timesync.proofs.laws.yes_exactly.Goals as goal

pub returns : goal.returns
returns c = yes_exactly
