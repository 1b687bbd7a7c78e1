use Rattle.sk_timesync.proofs.RuleLaws.{ready_or_holds, not_both}
use Rattle.sk_timesync.proofs.laws.ready_or_holds_up.Goals as goal

pub returns-clause-one : goal.returns-clause-one
returns-clause-one c = ready_or_holds

pub returns-clause-not_both : goal.returns-clause-not_both
returns-clause-not_both c = not_both
