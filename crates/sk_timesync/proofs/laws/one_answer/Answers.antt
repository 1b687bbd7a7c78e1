use Rattle.sk_timesync.proofs.RuleLaws.{one_answer}
use Rattle.sk_timesync.proofs.laws.one_answer.Goals as goal

pub returns : goal.returns
returns c = one_answer
