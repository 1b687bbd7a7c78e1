use Rattle.sk_law_world.proofs.Barriers.{told_before, barrier}
use Rattle.sk_law_world.proofs.laws.all_ready_before_running.Goals as goal

pub returns-clause-told : goal.returns-clause-told
returns-clause-told c = told_before

pub returns-clause-ready : goal.returns-clause-ready
returns-clause-ready c = barrier
