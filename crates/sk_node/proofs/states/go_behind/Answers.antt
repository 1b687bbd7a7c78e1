use Rattle.sk_node.proofs.Telling.{quiet_none}
use Rattle.sk_node.proofs.states.go_behind.Goals as goal

pub returns-clause-quiet : goal.returns-clause-quiet
returns-clause-quiet c = quiet_none c.args.journal.now.past.journal
