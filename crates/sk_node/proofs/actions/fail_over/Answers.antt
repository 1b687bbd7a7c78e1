use Rattle.sk_node.proofs.Wholes.{whole_same}
use Rattle.sk_node.proofs.actions.fail_over.Goals as goal

pub returns-else-over-clause-ok : goal.returns-else-over-clause-ok
returns-else-over-clause-ok g c = rw c.if-over.false (whole_same c.args.journal.now (g.A.App.lists c.args.app.now))
