use Rattle.sk_node.proofs.Wholes.{whole_is, whole_same}
use Rattle.sk_node.proofs.Deciding.{not_entered}
use Rattle.sk_node.proofs.states.enter_where.Goals as goal

pub returns-else-has_edge-clause-ok : goal.returns-else-has_edge-clause-ok
returns-else-has_edge-clause-ok g c =
    whole_is (not_entered c.args.journal.now.setup c.args.to c.args.journal.now.past c.state.result c.has_edge.result c.state.ensures c.has_edge.ensures.edge c.if-has_edge.false)
    (whole_same c.args.journal.now (g.A.App.lists c.args.app.now))
