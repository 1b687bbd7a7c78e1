use Rattle.sk_node.proofs.Wholes.{whole_is, whole_same}
use Rattle.sk_node.proofs.Deciding.{unlimited_is, limited_is}
use Rattle.sk_node.proofs.limits.limit.Goals as goal

pub returns-then-not-has_edge-clause-ok : goal.returns-then-not-has_edge-clause-ok
returns-then-not-has_edge-clause-ok g c =
    whole_is (unlimited_is c.args.journal.now.setup c.args.journal.now.past c.state.result c.has_edge.result c.state.ensures c.has_edge.ensures.edge c.if-not-has_edge.true)
    (whole_same c.args.journal.now (g.A.App.lists c.args.app.now))

pub returns-clause-ok : goal.returns-clause-ok
returns-clause-ok g c =
    whole_is (limited_is c.args.journal.now.setup c.args.journal.now.past c.state.result c.has_edge.result c.is_long.result c.is_heavy.result
    c.state.ensures c.has_edge.ensures.edge c.if-not-has_edge.false c.is_long.ensures c.is_heavy.ensures)
    (rw (c.if-is_long.false, c.if-is_heavy.false) (whole_same c.args.journal.now (g.A.App.lists c.args.app.now)))
