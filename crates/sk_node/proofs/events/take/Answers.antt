use Rattle.sk_node.proofs.Cuts.{on_err}
use Rattle.sk_node.proofs.Receiving.{takes_all, takes_cut, takes_limited}
use Rattle.sk_node.proofs.events.take.Goals as goal

pub returns-in_err-get-clause-err : goal.returns-in_err-get-clause-err
returns-in_err-get-clause-err g c =
    on_err c.from_residual.result
    (takes_cut c.blocks_only_add.ensures c.args.journal.now c.get.new.journal c.args.peer c.args.message (g.A.App.lists c.args.app.now) (g.A.App.lists c.get.new.app) c.requires.is_open c.in_err-get.ensures.err)

pub returns-in_err-limit-clause-err : goal.returns-in_err-limit-clause-err
returns-in_err-limit-clause-err g c =
    on_err c.from_residual-in_err-limit.result
    (takes_limited c.blocks_only_add.ensures c.args.journal.now c.get.new.journal c.limit.new.journal c.args.peer c.args.message (g.A.App.lists c.args.app.now) (g.A.App.lists c.get.new.app) (g.A.App.lists c.limit.new.app) c.requires.is_open
    c.in_ok-get.ensures.ok c.in_err-limit.ensures.err)

pub returns-clause-ok : goal.returns-clause-ok
returns-clause-ok g c =
    takes_all c.blocks_only_add.ensures c.args.journal.now c.get.new.journal c.limit.new.journal c.args.peer c.args.message (g.A.App.lists c.args.app.now) (g.A.App.lists c.get.new.app) (g.A.App.lists c.limit.new.app) c.requires.is_open
    c.in_ok-get.ensures.ok c.in_ok-limit.ensures.ok
