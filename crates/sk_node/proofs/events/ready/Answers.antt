use Rattle.sk_node.proofs.Cuts.{on_err}
use Rattle.sk_node.proofs.Rowing.{row_ready, ready_cut, ready_limited}
use Rattle.sk_node.proofs.events.ready.Goals as goal

pub returns-in_err-ready-clause-err : goal.returns-in_err-ready-clause-err
returns-in_err-ready-clause-err g c = on_err c.from_residual.result (ready_cut c.blocks_only_add.ensures c.requires.row c.in_err-ready.ensures.err)

pub returns-in_err-limit-clause-err : goal.returns-in_err-limit-clause-err
returns-in_err-limit-clause-err g c =
    on_err c.from_residual-in_err-limit.result (ready_limited c.blocks_only_add.ensures c.requires.row c.in_ok-ready.ensures.ok c.in_err-limit.ensures.err)

pub returns-clause-ok : goal.returns-clause-ok
returns-clause-ok g c = row_ready c.requires.row c.in_ok-ready.ensures.ok c.in_ok-limit.ensures.ok
