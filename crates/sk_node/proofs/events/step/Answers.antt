use Rattle.sk_node.proofs.Cuts.{on_err}
use Rattle.sk_node.proofs.Rowing.{row_step, step_cut, step_limited}
use Rattle.sk_node.proofs.events.step.Goals as goal

pub returns-in_err-take_step-clause-err : goal.returns-in_err-take_step-clause-err
returns-in_err-take_step-clause-err g c = on_err c.from_residual.result (step_cut c.blocks_only_add.ensures c.requires.row c.in_err-take_step.ensures.err)

pub returns-in_err-limit-clause-err : goal.returns-in_err-limit-clause-err
returns-in_err-limit-clause-err g c =
    on_err c.from_residual-in_err-limit.result (step_limited c.blocks_only_add.ensures c.requires.row c.in_ok-take_step.ensures.ok c.in_err-limit.ensures.err)

pub returns-clause-ok : goal.returns-clause-ok
returns-clause-ok g c = row_step c.requires.row c.in_ok-take_step.ensures.ok c.in_ok-limit.ensures.ok
