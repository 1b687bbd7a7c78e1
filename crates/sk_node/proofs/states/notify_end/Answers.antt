use Rattle.sk_law.specs.declared.made.Notice.TheVariants as notices
use Rattle.sk_node.proofs.Cuts.{on_err}
use Rattle.sk_node.proofs.Notifying.{part_one}
use Rattle.sk_node.proofs.states.notify_end.Goals as goal

pub returns-in_err-on_shutdown-in-ShuttingDown-clause-err : goal.returns-in_err-on_shutdown-in-ShuttingDown-clause-err
returns-in_err-on_shutdown-in-ShuttingDown-clause-err g c =
    rw c.in-ShuttingDown.is (on_err c.from_residual.result (part_one (g.A.App.lists c.args.app.now) (g.A.App.lists c.on_shutdown.new.self) notices.Shutdown c.in_err-on_shutdown-in-ShuttingDown.ensures.err))

pub returns-in_err-on_abort-in-Aborting-clause-err : goal.returns-in_err-on_abort-in-Aborting-clause-err
returns-in_err-on_abort-in-Aborting-clause-err g c =
    rw c.in-Aborting.is
    (on_err c.from_residual-in_err-on_abort-in-Aborting.result (part_one (g.A.App.lists c.args.app.now) (g.A.App.lists c.on_abort.new.self) notices.Abort c.in_err-on_abort-in-Aborting.ensures.err))
