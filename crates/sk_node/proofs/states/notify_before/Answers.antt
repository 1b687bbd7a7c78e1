use Rattle.sk_law.specs.declared.made.Notice.TheVariants as notices
use Rattle.sk_node.proofs.Cuts.{on_err}
use Rattle.sk_node.proofs.Notifying.{part_one}
use Rattle.sk_node.proofs.states.notify_before.Goals as goal

pub returns-in_err-on_stop-in-Stopped-clause-err : goal.returns-in_err-on_stop-in-Stopped-clause-err
returns-in_err-on_stop-in-Stopped-clause-err g c =
    rw c.in-Stopped.is (on_err c.from_residual.result (part_one (g.A.App.lists c.args.app.now) (g.A.App.lists c.on_stop.new.self) notices.Stop c.in_err-on_stop-in-Stopped.ensures.err))
