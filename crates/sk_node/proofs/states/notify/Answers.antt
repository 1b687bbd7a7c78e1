use Rattle.std.proofs.Common.{◌∷◌, []}
use Rattle.sk_law.specs.Told.{notice_before}
use Rattle.sk_law.specs.declared.made.Notice.TheVariants as notices
use Rattle.sk_node.proofs.Cuts.{on_err}
use Rattle.sk_node.proofs.Notifying.{notified_both, part_before, part_behind, part_one}
use Rattle.sk_node.proofs.states.notify.Goals as goal

pub returns-in_err-notify_before-clause-err : goal.returns-in_err-notify_before-clause-err
returns-in_err-notify_before-clause-err g c =
    on_err c.from_residual.result (part_before (g.A.App.lists c.args.app.now) (g.A.App.lists c.notify_before.new.app) (notice_before c.args.last c.args.to) (notices.State c.args.to ∷ []) c.in_err-notify_before.ensures.err)

pub returns-in_err-on_state-clause-err : goal.returns-in_err-on_state-clause-err
returns-in_err-on_state-clause-err g c =
    on_err c.from_residual-in_err-on_state.result (part_behind (g.A.App.lists c.args.app.now) (g.A.App.lists c.notify_before.new.app) (g.A.App.lists c.on_state.new.self) (notice_before c.args.last c.args.to) (notices.State c.args.to ∷ [])
    c.in_ok-notify_before.ensures.ok (part_one (g.A.App.lists c.notify_before.new.app) (g.A.App.lists c.on_state.new.self) (notices.State c.args.to) c.in_err-on_state.ensures.err))

pub returns-clause-ok : goal.returns-clause-ok
returns-clause-ok g c =
    notified_both (g.A.App.lists c.args.app.now) (g.A.App.lists c.notify_before.new.app) (g.A.App.lists c.on_state.new.self) (notice_before c.args.last c.args.to) (notices.State c.args.to ∷ []) c.in_ok-notify_before.ensures.ok c.in_ok-on_state.ensures.ok
