use Rattle.std.proofs.Common.{◌∙◌, sym}
use Rattle.sk_node.proofs.Cuts.{on_err}
use Rattle.sk_node.proofs.Acting.{part_found, whole_found, part_unfound, whole_unfound}
use Rattle.sk_node.proofs.actions.carry_out.Goals as goal

pub returns-in_err-carry_out_at-in-Some-clause-err : goal.returns-in_err-carry_out_at-in-Some-clause-err
returns-in_err-carry_out_at-in-Some-clause-err g c =
    on_err c.from_residual.result (part_found c.args.journal.now c.take_state-taken.new.self c.carry_out_at.new.journal c.named-service.result c.args.action.now c.in-Some.state (g.A.App.lists c.args.app.now) (g.A.App.lists c.carry_out_at.new.app)
    c.named-service.ensures (sym c.in-Some.is ∙ c.take_state-taken.ensures.state) c.take_state-taken.ensures.rest c.in_err-carry_out_at-in-Some.ensures.err)

pub returns-in_ok-carry_out_at-in-Some-clause-ok : goal.returns-in_ok-carry_out_at-in-Some-clause-ok
returns-in_ok-carry_out_at-in-Some-clause-ok g c =
    whole_found c.args.journal.now c.take_state-taken.new.self c.carry_out_at.new.journal c.named-service.result c.args.action.now c.in-Some.state (g.A.App.lists c.args.app.now) (g.A.App.lists c.carry_out_at.new.app)
    c.named-service.ensures (sym c.in-Some.is ∙ c.take_state-taken.ensures.state) c.take_state-taken.ensures.rest c.in_ok-carry_out_at-in-Some.ensures.ok

pub returns-in_err-refuse-in-None-clause-err : goal.returns-in_err-refuse-in-None-clause-err
returns-in_err-refuse-in-None-clause-err g c =
    on_err c.from_residual-in_err-refuse-in-None.result (part_unfound c.args.journal.now c.take_state-taken.new.self c.refuse.new.journal c.named-service.result c.args.action.now (g.A.App.lists c.args.app.now) (g.A.App.lists c.refuse.new.app)
    c.named-service.ensures (sym c.in-None.is ∙ c.take_state-taken.ensures.state) c.take_state-taken.ensures.rest c.in_err-refuse-in-None.ensures.err)

pub returns-in_ok-refuse-in-None-clause-ok : goal.returns-in_ok-refuse-in-None-clause-ok
returns-in_ok-refuse-in-None-clause-ok g c =
    whole_unfound c.args.journal.now c.take_state-taken.new.self c.refuse.new.journal c.named-service.result c.args.action.now (g.A.App.lists c.args.app.now) (g.A.App.lists c.refuse.new.app)
    c.named-service.ensures (sym c.in-None.is ∙ c.take_state-taken.ensures.state) c.take_state-taken.ensures.rest c.in_ok-refuse-in-None.ensures.ok
