use Rattle.std.proofs.Common.{sym, ◌∙◌}
use Rattle.sk_node.proofs.Cuts.{on_err}
use Rattle.sk_node.proofs.Receiving.{gets_lost, gets_part}
use Rattle.sk_node.proofs.receive.get_copy.Goals as goal

pub returns-in_err-get_out_of_order-clause-err : goal.returns-in_err-get_out_of_order-clause-err
returns-in_err-get_out_of_order-clause-err g c =
    on_err c.from_residual-in_err-get_out_of_order.result
    (gets_part c.args.journal.now c.get_out_of_order.new.journal c.args.number c.args.message.now (g.A.App.lists c.args.app.now) (g.A.App.lists c.get_out_of_order.new.app)
    (sym c.comes_in_order-is_in_order.ensures ∙ c.if-is_in_order.false) c.in_err-get_out_of_order.ensures.err)

pub returns-clause-ok : goal.returns-clause-ok
returns-clause-ok g c =
    gets_lost c.args.journal.now c.get_out_of_order.new.journal c.args.number c.args.message.now (g.A.App.lists c.args.app.now) (g.A.App.lists c.get_out_of_order.new.app)
    (sym c.comes_in_order-is_in_order.ensures ∙ c.if-is_in_order.false) c.in_ok-get_out_of_order.ensures.ok
