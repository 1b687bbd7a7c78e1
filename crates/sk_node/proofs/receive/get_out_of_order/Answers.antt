use Rattle.std.proofs.Common.{refl}
use Rattle.sk_node.proofs.Cuts.{on_err}
use Rattle.sk_node.proofs.Receiving.{open_within, got_nothing, whole_lose, part_lose}
use Rattle.sk_node.proofs.receive.get_out_of_order.Goals as goal

pub add_got-requires : goal.add_got-requires
add_got-requires g c = open_within c.args.journal.now.setup c.args.journal.now.past c.args.number c.requires.linked

pub returns-in_err-kept-clause-err : goal.returns-in_err-kept-clause-err
returns-in_err-kept-clause-err g c =
    on_err c.from_residual.result (got_nothing c.blocks_only_add.ensures c.args.journal.now c.args.journal.now c.args.number c.args.message.now (g.A.App.lists c.args.app.now) refl)

pub returns-in_err-add_got-clause-err : goal.returns-in_err-add_got-clause-err
returns-in_err-add_got-clause-err g c =
    on_err c.from_residual-in_err-add_got.result (got_nothing c.blocks_only_add.ensures c.args.journal.now c.add_got.new.self c.args.number c.args.message.now (g.A.App.lists c.args.app.now) c.in_err-add_got.ensures.err)

pub returns-in_err-lose-clause-err : goal.returns-in_err-lose-clause-err
returns-in_err-lose-clause-err g c =
    on_err c.from_residual-in_err-lose.result
    (part_lose c.journals_go_by_entries.ensures c.args.journal.now c.add_got.new.self c.lose.new.journal c.args.number c.args.message.now c.in_ok-kept.kept (g.A.App.lists c.args.app.now) (g.A.App.lists c.lose.new.app)
    c.in_ok-kept.ensures c.requires.order c.in_ok-add_got.ensures.ok c.in_err-lose.ensures.err)

pub returns-clause-ok : goal.returns-clause-ok
returns-clause-ok g c =
    whole_lose c.journals_go_by_entries.ensures c.args.journal.now c.add_got.new.self c.lose.new.journal c.args.number c.args.message.now c.in_ok-kept.kept (g.A.App.lists c.args.app.now) (g.A.App.lists c.lose.new.app)
    c.in_ok-kept.ensures c.requires.order c.in_ok-add_got.ensures.ok c.in_ok-lose.ensures.ok
