use Rattle.std.proofs.lemmas.Result.{err_from_is_err_and}
use Rattle.sk_node.proofs.Calling.{part_answering, part_failing, whole_answered}
use Rattle.sk_node.proofs.actions.answer_all.Goals as goal

pub returns-in_err-answer_each-clause-err : goal.returns-in_err-answer_each-clause-err
returns-in_err-answer_each-clause-err g c =
    let p = err_from_is_err_and c.from_residual.result c.from_residual.ensures.1 in
    rw p.1 (part_answering c.blocks_only_add.ensures c.args.journal.now c.answer_each.new.journal (g.A.App.lists c.args.app.now) (g.A.App.lists c.answer_each.new.app) c.args.out.now.actions c.actions-actions.result.now c.args.out.now.over c.actions-actions.ensures.value c.in_err-answer_each.ensures.err)

pub returns-in_err-fail_over-clause-err : goal.returns-in_err-fail_over-clause-err
returns-in_err-fail_over-clause-err g c =
    let p = err_from_is_err_and c.from_residual-in_err-fail_over.result c.from_residual-in_err-fail_over.ensures.1 in
    rw p.1 (part_failing c.blocks_only_add.ensures c.args.journal.now c.answer_each.new.journal c.fail_over.new.journal (g.A.App.lists c.args.app.now) (g.A.App.lists c.answer_each.new.app) (g.A.App.lists c.fail_over.new.app)
    c.args.out.now.actions c.actions-actions.result.now c.args.out.now.over c.is_over-over.result c.actions-actions.ensures.value c.is_over-over.ensures c.in_ok-answer_each.ensures.ok c.in_err-fail_over.ensures.err)

pub returns-clause-ok : goal.returns-clause-ok
returns-clause-ok g c =
    whole_answered c.args.journal.now c.answer_each.new.journal c.fail_over.new.journal (g.A.App.lists c.args.app.now) (g.A.App.lists c.answer_each.new.app) (g.A.App.lists c.fail_over.new.app)
    c.args.out.now.actions c.actions-actions.result.now c.args.out.now.over c.is_over-over.result c.actions-actions.ensures.value c.is_over-over.ensures c.in_ok-answer_each.ensures.ok c.in_ok-fail_over.ensures.ok
