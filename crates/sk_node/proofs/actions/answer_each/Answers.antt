use Rattle.std.proofs.Common.{refl, ◌∙◌}
use Rattle.std.proofs.lemmas.Result.{err_from_is_err_and}
use Rattle.sk_node.proofs.Calling.{part_answers, whole_more}
use Rattle.sk_node.proofs.Wholes.{whole_same}
use Rattle.sk_node.proofs.actions.answer_each.Goals as goal

pub loop-action-init : goal.loop-action-init
loop-action-init g c = record { whole = whole_same c.args.journal.now (g.A.App.lists c.args.app.now); origin = refl }

pub returns-in_err-answer-clause-err : goal.returns-in_err-answer-clause-err
returns-in_err-answer-clause-err g c =
    let p = err_from_is_err_and c.from_residual.result c.from_residual.ensures.1 in
    rw p.1 (part_answers c.blocks_only_add.ensures c.args.journal.now c.loop-action.journal c.answer.new.journal (g.A.App.lists c.args.app.now) (g.A.App.lists c.loop-action.app) (g.A.App.lists c.answer.new.app)
    c.loop-action.action-index c.args.actions.now c.action-item.result c.loop-action-test.true c.action-item.is c.loop-action.invariant.whole c.in_err-answer.ensures.err)

pub loop-action-preserved : goal.loop-action-preserved
loop-action-preserved g c = record {
  whole = whole_more c.args.journal.now c.loop-action.journal c.answer.new.journal (g.A.App.lists c.args.app.now) (g.A.App.lists c.loop-action.app) (g.A.App.lists c.answer.new.app)
      c.loop-action.action-index c.args.actions.now c.action-item.result c.loop-action-test.true c.action-item.is c.loop-action.invariant.whole c.in_ok-answer.ensures.ok;
  origin = c.answer.ensures.origin ∙ c.loop-action.invariant.origin;
}
