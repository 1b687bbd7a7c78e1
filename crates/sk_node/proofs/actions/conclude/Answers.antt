use Rattle.std.proofs.Common.{◌≡◌, refl, subst}
use Rattle.sk_law.specs.Blocks.{put_some}
use Rattle.sk_law.specs.Kept.{IsCut, grown}
use Rattle.sk_node.specs.Acting.{outcome_by}
use Rattle.sk_node.proofs.Cuts.{on_err}
use Rattle.sk_node.proofs.Wholes.{part_none}
use Rattle.sk_node.proofs.Sending.{added, part_putting, part_telling}
use Rattle.sk_node.proofs.actions.conclude.Goals as goal

pub returns-in_err-sent-clause-err : goal.returns-in_err-sent-clause-err
returns-in_err-sent-clause-err g c =
    on_err c.from_residual.result (part_none refl (c.blocks_only_add.ensures.does c.args.service (outcome_by c.args.answer.now c.args.state) c.args.journal.now.past))

pub returns-in_err-add_did-clause-err : goal.returns-in_err-add_did-clause-err
returns-in_err-add_did-clause-err g c =
    on_err c.from_residual-in_err-add_did.result (part_none c.in_err-add_did.ensures.err (c.blocks_only_add.ensures.does c.args.service (outcome_by c.args.answer.now c.args.state) c.args.journal.now.past))

pub returns-in_err-put_some-clause-err : goal.returns-in_err-put_some-clause-err
returns-in_err-put_some-clause-err g c =
    on_err c.from_residual-in_err-put_some.result (part_putting c.journals_go_by_entries.ensures c.args.journal.now c.add_did.new.self c.put_some.new.journal c.args.service (outcome_by c.args.answer.now c.args.state)
    (g.A.App.lists c.args.app.now) (added c.args.journal.now c.add_did.new.self c.args.service c.args.answer.now.code c.in_ok-sent.sent c.args.answer.now.message c.args.state c.in_ok-add_did.ensures.ok c.in_ok-sent.ensures) (subst (λ l. IsCut c.add_did.new.self c.put_some.new.journal (put_some l c.args.answer.now.message c.add_did.new.self.past)) c.as_slice.ensures.value c.in_err-put_some.ensures.err) c.put_some.ensures.quiet)

pub returns-in_err-on_answer-clause-err : goal.returns-in_err-on_answer-clause-err
returns-in_err-on_answer-clause-err g c =
    on_err c.from_residual-in_err-on_answer.result (part_telling c.journals_go_by_entries.ensures c.blocks_only_add.ensures c.args.journal.now c.add_did.new.self c.put_some.new.journal c.args.service (outcome_by c.args.answer.now c.args.state)
    (g.A.App.lists c.args.app.now) (g.A.App.lists c.on_answer.new.self) (added c.args.journal.now c.add_did.new.self c.args.service c.args.answer.now.code c.in_ok-sent.sent c.args.answer.now.message c.args.state c.in_ok-add_did.ensures.ok c.in_ok-sent.ensures) (subst (λ l. c.put_some.new.journal ≡ grown (put_some l c.args.answer.now.message c.add_did.new.self.past) c.add_did.new.self) c.as_slice.ensures.value c.in_ok-put_some.ensures.ok) c.put_some.ensures.quiet c.in_err-on_answer.ensures.err)
