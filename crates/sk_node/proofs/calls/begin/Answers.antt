use Rattle.std.proofs.Common.{IsTrue, [], refl, subst}
use Rattle.std.proofs.lemmas.Result.{err_from_is_err_and}
use Rattle.sk_law.specs.declared.made.Call.TheVariants as calls
use Rattle.sk_law.specs.Outbox.{Outbox, are_filled}
use Rattle.sk_node.specs.Calls.{item}
use Rattle.sk_node.proofs.Calling.{uncalled, cut_calling, cut_answering, call_is, no_more, maybe_no_more, tells_begin}
use Rattle.sk_node.proofs.calls.begin.Goals as goal

pub returns-in_err-out-clause-err : goal.returns-in_err-out-clause-err
returns-in_err-out-clause-err g c =
    let p = err_from_is_err_and c.from_residual.result c.from_residual.ensures.1 in
    rw p.1 (uncalled c.blocks_only_add.ensures c.args.journal.now c.args.journal.now (calls.Step c.args.number c.args.at) (g.A.App.lists c.args.app.now) refl)

pub returns-in_err-add_begin-clause-err : goal.returns-in_err-add_begin-clause-err
returns-in_err-add_begin-clause-err g c =
    let p = err_from_is_err_and c.from_residual-in_err-add_begin.result c.from_residual-in_err-add_begin.ensures.1 in
    rw p.1 (uncalled c.blocks_only_add.ensures c.args.journal.now c.add_begin.new.self (calls.Step c.args.number c.args.at) (g.A.App.lists c.args.app.now) c.in_err-add_begin.ensures.err)

pub returns-in_err-on_step-clause-err : goal.returns-in_err-on_step-clause-err
returns-in_err-on_step-clause-err g c =
    let p = err_from_is_err_and c.from_residual-in_err-on_step.result c.from_residual-in_err-on_step.ensures.1 in
    let filled = subst (λ (f : Outbox). IsTrue (are_filled f.actions f.over)) c.out-2.view_is c.out-2.invariant.0 in
    let old = c.args.journal.now in let begun = c.add_begin.new.self in let call = calls.Step c.args.number c.args.at in
    let was = g.A.App.lists c.args.app.now in let now = g.A.App.lists c.on_step.new.self in let out = c.on_step.new.out in
    rw p.1 (cut_calling c.blocks_only_add.ensures old begun call out [] was now filled c.in_ok-add_begin.ensures.ok
    (tells_begin c.journals_go_by_entries.ensures old begun c.args.number c.args.at c.in_ok-add_begin.ensures.ok) (maybe_no_more was now (item call out) c.in_err-on_step.ensures.err))

pub returns-in_err-answer_all-clause-err : goal.returns-in_err-answer_all-clause-err
returns-in_err-answer_all-clause-err g c =
    let p = err_from_is_err_and c.from_residual-in_err-answer_all.result c.from_residual-in_err-answer_all.ensures.1 in
    let filled = subst (λ (f : Outbox). IsTrue (are_filled f.actions f.over)) c.out-2.view_is c.out-2.invariant.0 in
    let old = c.args.journal.now in let begun = c.add_begin.new.self in let call = calls.Step c.args.number c.args.at in
    let was = g.A.App.lists c.args.app.now in let mid = g.A.App.lists c.on_step.new.self in let out = c.on_step.new.out in
    rw p.1 (cut_answering c.blocks_only_add.ensures old begun c.answer_all.new.journal call out [] was mid (g.A.App.lists c.answer_all.new.app) filled c.in_ok-add_begin.ensures.ok
    (tells_begin c.journals_go_by_entries.ensures old begun c.args.number c.args.at c.in_ok-add_begin.ensures.ok) (no_more was mid (item call out) c.in_ok-on_step.ensures.ok) c.in_err-answer_all.ensures.err)

pub returns-clause-ok : goal.returns-clause-ok
returns-clause-ok g c =
    let filled = subst (λ (f : Outbox). IsTrue (are_filled f.actions f.over)) c.out-2.view_is c.out-2.invariant.0 in
    let old = c.args.journal.now in let begun = c.add_begin.new.self in let call = calls.Step c.args.number c.args.at in
    let was = g.A.App.lists c.args.app.now in let mid = g.A.App.lists c.on_step.new.self in let out = c.on_step.new.out in
    call_is old begun c.answer_all.new.journal call out [] was mid (g.A.App.lists c.answer_all.new.app) filled c.in_ok-add_begin.ensures.ok
    (tells_begin c.journals_go_by_entries.ensures old begun c.args.number c.args.at c.in_ok-add_begin.ensures.ok) (no_more was mid (item call out) c.in_ok-on_step.ensures.ok) c.in_ok-answer_all.ensures.ok
