use Rattle.std.proofs.Common.{IsTrue, [], refl, subst}
use Rattle.std.proofs.lemmas.Result.{err_from_is_err_and}
use Rattle.sk_law.specs.declared.made.Call.TheVariants as calls
use Rattle.sk_law.specs.Outbox.{Outbox, are_filled}
use Rattle.sk_node.specs.Calls.{item}
use Rattle.sk_node.proofs.Calling.{uncalled, cut_calling, cut_answering, call_is, no_more, maybe_no_more, tells_ready}
use Rattle.sk_node.proofs.calls.ready.Goals as goal

pub returns-in_err-out-clause-err : goal.returns-in_err-out-clause-err
returns-in_err-out-clause-err g c =
    let p = err_from_is_err_and c.from_residual.result c.from_residual.ensures.1 in
    rw p.1 (uncalled c.blocks_only_add.ensures c.args.journal.now c.args.journal.now calls.Ready (g.A.App.lists c.args.app.now) refl)

pub returns-in_err-on_ready-clause-err : goal.returns-in_err-on_ready-clause-err
returns-in_err-on_ready-clause-err g c =
    let p = err_from_is_err_and c.from_residual-in_err-on_ready.result c.from_residual-in_err-on_ready.ensures.1 in
    let filled = subst (λ (f : Outbox). IsTrue (are_filled f.actions f.over)) c.out.view_is c.out.invariant.0 in
    let was = g.A.App.lists c.args.app.now in let now = g.A.App.lists c.on_ready.new.self in let out = c.on_ready.new.out in
    rw p.1 (cut_calling c.blocks_only_add.ensures c.args.journal.now c.set_called.new.self calls.Ready out [] was now filled c.set_called.ensures
    (tells_ready c.args.journal.now c.set_called.new.self c.set_called.ensures) (maybe_no_more was now (item calls.Ready out) c.in_err-on_ready.ensures.err))

pub returns-in_err-answer_all-clause-err : goal.returns-in_err-answer_all-clause-err
returns-in_err-answer_all-clause-err g c =
    let p = err_from_is_err_and c.from_residual-in_err-answer_all.result c.from_residual-in_err-answer_all.ensures.1 in
    let filled = subst (λ (f : Outbox). IsTrue (are_filled f.actions f.over)) c.out.view_is c.out.invariant.0 in
    let was = g.A.App.lists c.args.app.now in let mid = g.A.App.lists c.on_ready.new.self in let out = c.on_ready.new.out in
    rw p.1 (cut_answering c.blocks_only_add.ensures c.args.journal.now c.set_called.new.self c.answer_all.new.journal calls.Ready out [] was mid (g.A.App.lists c.answer_all.new.app) filled c.set_called.ensures
    (tells_ready c.args.journal.now c.set_called.new.self c.set_called.ensures) (no_more was mid (item calls.Ready out) c.in_ok-on_ready.ensures.ok) c.in_err-answer_all.ensures.err)

pub returns-clause-ok : goal.returns-clause-ok
returns-clause-ok g c =
    let filled = subst (λ (f : Outbox). IsTrue (are_filled f.actions f.over)) c.out.view_is c.out.invariant.0 in
    let was = g.A.App.lists c.args.app.now in let mid = g.A.App.lists c.on_ready.new.self in let out = c.on_ready.new.out in
    call_is c.args.journal.now c.set_called.new.self c.answer_all.new.journal calls.Ready out [] was mid (g.A.App.lists c.answer_all.new.app) filled c.set_called.ensures
    (tells_ready c.args.journal.now c.set_called.new.self c.set_called.ensures) (no_more was mid (item calls.Ready out) c.in_ok-on_ready.ensures.ok) c.in_ok-answer_all.ensures.ok
