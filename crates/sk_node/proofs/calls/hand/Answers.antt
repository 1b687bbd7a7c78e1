use Rattle.std.proofs.Common.{IsTrue, [], ◌∷◌, ◌∙◌, ap, refl, subst}
use Rattle.std.proofs.lemmas.Result.{err_from_is_err_and}
use Rattle.sk_law.specs.declared.made.Call.TheVariants as calls
use Rattle.sk_law.specs.Outbox.{Outbox, are_filled}
use Rattle.sk_law.specs.declared.made.Heard.TheVariants as hearings
use Rattle.sk_law.specs.Kept.{Kept}
use Rattle.sk_node.proofs.Cuts.{on_err}
use Rattle.sk_node.proofs.Calling.{uncalled, cut_calling, cut_receiving, cut_answering, call_is, tells_hand, handed_is}
use Rattle.sk_node.proofs.calls.hand.Goals as goal

pub returns-in_err-out-clause-err : goal.returns-in_err-out-clause-err
returns-in_err-out-clause-err g c =
    let p = err_from_is_err_and c.from_residual.result c.from_residual.ensures.1 in
    rw p.1 (uncalled c.blocks_only_add.ensures c.args.journal.now c.args.journal.now (calls.Message c.args.peer c.args.place c.args.service c.args.message.now) (g.A.App.lists c.args.app.now) refl)

pub returns-in_err-add_plain-clause-err : goal.returns-in_err-add_plain-clause-err
returns-in_err-add_plain-clause-err g c =
    let p = err_from_is_err_and c.from_residual-in_err-add_plain.result c.from_residual-in_err-add_plain.ensures.1 in
    rw p.1 (uncalled c.blocks_only_add.ensures c.args.journal.now c.add_plain.new.self (calls.Message c.args.peer c.args.place c.args.service c.args.message.now) (g.A.App.lists c.args.app.now) c.in_err-add_plain.ensures.err)

pub returns-in_err-receive-clause-err : goal.returns-in_err-receive-clause-err
returns-in_err-receive-clause-err g c =
    on_err c.from_residual-in_err-receive.result
    (cut_receiving c.journals_go_by_entries.ensures c.blocks_only_add.ensures c.args.journal.now c.receive.new.self c.args.peer c.args.place c.args.service c.args.message.now (g.A.App.lists c.args.app.now) c.requires.there
    (c.in_err-receive.ensures.err ∙ c.in_ok-add_plain.ensures.ok))

pub returns-in_err-on_message-clause-err : goal.returns-in_err-on_message-clause-err
returns-in_err-on_message-clause-err g c =
    let p = err_from_is_err_and c.from_residual-in_err-on_message.result c.from_residual-in_err-on_message.ensures.1 in
    let filled = subst (λ (f : Outbox). IsTrue (are_filled f.actions f.over)) c.out-2.view_is c.out-2.invariant.0 in
    let old = c.args.journal.now in let handed = c.receive.new.self in
    let is = handed_is old c.add_plain.new.self handed c.args.peer c.args.place c.args.service c.args.message.now c.in_ok-add_plain.ensures.ok c.in_ok-receive.ensures.ok in let call = calls.Message c.args.peer c.args.place c.args.service c.args.message.now in
    let was = g.A.App.lists c.args.app.now in let now = g.A.App.lists c.on_message.new.self in let out = c.on_message.new.out in
    rw p.1 (cut_calling c.blocks_only_add.ensures old handed call out (hearings.Message c.args.peer c.args.place c.args.service c.args.message.now ∷ []) was now filled is
    (tells_hand c.journals_go_by_entries.ensures old handed c.args.peer c.args.place c.args.service c.args.message.now c.requires.there (ap (λ (x : Kept). x.past.journal) is)) c.in_err-on_message.ensures.err)

pub returns-in_err-answer_all-clause-err : goal.returns-in_err-answer_all-clause-err
returns-in_err-answer_all-clause-err g c =
    let p = err_from_is_err_and c.from_residual-in_err-answer_all.result c.from_residual-in_err-answer_all.ensures.1 in
    let filled = subst (λ (f : Outbox). IsTrue (are_filled f.actions f.over)) c.out-2.view_is c.out-2.invariant.0 in
    let old = c.args.journal.now in let handed = c.receive.new.self in
    let is = handed_is old c.add_plain.new.self handed c.args.peer c.args.place c.args.service c.args.message.now c.in_ok-add_plain.ensures.ok c.in_ok-receive.ensures.ok in let call = calls.Message c.args.peer c.args.place c.args.service c.args.message.now in
    let was = g.A.App.lists c.args.app.now in let mid = g.A.App.lists c.on_message.new.self in let out = c.on_message.new.out in
    rw p.1 (cut_answering c.blocks_only_add.ensures old handed c.answer_all.new.journal call out (hearings.Message c.args.peer c.args.place c.args.service c.args.message.now ∷ []) was mid (g.A.App.lists c.answer_all.new.app) filled is
    (tells_hand c.journals_go_by_entries.ensures old handed c.args.peer c.args.place c.args.service c.args.message.now c.requires.there (ap (λ (x : Kept). x.past.journal) is)) c.in_ok-on_message.ensures.ok c.in_err-answer_all.ensures.err)

pub returns-clause-ok : goal.returns-clause-ok
returns-clause-ok g c =
    let filled = subst (λ (f : Outbox). IsTrue (are_filled f.actions f.over)) c.out-2.view_is c.out-2.invariant.0 in
    let old = c.args.journal.now in let handed = c.receive.new.self in
    let is = handed_is old c.add_plain.new.self handed c.args.peer c.args.place c.args.service c.args.message.now c.in_ok-add_plain.ensures.ok c.in_ok-receive.ensures.ok in let call = calls.Message c.args.peer c.args.place c.args.service c.args.message.now in
    let was = g.A.App.lists c.args.app.now in let mid = g.A.App.lists c.on_message.new.self in let out = c.on_message.new.out in
    call_is old handed c.answer_all.new.journal call out (hearings.Message c.args.peer c.args.place c.args.service c.args.message.now ∷ []) was mid (g.A.App.lists c.answer_all.new.app) filled is
    (tells_hand c.journals_go_by_entries.ensures old handed c.args.peer c.args.place c.args.service c.args.message.now c.requires.there (ap (λ (x : Kept). x.past.journal) is)) c.in_ok-on_message.ensures.ok c.in_ok-answer_all.ensures.ok
