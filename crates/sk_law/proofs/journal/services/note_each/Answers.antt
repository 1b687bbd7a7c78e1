use Rattle.std.proofs.Common.{◌∙◌, take}
use Rattle.sk_law.proofs.Hearing.{on_err}
use Rattle.sk_law.proofs.Serving.{are-all, calls-kept}
use Rattle.sk_law.proofs.journal.services.note_each.Goals as goal

pub returns-in_err-copy-clause-some : goal.returns-in_err-copy-clause-some
returns-in_err-copy-clause-some c = on_err c.from_residual.result
    (calls-kept c.args.peer c.args.service c.args.response.now (take c.loop-number.number-index c.args.numbers.now) c.args.services.now _ c.loop-number.invariant)

pub returns-in_err-note-clause-some : goal.returns-in_err-note-clause-some
returns-in_err-note-clause-some c = on_err c.from_residual-in_err-note.result
    (calls-kept c.args.peer c.args.service c.args.response.now (take c.loop-number.number-index c.args.numbers.now) c.args.services.now _ (c.in_err-note.ensures.err ∙ c.loop-number.invariant))

pub returns-in_err-copy-clause-called : goal.returns-in_err-copy-clause-called
returns-in_err-copy-clause-called c = on_err c.from_residual.result
    (are-all c.args.peer c.args.service c.args.response.now (take c.loop-number.number-index c.args.numbers.now) c.args.services.now _ c.loop-number.invariant)

pub returns-in_err-note-clause-called : goal.returns-in_err-note-clause-called
returns-in_err-note-clause-called c = on_err c.from_residual-in_err-note.result
    (are-all c.args.peer c.args.service c.args.response.now (take c.loop-number.number-index c.args.numbers.now) c.args.services.now _ (c.in_err-note.ensures.err ∙ c.loop-number.invariant))
