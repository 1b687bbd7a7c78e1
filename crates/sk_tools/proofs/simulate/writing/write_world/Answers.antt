use Rattle.std.proofs.Common.{◌++◌, ◌∙◌, ap, sym, drop, map, ◌+◌}
use Rattle.std.proofs.lemmas.Result.{err_from_is_err_and}
use Rattle.sk_text.specs.Lines.{journal_lines, journals_lines}
use Rattle.sk_tools.proofs.PieceLaws.{going_next, going_cut, going_stop, going_sent, journals_next}
use Rattle.sk_tools.proofs.simulate.writing.write_world.Goals as goal

pub returns-in_err-write_journal-clause-written : goal.returns-in_err-write_journal-clause-written
returns-in_err-write_journal-clause-written g c = λ told.
    let p = err_from_is_err_and c.from_residual-in_err-write_journal.result c.from_residual-in_err-write_journal.ensures.1 in
    let next =
    journals_next (λ journal. journal.items) c.args.journals.now c.loop-number.number c.index-journals-number.result c.loop-number-test.true c.index-journals-number.is
    ∙ ap (λ entries. journal_lines c.loop-number.number entries ++ journals_lines (c.loop-number.number + 1) (map (λ journal. journal.items) (drop (c.loop-number.number + 1) c.args.journals.now)))
    (sym c.deref.ensures.value) in
    rw p.1 (going_cut _ _ _ _ _ _ _ _ next (c.loop-number.invariant.written told) (c.in_err-write_journal.ensures.written (c.loop-number.invariant.tells ∙ told)))

pub loop-number-preserved : goal.loop-number-preserved
loop-number-preserved g c =
    let next =
    journals_next (λ journal. journal.items) c.args.journals.now c.loop-number.number c.index-journals-number.result c.loop-number-test.true c.index-journals-number.is
    ∙ ap (λ entries. journal_lines c.loop-number.number entries ++ journals_lines (c.loop-number.number + 1) (map (λ journal. journal.items) (drop (c.loop-number.number + 1) c.args.journals.now)))
    (sym c.deref.ensures.value) in
    record {
      faults = c.in_ok-write_journal.ensures.steady ∙ c.loop-number.invariant.faults;
      tells = c.write_journal.ensures.tells ∙ c.loop-number.invariant.tells;
      written = λ told. going_next _ _ _ _ _ _ _ _ _ next (c.loop-number.invariant.written told) (c.in_ok-write_journal.ensures.written (c.loop-number.invariant.tells ∙ told));
    }

pub returns-in_err-send-clause-written : goal.returns-in_err-send-clause-written
returns-in_err-send-clause-written g c = λ told.
    let p = err_from_is_err_and c.from_residual-in_err-send.result c.from_residual-in_err-send.ensures.1 in
    rw p.1 (going_stop _ _ _ _ _ _ (c.loop-number.invariant.written told) (c.in_err-send.ensures.written (c.loop-number.invariant.tells ∙ told)))

pub returns-in_err-flush-clause-written : goal.returns-in_err-flush-clause-written
returns-in_err-flush-clause-written g c = λ told.
    let p = err_from_is_err_and c.from_residual-in_err-flush.result c.from_residual-in_err-flush.ensures.1 in
    let sent = c.in_ok-send.ensures.written (c.loop-number.invariant.tells ∙ told) in
    rw p.1 (going_sent _ _ _ _ _ _ (c.loop-number.invariant.written told)
    (c.flush.ensures.written (c.send.ensures.tells ∙ c.loop-number.invariant.tells ∙ told) ∙ sent))
