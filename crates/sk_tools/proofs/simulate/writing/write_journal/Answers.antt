use Rattle.std.proofs.Common.{◌∙◌}
use Rattle.std.proofs.lemmas.Result.{err_from_is_err_and}
use Rattle.sk_tools.proofs.PieceLaws.{going_next, going_cut, entries_next}
use Rattle.sk_tools.proofs.simulate.writing.write_journal.Goals as goal

pub returns-in_err-write_entry-clause-written : goal.returns-in_err-write_entry-clause-written
returns-in_err-write_entry-clause-written g c = λ told.
    let p = err_from_is_err_and c.from_residual-in_err-write_entry.result c.from_residual-in_err-write_entry.ensures.1 in
    rw p.1 (going_cut _ _ _ _ _ _ _ _ (entries_next c.args.journal.now c.loop-entry.entry-index c.entry-item.result c.loop-entry-test.true c.entry-item.is)
    (c.loop-entry.invariant.written told) (c.in_err-write_entry.ensures.written (c.loop-entry.invariant.tells ∙ told)))

pub loop-entry-preserved : goal.loop-entry-preserved
loop-entry-preserved g c = record {
  faults = c.in_ok-write_entry.ensures.steady ∙ c.loop-entry.invariant.faults;
  tells = c.write_entry.ensures.tells ∙ c.loop-entry.invariant.tells;
  written = λ told.
      going_next _ _ _ _ _ _ _ _ _ (entries_next c.args.journal.now c.loop-entry.entry-index c.entry-item.result c.loop-entry-test.true c.entry-item.is)
      (c.loop-entry.invariant.written told) (c.in_ok-write_entry.ensures.written (c.loop-entry.invariant.tells ∙ told));
}
