use Rattle.std.proofs.lemmas.Result.{err_from_is_err_and}
use Rattle.sk_config.proofs.ReadLaws.{read_more, read_refused}
use Rattle.sk_config.proofs.read.read_entries.Goals as goal

pub returns-in_err-entry-clause-value : goal.returns-in_err-entry-clause-value
returns-in_err-entry-clause-value c =
    let r = c.from_residual-in_err-entry in
    let p = err_from_is_err_and r.result r.ensures.1 in
    let refused = rw c.deref.ensures.value at c.in_err-entry.ensures.value in
    rw (p.1, p.2) (read_refused _ _ _ _ _ _ _ _ _ _ c.loop-index-test.true c.index-items-index.is c.in_ok-place.ensures c.loop-index.invariant refused)

pub loop-index-preserved : goal.loop-index-preserved
loop-index-preserved c =
    let read = rw c.deref.ensures.value at c.in_ok-entry.ensures.value in
    let rules = rw c.deref.ensures.value at c.in_ok-entry.ensures.rules in
    rw (c.in_ok-push.ensures.items, c.in_ok-entry.ensures.noted)
    (read_more _ _ _ _ _ _ _ _ _ _ c.loop-index-test.true c.index-items-index.is c.in_ok-place.ensures c.loop-index.invariant read rules)
