use Rattle.std.proofs.Common.{refl}
use Rattle.std.proofs.lemmas.Result.{err_from_is_err_and}
use Rattle.std.specs.Prelude.{unwrap_or}
use Rattle.sk_law.specs.declared.made.Call.TheVariants as calls
use Rattle.sk_law.specs.Readings.{next_number, next_time}
use Rattle.sk_node.proofs.Stepping.{early_step, same_call, stepped, cut_stepping, cut_ending}
use Rattle.sk_node.proofs.steps.take_step.Goals as goal

pub begin-requires : goal.begin-requires
begin-requires g c = record {
  small = c.next_number-number.ensures.small;
  early = early_step c.args.journal.now.setup c.args.journal.now.past c.limit-limit.result c.next_time-at.result c.requires.row c.limit-limit.ensures.value c.limit-limit.ensures.early c.next_time-at.ensures;
}

pub returns-in_err-begin-clause-err : goal.returns-in_err-begin-clause-err
returns-in_err-begin-clause-err g c =
    let p = err_from_is_err_and c.from_residual.result c.from_residual.ensures.1 in
    let J = c.args.journal.now.past.journal in let n = c.next_number-number.result in let t = c.next_time-at.result in
    let m = next_number J in let s = next_time (unwrap_or c.args.journal.now.setup.step 0) J in
    rw p.1 (cut_stepping c.blocks_only_add.ensures c.args.journal.now c.begin.new.journal (calls.Step n t) (calls.Step m s) (g.A.App.lists c.args.app.now) (g.A.App.lists c.begin.new.app)
    (same_call n m t s c.next_number-number.ensures.value c.next_time-at.ensures) c.in_err-begin.ensures.err)

pub returns-in_err-end_blocking-clause-err : goal.returns-in_err-end_blocking-clause-err
returns-in_err-end_blocking-clause-err g c =
    let p = err_from_is_err_and c.from_residual-in_err-end_blocking.result c.from_residual-in_err-end_blocking.ensures.1 in
    let J = c.args.journal.now.past.journal in let n = c.next_number-number.result in let t = c.next_time-at.result in
    let m = next_number J in let s = next_time (unwrap_or c.args.journal.now.setup.step 0) J in
    rw p.1 (cut_ending c.blocks_only_add.ensures c.args.journal.now c.begin.new.journal c.end_blocking.new.journal (calls.Step n t) (calls.Step m s)
    (g.A.App.lists c.args.app.now) (g.A.App.lists c.begin.new.app) (g.A.App.lists c.begin.new.app)
    (same_call n m t s c.next_number-number.ensures.value c.next_time-at.ensures) c.in_ok-begin.ensures.ok refl c.in_err-end_blocking.ensures.err c.end_blocking.ensures.quiet)

pub returns-clause-ok : goal.returns-clause-ok
returns-clause-ok g c =
    let J = c.args.journal.now.past.journal in let n = c.next_number-number.result in let t = c.next_time-at.result in
    let m = next_number J in let s = next_time (unwrap_or c.args.journal.now.setup.step 0) J in
    stepped c.args.journal.now c.begin.new.journal c.end_blocking.new.journal (calls.Step n t) (calls.Step m s)
    (g.A.App.lists c.args.app.now) (g.A.App.lists c.begin.new.app) (g.A.App.lists c.begin.new.app)
    (same_call n m t s c.next_number-number.ensures.value c.next_time-at.ensures) c.in_ok-begin.ensures.ok refl c.in_ok-end_blocking.ensures.ok c.end_blocking.ensures.quiet
