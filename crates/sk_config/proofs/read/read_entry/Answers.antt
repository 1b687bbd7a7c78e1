use Rattle.std.proofs.Common.{◌≡◌, ap, ◌∙◌}
use Rattle.std.proofs.lemmas.Result.{err_from_is_err_and}
use Rattle.sk_config.specs.Keys.{row_of}
use Rattle.sk_config.proofs.ReadLaws.{entry_refuses_object, entry_refuses_name, entry_refuses_target, entry_refuses_history, entry_fine, entry_is, next_entry}
use Rattle.sk_config.proofs.read.read_entry.Goals as goal

pub returns-in_err-enter-clause-value : goal.returns-in_err-enter-clause-value
returns-in_err-enter-clause-value c =
    let p = err_from_is_err_and c.from_residual.result c.from_residual.ensures.1 in
    rw (p.1, p.2) (entry_refuses_object _ _ _ _ _ c.in_err-enter.ensures)

pub returns-in_err-name-clause-value : goal.returns-in_err-name-clause-value
returns-in_err-name-clause-value c =
    let r = c.from_residual-in_err-name in
    let p = err_from_is_err_and r.result r.ensures.1 in
    rw (p.1, p.2) (entry_refuses_name _ _ _ _ _ c.in_ok-enter.ensures.0 c.in_err-name.ensures.value)

pub returns-in_err-name_at-clause-value : goal.returns-in_err-name_at-clause-value
returns-in_err-name_at-clause-value c =
    let r = c.from_residual-in_err-name_at in
    let p = err_from_is_err_and r.result r.ensures.1 in
    let key : c.target.result.now ≡ (row_of c.args.kind).target = c.target.ensures ∙ ap (λ row. row.target) c.of.ensures in
    rw (p.1, p.2) (entry_refuses_target _ _ _ _ _ _ key c.in_ok-enter.ensures.0 c.in_ok-name.ensures.value.0 c.in_err-name_at.ensures.value)

pub returns-in_err-history_at-clause-value : goal.returns-in_err-history_at-clause-value
returns-in_err-history_at-clause-value c =
    let r = c.from_residual-in_err-history_at in
    let p = err_from_is_err_and r.result r.ensures.1 in
    let key : c.target.result.now ≡ (row_of c.args.kind).target = c.target.ensures ∙ ap (λ row. row.target) c.of.ensures in
    rw (p.1, p.2) (entry_refuses_history _ _ _ _ _ _ key c.in_ok-enter.ensures.0 c.in_ok-name.ensures.value.0 c.in_ok-name_at.ensures.value.0 c.in_err-history_at.ensures.value)

pub returns-clause-value : goal.returns-clause-value
returns-clause-value c =
    let key : c.target.result.now ≡ (row_of c.args.kind).target = c.target.ensures ∙ ap (λ row. row.target) c.of.ensures in
    let name = c.in_ok-name.ensures.value in
    let target = c.in_ok-name_at.ensures.value in
    let history = c.in_ok-history_at.ensures.value in
    (entry_fine _ _ _ _ _ key c.in_ok-enter.ensures.0 name.0 target.0 history.0, entry_is _ _ _ _ _ _ key name.1 target.1 history.1)

pub returns-clause-rules : goal.returns-clause-rules
returns-clause-rules c =
    next_entry _ _ _ c.in_ok-name.ensures.rules.0 c.in_ok-name.ensures.rules.1 c.in_ok-name_at.ensures.rules c.in_ok-history_at.ensures.rules
