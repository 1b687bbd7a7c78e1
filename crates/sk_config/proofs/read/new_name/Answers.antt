use Rattle.std.proofs.Common.{sym, ◌∙◌}
use Rattle.std.proofs.lemmas.Result.{err_from_is_err_and}
use Rattle.sk_config.proofs.ReadLaws.{name_refuses, fine_name}
use Rattle.sk_config.proofs.read.new_name.Goals as goal

pub returns-in_err-name-clause-value : goal.returns-in_err-name-clause-value
returns-in_err-name-clause-value c =
    let p = err_from_is_err_and c.from_residual.result c.from_residual.ensures.1 in
    rw (p.1, p.2) (name_refuses _ _ _ _ c.in_err-name.ensures.value)

pub returns-clause-value : goal.returns-clause-value
returns-clause-value c =
    let read = c.in_ok-name.ensures.value in
    fine_name _ _ _ _ read.0 (sym read.1 ∙ c.in-Some.is) (sym c.is_new.ensures ∙ c.if-not-is_new.false)
