use Rattle.std.proofs.lemmas.Result.{err_from_is_err_and}
use Rattle.sk_config.proofs.ReadLaws.{reading_refused}
use Rattle.sk_config.proofs.read.read_value.Goals as goal

pub returns-in_err-config-clause-refused : goal.returns-in_err-config-clause-refused
returns-in_err-config-clause-refused c =
    let p = err_from_is_err_and c.from_residual.result c.from_residual.ensures.1 in
    rw (p.1, p.2) (reading_refused _ _ _ c.in_err-config.ensures.value)
