use Rattle.std.proofs.Common.{◌≡◌, ap, sym, ◌∙◌}
use Rattle.std.proofs.lemmas.Result.{IfOk-weaker, err_from_is_err_and}
use Rattle.sk_config.specs.Keys.{row_of}
use Rattle.sk_config.proofs.ReadLaws.{no_entries, some_entries, list_refuses, few_at}
use Rattle.sk_config.proofs.read.read_list.Goals as goal

pub returns-in_err-items-clause-value : goal.returns-in_err-items-clause-value
returns-in_err-items-clause-value c =
    let r = c.from_residual in
    let p = err_from_is_err_and r.result r.ensures.1 in
    let key : c.list-list.result.now ≡ (row_of c.args.kind).list = c.list-list.ensures ∙ ap (λ row. row.list) c.of.ensures in
    rw (p.1, p.2) (list_refuses _ _ _ _ key _ c.in_err-items.ensures)

pub returns-in_default-clause-rules : goal.returns-in_default-clause-rules
returns-in_default-clause-rules c = no_entries _ _ c.new.ensures.items

pub returns-clause-rules : goal.returns-clause-rules
returns-clause-rules c =
    let there = rw c.in-Some.is at c.in_ok-items.ensures.1 in
    let few = few_at _ _ _ _ c.in_ok-items.ensures.0 (sym there) in
    IfOk-weaker c.read_entries.result _ _ (λ entries h. some_entries _ _ _ few h) c.read_entries.ensures.rules
