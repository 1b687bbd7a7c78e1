use Rattle.std.proofs.Common.{◌≡◌, ◌∙◌, ap, sym, subst, List, map, IfOk, string_bytes}
use Rattle.sk_law.specs.Script.{Step, steps_of}
use Rattle.sk_report.specs.Totals.{totals_line}
use Rattle.sk_tools.proofs.SimulateLaws.{map_of_map}
use Rattle.sk_tools.proofs.simulate.running.totals_of.Goals as goal

pub returns : goal.returns
returns c =
    let steps = map_of_map (λ journal. journal.items) steps_of c.args.run.now.journals.items
    ∙ ap (λ js. map (λ journal. steps_of journal.items) js) (sym c.deref.ensures.value) in
    subst (λ (l : List (List Step)). IfOk c.totals_text.result (λ text. string_bytes text ≡ totals_line l)) (sym steps) c.totals_text.ensures
