use Rattle.std.proofs.Common.{◌≡◌, ◌∙◌, ap, ap₂, sym, subst, List, map, IfOk, string_bytes}
use Rattle.sk_law.specs.Script.{Step, steps_of}
use Rattle.sk_report.specs.Report.{report}
use Rattle.sk_tools.specs.Running.{names_shown}
use Rattle.sk_tools.proofs.SimulateLaws.{map_of_map}
use Rattle.sk_tools.proofs.simulate.running.report_of.Goals as goal

pub returns : goal.returns
returns c =
    let steps = map_of_map (λ journal. journal.items) steps_of c.args.run.now.journals.items
    ∙ ap (λ js. map (λ journal. steps_of journal.items) js) (sym c.deref-2.ensures.value) in
    let names = c.deref.ensures.value ∙ c.in_ok-names.ensures ∙ ap names_shown c.participants.ensures.value in
    subst (λ t. IfOk c.report_text.result (λ text. string_bytes text ≡ t)) (ap₂ report names (sym steps)) c.report_text.ensures
