use Rattle.std.proofs.Common.{◌≡◌, ◌∙◌, ap, ap₂, sym, subst, arith, List, ◌++◌, get_or, string_bytes, Vec, Global}
use Rattle.std.proofs.lemmas.Option.{unwrap_or-slice_get}
use Rattle.sk_msg.specs.declared.entry.Entry.{Entry}
use Rattle.sk_law.specs.Script.{Step, steps_of}
use Rattle.sk_report.specs.Lines.{steps_lines}
use Rattle.sk_report.specs.Names.{no_names, names_at}
use Rattle.sk_report.specs.Totals.{CountSteps}
use Rattle.sk_report.proofs.Telling.{journal_more, text_more, behind}
use Rattle.sk_report.proofs.report.report_text.Goals as goal

abbrev steps_in : Vec Entry Global → List Step
steps_in journal = steps_of journal.items

pub loop-number-preserved : goal.loop-number-preserved
loop-number-preserved c =
    let parts = c.args.participants.now in
    let journals = c.args.journals.now in
    let i = c.loop-number.number in
    let journal = c.index-journals-number.result in
    let names = c.unwrap_or-names.result.now in
    let h = c.loop-number.invariant in
    let named : names ≡ names_at parts i =
    ap (λ r. r.now) c.unwrap_or-names.ensures
    ∙ behind c.get.result _
    ∙ c.get.ensures.lookup.4 (omega arith) _
    ∙ ap (get_or parts i) c.nobody-nobody.ensures
    ∙ sym (unwrap_or-slice_get parts i no_names) in
    let line = c.as_str.ensures.value ∙ c.in_ok-line.ensures in
    let text = c.in_ok-append_steps.ensures.text
    ∙ ap₂ (λ l es. l ++ steps_lines names 1 (steps_of es)) c.in_ok-push_str.ensures.bytes c.deref.ensures.value in (
      text_more steps_in parts journals i journal names (string_bytes c.loop-number.text) c.as_str.result.now (string_bytes c.append_steps.new.text) _
          c.loop-number-test.true c.index-journals-number.is named line text h.0,
      journal_more steps_in journals i journal c.loop-number.totals c.append_steps.new.totals c.loop-number-test.true c.index-journals-number.is h.1
          (subst (λ (es : List Entry). CountSteps (steps_of es) c.loop-number.totals c.append_steps.new.totals) c.deref.ensures.value c.in_ok-append_steps.ensures.totals),
    )
