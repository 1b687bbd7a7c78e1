use Rattle.std.proofs.Common.{◌≡◌, ◌∙◌, ap, sym, subst, List, [], ◌∷◌, ◌++◌, ◌+◌, take, string_bytes}
use Rattle.sk_msg.specs.declared.entry.Entry.{Entry}
use Rattle.sk_report.specs.Groups.{messages_of}
use Rattle.sk_report.specs.Totals.{CountSteps}
use Rattle.sk_report.specs.Walks.{IsWalked, steps_among}
use Rattle.sk_report.proofs.Taking.{taken}
use Rattle.sk_report.proofs.Telling.{IsTold, counted_some, counted_same, told_some, told_same}
use Rattle.sk_report.proofs.report.append_steps.Goals as goal
use Rattle.sk_report.proofs.report.append_steps.Goals.{in-Some+in_ok-append_step+in_ok-add_step, in_default}

pub loop-entry-preserved : goal.loop-entry-preserved
loop-entry-preserved c =
    let es = c.args.journal.now in
    let i = c.loop-entry.entry-index in
    let before = take i es in
    let e = c.entry-item.result in
    let names = c.args.names.now in
    let start = string_bytes c.args.text.now in
    let text = string_bytes c.loop-entry.text in
    let old = c.args.totals.now in
    let now = c.loop-entry.totals in
    let h = c.loop-entry.invariant in
    let more = taken es i e c.loop-entry-test.true c.entry-item.is in
    let counted : CountSteps (steps_among es (before ++ e ∷ [])) old c.match-begun.totals = elim c.match-begun.branch [
      | in-Some+in_ok-append_step+in_ok-add_step w ↦ counted_some es before e w.in-Some.step old now c.match-begun.totals w.add_step.new.self w.seen-seen.result.now (messages_of w.of-sent.result.now)
          (sym c.begun.ensures ∙ w.in-Some.is) (w.seen-seen.ensures before h.0) (w.of-sent.ensures ∙ c.in_ok-by_step.ensures w.in-Some.step.number) h.4
          w.totals-is w.in_ok-add_step.ensures.steps w.in_ok-add_step.ensures.seen w.in_ok-add_step.ensures.sent
      | in_default w ↦ counted_same es before e old now c.match-begun.totals (sym c.begun.ensures ∙ w.in_default.is) h.4 w.totals-is
    ] in
    let told : IsTold names es (before ++ e ∷ []) start (string_bytes c.match-begun.text) c.match-begun.number (i + 1) = elim c.match-begun.branch [
      | in-Some+in_ok-append_step+in_ok-add_step w ↦ told_some names es before e w.in-Some.step start text (string_bytes c.match-begun.text) c.loop-entry.number c.match-begun.number i w.seen-seen.result.now (messages_of w.of-sent.result.now)
          (sym c.begun.ensures ∙ w.in-Some.is) (w.seen-seen.ensures before h.0) (w.of-sent.ensures ∙ c.in_ok-by_step.ensures w.in-Some.step.number) h.1 h.2 h.3
          w.number-is (ap string_bytes w.text-is ∙ w.in_ok-append_step.ensures)
      | in_default w ↦ told_same names es before e start text (string_bytes c.match-begun.text) c.loop-entry.number c.match-begun.number i (sym c.begun.ensures ∙ w.in_default.is)
          h.1 h.2 h.3 w.number-is (ap string_bytes w.text-is)
    ] in
    let all = subst (λ (l : List Entry). IsTold names es l start (string_bytes c.match-begun.text) c.match-begun.number (i + 1)) (sym more) told in (
      subst (λ (l : List Entry). IsWalked l c.note.new.self) (sym more) (c.in_ok-note.ensures before h.0),
      all.0,
      all.1,
      all.2,
      subst (λ (l : List Entry). CountSteps (steps_among es l) old c.match-begun.totals) (sym more) counted,
    )
