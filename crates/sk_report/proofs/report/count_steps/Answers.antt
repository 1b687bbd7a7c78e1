use Rattle.std.proofs.Common.{◌≡◌, ◌∙◌, sym, subst, List, [], ◌∷◌, ◌++◌, take}
use Rattle.sk_msg.specs.declared.entry.Entry.{Entry}
use Rattle.sk_report.specs.Groups.{messages_of}
use Rattle.sk_report.specs.Totals.{CountSteps}
use Rattle.sk_report.specs.Walks.{IsWalked, steps_among}
use Rattle.sk_report.proofs.Taking.{taken}
use Rattle.sk_report.proofs.Telling.{counted_some, counted_same}
use Rattle.sk_report.proofs.report.count_steps.Goals as goal
use Rattle.sk_report.proofs.report.count_steps.Goals.{in-Some+in_ok-add_step, in_default}

pub loop-entry-preserved : goal.loop-entry-preserved
loop-entry-preserved c =
    let es = c.args.journal.now in
    let before = take c.loop-entry.entry-index es in
    let e = c.entry-item.result in
    let old = c.args.totals.now in
    let now = c.loop-entry.totals in
    let h = c.loop-entry.invariant in
    let more = taken es c.loop-entry.entry-index e c.loop-entry-test.true c.entry-item.is in
    let counted : CountSteps (steps_among es (before ++ e ∷ [])) old c.match-begun.totals = elim c.match-begun.branch [
      | in-Some+in_ok-add_step w ↦ counted_some es before e w.in-Some.step old now c.match-begun.totals w.add_step.new.self w.seen.result.now (messages_of w.of.result.now)
          (sym c.begun.ensures ∙ w.in-Some.is) (w.seen.ensures before h.0) (w.of.ensures ∙ c.in_ok-by_step.ensures w.in-Some.step.number) h.1
          w.totals-is w.in_ok-add_step.ensures.steps w.in_ok-add_step.ensures.seen w.in_ok-add_step.ensures.sent
      | in_default w ↦ counted_same es before e old now c.match-begun.totals (sym c.begun.ensures ∙ w.in_default.is) h.1 w.totals-is
    ] in (
      subst (λ (l : List Entry). IsWalked l c.note.new.self) (sym more) (c.in_ok-note.ensures before h.0),
      subst (λ (l : List Entry). CountSteps (steps_among es l) old c.match-begun.totals) (sym more) counted,
    )
