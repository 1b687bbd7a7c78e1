use Rattle.std.proofs.Common.{◌≡◌, ◌∙◌, ap, sym, List, [], ◌∷◌, ◌++◌, take}
use Rattle.std.specs.List.{filter_map}
use Rattle.std.proofs.lemmas.List.Elements.{filter_map-append}
use Rattle.sk_msg.specs.declared.content.Content.{Content}
use Rattle.sk_law.specs.Script.{sent_in}
use Rattle.sk_report.proofs.Taking.{taken}
use Rattle.sk_report.proofs.sent.sent_by_step.Goals as goal

pub loop-entry-preserved : goal.loop-entry-preserved
loop-entry-preserved c = λ step.
    let es = c.args.journal.now in
    let i = c.loop-entry.entry-index in
    let e = c.entry-item.result in
    c.in_ok-note_sent.ensures step
    ∙ ap (λ (l : List Content). l ++ filter_map (sent_in step) (e ∷ [])) (c.loop-entry.invariant step)
    ∙ sym (filter_map-append (sent_in step) (take i es) (e ∷ []))
    ∙ ap (filter_map (sent_in step)) (sym (taken es i e c.loop-entry-test.true c.entry-item.is))
