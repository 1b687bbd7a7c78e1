use Rattle.std.proofs.Common.{◌≡◌, ◌∙◌, refl, ap, sym}
use Rattle.sk_script.specs.Reading.{reading}
use Rattle.sk_tools.specs.Found.{found_in, found_by}
use Rattle.sk_tools.specs.Simulate.{text_asked}
use Rattle.sk_tools.proofs.OfflineLaws.{found_content}
use Rattle.sk_tools.proofs.SimulateLaws.{unread}
use Rattle.sk_tools.proofs.simulate.simulate.Goals as goal

pub returns-in-Ok-clause-leaves : goal.returns-in-Ok-clause-leaves
returns-in-Ok-clause-leaves g c = λ told.
    let found : found_in reading (g.F.Files.content c.args.files.now c.args.plan.file.now) ≡ found_by (reading c.deref.result.now) =
    found_content reading _ c.in-Ok.bytes.items (c.in-Ok.ensures.told told) ∙ ap (λ bytes. found_by (reading bytes)) (sym c.deref.ensures.value) in
    rw (found, ← c.text.ensures) (c.simulate_bytes.ensures.leaves c.args.plan.file.now)

pub returns-in-Err-clause-leaves : goal.returns-in-Err-clause-leaves
returns-in-Err-clause-leaves g c = λ told.
    unread (text_asked c.args.plan.report) c.args.plan.file.now (g.F.Files.content c.args.files.now c.args.plan.file.now) c.in-Err.why c.refuse_file.result _ _ (c.in-Err.ensures.told told) c.refuse_file.ensures.ends (λ _. refl)
    c.refuse_file.ensures.said
