use Rattle.std.proofs.Common.{◌≡◌, ◌∙◌, ap, true}
use Rattle.sk_tools.proofs.OutsideLaws.{by_content}
use Rattle.sk_tools.proofs.outside.reading.read_file.Goals as goal

pub returns-in-Ok-Ready-clause-told : goal.returns-in-Ok-Ready-clause-told
returns-in-Ok-Ready-clause-told g c = λ told.
    let opens = rw c.in-Ok-Ready.field-0-is at (c.in-Ok-Ready.ensures.told told) in
    let tells : g.F.Files.tells c.open.new.self ≡ true = c.in-Ok-Ready.ensures.tells ∙ told in
    by_content (λ bytes. bytes.items) (g.F.Files.content c.args.files.now c.args.path.now) c.read_opened.result opens.0
    (λ all holds. c.read_opened.ensures.told tells opens.2 all
    (c.in-Ok-Ready.ensures.contents (g.F.Files.current c.open.new.self)
    ∙ ap (g.F.Files.content c.args.files.now) opens.1 ∙ holds))
