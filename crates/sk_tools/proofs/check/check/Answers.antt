use Rattle.std.proofs.Common.{◌≡◌, ◌∙◌, ap, sym}
use Rattle.sk_config.specs.Reading.{reading}
use Rattle.sk_tools.specs.Found.{found_in, found_by}
use Rattle.sk_tools.proofs.OfflineLaws.{found_content, ends_unread, said_unread_same}
use Rattle.sk_tools.proofs.check.check.Goals as goal

pub returns-in-Ok-clause-ends : goal.returns-in-Ok-clause-ends
returns-in-Ok-clause-ends g c = λ told.
    let found : found_in reading (g.F.Files.content c.args.files.now c.args.file.now) ≡ found_by (reading c.deref.result.now) =
    found_content reading _ c.in-Ok.bytes.items (c.in-Ok.ensures.told told) ∙ ap (λ bytes. found_by (reading bytes)) (sym c.deref.ensures.value) in
    rw found c.check_bytes.ensures.ends

pub returns-in-Ok-clause-written : goal.returns-in-Ok-clause-written
returns-in-Ok-clause-written g c = λ out_told told.
    let found : found_in reading (g.F.Files.content c.args.files.now c.args.file.now) ≡ found_by (reading c.deref.result.now) =
    found_content reading _ c.in-Ok.bytes.items (c.in-Ok.ensures.told told) ∙ ap (λ bytes. found_by (reading bytes)) (sym c.deref.ensures.value) in
    rw found (c.check_bytes.ensures.written out_told)

pub returns-in-Ok-clause-said : goal.returns-in-Ok-clause-said
returns-in-Ok-clause-said g c = λ told ran.
    let found : found_in reading (g.F.Files.content c.args.files.now c.args.file.now) ≡ found_by (reading c.deref.result.now) =
    found_content reading _ c.in-Ok.bytes.items (c.in-Ok.ensures.told told) ∙ ap (λ bytes. found_by (reading bytes)) (sym c.deref.ensures.value) in
    rw found (c.check_bytes.ensures.said ran c.args.file.now)

pub returns-in-Err-clause-ends : goal.returns-in-Err-clause-ends
returns-in-Err-clause-ends g c = λ told.
    ends_unread _ c.in-Err.why c.refuse_file.result (c.in-Err.ensures.told told) c.refuse_file.ensures.ends

pub returns-in-Err-clause-said : goal.returns-in-Err-clause-said
returns-in-Err-clause-said g c = λ told ran.
    rw (← said_unread_same c.args.file.now (g.F.Files.content c.args.files.now c.args.file.now) c.in-Err.why c.refuse_file.result
    (c.in-Err.ensures.told told) c.refuse_file.ensures.ends ran)
    (c.refuse_file.ensures.said ran)
