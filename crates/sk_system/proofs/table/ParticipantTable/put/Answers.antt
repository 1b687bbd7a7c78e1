use Rattle.std.proofs.Common.{◌≡◌, None}
use Rattle.std.specs.Prelude.{position}
use Rattle.std.specs.Str.{bytes_eq}
use Rattle.sk_system.proofs.TableLaws.{put-none}
use Rattle.sk_system.proofs.table.ParticipantTable.put.Goals as goal

pub returns-in_ok-push-in-None-clause-ok : goal.returns-in_ok-push-in-None-clause-ok
returns-in_ok-push-in-None-clause-ok c =
    let none : position (λ entry. bytes_eq entry.name c.args.name.now) c.args.self.now ≡ None = cc in
    let copied : c.in_ok-copy-in-None.field-0 ≡ c.args.name.now = c.in_ok-copy-in-None.ensures in
    rw (put-none c.args.name.now c.args.seen c.args.self.now none, ← c.self.view_is, ← copied) c.in_ok-push-in-None.ensures.items
