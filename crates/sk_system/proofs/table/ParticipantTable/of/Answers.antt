use Rattle.std.proofs.Common.{◌≡◌, Some, None, sym, ap}
use Rattle.std.specs.Prelude.{position}
use Rattle.std.specs.Str.{bytes_eq}
use Rattle.sk_system.specs.declared.table.TableEntry.{TableEntry}
use Rattle.sk_system.proofs.TableLaws.{seen_of-found, seen_of-none}
use Rattle.sk_system.proofs.table.ParticipantTable.of.Goals as goal

pub returns-in-Some : goal.returns-in-Some
returns-in-Some c =
    let found : position (λ entry. bytes_eq entry.name c.args.name.now) c.args.self.now ≡ Some c.in-Some.index = cc in
    rw (seen_of-found c.args.name.now c.args.self.now c.in-Some.index c.index.result.now found, ← c.self.view_is)
    (ap (λ (entry : TableEntry). entry.seen) c.index.ensures)

pub returns-in-None : goal.returns-in-None
returns-in-None c =
    let none : position (λ entry. bytes_eq entry.name c.args.name.now) c.args.self.now ≡ None = cc in
    sym (seen_of-none c.args.name.now c.args.self.now none)
