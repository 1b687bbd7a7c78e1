use Rattle.std.proofs.Common.{◌≡◌, ◌<◌, ◌∙◌, ◌++◌, ap, ap₂, sym, subst, false, Some, length, nat_le, slice_get, slice_index_or, List, ℕ}
use Rattle.std.specs.Option.{option_copied, unwrap_or}
use Rattle.std.proofs.Common.{length-append}
use Rattle.std.proofs.lemmas.List.{get_or_read_under}
use Rattle.std.proofs.lemmas.Option.{slice_get_within}
use Rattle.sk_law.specs.Past.{Past}
use Rattle.sk_law.specs.Links.{comes_in_order, seen}
use Rattle.sk_law.specs.declared.line.Line.{Line}
use Rattle.sk_law.specs.Coming.{comes, waits}
use Rattle.sk_law.specs.Kept.{Kept}
use Rattle.sk_law.specs.Tied.{no_line, all_of}
use Rattle.sk_law.proofs.Gots.{nameless}
use Rattle.sk_law.proofs.Hearing.{comes-by}
use Rattle.sk_law.proofs.journal.Journal.comes_in_order.Goals as goal

pub returns-in-Some : goal.returns-in-Some
returns-in-Some c =
    let past : Past = record { journal = c.self.inside.entries.items; memory = c.self.inside.memory } in
    let named : slice_get (c.self.inside.setup.names ++ c.self.inside.memory.tools) c.args.number ≡ Some c.in-Some.name.now = sym c.name_of.ensures ∙ ap option_copied c.in-Some.is in
    let small : c.args.number < all_of c.self.inside.setup c.self.inside.memory.tools = subst (λ n. c.args.number < n) (length-append c.self.inside.setup.names c.self.inside.memory.tools) (slice_get_within _ c.args.number c.in-Some.name.now named) in
    let line : c.index.result.now ≡ slice_index_or c.self.inside.lines.items c.args.number no_line =
    get_or_read_under c.self.inside.lines.items c.args.number _ c.index.result.now no_line c.index.ensures small (sym c.self.invariant.tied.all_lines) in
    subst (λ (k : Kept). c.comes.result ≡ comes_in_order k.setup k.past c.args.number c.args.message.now) c.self.view_is
    (c.comes.ensures
    ∙ ap₂ (λ w (l : Line). comes w (nat_le (length c.as_slice.result.now) c.args.number) c.in-Some.name.now l.said c.args.message.now)
    (c.waits.ensures ∙ ap (waits c.self.inside.setup.coordinated c.self.inside.tally.state) c.unwrap_or.ensures) line
    ∙ ap (λ (ns : List (List ℕ)). comes (waits c.self.inside.setup.coordinated c.self.inside.tally.state (unwrap_or c.self.inside.awaited false)) (nat_le (length ns) c.args.number) c.in-Some.name.now (slice_index_or c.self.inside.lines.items c.args.number no_line).said c.args.message.now) c.as_slice.ensures
    ∙ comes-by past c.args.number c.args.message.now c.in-Some.name.now c.self.invariant.tied named)

pub returns-in-None : goal.returns-in-None
returns-in-None c =
    let past : Past = record { journal = c.self.inside.entries.items; memory = c.self.inside.memory } in
    subst (λ (k : Kept). false ≡ comes_in_order k.setup k.past c.args.number c.args.message.now) c.self.view_is
    (sym (nameless c.self.inside.setup c.self.inside.memory.tools (seen c.self.inside.setup past) c.args.number c.args.message.now (sym c.name_of.ensures ∙ ap option_copied c.in-None.is)))
