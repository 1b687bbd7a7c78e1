use Rattle.std.proofs.Common.{◌≡◌, ◌∙◌, ap, subst, length}
use Rattle.sk_law.specs.Links.{told}
use Rattle.sk_law.specs.Past.{Past}
use Rattle.sk_law.specs.Kept.{Kept}
use Rattle.sk_law.specs.Tied.{here_in}
use Rattle.sk_law.proofs.Readers.{told_is}
use Rattle.sk_law.proofs.journal.Journal.told.Goals as goal

pub returns : goal.returns
returns c =
    let past : Past = record { journal = c.self.inside.entries.items; memory = c.self.inside.memory } in
    subst (λ (k : Kept). c.in_ok-found.found.items ≡ told k.setup k.past) c.self.view_is (c.in_ok-found.ensures ∙ ap (λ ls. here_in ls c.self.inside.setup.number (length ls)) c.as_slice-lines.ensures.value ∙ told_is past c.self.invariant.tied)
