use Rattle.std.proofs.Common.{◌≡◌, ◌∙◌, ap, ap₂, subst, length}
use Rattle.sk_law.specs.Links.{reached}
use Rattle.sk_law.specs.Past.{Past}
use Rattle.sk_law.specs.Kept.{Kept}
use Rattle.sk_law.specs.Tied.{here_in}
use Rattle.sk_law.proofs.Readers.{reached_is}
use Rattle.sk_law.proofs.journal.Journal.reached.Goals as goal

pub returns : goal.returns
returns c =
    let past : Past = record { journal = c.self.inside.entries.items; memory = c.self.inside.memory } in
    subst (λ (k : Kept). c.in_ok-found.found.items ≡ reached k.setup k.past) c.self.view_is (c.in_ok-found.ensures ∙ ap₂ (λ ls n. here_in ls c.self.inside.setup.number n) c.as_slice.ensures.value (ap length c.as_slice-limit.ensures) ∙ reached_is past c.self.invariant.tied)
