use Rattle.std.proofs.Common.{◌≡◌, subst}
use Rattle.sk_law.specs.Links.{limit}
use Rattle.sk_law.specs.Past.{Past}
use Rattle.sk_law.specs.Kept.{Kept}
use Rattle.sk_law.proofs.Readers.{limit_is, limit_early}
use Rattle.sk_law.proofs.journal.Journal.limit.Goals as goal

pub returns-clause-value : goal.returns-clause-value
returns-clause-value c =
    let past : Past = record { journal = c.self.inside.entries.items; memory = c.self.inside.memory } in
    subst (λ (k : Kept). c.self.inside.limit ≡ limit k.setup k.past) c.self.view_is (limit_is past c.self.invariant.tied)

pub returns-clause-early : goal.returns-clause-early
returns-clause-early c = limit_early c.self.invariant.tied
