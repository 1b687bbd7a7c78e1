use Rattle.std.proofs.Common.{◌≡◌, ◌∙◌, ap, subst, not}
use Rattle.sk_law.specs.Links.{all_reached}
use Rattle.sk_law.specs.Past.{Past}
use Rattle.sk_law.specs.Kept.{Kept}
use Rattle.sk_law.proofs.Readers.{reached_where}
use Rattle.sk_law.proofs.journal.Journal.all_reached.Goals as goal

pub returns-else-not-self : goal.returns-else-not-self
returns-else-not-self c =
    let past : Past = record { journal = c.self.inside.entries.items; memory = c.self.inside.memory } in
    subst (λ (k : Kept). c.all_reached.result ≡ all_reached k.setup k.past c.args.goal) c.self.view_is (c.all_reached.ensures ∙ reached_where past c.args.goal c.self.invariant.tied (ap not c.if-not-self.false))
