use Rattle.std.proofs.Common.{◌≡◌, ◌∙◌, ◌-◌, ap, ap₂, subst, length}
use Rattle.sk_law.specs.Past.{Past}
use Rattle.sk_law.specs.Links.{has_tool}
use Rattle.sk_law.specs.Kept.{Kept}
use Rattle.sk_law.specs.Questions.{some_here}
use Rattle.sk_law.proofs.Readers.{tools_are}
use Rattle.sk_law.proofs.journal.Journal.has_tool.Goals as goal

pub returns : goal.returns
returns c =
    let past : Past = record { journal = c.self.inside.entries.items; memory = c.self.inside.memory } in
    subst (λ (k : Kept). c.some_is_here.result ≡ has_tool k.setup k.past) c.self.view_is
    (c.some_is_here.ensures ∙ ap₂ (λ ls n. some_here ls n (length ls - n)) c.as_slice.ensures.value (ap length c.as_slice-2.ensures) ∙ tools_are past c.self.invariant.tied)
