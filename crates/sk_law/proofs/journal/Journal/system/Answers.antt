use Rattle.std.proofs.Common.{◌≡◌, ◌∙◌, subst}
use Rattle.sk_law.specs.Links.{system}
use Rattle.sk_law.specs.Kept.{Kept}
use Rattle.sk_law.proofs.Readers.{system_is}
use Rattle.sk_law.proofs.journal.Journal.system.Goals as goal

pub returns : goal.returns
returns c = subst (λ (k : Kept). c.system.result ≡ system k.setup k.past) c.self.view_is (c.system.ensures ∙ system_is _ c.self.invariant.tied)
