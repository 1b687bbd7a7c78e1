use Rattle.std.proofs.Common.{◌≡◌, ◌∙◌, ap, subst, slice_get}
use Rattle.sk_law.specs.Kept.{Kept}
use Rattle.sk_law.specs.Links.{from}
use Rattle.sk_law.specs.Order.{services_of}
use Rattle.sk_law.specs.Past.{Past}
use Rattle.sk_law.specs.Receivers.{takers}
use Rattle.sk_law.specs.Serving.{takers_in}
use Rattle.sk_law.proofs.Keeping.{takers-is}
use Rattle.sk_law.proofs.journal.Journal.takers.Goals as goal

pub returns : goal.returns
returns c =
    let past : Past = record { journal = c.self.inside.entries.items; memory = c.self.inside.memory } in
    subst (λ (k : Kept). c.in_ok-found.found.items ≡ takers k.setup k.past c.args.message.now (slice_get (services_of (from k.setup k.past c.args.peer)) c.args.service)) c.self.view_is
    (c.in_ok-found.ensures ∙ ap (takers_in c.args.message.now c.self.inside.memory.services) c.receivers.ensures.value
    ∙ takers-is past c.args.peer c.args.service c.args.message.now c.self.invariant.served)
