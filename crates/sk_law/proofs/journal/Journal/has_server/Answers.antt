use Rattle.std.proofs.Common.{◌≡◌, ◌∙◌, Some, ap, ap₂, subst, length, slice_get}
use Rattle.sk_msg.specs.declared.service.Service.{Service}
use Rattle.sk_law.specs.Kept.{Kept}
use Rattle.sk_law.specs.Outcomes.{has_server}
use Rattle.sk_law.specs.Past.{Past}
use Rattle.sk_law.specs.Serving.{some_serve}
use Rattle.sk_law.proofs.Keeping.{server-is}
use Rattle.sk_law.proofs.journal.Journal.has_server.Goals as goal

pub returns : goal.returns
returns c =
    let past : Past = record { journal = c.self.inside.entries.items; memory = c.self.inside.memory } in
    subst (λ (k : Kept). (own : Service) → slice_get k.setup.services c.args.service ≡ Some own → c.some_serve.result ≡ has_server k.setup k.past own) c.self.view_is
    (λ own e. c.some_serve.ensures ∙ ap₂ (λ ls n. some_serve ls c.self.inside.index c.self.inside.setup.number c.args.service n) c.as_slice.ensures.value (ap length c.as_slice-limit.ensures)
    ∙ server-is past c.args.service own c.self.invariant e)
