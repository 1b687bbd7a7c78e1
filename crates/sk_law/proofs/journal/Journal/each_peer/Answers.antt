use Rattle.std.proofs.Common.{◌≡◌, ◌∙◌, ap, ap₂, subst, length}
use Rattle.std.specs.List.{list_all}
use Rattle.sk_law.specs.Past.{Past}
use Rattle.sk_law.specs.Readings.{is_gone}
use Rattle.sk_law.specs.Links.{said, peers}
use Rattle.sk_law.specs.Kept.{Kept}
use Rattle.sk_law.specs.Questions.{answers, all_answer}
use Rattle.sk_law.proofs.Readers.{peers_answer}
use Rattle.sk_law.proofs.journal.Journal.each_peer.Goals as goal

pub returns : goal.returns
returns c =
    let past : Past = record { journal = c.self.inside.entries.items; memory = c.self.inside.memory } in
    subst (λ (k : Kept). c.all_answer.result ≡ list_all (λ p. answers c.args.question (is_gone k.past.journal p) (said k.setup k.past p)) (peers k.setup)) c.self.view_is
    (c.all_answer.ensures ∙ ap₂ (λ ls n. all_answer c.args.question ls c.self.inside.setup.number n) c.as_slice.ensures.value (ap length c.as_slice-limit.ensures) ∙ peers_answer past c.args.question c.self.invariant.tied)
