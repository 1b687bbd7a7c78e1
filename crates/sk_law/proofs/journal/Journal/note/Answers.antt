use Rattle.std.proofs.Common.{◌≡◌, ◌∙◌, ℕ, List, ap, sym, subst, slice_get}
use Rattle.sk_law.specs.declared.memory.ServiceState.{ServiceState}
use Rattle.sk_law.specs.declared.setup.Setup.{Setup}
use Rattle.sk_law.specs.Kept.{Kept, grown}
use Rattle.sk_law.specs.Links.{from}
use Rattle.sk_law.specs.Order.{services_of}
use Rattle.sk_law.specs.Past.{Past}
use Rattle.sk_law.specs.Receivers.{note, noted, with_services}
use Rattle.sk_law.specs.Serving.{all_noted}
use Rattle.sk_law.proofs.Keeping.{served-as, noted-is}
use Rattle.sk_law.proofs.Serving.{are-all, calls_at, calls-all}
use Rattle.sk_law.proofs.journal.Journal.note.Goals as goal

pub invariant_of-self : goal.invariant_of-self
invariant_of-self c = record {
  tied = c.self.invariant.tied;
  served = served-as _ c.self.invariant.served c.in_err-note_each.ensures.some (c.in_err-note_each.ensures.called c.self.invariant.served.called);
}

pub invariant_of-self-2 : goal.invariant_of-self-2
invariant_of-self-2 c = record {
  tied = c.self.invariant.tied;
  served = served-as _ c.self.invariant.served
      (subst (λ (v : List ServiceState). (s : ℕ) → calls_at v s ≡ calls_at c.self.inside.memory.services s) (sym c.in_ok-note_each.ensures.ok)
      (calls-all c.args.peer c.args.service c.args.response.now c.receivers.result.now c.self.inside.memory.services))
      (are-all c.args.peer c.args.service c.args.response.now c.receivers.result.now c.self.inside.memory.services _ c.in_ok-note_each.ensures.ok c.self.invariant.served.called);
}

pub returns-clause-ok : goal.returns-clause-ok
returns-clause-ok c =
    let S : Setup = c.self.inside.setup in
    let past : Past = record { journal = c.self.inside.entries.items; memory = c.self.inside.memory } in
    let at : List ServiceState → Kept = λ v. record { setup = S; past = with_services v past; out = c.self.inside.out.items } in
    let found : c.note_each.new.services ≡ noted (slice_get (services_of (from S past c.args.peer)) c.args.service) c.args.peer c.args.service c.args.response.now S.services c.self.inside.memory.services =
    c.in_ok-note_each.ensures.ok ∙ ap (λ numbers. all_noted c.args.peer c.args.service c.args.response.now numbers c.self.inside.memory.services) c.receivers.ensures.value
    ∙ noted-is past c.args.peer c.args.service c.args.response.now c.self.invariant.served c.own-own.ensures.numbered in
    subst (λ (k : Kept). at c.note_each.new.services ≡ grown (note k.setup c.args.peer c.args.service c.args.response.now k.past) k) c.self.view_is (ap at found)
