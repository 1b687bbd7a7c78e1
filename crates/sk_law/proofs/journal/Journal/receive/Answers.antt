use Rattle.std.proofs.Common.{◌≡◌, ℕ, List, sym, subst, true}
use Rattle.sk_law.specs.declared.memory.ServiceState.{ServiceState}
use Rattle.sk_law.proofs.Keeping.{served-as}
use Rattle.sk_law.proofs.Serving.{are_at, are-receive, calls_at, calls-receive}
use Rattle.sk_law.proofs.journal.Journal.receive.Goals as goal

pub invariant_of-self-2 : goal.invariant_of-self-2
invariant_of-self-2 c = record {
  tied = c.self.invariant.tied;
  served = served-as _ c.self.invariant.served
      (subst (λ (v : List ServiceState). (s : ℕ) → calls_at v s ≡ calls_at c.self.inside.memory.services s) (sym c.in_ok-receive.ensures.ok)
      (calls-receive c.args.peer c.args.message.now c.args.service c.self.inside.memory.services))
      (subst (λ (v : List ServiceState). (s : ℕ) → are_at v s ≡ true) (sym c.in_ok-receive.ensures.ok)
      (are-receive c.args.peer c.args.message.now c.args.service c.self.inside.memory.services c.content-content.ensures.rules c.self.invariant.served.called));
}
