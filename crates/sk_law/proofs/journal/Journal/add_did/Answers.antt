use Rattle.std.proofs.Common.{refl, true, ◌≡◌, ◌≤◌, ◌+◌, ℕ, List, length, sym, subst, arith}
use Rattle.sk_msg.specs.declared.entry.Entry.TheVariants.{Did}
use Rattle.sk_law.specs.declared.memory.ServiceState.{ServiceState}
use Rattle.sk_law.specs.declared.memory.ServiceState.TheVariants as states
use Rattle.sk_law.specs.Counted.{are_calls, calls_made}
use Rattle.sk_law.specs.Kept.{Kept}
use Rattle.sk_law.proofs.Keeping.{served-did}
use Rattle.sk_law.proofs.Serving.{are_at, calls_at, changed-to}
use Rattle.sk_law.proofs.Ties.{tied-other}
use Rattle.sk_law.proofs.journal.Journal.add_did.Goals as goal

pub invariant_of-self-2 : goal.invariant_of-self-2
invariant_of-self-2 c =
    let n : ℕ = length c.self.inside.entries.items + 1 in
    let few : calls_made c.args.state ≤ n = subst (λ (k : Kept). calls_made c.args.state ≤ length k.past.journal + 1) (sym c.self.view_is) c.requires.counted in
    record {
      tied = tied-other c.journals_go_by_entries.ensures (Did c.args.service c.args.code c.args.message) _ tt c.self.invariant.tied c.in_ok-push.ensures.items;
      served = served-did c.journals_go_by_entries.ensures (Did c.args.service c.args.code c.args.message) _ _ c.self.invariant.served c.in_ok-push.ensures.items tt (λ b t. refl)
          (subst (λ (v : List ServiceState). (s : ℕ) → calls_at v s ≤ n) (sym c.put-before.ensures)
          (changed-to (λ at. calls_made at ≤ n) c.args.state states.Subscriber few c.args.service c.self.inside.memory.services
          (λ s. let le = c.self.invariant.served.counted s in omega arith)))
          (subst (λ (v : List ServiceState). (s : ℕ) → are_at v s ≡ true) (sym c.put-before.ensures)
          (changed-to (λ at. are_calls at ≡ true) c.args.state states.Subscriber c.requires.calls c.args.service c.self.inside.memory.services c.self.invariant.served.called));
    }
