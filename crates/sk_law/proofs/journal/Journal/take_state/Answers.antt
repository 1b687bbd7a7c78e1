use Rattle.std.proofs.Common.{◌≡◌, IsTrue, refl, true, ◌≤◌, ◌<◌, ◌^◌, ℕ, List, length, slice_get, sym, subst, arith, rules}
use Rattle.std.specs.Prelude.{IfSome}
use Rattle.sk_law.specs.declared.memory.ServiceState.{ServiceState}
use Rattle.sk_law.specs.declared.memory.ServiceState.TheVariants as states
use Rattle.sk_law.specs.Counted.{are_calls, calls_made}
use Rattle.sk_law.specs.Kept.{Kept}
use Rattle.sk_law.proofs.Keeping.{served-at, called-found, counted-found, few-found}
use Rattle.sk_law.proofs.Serving.{are_at, calls_at, changed-to}
use Rattle.sk_law.proofs.journal.Journal.take_state.Goals as goal

pub invariant_of-self : goal.invariant_of-self
invariant_of-self c =
    let n : ℕ = length c.self.inside.entries.items in
    record {
      tied = c.self.invariant.tied;
      served = served-at _ c.self.invariant.served
          (subst (λ (v : List ServiceState). (s : ℕ) → calls_at v s ≤ n) (sym c.take.ensures.rest)
          (changed-to (λ at. calls_made at ≤ n) states.Subscriber states.Subscriber (omega arith) c.args.service c.self.inside.memory.services c.self.invariant.served.counted))
          (subst (λ (v : List ServiceState). (s : ℕ) → are_at v s ≡ true) (sym c.take.ensures.rest)
          (changed-to (λ at. are_calls at ≡ true) states.Subscriber states.Subscriber refl c.args.service c.self.inside.memory.services c.self.invariant.served.called));
    }

pub returns-clause-calls : goal.returns-clause-calls
returns-clause-calls c =
    subst (λ o. IfSome o (λ at. IsTrue (are_calls at))) (sym c.take.ensures.value) (called-found c.args.service c.self.inside.memory.services c.self.invariant.served.called)

pub returns-clause-counted : goal.returns-clause-counted
returns-clause-counted c =
    subst (λ o. IfSome o (λ at. calls_made at ≤ length c.args.self.now.past.journal)) (sym c.take.ensures.value)
    (subst (λ (k : Kept). IfSome (slice_get c.self.inside.memory.services c.args.service) (λ at. calls_made at ≤ length k.past.journal)) c.self.view_is
    (counted-found (length c.self.inside.entries.items) c.args.service c.self.inside.memory.services c.self.invariant.served.counted))

pub returns-clause-few : goal.returns-clause-few
returns-clause-few c =
    let all : length c.self.inside.entries.items < 2 ^ 63 = search rules in
    subst (λ o. IfSome o (λ at. calls_made at < 2 ^ 63)) (sym c.take.ensures.value)
    (few-found (length c.self.inside.entries.items) (2 ^ 63) c.args.service c.self.inside.memory.services all c.self.invariant.served.counted)
