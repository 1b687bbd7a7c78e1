use Rattle.std.specs.Prelude.{false}
use Rattle.std.proofs.Common.{sym, subst}
use Rattle.std.specs.Prelude.{IsTrue}
use Rattle.sk_law.specs.Outbox.{are_filled}
use Rattle.sk_law.proofs.Filled.{none_filled}
use Rattle.sk_law.proofs.outbox.Outbox.new.Goals as goal

pub invariant_of-result : goal.invariant_of-result
invariant_of-result c = (
  subst (λ xs. IsTrue (are_filled xs false)) (sym c.in_ok-actions.ensures.items) none_filled,
  c.in_ok-actions.ensures.capacity,
)
