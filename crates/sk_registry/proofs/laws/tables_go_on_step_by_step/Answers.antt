use Rattle.std.proofs.Common.{[], ◌∷◌}
use Rattle.sk_registry.proofs.EventLaws.{after_events-append}
use Rattle.sk_registry.proofs.laws.tables_go_on_step_by_step.Goals as goal

pub returns-clause-next : goal.returns-clause-next
returns-clause-next c = λ events event. after_events-append [] events (event ∷ [])
