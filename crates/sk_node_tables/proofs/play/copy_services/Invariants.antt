use Rattle.std.proofs.Common.{◌≡◌, true}
use Rattle.sk_pubsub.specs.Announcing.{are_numbered}
use Rattle.sk_node_tables.proofs.play.copy_services.Given as goal

abbrev pub invariant-loop-service : goal.invariant-loop-service
invariant-loop-service l = are_numbered 0 l.copies.items ≡ true
