use Rattle.std.proofs.Common.{◌≡◌, take}
use Rattle.std.specs.Prelude.{map}
use Rattle.sk_machine.proofs.copies.kinds_of.Given as goal

abbrev pub invariant-loop-service : goal.invariant-loop-service
invariant-loop-service l = l.kinds.items ≡ map (λ service. service.kind) (take l.service-index l.services)
