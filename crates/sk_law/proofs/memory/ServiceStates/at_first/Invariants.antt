use Rattle.std.proofs.Common.{◌≡◌, take}
use Rattle.sk_law.specs.Services.{new_states}
use Rattle.sk_law.proofs.memory.ServiceStates.at_first.Given as goal

abbrev pub invariant-loop-service : goal.invariant-loop-service
invariant-loop-service l = l.states.items ≡ new_states (take l.service-index l.services)
