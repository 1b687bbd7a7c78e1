use Rattle.std.proofs.Common.{◌≡◌, map, take}
use Rattle.sk_report.proofs.names.service_names.Given as goal

-- the names so far
abbrev pub invariant-loop-service : goal.invariant-loop-service
invariant-loop-service l = l.names.items ≡ map (λ service. service.name) (take l.service-index l.services)
