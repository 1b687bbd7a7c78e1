use Rattle.std.proofs.Common.{◌≡◌, take, map}
use Rattle.sk_config.specs.Applied.{overridden}
use Rattle.sk_config.proofs.overrides.all_overridden.Given as goal

abbrev pub invariant-loop-service : goal.invariant-loop-service
invariant-loop-service l = l.changed.items ≡ map (overridden l.config) (take l.service-index l.services)
