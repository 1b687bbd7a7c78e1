use Rattle.std.specs.Prelude.{◌≡◌, ◌++◌, map, take}
use Rattle.sk_law.specs.Blocks.{announced_service}
use Rattle.sk_node.proofs.making.announce_all.Given as goal

abbrev pub invariant-loop-service : goal.invariant-loop-service
invariant-loop-service l = l.messages.items ≡ l.fn.messages.items ++ map announced_service (take l.service-index l.services)
