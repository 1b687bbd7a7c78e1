use Rattle.sk_registry.proofs.EventLaws.{nobody_yet}
use Rattle.sk_registry.proofs.directory.Directory.new.Goals as goal

pub invariant_of-result : goal.invariant_of-result
invariant_of-result c = record { keyed = rw c.new.ensures.empty tt; table = rw c.new.ensures.empty nobody_yet }
