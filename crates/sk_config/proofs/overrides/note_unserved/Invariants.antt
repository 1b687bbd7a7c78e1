use Rattle.std.proofs.Common.{◌≡◌, ◌++◌, drop}
use Rattle.sk_config.specs.Applied.{entries_unserved}
use Rattle.sk_config.proofs.overrides.note_unserved.Given as goal

abbrev pub invariant-loop-index : goal.invariant-loop-index
invariant-loop-index l =
    l.warnings.items ++ entries_unserved l.services l.kind l.at l.index (drop l.index l.entries) ≡ l.fn.warnings.items ++ entries_unserved l.services l.kind l.at 0 l.entries
