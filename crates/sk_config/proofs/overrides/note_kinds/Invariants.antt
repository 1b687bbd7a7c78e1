use Rattle.std.proofs.Common.{◌≡◌, ◌++◌, drop}
use Rattle.std.specs.List.{flat_map}
use Rattle.sk_config.specs.Applied.{list_unserved}
use Rattle.sk_config.proofs.overrides.note_kinds.Given as goal

abbrev pub invariant-loop-kind : goal.invariant-loop-kind
invariant-loop-kind l =
    l.warnings.items ++ flat_map (list_unserved l.services l.at l.config) (drop l.kind-index l.kinds) ≡ l.fn.warnings.items ++ flat_map (list_unserved l.services l.at l.config) l.kinds
