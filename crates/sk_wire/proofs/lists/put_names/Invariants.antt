use Rattle.std.proofs.Common.{◌≡◌, ◌++◌, take}
use Rattle.std.specs.List.{flat_map}
use Rattle.sk_wire.specs.Kinds.{name}
use Rattle.sk_wire.proofs.lists.put_names.Given as goal

abbrev pub invariant-loop-name : goal.invariant-loop-name
invariant-loop-name l = l.to.items ≡ l.initial.to.items ++ flat_map name.spelling (take l.name-index l.names)
