use Rattle.std.proofs.Common.{◌≡◌, ◌++◌, take, []}
use Rattle.std.specs.List.{flat_map}
use Rattle.sk_wire.specs.Kinds.{new_label}
use Rattle.sk_wire.proofs.lists.put_each_label.Given as goal

abbrev pub invariant-loop-label : goal.invariant-loop-label
invariant-loop-label l = l.to.items ≡ l.initial.to.items ++ flat_map (new_label []).spelling (take l.label-index l.labels)
