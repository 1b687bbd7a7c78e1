use Rattle.std.proofs.Common.{◌≡◌, ◌+◌, length}
use Rattle.sk_lin.specs.Table.{joined, AreByIdentifier}
use Rattle.sk_lin.proofs.table.make_places.Given as goal

abbrev pub invariant-loop : goal.invariant-loop
invariant-loop l =
    (joined l.by_id.items ≡ joined l.initial.by_id.items)
    × (AreByIdentifier 0 l.initial.by_id.items → AreByIdentifier 0 l.by_id.items)
    × (length l.by_id.items ≡ length l.initial.by_id.items + l.counter)
