use Rattle.std.proofs.Common.{◌≡◌, take}
use Rattle.sk_law.specs.Tied.{numbered}
use Rattle.sk_law.proofs.journal.needed.numbered.Given as goal

abbrev pub invariant-loop-name : goal.invariant-loop-name
invariant-loop-name l = l.numbers.items ≡ numbered l.all (take l.name-index l.name-items)
