use Rattle.std.proofs.Common.{◌≡◌, take}
use Rattle.sk_law.specs.Serving.{takers_in}
use Rattle.sk_law.proofs.journal.services.takers_in.Given as goal

abbrev pub invariant-loop-number : goal.invariant-loop-number
invariant-loop-number l = l.found.items ≡ takers_in l.message l.services (take l.number-index l.numbers)
