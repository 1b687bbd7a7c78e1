use Rattle.std.proofs.Common.{◌≡◌, take}
use Rattle.sk_law.specs.Serving.{all_noted}
use Rattle.sk_law.proofs.journal.services.note_each.Given as goal

abbrev pub invariant-loop-number : goal.invariant-loop-number
invariant-loop-number l = l.services ≡ all_noted l.peer l.service l.response (take l.number-index l.numbers) l.initial.services
