use Rattle.sk_wire.specs.Kinds.{new_name}
use Rattle.sk_wire.proofs.ListLoop.{SoFar}
use Rattle.sk_wire.proofs.numbers.Cursor.new_names.Given as goal

abbrev pub invariant-loop : goal.invariant-loop
invariant-loop l = SoFar new_name l.count l.initial.self l.counter l.names.items l.self
