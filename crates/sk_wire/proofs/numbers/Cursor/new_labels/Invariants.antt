use Rattle.std.proofs.Common.{◌≡◌, ◌≤◌, length, [], true}
use Rattle.sk_msg.specs.Each.{each_after}
use Rattle.sk_msg.specs.Specs.{is_newly_keyed}
use Rattle.sk_wire.specs.Kinds.{new_label}
use Rattle.sk_wire.proofs.ListLoop.{SoFar}
use Rattle.sk_wire.proofs.numbers.Cursor.new_labels.Given as goal

abbrev pub invariant-loop : goal.invariant-loop
invariant-loop l = record {
  so_far : SoFar new_label l.count l.initial.self l.counter l.labels.items l.self;
  few : length l.labels.items ≤ l.counter;
  distinct : each_after is_newly_keyed [] l.labels.items ≡ true;
}
