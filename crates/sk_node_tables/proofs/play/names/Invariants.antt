use Rattle.std.proofs.Common.{◌≡◌, [], true}
use Rattle.sk_msg.specs.Each.{each_after}
use Rattle.sk_msg.specs.Rules.{is_new_name}
use Rattle.sk_node_tables.proofs.play.names.Given as goal

abbrev pub invariant-loop-text : goal.invariant-loop-text
invariant-loop-text l = each_after is_new_name [] l.names.items ≡ true
