use Rattle.std.specs.Prelude.{◌≡◌, take}
use Rattle.sk_law.specs.Kept.{grown}
use Rattle.sk_node.specs.Making.{greeted}
use Rattle.sk_node.proofs.making.greet.Given as goal

abbrev pub invariant-loop-message : goal.invariant-loop-message
invariant-loop-message l = l.journal ≡ grown (greeted (take l.message-index l.messages) l.peer l.fn.journal.past) l.fn.journal
