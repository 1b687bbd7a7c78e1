use Rattle.std.specs.Prelude.{◌≡◌, take}
use Rattle.sk_law.specs.Kept.{grown}
use Rattle.sk_node.specs.Making.{introduced}
use Rattle.sk_node.proofs.making.introduce.Given as goal

abbrev pub invariant-loop-peer : goal.invariant-loop-peer
invariant-loop-peer l = l.journal ≡ grown (introduced l.messages (take l.peer-index l.peers) l.fn.journal.past) l.fn.journal
