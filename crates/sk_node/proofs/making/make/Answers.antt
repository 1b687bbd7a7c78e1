use Rattle.std.proofs.Common.{◌∙◌}
use Rattle.sk_node.proofs.Made.{first_is, made_steps}
use Rattle.sk_node.proofs.making.make.Goals as goal

pub returns-clause-made : goal.returns-clause-made
returns-clause-made c =
    made_steps c.args.setup c.in_ok-journal.journal c.introduce.new.journal c.begin.new.journal c.deref.result.now c.deref-2.result.now
    (c.deref-2.ensures.value ∙ c.in_ok-messages.ensures) c.in_ok-journal.ensures.setup
    (first_is c.args.setup c.in_ok-journal.journal.past c.in_ok-journal.ensures.journal c.in_ok-journal.ensures.memory)
    (c.deref.ensures.value ∙ c.in_ok-peers.ensures) c.in_ok-introduce.ensures c.in_ok-begin.ensures
