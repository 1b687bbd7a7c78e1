use Rattle.sk_node.proofs.Made.{made_sound, made_lawful}
use Rattle.sk_node.proofs.node.Node.new.Goals as goal

pub invariant_of-result : goal.invariant_of-result
invariant_of-result c = made_sound c.args.setup c.in_ok-journal.journal c.requires.services c.requires.few c.in_ok-journal.ensures.made c.sound.ensures.all c.sound.ensures.within

pub returns-clause-lawful : goal.returns-clause-lawful
returns-clause-lawful c = made_lawful c.args.setup c.in_ok-journal.journal.past c.in_ok-journal.ensures.made
