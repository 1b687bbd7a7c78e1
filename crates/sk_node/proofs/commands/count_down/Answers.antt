use Rattle.std.proofs.Common.{refl, false}
use Rattle.std.proofs.lemmas.Bool.{lt-leb}
use Rattle.sk_node.proofs.Wholes.{whole_is, whole_none}
use Rattle.sk_node.proofs.Deciding.{counted_is}
use Rattle.sk_node.proofs.commands.count_down.Goals as goal

pub returns-clause-ok : goal.returns-clause-ok
returns-clause-ok g c =
    whole_is (counted_is c.args.journal.now.setup c.args.count c.args.journal.now.past false (lt-leb c.args.count 1 c.if-count-le1.false)) (whole_none c.set_pause.ensures refl)
