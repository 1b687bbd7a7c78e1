use Rattle.std.proofs.Common.{refl}
use Rattle.sk_node.proofs.Cuts.{on_err, cut_none}
use Rattle.sk_node.proofs.Telling.{quiet_none}
use Rattle.sk_node.proofs.puts.announce.Goals as goal

pub returns-in_err-numbers-in-Some-clause-err : goal.returns-in_err-numbers-in-Some-clause-err
returns-in_err-numbers-in-Some-clause-err c = on_err c.from_residual.result (cut_none refl (c.blocks_only_add.ensures.announces c.args.journal.now.setup c.args.at c.args.journal.now.past))

pub returns-in_err-numbers-in-Some-clause-quiet : goal.returns-in_err-numbers-in-Some-clause-quiet
returns-in_err-numbers-in-Some-clause-quiet c = quiet_none c.args.journal.now.past.journal
