use Rattle.std.proofs.Common.{refl}
use Rattle.sk_node.proofs.Cuts.{on_err, cut_none}
use Rattle.sk_node.proofs.Telling.{quiet_none}
use Rattle.sk_node.proofs.commands.tell_abort.Goals as goal

pub returns-in_err-numbers-clause-err : goal.returns-in_err-numbers-clause-err
returns-in_err-numbers-clause-err c = on_err c.from_residual.result (cut_none refl (c.blocks_only_add.ensures.tells c.args.journal.now.setup c.args.command c.args.journal.now.past))

pub returns-in_err-numbers-clause-quiet : goal.returns-in_err-numbers-clause-quiet
returns-in_err-numbers-clause-quiet c = quiet_none c.args.journal.now.past.journal

pub returns-clause-quiet : goal.returns-clause-quiet
returns-clause-quiet c = quiet_none c.args.journal.now.past.journal
