use Rattle.std.proofs.Common.{false}
use Rattle.sk_node.proofs.Cuts.{on_err}
use Rattle.sk_node.proofs.Wholes.{whole_is, part_first}
use Rattle.sk_node.proofs.Deciding.{adds_pause, paused_is}
use Rattle.sk_node.proofs.commands.pause.Goals as goal

pub returns-in_err-ask-clause-err : goal.returns-in_err-ask-clause-err
returns-in_err-ask-clause-err g c =
    on_err c.from_residual.result (part_first c.in_err-ask.ensures.err (adds_pause c.args.journal.now.setup c.args.count c.args.journal.now.past))

pub returns-else-runs-clause-ok : goal.returns-else-runs-clause-ok
returns-else-runs-clause-ok g c =
    whole_is (paused_is c.args.journal.now.setup c.args.count c.args.journal.now.past c.state.result c.is_same-runs.result false c.state.ensures c.is_same-runs.ensures c.if-runs.false) c.in_ok-ask.ensures.ok
