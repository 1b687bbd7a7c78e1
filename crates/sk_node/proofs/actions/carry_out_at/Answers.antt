use Rattle.std.proofs.Common.{refl}
use Rattle.sk_law.specs.Outcomes.{named}
use Rattle.sk_node.specs.Acting.{comes_to}
use Rattle.sk_node.proofs.Cuts.{on_err}
use Rattle.sk_node.proofs.Wholes.{part_none}
use Rattle.sk_node.proofs.actions.carry_out_at.Goals as goal

pub returns-in_err-answer-clause-err : goal.returns-in_err-answer-clause-err
returns-in_err-answer-clause-err g c =
    on_err c.from_residual.result (part_none refl (c.blocks_only_add.ensures.does (named c.args.action.now) (comes_to c.args.journal.now.setup c.args.journal.now.past c.args.action.now c.args.state) c.args.journal.now.past))
