use Rattle.sk_law.specs.Rows as law
use Rattle.sk_node.specs.Turning as turning
use Rattle.sk_law.specs.Blocks.{judge_limits}
use Rattle.sk_node.proofs.Cuts.{on_err}
use Rattle.sk_node.proofs.Wholes.{part_first, part_then, whole_then}
use Rattle.sk_node.proofs.Rowing.{row_whole, row_part}
use Rattle.sk_node.proofs.events.count_down.Goals as goal

pub returns-in_err-count_down-clause-err : goal.returns-in_err-count_down-clause-err
returns-in_err-count_down-clause-err g c =
    on_err c.from_residual.result (row_part (law.Count c.args.count) c.requires.row (turning.counts c.args.count) (part_first (c.in_err-count_down.ensures.err) (c.blocks_only_add.ensures.limits _ _)))

pub returns-in_err-limit-clause-err : goal.returns-in_err-limit-clause-err
returns-in_err-limit-clause-err g c =
    on_err c.from_residual-in_err-limit.result
    (row_part (law.Count c.args.count) c.requires.row (turning.counts c.args.count) (part_then (λ S past. judge_limits S past) (c.in_ok-count_down.ensures.ok) (c.blocks_only_add.ensures.counts _ _ _) c.in_err-limit.ensures.err))

pub returns-clause-ok : goal.returns-clause-ok
returns-clause-ok g c = row_whole (law.Count c.args.count) c.requires.row (turning.counts c.args.count) (whole_then (λ S past. judge_limits S past) (c.in_ok-count_down.ensures.ok) c.in_ok-limit.ensures.ok)
