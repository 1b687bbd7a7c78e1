use Rattle.sk_law.specs.Rows as law
use Rattle.sk_node.specs.Turning as turning
use Rattle.sk_law.specs.Blocks.{judge_limits}
use Rattle.sk_node.proofs.Cuts.{on_err}
use Rattle.sk_node.proofs.Wholes.{part_first, part_then, whole_then}
use Rattle.sk_node.proofs.Rowing.{row_whole, row_part}
use Rattle.std.proofs.Common.{ap}
use Rattle.sk_law.specs.Blocks.{enter_until}
use Rattle.sk_node.proofs.Wholes.{part_is, whole_is}
use Rattle.sk_node.proofs.Rowing.{row_told}
use Rattle.sk_node.proofs.events.go_on.Goals as goal

pub enter-requires : goal.enter-requires
enter-requires g c = record { told = row_told c.args.journal.now.setup c.args.journal.now.past c.args.to c.requires.row }

pub returns-in_err-enter-clause-err : goal.returns-in_err-enter-clause-err
returns-in_err-enter-clause-err g c =
    on_err c.from_residual.result (row_part (law.Move c.args.to) c.requires.row (turning.moves c.args.to) (part_first (part_is (ap (λ n. enter_until c.args.journal.now.setup c.args.to n c.args.journal.now.past) c.start-until.ensures) c.in_err-enter.ensures.err) (c.blocks_only_add.ensures.limits _ _)))

pub returns-in_err-limit-clause-err : goal.returns-in_err-limit-clause-err
returns-in_err-limit-clause-err g c =
    on_err c.from_residual-in_err-limit.result
    (row_part (law.Move c.args.to) c.requires.row (turning.moves c.args.to) (part_then (λ S past. judge_limits S past) (whole_is (ap (λ n. enter_until c.args.journal.now.setup c.args.to n c.args.journal.now.past) c.start-until.ensures) c.in_ok-enter.ensures.ok) (c.blocks_only_add.ensures.enters _ _ _ _) c.in_err-limit.ensures.err))

pub returns-clause-ok : goal.returns-clause-ok
returns-clause-ok g c = row_whole (law.Move c.args.to) c.requires.row (turning.moves c.args.to) (whole_then (λ S past. judge_limits S past) (whole_is (ap (λ n. enter_until c.args.journal.now.setup c.args.to n c.args.journal.now.past) c.start-until.ensures) c.in_ok-enter.ensures.ok) c.in_ok-limit.ensures.ok)
