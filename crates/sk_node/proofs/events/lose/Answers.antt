use Rattle.sk_law.specs.declared.setup.Setup.{Setup}
use Rattle.sk_law.specs.Past.{Past}
use Rattle.sk_law.specs.Blocks.{judge_limits}
use Rattle.sk_node.proofs.Cuts.{on_err}
use Rattle.sk_node.proofs.Wholes.{part_first, part_then, whole_then}
use Rattle.sk_node.proofs.Receiving.{open_within}
use Rattle.sk_node.proofs.events.lose.Goals as goal

pub lose-requires : goal.lose-requires
lose-requires g c = record { number = open_within c.args.journal.now.setup c.args.journal.now.past c.args.peer c.requires.is_open }

pub returns-in_err-lose-clause-err : goal.returns-in_err-lose-clause-err
returns-in_err-lose-clause-err g c = on_err c.from_residual.result (part_first c.in_err-lose.ensures.err (c.blocks_only_add.ensures.limits _ _))

pub returns-in_err-limit-clause-err : goal.returns-in_err-limit-clause-err
returns-in_err-limit-clause-err g c =
    on_err c.from_residual-in_err-limit.result (part_then (λ S past. judge_limits S past) c.in_ok-lose.ensures.ok (c.blocks_only_add.ensures.loses _ _ _ _) c.in_err-limit.ensures.err)

pub returns-clause-ok : goal.returns-clause-ok
returns-clause-ok g c = whole_then (λ S past. judge_limits S past) c.in_ok-lose.ensures.ok c.in_ok-limit.ensures.ok
