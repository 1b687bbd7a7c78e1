use Rattle.std.proofs.lemmas.Result.{err_from_is_err_and}
use Rattle.sk_law.specs.Kept.{Kept}
use Rattle.sk_node.proofs.Cuts.{cut_none}
use Rattle.sk_node.proofs.steps.complete.Goals as goal

pub returns-in_err-add_done-2-clause-err : goal.returns-in_err-add_done-2-clause-err
returns-in_err-add_done-2-clause-err c =
    let k : Kept = c.args.journal.now in
    let p = err_from_is_err_and c.from_residual-in_err-add_done-2.result c.from_residual-in_err-add_done-2.ensures.1 in
    rw p.1 (cut_none c.in_err-add_done-2.ensures.err (c.blocks_only_add.ensures.completes k.setup c.args.number k.past))
