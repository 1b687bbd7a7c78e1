use Rattle.std.specs.Prelude.{refl}
use Rattle.sk_law.specs.Blocks.{judge_limits, ask}
use Rattle.sk_node.proofs.Cuts.{on_err, adds_both, adds_same}
use Rattle.sk_node.proofs.Wholes.{part_first, part_then, whole_none, whole_then}
use Rattle.sk_node.proofs.events.ask.Goals as goal

pub returns-in_err-verdict-clause-err : goal.returns-in_err-verdict-clause-err
returns-in_err-verdict-clause-err g c =
    on_err c.from_residual.result
    (part_first (part_then (λ S past. ask S c.args.command past) (whole_none c.note_asked.ensures refl) (adds_same refl) c.in_err-verdict.ensures.err) (c.blocks_only_add.ensures.limits _ _))

pub returns-in_err-limit-clause-err : goal.returns-in_err-limit-clause-err
returns-in_err-limit-clause-err g c =
    on_err c.from_residual-in_err-limit.result
    (part_then (λ S past. judge_limits S past) (whole_then (λ S past. ask S c.args.command past) (whole_none c.note_asked.ensures refl) c.in_ok-verdict.ensures.ok)
    (adds_both (adds_same refl) (c.blocks_only_add.ensures.asks _ _ _)) c.in_err-limit.ensures.err)

pub returns-clause-ok : goal.returns-clause-ok
returns-clause-ok g c =
    whole_then (λ S past. judge_limits S past) (whole_then (λ S past. ask S c.args.command past) (whole_none c.note_asked.ensures refl) c.in_ok-verdict.ensures.ok) c.in_ok-limit.ensures.ok
