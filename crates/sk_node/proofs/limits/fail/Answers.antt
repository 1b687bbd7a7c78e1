use Rattle.std.proofs.Common.{refl}
use Rattle.sk_msg.specs.declared.entry.Entry.TheVariants.{Fault}
use Rattle.sk_msg.specs.declared.state.State.TheVariants.{Error}
use Rattle.sk_law.specs.Blocks.{enter_if}
use Rattle.sk_node.proofs.Cuts.{on_err, adds_one}
use Rattle.sk_node.proofs.Wholes.{whole_add, whole_then, part_none, part_then}
use Rattle.sk_node.proofs.limits.fail.Goals as goal

pub returns-in_err-add_plain-clause-err : goal.returns-in_err-add_plain-clause-err
returns-in_err-add_plain-clause-err g c =
    on_err c.from_residual.result (part_none c.in_err-add_plain.ensures.err (c.blocks_only_add.ensures.fails c.args.journal.now.setup c.args.number c.args.journal.now.past))

pub returns-in_err-enter_where-clause-err : goal.returns-in_err-enter_where-clause-err
returns-in_err-enter_where-clause-err g c =
    on_err c.from_residual-in_err-enter_where.result (part_then (λ S past. enter_if S Error past)
    (whole_add c.journals_go_by_entries.ensures (Fault c.args.number) c.in_ok-add_plain.ensures.ok refl refl) (adds_one (Fault c.args.number) c.args.journal.now.past) c.in_err-enter_where.ensures.err)

pub returns-clause-ok : goal.returns-clause-ok
returns-clause-ok g c =
    whole_then (λ S past. enter_if S Error past)
    (whole_add c.journals_go_by_entries.ensures (Fault c.args.number) c.in_ok-add_plain.ensures.ok refl refl) c.in_ok-enter_where.ensures.ok
