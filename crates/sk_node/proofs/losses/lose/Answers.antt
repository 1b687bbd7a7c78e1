use Rattle.std.proofs.Common.{refl, true, false}
use Rattle.sk_msg.specs.declared.entry.Entry.TheVariants.{Gone}
use Rattle.sk_msg.specs.declared.state.State.TheVariants.{Error}
use Rattle.sk_law.specs.Blocks.{enter_if}
use Rattle.sk_node.proofs.Cuts.{on_err, adds_one}
use Rattle.sk_node.proofs.Wholes.{whole_is, whole_add, whole_then, part_is, part_none, part_then}
use Rattle.sk_node.proofs.Deciding.{lost_is}
use Rattle.sk_node.proofs.losses.lose.Goals as goal

pub returns-in_err-add_gone-clause-err : goal.returns-in_err-add_gone-clause-err
returns-in_err-add_gone-clause-err g c =
    on_err c.from_residual.result (part_none c.in_err-add_gone.ensures.err (c.blocks_only_add.ensures.loses c.args.journal.now.setup c.args.number c.args.reason c.args.journal.now.past))

pub returns-in_err-enter_where-clause-err : goal.returns-in_err-enter_where-clause-err
returns-in_err-enter_where-clause-err g c =
    on_err c.from_residual-in_err-enter_where.result
    (part_is (lost_is c.args.journal.now.setup c.args.number c.args.reason c.args.journal.now.past c.is_peer-is_peer.result true c.is_peer-is_peer.ensures c.if-is_peer.true)
    (part_then (λ S past. enter_if S Error past)
    (whole_add c.journals_go_by_entries.ensures (Gone c.args.number c.args.reason) c.in_ok-add_gone.ensures.ok refl refl) (adds_one (Gone c.args.number c.args.reason) c.args.journal.now.past) c.in_err-enter_where.ensures.err))

pub returns-in_ok-enter_where-clause-ok : goal.returns-in_ok-enter_where-clause-ok
returns-in_ok-enter_where-clause-ok g c =
    whole_is (lost_is c.args.journal.now.setup c.args.number c.args.reason c.args.journal.now.past c.is_peer-is_peer.result true c.is_peer-is_peer.ensures c.if-is_peer.true)
    (whole_then (λ S past. enter_if S Error past)
    (whole_add c.journals_go_by_entries.ensures (Gone c.args.number c.args.reason) c.in_ok-add_gone.ensures.ok refl refl) c.in_ok-enter_where.ensures.ok)

pub returns-else-is_peer-clause-ok : goal.returns-else-is_peer-clause-ok
returns-else-is_peer-clause-ok g c =
    whole_is (lost_is c.args.journal.now.setup c.args.number c.args.reason c.args.journal.now.past c.is_peer-is_peer.result false c.is_peer-is_peer.ensures c.if-is_peer.false)
    (whole_add c.journals_go_by_entries.ensures (Gone c.args.number c.args.reason) c.in_ok-add_gone.ensures.ok refl refl)
