use Rattle.sk_node.proofs.Cuts.{on_err}
use Rattle.sk_node.proofs.Wholes.{whole_quiet, part_quiet}
use Rattle.sk_node.proofs.Obeying.{whole_accepted, part_paused, part_entering, part_telling, whole_asked}
use Rattle.sk_node.proofs.commands.obey.Goals as goal

pub returns-in_err-add_plain-clause-err : goal.returns-in_err-add_plain-clause-err
returns-in_err-add_plain-clause-err g c =
    on_err c.from_residual.result (part_paused c.blocks_only_add.ensures c.args.command c.args.to c.set_pause.ensures c.in_err-add_plain.ensures.err)

pub returns-in_err-enter-clause-err : goal.returns-in_err-enter-clause-err
returns-in_err-enter-clause-err g c =
    on_err c.from_residual-in_err-enter.result (part_entering c.blocks_only_add.ensures c.args.command c.args.to c.bound-until.result c.bound-until.ensures
    (whole_accepted c.journals_go_by_entries.ensures c.args.command c.set_pause.ensures c.in_ok-add_plain.ensures.ok) c.in_err-enter.ensures.err)

pub returns-in_err-tell_abort-clause-err : goal.returns-in_err-tell_abort-clause-err
returns-in_err-tell_abort-clause-err g c =
    on_err c.from_residual-in_err-tell_abort.result (part_telling c.blocks_only_add.ensures c.args.command c.args.to c.bound-until.result c.bound-until.ensures
    (whole_accepted c.journals_go_by_entries.ensures c.args.command c.set_pause.ensures c.in_ok-add_plain.ensures.ok) c.in_ok-enter.ensures.ok
    (part_quiet c.in_err-tell_abort.ensures.err c.tell_abort.ensures.quiet))

pub returns-clause-ok : goal.returns-clause-ok
returns-clause-ok g c =
    whole_asked c.args.command c.args.to c.bound-until.result c.bound-until.ensures
    (whole_accepted c.journals_go_by_entries.ensures c.args.command c.set_pause.ensures c.in_ok-add_plain.ensures.ok) c.in_ok-enter.ensures.ok
    (whole_quiet c.in_ok-tell_abort.ensures.ok c.tell_abort.ensures.quiet)
