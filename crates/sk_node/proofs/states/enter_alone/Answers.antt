use Rattle.sk_node.proofs.Cuts.{on_err}
use Rattle.sk_node.proofs.Wholes.{whole_quiet, whole_state, part_none, part_quiet, part_state}
use Rattle.sk_node.proofs.Entering.{part_told, part_shown, part_judged, whole_only}
use Rattle.sk_node.proofs.states.enter_alone.Goals as goal

pub returns-in_err-add_state-clause-err : goal.returns-in_err-add_state-clause-err
returns-in_err-add_state-clause-err g c =
    on_err c.from_residual.result (part_none c.in_err-add_state.ensures.err (c.blocks_only_add.ensures.enters_only c.args.journal.now.setup c.args.to c.args.until c.args.journal.now.past))

pub returns-in_err-notify-clause-err : goal.returns-in_err-notify-clause-err
returns-in_err-notify-clause-err g c =
    on_err c.from_residual-in_err-notify.result (part_told c.blocks_only_add.ensures c.args.to c.args.until
    (part_state c.journals_go_by_entries.ensures c.args.to c.state-last.result c.in_ok-add_state.ensures.ok c.state-last.ensures c.in_err-notify.ensures.err))

pub returns-in_err-put_all-clause-err : goal.returns-in_err-put_all-clause-err
returns-in_err-put_all-clause-err g c =
    on_err c.from_residual-in_err-put_all.result (part_shown c.blocks_only_add.ensures c.args.to c.args.until c.args.numbers.now c.status-status.result c.requires.numbers c.status-status.ensures
    (whole_state c.journals_go_by_entries.ensures c.args.to c.state-last.result c.in_ok-add_state.ensures.ok c.state-last.ensures c.in_ok-notify.ensures.ok)
    (part_quiet c.in_err-put_all.ensures.err c.put_all.ensures.quiet))

pub returns-in_err-judge-clause-err : goal.returns-in_err-judge-clause-err
returns-in_err-judge-clause-err g c =
    on_err c.from_residual-in_err-judge.result (part_judged c.args.to c.args.until c.args.numbers.now c.status-status.result c.requires.numbers c.status-status.ensures
    (whole_state c.journals_go_by_entries.ensures c.args.to c.state-last.result c.in_ok-add_state.ensures.ok c.state-last.ensures c.in_ok-notify.ensures.ok)
    (whole_quiet c.in_ok-put_all.ensures.ok c.put_all.ensures.quiet)
    (part_quiet c.in_err-judge.ensures.err c.judge.ensures.quiet))

pub returns-clause-ok : goal.returns-clause-ok
returns-clause-ok g c =
    whole_only c.args.to c.args.until c.args.numbers.now c.status-status.result c.requires.numbers c.status-status.ensures
    (whole_state c.journals_go_by_entries.ensures c.args.to c.state-last.result c.in_ok-add_state.ensures.ok c.state-last.ensures c.in_ok-notify.ensures.ok)
    (whole_quiet c.in_ok-put_all.ensures.ok c.put_all.ensures.quiet)
    (whole_quiet c.in_ok-judge.ensures.ok c.judge.ensures.quiet)
