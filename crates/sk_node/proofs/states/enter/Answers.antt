use Rattle.std.proofs.Common.{◌∙◌, refl}
use Rattle.sk_node.proofs.Cuts.{on_err}
use Rattle.sk_node.proofs.Wholes.{whole_quiet, part_none, part_quiet}
use Rattle.sk_node.proofs.Entering.{part_only, part_behind, whole_until}
use Rattle.sk_node.proofs.states.enter.Goals as goal

pub returns-in_err-numbers-clause-err : goal.returns-in_err-numbers-clause-err
returns-in_err-numbers-clause-err g c =
    on_err c.from_residual.result (part_none refl (c.blocks_only_add.ensures.enters c.args.journal.now.setup c.args.to c.args.until c.args.journal.now.past))

pub returns-in_err-enter_alone-clause-err : goal.returns-in_err-enter_alone-clause-err
returns-in_err-enter_alone-clause-err g c =
    on_err c.from_residual-in_err-enter_alone.result (part_only c.blocks_only_add.ensures c.args.to c.args.until c.in_err-enter_alone.ensures.err)

pub returns-in_err-go_behind-clause-err : goal.returns-in_err-go_behind-clause-err
returns-in_err-go_behind-clause-err g c =
    on_err c.from_residual-in_err-go_behind.result (part_behind c.blocks_only_add.ensures c.args.to c.args.until _ c.is_first_run-is_first.result (c.deref-2.ensures.value ∙ c.in_ok-numbers.ensures) c.is_first_run-is_first.ensures
    c.in_ok-enter_alone.ensures.ok (part_quiet c.in_err-go_behind.ensures.err c.go_behind.ensures.quiet))

pub returns-clause-ok : goal.returns-clause-ok
returns-clause-ok g c =
    whole_until c.args.to c.args.until _ c.is_first_run-is_first.result (c.deref-2.ensures.value ∙ c.in_ok-numbers.ensures) c.is_first_run-is_first.ensures
    c.in_ok-enter_alone.ensures.ok (whole_quiet c.in_ok-go_behind.ensures.ok c.go_behind.ensures.quiet)
