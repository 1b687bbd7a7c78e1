use Rattle.std.proofs.Common.{refl, ◌∙◌, true, false, ap}
use Rattle.sk_msg.specs.declared.entry.Entry.TheVariants.{System as Judged}
use Rattle.sk_law.specs.Past.{Past}
use Rattle.sk_law.specs.Kept.{grown}
use Rattle.sk_node.proofs.Cuts.{on_err, cut_none}
use Rattle.sk_node.proofs.Telling.{quiet_none}
use Rattle.sk_node.proofs.Wholes.{quiet_kept, quiet_add}
use Rattle.sk_node.proofs.Judging.{judged}
use Rattle.sk_node.proofs.puts.judge.Goals as goal

pub returns-then-is_same-clause-ok : goal.returns-then-is_same-clause-ok
returns-then-is_same-clause-ok c =
    ap (λ (p : Past). grown p c.args.journal.now) (judged c.args.journal.now.setup c.args.journal.now.past c.system-system.result c.system_told-last.result c.is_same.result true
    c.system-system.ensures c.system_told-last.ensures c.is_same.ensures c.if-is_same.true)

pub returns-then-is_same-clause-quiet : goal.returns-then-is_same-clause-quiet
returns-then-is_same-clause-quiet c = quiet_none c.args.journal.now.past.journal

pub returns-in_err-add_system-clause-err : goal.returns-in_err-add_system-clause-err
returns-in_err-add_system-clause-err c = on_err c.from_residual.result (cut_none c.in_err-add_system.ensures.err (c.blocks_only_add.ensures.judges c.args.journal.now.setup c.args.journal.now.past))

pub returns-in_err-add_system-clause-quiet : goal.returns-in_err-add_system-clause-quiet
returns-in_err-add_system-clause-quiet c = quiet_kept c.in_err-add_system.ensures.err

pub returns-clause-ok : goal.returns-clause-ok
returns-clause-ok c =
    c.in_ok-add_system.ensures.ok
    ∙ ap (λ (p : Past). grown p c.args.journal.now) (judged c.args.journal.now.setup c.args.journal.now.past c.system-system.result c.system_told-last.result c.is_same.result false
    c.system-system.ensures c.system_told-last.ensures c.is_same.ensures c.if-is_same.false)

pub returns-clause-quiet : goal.returns-clause-quiet
returns-clause-quiet c = quiet_add c.journals_go_by_entries.ensures (Judged c.system-system.result) c.in_ok-add_system.ensures.ok refl refl
