use Rattle.std.proofs.Common.{refl}
use Rattle.sk_msg.specs.declared.command.Verdict.TheVariants.{Refused}
use Rattle.sk_msg.specs.declared.entry.Entry.TheVariants.{Ask}
use Rattle.sk_node.proofs.Cuts.{on_err}
use Rattle.sk_node.proofs.Wholes.{whole_is, whole_add, part_none}
use Rattle.sk_node.proofs.Deciding.{refused_is}
use Rattle.sk_node.proofs.commands.ask.Goals as goal

pub returns-in_err-add_plain-in-None-clause-err : goal.returns-in_err-add_plain-in-None-clause-err
returns-in_err-add_plain-in-None-clause-err g c =
    on_err c.from_residual-in_err-add_plain-in-None.result (part_none c.in_err-add_plain-in-None.ensures.err (c.blocks_only_add.ensures.asks c.args.journal.now.setup c.args.command c.args.journal.now.past))

pub returns-in_ok-add_plain-in-None-clause-ok : goal.returns-in_ok-add_plain-in-None-clause-ok
returns-in_ok-add_plain-in-None-clause-ok g c =
    whole_is (refused_is c.args.journal.now.setup c.args.command c.args.journal.now.past c.state-state.result c.state-state.ensures c.in-None.ensures.to)
    (whole_add c.journals_go_by_entries.ensures (Ask c.args.command (Refused c.state-state.result)) c.in_ok-add_plain-in-None.ensures.ok refl refl)
