use Rattle.std.proofs.Common.{◌∙◌, take}
use Rattle.sk_node.proofs.Cuts.{on_err, cut_puts}
use Rattle.sk_node.proofs.Wholes.{quiet_all}
use Rattle.sk_node.proofs.puts.put_all.Goals as goal

pub returns-in_err-put-clause-err : goal.returns-in_err-put-clause-err
returns-in_err-put-clause-err c =
    on_err c.from_residual.result (cut_puts c.args.journal.now c.put.new.self c.loop-number.number-index c.args.numbers.now c.args.message.now (c.in_err-put.ensures.err ∙ c.loop-number.invariant))

pub returns-in_err-put-clause-quiet : goal.returns-in_err-put-clause-quiet
returns-in_err-put-clause-quiet c = quiet_all c.journals_go_by_entries.ensures (take c.loop-number.number-index c.args.numbers.now) c.args.message.now (c.in_err-put.ensures.err ∙ c.loop-number.invariant)

pub returns-clause-quiet : goal.returns-clause-quiet
returns-clause-quiet c = quiet_all c.journals_go_by_entries.ensures (take c.loop-number.number-index c.args.numbers.now) c.args.message.now c.loop-number.invariant
