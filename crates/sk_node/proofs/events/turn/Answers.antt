use Rattle.std.specs.Prelude.{◌-◌, length}
use Rattle.std.proofs.Common.{sym, subst}
use Rattle.sk_node.specs.Turning.{Turns}
use Rattle.sk_node.proofs.Answering.{turned}
use Rattle.sk_node.proofs.Serving.{came, counted_entries}
use Rattle.sk_node.proofs.events.turn.Goals as goal

pub overflow_sub-after : goal.overflow_sub-after
overflow_sub-after g c = came c.blocks_only_add.ensures c.in_ok-act-in-Some.ensures.ok.went c.entries-before.result.now c.entries-after.result.now c.entries-before.ensures c.entries-after.ensures

pub returns-in_ok-act-in-Some-clause-turned : goal.returns-in_ok-act-in-Some-clause-turned
returns-in_ok-act-in-Some-clause-turned g c =
    subst (λ t. Turns t c.args.journal.now c.act.new.journal (g.A.App.lists c.args.app.now) (g.A.App.lists c.act.new.app)) (sym c.turned_by.ensures)
    (turned c.blocks_only_add.ensures c.turns_come_to_an_end.ensures c.in-Some.row (length c.entries-after.result.now - length c.entries-before.result.now) c.in-Some.ensures.small c.in_ok-act-in-Some.ensures.ok
    (counted_entries c.blocks_only_add.ensures c.in_ok-act-in-Some.ensures.ok.went c.entries-before.result.now c.entries-after.result.now c.entries-before.ensures c.entries-after.ensures))
