use Rattle.std.proofs.Common.{sym, ◌∙◌}
use Rattle.sk_system.proofs.MonitorLaws.{passed_over}
use Rattle.sk_system.proofs.monitor.Monitor.note.Goals as goal

pub returns-in_default : goal.returns-in_default
returns-in_default c =
    let is = c.content.ensures.value in
    let over = passed_over c.args.self.now c.args.name.now c.args.message.now (rw is at c.in_default.not-Leave) (rw is at c.in_default.not-Status) (rw is at c.in_default.not-Workflow) in
    record { lines = c.new.ensures.items ∙ sym over.0; kept = sym over.1; same = tt }
