use Rattle.sk_system.proofs.monitor.Monitor.see.Goals as goal

pub returns-clause-kept : goal.returns-clause-kept
returns-clause-kept c = rw (← c.self.view_is, c.in_ok-put.ensures.ok, c.system_state-system.ensures)
