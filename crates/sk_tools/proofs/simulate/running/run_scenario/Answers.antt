use Rattle.std.proofs.Common.{refl}
use Rattle.sk_tools.proofs.SimulateLaws.{ran_to, stalled_to}
use Rattle.sk_tools.proofs.simulate.running.run_scenario.Goals as goal

pub returns-in-Ok-clause-leaves : goal.returns-in-Ok-clause-leaves
returns-in-Ok-clause-leaves g c =
    ran_to c.args.what c.args.scenario.now c.write_run.result _ _ _ _ c.in-Ok.ensures.finished c.write_run.ensures.ends c.write_run.ensures.written c.write_run.ensures.said

pub returns-in-Err-Stalled-clause-leaves : goal.returns-in-Err-Stalled-clause-leaves
returns-in-Err-Stalled-clause-leaves g c =
    let stalled = rw c.in-Err-Stalled.field-0-is at c.in-Err-Stalled.ensures.stalled in
    let said = rw c.as_bytes.ensures.value at c.say.ensures.says in
    stalled_to c.args.what c.args.scenario.now _ _ _ _ stalled (λ _. refl) said
