use Rattle.sk_tools.specs.Plans.{scenario_plan}
use Rattle.sk_tools.proofs.GenerateLaws.{generate_ran, run_ran, does_generate, does_run}
use Rattle.sk_tools.proofs.generate.write_or_run.Goals as goal

pub returns-then-run : goal.returns-then-run
returns-then-run g c = λ files same.
    let done = c.run_generated.ensures in
    does_run (scenario_plan c.args.plan) files _ _ _ c.if-run.true
    (rw (c.number.ensures, c.exit_status.ensures) (run_ran c.args.plan files _ _ c.run_generated.result same done.writes done.leaves))

pub returns-else-run : goal.returns-else-run
returns-else-run g c = λ files same.
    let done = c.generate.ensures in
    does_generate (scenario_plan c.args.plan) files _ _ _ c.if-run.false
    (rw (c.number-else-run.ensures, c.exit_status-else-run.ensures) (generate_ran c.args.plan files _ _ c.generate.result same done.ends done.writes done.written done.said))
