use Rattle.std.proofs.Common.{ap}
use Rattle.sk_script.specs.Scenarios.{ScenarioReadValue}
use Rattle.sk_tools.proofs.SimulateLaws.{behind_warnings}
use Rattle.sk_tools.proofs.simulate.simulate_read.Goals as goal

pub returns-clause-leaves : goal.returns-clause-leaves
returns-clause-leaves g c = λ file.
    let scenario = ap (λ (read : ScenarioReadValue). read.scenario) c.read.view_is in
    let warnings = ap (λ (read : ScenarioReadValue). read.warnings) c.read.view_is in
    let warned = rw (c.as_slice.ensures, warnings) at c.warn.ensures.says in
    let ran = rw scenario at c.run_scenario.ensures.leaves in
    behind_warnings c.args.what file c.args.read.now c.run_scenario.result _ _ _ _ _ c.warn.ensures.tells warned ran
