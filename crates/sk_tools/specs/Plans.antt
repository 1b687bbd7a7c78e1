-- What the readers of the words of `pipe`, `simulate` and `generate` answer.
use Rattle.std.specs.Prelude.{◌≡◌, Option, Some}
use Rattle.sk_tools.specs.Words.{PipePlan, SimulationPlan, ScenarioPlan}
use Rattle.sk_tools.specs.declared.generate.GeneratePlan.{GeneratePlan}
use Rattle.sk_tools.specs.declared.simulate.SimulatePlan.{SimulatePlan}
use Rattle.sk_pipe.specs.declared.plan.Plan.{Plan}

abbrev pub IsPlanOf : Option PipePlan → Plan → Type 0
IsPlanOf read plan = read ≡ Some (record { name = plan.name; step = plan.step; duration = plan.duration })

-- what the words said
abbrev pub scenario_plan : GeneratePlan → ScenarioPlan
scenario_plan plan = record { number = plan.number; participants = plan.participants; steps = plan.steps; run = plan.run }

abbrev pub IsScenarioOf : Option ScenarioPlan → GeneratePlan → Type 0
IsScenarioOf read plan = read ≡ Some (scenario_plan plan)

abbrev pub IsSimulationOf : Option SimulationPlan → SimulatePlan → Type 0
IsSimulationOf read plan = read ≡ Some (record { file = plan.file.now; report = plan.report })
