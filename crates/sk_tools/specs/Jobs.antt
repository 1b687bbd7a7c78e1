-- What the commands on files are to do, by their words.
use Rattle.std.specs.Prelude.{ℕ, Option, option_map, List, if◌then◌else◌}
use Rattle.std.specs.Option.{option_or}
use Rattle.clap.specs.Words.{Text}
use Rattle.sk_tools.specs.Words.{SimulationPlan, ScenarioPlan, file_to_check, simulation_of, scenario_of}

-- a case for each command; a scenario that is made of a number is written, or run
pub data Job : Type 0 where
  Check : List ℕ → Job
  Simulate : SimulationPlan → Job
  Generate : ScenarioPlan → Job
  Run : ScenarioPlan → Job

-- what is done with the scenario that is made so
abbrev pub job_of : ScenarioPlan → Job
job_of plan = if plan.run then Run plan else Generate plan

-- the job that words ask for
abbrev pub offline_job : List Text → Option Job
offline_job words =
    option_or (option_map Check (file_to_check words)) (option_or (option_map Simulate (simulation_of words)) (option_map job_of (scenario_of words)))
