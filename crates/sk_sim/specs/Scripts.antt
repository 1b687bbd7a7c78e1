-- What a scenario makes of its participants.
use Rattle.std.specs.Prelude.{ℕ, false, [], Some}
use Rattle.sk_law.specs.declared.setup.Setup.{Setup}
use Rattle.sk_law.specs.Script.{Script}
use Rattle.sk_node.specs.Lists.{Lists}
use Rattle.sk_machine.specs.Machines.{part_script, first_values}
use Rattle.sk_machine.specs.Playing.{script_of}
use Rattle.sk_script.specs.Scenarios.{PartValue, ScenarioValue, names_of, scope_of}
use Rattle.sk_sim.specs.declared.scripted.Scripted.{Scripted}

-- the script of a participant, from the first values of its variables on
abbrev pub script_by : PartValue → Script
script_by part = script_of (part_script (scope_of part) part.ready part.script) (first_values part.vars)

-- what an app is made of: its scenario, and which of the participants it is
pub record Origin : Type 0 where
  pub scenario : ScenarioValue
  pub number : ℕ

-- before the first call
abbrev pub no_lists : Lists
no_lists = record { heard = []; made = []; notified = [] }

-- what the app of a participant was called with
abbrev pub lists_of : Scripted → Lists
lists_of app = record { heard = app.heard.items; made = app.made.items; notified = app.notified.items }

abbrev pub origin_of : Scripted → Origin
origin_of app = record { scenario = app.of.value; number = app.number }

-- the setup of one, by what the scenario says of it
abbrev pub setup_by : ScenarioValue → ℕ → PartValue → Setup
setup_by S number part = record {
  number = number;
  names = names_of S.participants;
  coordinated = part.coordinated;
  step = part.step;
  is_async = false;
  ready_async = false;
  services = part.services;
  duration = S.duration;
  required = Some S.required;
}
