-- The scenario that is made of a number.
use Rattle.std.specs.Prelude.{ℕ, zero, suc, ◌+◌, ◌*◌, ◌/◌, ◌%◌, ◌^◌, true, false, codes, List, [], ◌∷◌, Some}
use Rattle.sk_msg.specs.declared.action.Action.TheVariants as act
use Rattle.sk_msg.specs.declared.service.Service.{Service}
use Rattle.sk_msg.specs.declared.service.ServiceKind.TheVariants.{Publisher, Subscriber}
use Rattle.sk_rules.specs.Scripts.{RuleValue}
use Rattle.sk_rules.specs.declared.action.ScriptAction.TheVariants.{Append, Add}
use Rattle.sk_rules.specs.declared.rule.When.TheVariants.{Every}
use Rattle.sk_rules.specs.declared.vars.Var.{Var}
use Rattle.sk_script.specs.Scenarios.{PartValue, ScenarioValue, coordinated_names}

-- what is drawn from: the number modulo 2^31 at first, and at each draw this
unfoldable pub next_seed : ℕ → ℕ
next_seed seed = (1103515245 * seed + 12345) % 2 ^ 31

-- the size of steps by what is drawn, 1 to 4 milliseconds
unfoldable pub step_size : ℕ → ℕ
step_size seed = 1000000 * (1 + seed / 65536 % 4)

-- a letter and a number in two decimal digits
abbrev pub numbered : ℕ → ℕ → List ℕ
numbered letter number = letter ∷ (48 + number / 10) ∷ (48 + number % 10) ∷ []

-- the name of the participant of this number: `N` and its digits
abbrev pub participant_name : ℕ → List ℕ
participant_name number = numbered 78 number

-- what it publishes: `T` and its digits
abbrev pub topic : ℕ → List ℕ
topic number = numbered 84 number

-- its publisher, and the subscriber of the next one's topic; the last one subscribes to the first
abbrev pub services : ℕ → ℕ → List Service
services count number =
    record { id = 0; kind = Publisher; name = codes "P"; spec = record { topic = topic number; media = []; labels = [] }; history = false }
    ∷ record { id = 1; kind = Subscriber; name = codes "S"; spec = record { topic = topic ((number + 1) % count); media = []; labels = [] }; history = false }
    ∷ []

-- its variable, which counts its steps
abbrev pub vars : List Var
vars = record { name = codes "x"; value = 0 } ∷ []

-- in each step it publishes the variable and adds one to it
abbrev pub script : ℕ → List RuleValue
script size = record { when = Every size 0; actions = Append (act.Publish 0 []) 0 ∷ Add 0 1 ∷ [] } ∷ []

-- the participant of this number, of as many, whose steps have this size
unfoldable pub part : ℕ → ℕ → ℕ → PartValue
part count number size = record {
  name = participant_name number;
  coordinated = true;
  step = Some size;
  services = services count number;
  vars = vars;
  ready = [];
  script = script size;
}

-- so many participants from this number on, one draw for each
abbrev pub parts : ℕ → ℕ → ℕ → ℕ → List PartValue
parts count seed number zero = []
parts count seed number (suc left) = part count number (step_size (next_seed seed)) ∷ parts count (next_seed seed) (number + 1) left

-- all of them
unfoldable pub all_parts : ℕ → ℕ → List PartValue
all_parts number count = parts count (number % 2 ^ 31) 0 count

-- the scenario of this number, with so many participants and so many steps of the shortest size
unfoldable pub generated : ℕ → ℕ → ℕ → ScenarioValue
generated number count steps = record {
  duration = 1000000 * steps;
  required = coordinated_names (all_parts number count);
  participants = all_parts number count;
}
