-- What the JSON of a participant reads as, key by key in the order of the table.
use Rattle.std.specs.Prelude.{ℕ, ◌^◌, ◌-◌, Bool, true, false, List, [], ◌++◌, map, Option, Some, None, unwrap_or, Result, Ok, Err}
use Rattle.serde_json.specs.Data.{Data, no_items}
use Rattle.serde_json.specs.Find.{get}
use Rattle.sk_base.specs.Ranges.{is_name}
use Rattle.sk_msg.specs.declared.service.Service.{Service}
use Rattle.sk_config.specs.Applied.{overridden, unserved}
use Rattle.sk_config.specs.Paths.{key_at}
use Rattle.sk_config.specs.Reading.{reading_at}
use Rattle.sk_config.specs.declared.config.ConfigRead.{ConfigRead}
use Rattle.sk_config.specs.declared.fault.ConfigFault.{ConfigFault}
use Rattle.sk_config.specs.declared.warning.Warning.{Warning}
use Rattle.sk_config.specs.declared.fault.ConfigFault.TheVariants as config_faults
use Rattle.sk_rules.specs.Actions.{actions_read}
use Rattle.sk_rules.specs.Fields.{object_read, needed_text, word_read, number_read, list_read, where_given}
use Rattle.sk_rules.specs.Outcome.{◌>>=◌, ◌>>◌}
use Rattle.sk_rules.specs.Places.{ScopeValue}
use Rattle.sk_rules.specs.Rules.{rules_read}
use Rattle.sk_rules.specs.Scripts.{RuleValue}
use Rattle.sk_rules.specs.Vars.{vars_read}
use Rattle.sk_rules.specs.declared.action.ScriptAction.{ScriptAction}
use Rattle.sk_rules.specs.declared.fault.Rule.TheVariants as rules
use Rattle.sk_rules.specs.declared.fault.ScenarioFault.{ScenarioFault}
use Rattle.sk_rules.specs.declared.fault.ScenarioFault.TheVariants as faults
use Rattle.sk_rules.specs.declared.place.Place.TheVariants.{Ready}
use Rattle.sk_rules.specs.declared.vars.Var.{Var}
use Rattle.sk_script.specs.Keys.{knows, name_key, mode_key, step_key, services_key, config_key, vars_key, ready_key, script_key}
use Rattle.sk_script.specs.Scenarios.{PartReadValue}
use Rattle.sk_script.specs.Services.{services_in}
use Rattle.sk_script.specs.Words.{mode_of}
use Rattle.sk_script.specs.declared.keys.Object.TheVariants as objects
use Rattle.sk_script.specs.declared.word.Mode.{Mode}
use Rattle.sk_script.specs.declared.word.Mode.TheVariants.{Coordinated, Autonomous}

-- a participant is coordinated unless its mode says otherwise
abbrev pub is_coordinated : Option Mode → Bool
is_coordinated None = true
is_coordinated (Some Coordinated) = true
is_coordinated (Some Autonomous) = false

-- ---- its services, variables, actions and rules: none by default

unfoldable pub services_read : List ℕ → Data → Result (List Service) ScenarioFault
services_read path d = do
  given ← list_read 0 64 path services_key d
  services_in (key_at path services_key) (unwrap_or given no_items)

unfoldable pub own_vars_read : List ℕ → Data → Result (List Var) ScenarioFault
own_vars_read path d = do
  given ← where_given (vars_read (key_at path vars_key)) (get vars_key d)
  Ok (unwrap_or given [])

-- the list of what is done when it is ready, which may have any length
unfoldable pub ready_read : ScopeValue → List ℕ → Data → Result (List ScriptAction) ScenarioFault
ready_read scope path d = do
  given ← list_read 0 (2 ^ 64 - 1) path ready_key d
  actions_read scope Ready (key_at path ready_key) (unwrap_or given no_items)

unfoldable pub script_read : ScopeValue → List ℕ → Data → Result (List RuleValue) ScenarioFault
script_read scope path d = do
  given ← list_read 0 256 path script_key d
  rules_read scope (key_at path script_key) (unwrap_or given no_items)

-- ---- its configuration

-- the faults of a configuration, as a scenario says them
abbrev pub said : ConfigFault → ScenarioFault
said config_faults.NotJson = faults.NotJson
said (config_faults.Missing path) = faults.Refused path rules.Missing
said (config_faults.WrongType path) = faults.Refused path rules.WrongType
said (config_faults.BadValue path) = faults.Refused path rules.OutOfRange
said (config_faults.Double path) = faults.Refused path rules.NameTaken
said config_faults.WantOfMemory = faults.WantOfMemory

abbrev pub config_outcome : Result ConfigRead ConfigFault → Result ConfigRead ScenarioFault
config_outcome (Ok read) = Ok read
config_outcome (Err fault) = Err (said fault)

unfoldable pub config_read : List ℕ → Data → Result (Option ConfigRead) ScenarioFault
config_read path d = where_given (λ v. config_outcome (reading_at (key_at path config_key) v)) (get config_key d)

-- what a configuration changes of a participant, and what else it says
pub record AppliedValue : Type 0 where
  pub name : List ℕ
  pub services : List Service
  pub uri : Option (List ℕ)
  pub warnings : List Warning

-- the name and the services with what the configuration says in place of their own, where it stands at this path
abbrev pub applied : List ℕ → Option ConfigRead → List ℕ → List Service → AppliedValue
applied path None name services = record { name = name; services = services; uri = None; warnings = [] }
applied path (Some read) name services = record {
  name = unwrap_or read.config.participant_name name;
  services = map (overridden read.config) services;
  uri = read.config.registry_uri;
  warnings = read.warnings ++ unserved services path read.config;
}

-- ---- a participant

-- all that was read of it
abbrev pub made : AppliedValue → Bool → Option ℕ → List Var → List ScriptAction → List RuleValue → PartReadValue
made own coordinated step vars ready script = record {
  part = record {
    name = own.name;
    coordinated = coordinated;
    step = step;
    services = own.services;
    vars = vars;
    ready = ready;
    script = script;
  };
  uri = own.uri;
  warnings = own.warnings;
}

-- the services and variables of its actions
abbrev pub scoped : List Service → List Var → ScopeValue
scoped services vars = record { services = services; vars = vars }

unfoldable pub part_read : List ℕ → Data → Result PartReadValue ScenarioFault
part_read path d = do
  object_read (knows objects.Participant) path d
  name ← needed_text is_name path name_key d
  mode ← word_read mode_of path mode_key d
  step ← number_read 1 (2 ^ 60) path step_key d
  services ← services_read path d
  config ← config_read path d
  vars ← own_vars_read path d
  ready ← ready_read (scoped services vars) path d
  script ← script_read (scoped services vars) path d
  Ok (made (applied (key_at path config_key) config name services) (is_coordinated mode) step vars ready script)
