-- What a scenario says, and which sayings are scenarios.
use Rattle.std.specs.Prelude.{ℕ, ◌^◌, Bool, ◌&&◌, ◌||◌, ◌==◌, List, [], ◌∷◌, map, length, nat_le, Option, if◌then◌else◌}
use Rattle.std.specs.List.{list_all, list_any}
use Rattle.std.specs.Str.{bytes_eq}
use Rattle.sk_base.specs.Ranges.{is_name}
use Rattle.sk_msg.specs.Each.{each_after}
use Rattle.sk_msg.specs.Rules.{is_step_size, is_new_name}
use Rattle.sk_msg.specs.declared.service.Service.{Service}
use Rattle.sk_config.specs.Configs.{is_none_or}
use Rattle.sk_config.specs.declared.warning.Warning.{Warning}
use Rattle.sk_rules.specs.Orders.{are_sorted}
use Rattle.sk_rules.specs.Places.{ScopeValue}
use Rattle.sk_rules.specs.Scripts.{RuleValue, is_action, is_rule}
use Rattle.sk_rules.specs.Vars.{are_vars}
use Rattle.sk_rules.specs.declared.action.ScriptAction.{ScriptAction}
use Rattle.sk_rules.specs.declared.place.Place.TheVariants.{Ready}
use Rattle.sk_rules.specs.declared.vars.Var.{Var}
use Rattle.sk_script.specs.Services.{are_services}

-- a participant: its name, whether the others wait for it, the size of its steps, where it is synchronised, its services and
-- variables, what it does when it is ready, and its rules
pub record PartValue : Type 0 where
  pub name : List ℕ
  pub coordinated : Bool
  pub step : Option ℕ
  pub services : List Service
  pub vars : List Var
  pub ready : List ScriptAction
  pub script : List RuleValue

-- the number of a participant is its place
pub record ScenarioValue : Type 0 where
  pub duration : ℕ
  pub required : List (List ℕ)
  pub participants : List PartValue

-- a participant as it was read, with the address of the registry that its configuration names and the warnings of it
pub record PartReadValue : Type 0 where
  pub part : PartValue
  pub uri : Option (List ℕ)
  pub warnings : List Warning

-- the same of a scenario; the addresses are those of its participants, in the order of their numbers
pub record ScenarioReadValue : Type 0 where
  pub scenario : ScenarioValue
  pub uris : List (Option (List ℕ))
  pub warnings : List Warning

-- what the actions of a participant may name
abbrev pub scope_of : PartValue → ScopeValue
scope_of part = record { services = part.services; vars = part.vars }

-- at most 256 rules
unfoldable pub is_script : ScopeValue → List RuleValue → Bool
is_script scope script = nat_le (length script) 256 && list_all (is_rule scope) script

-- a participant: its steps, if it has any, are 1 to 2^60 nanoseconds long
unfoldable pub is_part : PartValue → Bool
is_part part =
    is_name part.name
    && (is_none_or is_step_size part.step
    && (are_services part.services
    && (are_vars part.vars
    && (list_all (is_action (scope_of part) Ready) part.ready && is_script (scope_of part) part.script))))

-- at most 2^61 nanoseconds
unfoldable pub is_duration : ℕ → Bool
is_duration duration = nat_le duration (2 ^ 61)

-- 1 to 32
unfoldable pub is_participant_count : ℕ → Bool
is_participant_count count = nat_le 1 count && nat_le count 32

-- the names of participants
abbrev pub names_of : List PartValue → List (List ℕ)
names_of parts = map (λ part. part.name) parts

-- one of these participants has the name
unfoldable pub has_name : List PartReadValue → List ℕ → Bool
has_name reads name = list_any (λ read. bytes_eq read.part.name name) reads

-- one of these participants has the name and is coordinated
unfoldable pub is_coordinated_in : List PartValue → List ℕ → Bool
is_coordinated_in parts name = list_any (λ part. part.coordinated && bytes_eq part.name name) parts

-- the names of the coordinated participants, in their order
abbrev pub coordinated_names : List PartValue → List (List ℕ)
coordinated_names [] = []
coordinated_names (part ∷ parts) = if part.coordinated then part.name ∷ coordinated_names parts else coordinated_names parts

-- required names: distinct, at most 32, each that of a coordinated participant, and none only where nobody is coordinated
unfoldable pub are_required : List PartValue → List (List ℕ) → Bool
are_required parts names =
    nat_le (length names) 32
    && (each_after is_new_name [] names
    && (list_all (is_coordinated_in parts) names && (nat_le 1 (length names) || length (coordinated_names parts) == 0)))

-- what the type keeps of each scenario: the names of its participants are in the order of bytes, so they are distinct
unfoldable pub is_scenario : ScenarioValue → Bool
is_scenario s =
    is_duration s.duration
    && (is_participant_count (length s.participants)
    && (list_all is_part s.participants
    && (are_sorted (names_of s.participants) && are_required s.participants s.required)))
