-- The one text of a scenario: compact JSON of all that isn't as by default, with keys in byte order, and a newline.
use Rattle.std.specs.Prelude.{ℕ, Bool, true, false, List, [], ◌∷◌, ◌++◌, map, Option, Some, None, codes, if◌then◌else◌}
use Rattle.std.specs.Str.{bytes_eq}
use Rattle.serde_json.specs.Data.{Data, string, array}
use Rattle.serde_json.specs.Written.{compact_text}
use Rattle.sk_script.specs.Keys.{duration_key, required_key, participants_key, name_key, mode_key, step_key, services_key, vars_key, ready_key, script_key}
use Rattle.sk_script.specs.Scenarios.{PartValue, ScenarioValue, coordinated_names, scope_of}
use Rattle.sk_script_text.specs.Actions.{action_data, rule_data}
use Rattle.sk_script_text.specs.Objects.{with_fields, text, whole, list, items}
use Rattle.sk_script_text.specs.Services.{service_data, vars_data}

-- a participant is coordinated by default
abbrev pub mode_data : Bool → Option Data
mode_data true = None
mode_data false = text (codes "autonomous")

-- a participant without steps isn't synchronised
abbrev pub step_data : Option ℕ → Option Data
step_data None = None
step_data (Some size) = whole size

unfoldable pub part_data : PartValue → Data
part_data part = with_fields (
    record { key = name_key; value = text part.name }
    ∷ record { key = mode_key; value = mode_data part.coordinated }
    ∷ record { key = step_key; value = step_data part.step }
    ∷ record { key = services_key; value = list (items service_data part.services) }
    ∷ record { key = vars_key; value = vars_data part.vars }
    ∷ record { key = ready_key; value = list (items (action_data (scope_of part)) part.ready) }
    ∷ record { key = script_key; value = list (items (rule_data (scope_of part)) part.script) }
    ∷ [])

-- the same names in the same order
abbrev pub are_same : List (List ℕ) → List (List ℕ) → Bool
are_same [] [] = true
are_same [] (other ∷ others) = false
are_same (name ∷ names) [] = false
are_same (name ∷ names) (other ∷ others) = if bytes_eq name other then are_same names others else false

-- all coordinated participants are required by default
unfoldable pub required_data : ScenarioValue → Option Data
required_data s = if are_same s.required (coordinated_names s.participants) then None else Some (array (items string s.required))

unfoldable pub scenario_data : ScenarioValue → Data
scenario_data s = with_fields (
    record { key = duration_key; value = whole s.duration }
    ∷ record { key = required_key; value = required_data s }
    ∷ record { key = participants_key; value = Some (array (items part_data s.participants)) }
    ∷ [])

unfoldable pub canonical : ScenarioValue → List ℕ
canonical s = compact_text (scenario_data s) ++ 10 ∷ []

-- a file without configurations names no addresses
abbrev pub no_uris : List PartValue → List (Option (List ℕ))
no_uris parts = map (λ part. None) parts
