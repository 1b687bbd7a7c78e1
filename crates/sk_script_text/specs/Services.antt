-- What is written of services and variables.
use Rattle.std.specs.Prelude.{Bool, true, false, ◌&&◌, List, [], ◌∷◌, map, Option, Some, None, if◌then◌else◌}
use Rattle.std.specs.Str.{bytes_eq}
use Rattle.serde_json.specs.Data.{Data}
use Rattle.sk_msg.specs.declared.label.Label.{Label}
use Rattle.sk_msg.specs.declared.service.Service.{Service}
use Rattle.sk_rules.specs.declared.vars.Var.{Var}
use Rattle.sk_script.specs.Keys.{is_bus, target_key, name_key, kind_key, media_key, labels_key, history_key, key_key, value_key}
use Rattle.sk_script_text.specs.Objects.{Field, with_fields, text, some_text, whole, list, items}
use Rattle.sk_script_text.specs.Words.{kind_word, label_word}

unfoldable pub label_data : Label → Data
label_data label = with_fields (
    record { key = key_key; value = text label.key }
    ∷ record { key = kind_key; value = text (label_word label.kind) }
    ∷ record { key = value_key; value = text label.value }
    ∷ [])

-- what it speaks of; the network of a controller is its name by default
abbrev pub target_data : Service → Option Data
target_data service = if is_bus service.kind && bytes_eq service.spec.topic service.name then None else text service.spec.topic

-- a publisher that keeps its last publication
abbrev pub history_data : Bool → Option Data
history_data true = whole 1
history_data false = None

unfoldable pub service_data : Service → Data
service_data service = with_fields (
    record { key = kind_key; value = text (kind_word service.kind) }
    ∷ record { key = name_key; value = text service.name }
    ∷ record { key = target_key service.kind; value = target_data service }
    ∷ record { key = media_key; value = some_text service.spec.media }
    ∷ record { key = labels_key; value = list (items label_data service.spec.labels) }
    ∷ record { key = history_key; value = history_data service.history }
    ∷ [])

abbrev pub var_field : Var → Field
var_field var = record { key = var.name; value = whole var.value }

-- variables, unless there are none
abbrev pub vars_data : List Var → Option Data
vars_data [] = None
vars_data (var ∷ vars) = Some (with_fields (map var_field (var ∷ vars)))
