-- Services: what a file says of them, and which ones a participant may have.
use Rattle.std.specs.Prelude.{ℕ, Bool, false, not, ◌&&◌, ◌||◌, ◌==◌, List, [], length, nat_le, Option, Some, None, option_and_then, unwrap_or, Result, Ok, if◌then◌else◌}
use Rattle.std.specs.List.{list_any}
use Rattle.std.specs.Str.{bytes_eq}
use Rattle.serde_json.specs.Data.{Data, Items, no_items}
use Rattle.sk_base.specs.Ranges.{is_name, is_text}
use Rattle.sk_msg.specs.Each.{each_after}
use Rattle.sk_msg.specs.Rules.{is_new_label}
use Rattle.sk_msg.specs.Specs.{SpecValue, is_new_key, is_label_count}
use Rattle.sk_msg.specs.declared.label.Label.{Label}
use Rattle.sk_msg.specs.declared.service.Service.{Service}
use Rattle.sk_msg.specs.declared.service.ServiceKind.{ServiceKind}
use Rattle.sk_config.specs.Json.{text_at}
use Rattle.sk_config.specs.Paths.{key_at}
use Rattle.sk_rules.specs.Fields.{object_read, needed_text, text_read, needed_word, number_read, list_read, items_read}
use Rattle.sk_rules.specs.Outcome.{◌>>=◌, ◌>>◌, must}
use Rattle.sk_rules.specs.Places.{is_next_own}
use Rattle.sk_rules.specs.declared.fault.Rule.TheVariants as rules
use Rattle.sk_rules.specs.declared.fault.ScenarioFault.{ScenarioFault}
use Rattle.sk_script.specs.Keys.{knows, is_bus, has_history, target_key, name_key, kind_key, network_key, media_key, labels_key, history_key, key_key, value_key}
use Rattle.sk_rules.specs.Words.{service_kind_of, label_kind_of}
use Rattle.sk_script.specs.declared.keys.Object.{Object}
use Rattle.sk_script.specs.declared.keys.Object.TheVariants as objects

-- ---- which ones there may be

-- at most 16 labels, of distinct keys
unfoldable pub are_labels : List Label → Bool
are_labels labels = is_label_count (length labels) && each_after is_new_label [] labels

-- a controller on a bus has neither a media type nor labels
unfoldable pub is_spec : ServiceKind → SpecValue → Bool
is_spec kind spec =
    is_name spec.topic
    && (if is_bus kind then length spec.media == 0 && length spec.labels == 0 else is_text spec.media && are_labels spec.labels)

-- a service behind these: numbers count from 0, names are distinct, and only publishers have a history
unfoldable pub is_next_service : List Service → Service → Bool
is_next_service before service =
    is_next_own before service
    && (is_name service.name && (is_spec service.kind service.spec && (has_history service.kind || not service.history)))

-- at most 64
unfoldable pub are_services : List Service → Bool
are_services services = nat_le (length services) 64 && each_after is_next_service [] services

-- ---- labels

-- a label behind these
unfoldable pub label_read : List ℕ → List Label → Data → Result Label ScenarioFault
label_read path earlier d = do
  object_read (knows objects.Label) path d
  key ← needed_text is_name path key_key d
  must (key_at path key_key) rules.NameTaken (is_new_key earlier key)
  value ← needed_text is_text path value_key d
  kind ← needed_word label_kind_of path kind_key d
  Ok (record { key = key; value = value; kind = kind })

-- the labels, none by default
unfoldable pub labels_read : List ℕ → Data → Result (List Label) ScenarioFault
labels_read path d = do
  given ← list_read 0 16 path labels_key d
  items_read label_read (key_at path labels_key) [] 0 (unwrap_or given no_items)

-- ---- a service

-- the kind that it says, if it says one
unfoldable pub kind_in : Data → Option ServiceKind
kind_in d = option_and_then service_kind_of (text_at kind_key d)

-- which keys it may have: those of its kind, or where it says none those of all kinds
abbrev pub object_of : Option ServiceKind → Object
object_of None = objects.AnyService
object_of (Some kind) = objects.Service kind

-- a name that none of these has
unfoldable pub new_name_read : List Service → List ℕ → Data → Result (List ℕ) ScenarioFault
new_name_read earlier path d = do
  name ← needed_text is_name path name_key d
  must (key_at path name_key) rules.NameTaken (not (list_any (λ other. bytes_eq other.name name) earlier))
  Ok name

-- the network of a controller, by default the name
unfoldable pub network_read : List ℕ → List ℕ → Data → Result (List ℕ) ScenarioFault
network_read name path d = do
  given ← text_read is_name path network_key d
  Ok (unwrap_or given name)

-- the media type, empty by default
unfoldable pub media_read : List ℕ → Data → Result (List ℕ) ScenarioFault
media_read path d = do
  given ← text_read is_text path media_key d
  Ok (unwrap_or given [])

-- the specification of a controller: its network alone
unfoldable pub bus_spec_read : List ℕ → List ℕ → Data → Result SpecValue ScenarioFault
bus_spec_read name path d = do
  network ← network_read name path d
  Ok (record { topic = network; media = []; labels = [] })

-- that of another service of this kind
unfoldable pub full_spec_read : ServiceKind → List ℕ → Data → Result SpecValue ScenarioFault
full_spec_read kind path d = do
  topic ← needed_text is_name path (target_key kind) d
  media ← media_read path d
  labels ← labels_read path d
  Ok (record { topic = topic; media = media; labels = labels })

abbrev pub spec_read : ServiceKind → List ℕ → List ℕ → Data → Result SpecValue ScenarioFault
spec_read kind name path d = if is_bus kind then bus_spec_read name path d else full_spec_read kind path d

-- whether a publisher keeps its last publication: 0 or 1, by default not
unfoldable pub history_given : List ℕ → Data → Result Bool ScenarioFault
history_given path d = do
  given ← number_read 0 1 path history_key d
  Ok (unwrap_or given 0 == 1)

abbrev pub history_read : ServiceKind → List ℕ → Data → Result Bool ScenarioFault
history_read kind path d = if has_history kind then history_given path d else Ok false

-- a service behind these, key by key
unfoldable pub service_read : List ℕ → List Service → Data → Result Service ScenarioFault
service_read path earlier d = do
  object_read (knows (object_of (kind_in d))) path d
  kind ← needed_word service_kind_of path kind_key d
  name ← new_name_read earlier path d
  spec ← spec_read kind name path d
  history ← history_read kind path d
  Ok (record { id = length earlier; kind = kind; name = name; spec = spec; history = history })

-- the services of a list
unfoldable pub services_in : List ℕ → Items → Result (List Service) ScenarioFault
services_in path ds = items_read service_read path [] 0 ds
