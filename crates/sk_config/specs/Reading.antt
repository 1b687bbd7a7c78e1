-- What the JSON of a configuration reads as: the first fault in the order of the table of keys, or
-- the configuration with its warnings.
use Rattle.std.specs.Prelude.{ℕ, ◌+◌, Bool, true, ◌==◌, List, [], ◌∷◌, ◌++◌, map, Option, Some, None, option_map, option_and_then, unwrap_or, Result, Ok, Err, if◌then◌else◌}
use Rattle.std.specs.List.{flat_map}
use Rattle.serde_json.specs.Data.{Data, Items, no_items, item}
use Rattle.serde_json.specs.Find.{get}
use Rattle.sk_base.specs.Ranges.{is_name}
use Rattle.sk_msg.specs.declared.service.ServiceKind.{ServiceKind}
use Rattle.sk_msg.specs.declared.service.ServiceKind.TheVariants.{Can, Ethernet, Lin, Publisher, Subscriber, Server, Client}
use Rattle.sk_config.specs.Keys.{kinds, row_of, knows, participant_name_key, middleware_key, name_key, history_key, registry_uri_key}
use Rattle.sk_config.specs.Paths.{key_at, index_at}
use Rattle.sk_config.specs.Json.{json_of, text_at, number_at, items_at, unknown_keys, first_of, object_fault, text_fault, missing_fault, number_fault, list_fault}
use Rattle.sk_config.specs.Faults.{config_faults}
use Rattle.sk_config.specs.Configs.{ConfigValue, is_address, is_new}
use Rattle.sk_config.specs.declared.config.ConfigEntry.{ConfigEntry}
use Rattle.sk_config.specs.declared.config.ConfigRead.{ConfigRead}
use Rattle.sk_config.specs.declared.fault.ConfigFault.{ConfigFault}
use Rattle.sk_config.specs.declared.fault.ConfigFault.TheVariants.{NotJson, Double}
use Rattle.sk_config.specs.declared.keys.Object.{Object}
use Rattle.sk_config.specs.declared.keys.Object.TheVariants.{Root, Entry, Middleware}
use Rattle.sk_config.specs.declared.warning.Warning.{Warning}

-- ---- what it says

unfoldable pub name_of : Data → List ℕ
name_of d = unwrap_or (text_at name_key d) []

unfoldable pub history_of : ServiceKind → Data → Option Bool
history_of kind d =
    if (row_of kind).has_history then option_map (λ n. n == 1) (number_at history_key d) else None

unfoldable pub entry_of : ServiceKind → Data → ConfigEntry
entry_of kind d = record { name = name_of d; target = text_at (row_of kind).target d; history = history_of kind d }

abbrev pub entries_in : ServiceKind → Items → List ConfigEntry
entries_in kind no_items = []
entries_in kind (item d ds) = entry_of kind d ∷ entries_in kind ds

unfoldable pub list_of : ServiceKind → Data → List ConfigEntry
list_of kind d = entries_in kind (items_at (row_of kind).list d)

unfoldable pub uri_of : Data → Option (List ℕ)
uri_of d = option_and_then (text_at registry_uri_key) (get middleware_key d)

unfoldable pub config_of : Data → ConfigValue
config_of d = record {
  participant_name = text_at participant_name_key d;
  can = list_of Can d;
  ethernet = list_of Ethernet d;
  lin = list_of Lin d;
  publishers = list_of Publisher d;
  subscribers = list_of Subscriber d;
  servers = list_of Server d;
  clients = list_of Client d;
  registry_uri = uri_of d;
}

-- ---- its warnings: the keys that are passed over, object by object

-- the paths of an object's keys that are passed over
unfoldable pub unused_keys : Object → List ℕ → Data → List (List ℕ)
unused_keys object path d = unknown_keys (knows object) path d

-- of the entries of a list, the first of which has this index
abbrev pub entries_unused : ServiceKind → List ℕ → ℕ → Items → List (List ℕ)
entries_unused kind path index no_items = []
entries_unused kind path index (item d ds) = unused_keys (Entry kind) (index_at path index) d ++ entries_unused kind path (index + 1) ds

-- of the list of a kind
unfoldable pub list_unused : List ℕ → Data → ServiceKind → List (List ℕ)
list_unused path d kind = entries_unused kind (key_at path (row_of kind).list) 0 (items_at (row_of kind).list d)

-- of the middleware
unfoldable pub middleware_unused : List ℕ → Data → List (List ℕ)
middleware_unused path d = unwrap_or (option_map (unused_keys Middleware (key_at path middleware_key)) (get middleware_key d)) []

-- of all objects, in the order in which they are reached
unfoldable pub all_unused : List ℕ → Data → List (List ℕ)
all_unused path d = unused_keys Root path d ++ (flat_map (list_unused path d) kinds ++ middleware_unused path d)

-- the warning of a key that is passed over
abbrev pub not_used : List ℕ → Warning
not_used path = record { path = path; unused = true }

unfoldable pub warnings_of : List ℕ → Data → List Warning
warnings_of path d = map not_used (all_unused path d)

-- ---- its first fault

unfoldable pub double_fault : List ℕ → List ConfigEntry → Data → Option ConfigFault
double_fault path earlier d = if is_new earlier (name_of d) then None else Some (Double (key_at path name_key))

-- 0 or 1, where this kind has it
unfoldable pub history_fault : ServiceKind → List ℕ → Data → Option ConfigFault
history_fault kind path d = if (row_of kind).has_history then number_fault config_faults 0 1 path history_key d else None

-- the name of an entry behind these
unfoldable pub entry_name_fault : List ℕ → List ConfigEntry → Data → Option ConfigFault
entry_name_fault path earlier d = first_of (
    text_fault config_faults is_name path name_key d
    ∷ missing_fault config_faults path name_key d
    ∷ double_fault path earlier d
    ∷ [])

-- an entry behind these
unfoldable pub entry_fault : ServiceKind → List ℕ → List ConfigEntry → Data → Option ConfigFault
entry_fault kind path earlier d = first_of (
    object_fault config_faults path d
    ∷ entry_name_fault path earlier d
    ∷ text_fault config_faults is_name path (row_of kind).target d
    ∷ history_fault kind path d
    ∷ [])

-- the entries of a list, the first of which has this index and stands behind these
abbrev pub entries_fault : ServiceKind → List ℕ → List ConfigEntry → ℕ → Items → Option ConfigFault
entries_fault kind path earlier index no_items = None
entries_fault kind path earlier index (item d ds) = first_of (
    entry_fault kind (index_at path index) earlier d
    ∷ entries_fault kind path (earlier ++ entry_of kind d ∷ []) (index + 1) ds
    ∷ [])

-- the list of a kind, of at most 64 entries
unfoldable pub kind_fault : List ℕ → Data → ServiceKind → Option ConfigFault
kind_fault path d kind = first_of (
    list_fault config_faults 0 64 path (row_of kind).list d
    ∷ entries_fault kind (key_at path (row_of kind).list) [] 0 (items_at (row_of kind).list d)
    ∷ [])

abbrev pub middleware_fault_at : List ℕ → Data → Option ConfigFault
middleware_fault_at path d = first_of (
    object_fault config_faults path d
    ∷ text_fault config_faults is_address path registry_uri_key d
    ∷ [])

unfoldable pub middleware_fault : List ℕ → Data → Option ConfigFault
middleware_fault path d = option_and_then (middleware_fault_at (key_at path middleware_key)) (get middleware_key d)

unfoldable pub fault_of : List ℕ → Data → Option ConfigFault
fault_of path d = first_of (
    object_fault config_faults path d
    ∷ text_fault config_faults is_name path participant_name_key d
    ∷ (map (kind_fault path d) kinds ++ middleware_fault path d ∷ []))

-- ---- the reading

-- a value that stands at this path of a file
abbrev pub reading_or : Option ConfigFault → ConfigRead → Result ConfigRead ConfigFault
reading_or (Some fault) reading = Err fault
reading_or None reading = Ok reading

unfoldable pub reading_at : List ℕ → Data → Result ConfigRead ConfigFault
reading_at path d = reading_or (fault_of path d) (record { config = config_of d; warnings = warnings_of path d })

abbrev pub reading_from : Option Data → Result ConfigRead ConfigFault
reading_from None = Err NotJson
reading_from (Some d) = reading_at [] d

-- the bytes of a file
unfoldable pub reading : List ℕ → Result ConfigRead ConfigFault
reading bytes = reading_from (json_of bytes)
