-- The canonical text of a configuration: the compact JSON of what is present, with keys in byte
-- order. `put` keeps members in that order.
use Rattle.std.specs.Prelude.{ℕ, Bool, List, [], ◌∷◌, Option, Some, None, option_map, if◌then◌else◌}
use Rattle.serde_json.specs.Data.{Data, unsigned, number, string, array, object, Items, no_items, item, Members, no_members, put}
use Rattle.serde_json.specs.Written.{compact_text}
use Rattle.sk_msg.specs.declared.service.ServiceKind.{ServiceKind}
use Rattle.sk_config.specs.Keys.{kinds, row_of, participant_name_key, middleware_key, name_key, history_key, registry_uri_key}
use Rattle.sk_config.specs.Configs.{ConfigValue, entries_of}
use Rattle.sk_config.specs.declared.config.ConfigEntry.{ConfigEntry}

-- the members, with what is present at this key
unfoldable pub put_some : List ℕ → Option Data → Members → Members
put_some key None ms = ms
put_some key (Some d) ms = put key d ms

-- 0 or 1
abbrev pub history_data : Bool → Data
history_data history = number (unsigned (if history then 1 else 0))

unfoldable pub entry_data : ServiceKind → ConfigEntry → Data
entry_data kind entry = object (
    put_some history_key (option_map history_data entry.history)
    (put_some (row_of kind).target (option_map string entry.target)
    (put_some name_key (Some (string entry.name)) no_members)))

abbrev pub entries_data : ServiceKind → List ConfigEntry → Items
entries_data kind [] = no_items
entries_data kind (entry ∷ entries) = item (entry_data kind entry) (entries_data kind entries)

-- an empty list isn't present
abbrev pub list_data : ServiceKind → List ConfigEntry → Option Data
list_data kind [] = None
list_data kind (entry ∷ entries) = Some (array (entries_data kind (entry ∷ entries)))

abbrev pub put_lists : ConfigValue → List ServiceKind → Members → Members
put_lists config [] ms = ms
put_lists config (kind ∷ later) ms = put_lists config later (put_some (row_of kind).list (list_data kind (entries_of config kind)) ms)

unfoldable pub middleware_data : List ℕ → Data
middleware_data uri = object (put_some registry_uri_key (Some (string uri)) no_members)

unfoldable pub config_data : ConfigValue → Data
config_data config = object (
    put_some middleware_key (option_map middleware_data config.registry_uri)
    (put_lists config kinds
    (put_some participant_name_key (option_map string config.participant_name) no_members)))

unfoldable pub canonical : ConfigValue → List ℕ
canonical config = compact_text (config_data config)
