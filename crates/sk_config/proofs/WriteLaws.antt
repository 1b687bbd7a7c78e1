-- How members are put, and that what was put is found.
use Rattle.std.proofs.Common.{◌≡◌, List, [], ◌∷◌, map, option_map, refl, ap, ◌∙◌}
use Rattle.serde_json.proofs.Views.{members_view-insert_entry, view-Object, view-Array}
use Rattle.serde_json.specs.Data.{item, string, object, Members, no_members}
use Rattle.serde_json.specs.View.{view, items_of, items_view}
use Rattle.serde_json.specs.declared.value.Value.{Value}
use Rattle.sk_msg.specs.declared.service.ServiceKind.{ServiceKind}
use Rattle.sk_config.specs.Keys.{kinds, participant_name_key, middleware_key}
use Rattle.sk_config.specs.Configs.{ConfigValue}
use Rattle.sk_config.specs.Written.{put_some, entry_data, entries_data, put_lists, middleware_data, config_data}
use Rattle.sk_config.specs.declared.config.ConfigEntry.{ConfigEntry}

pub ruleset puts = (members_view-insert_entry, view-Object, view-Array)

one_by_one : (kind : ServiceKind) (es : List ConfigEntry) → items_of (map (entry_data kind) es) ≡ entries_data kind es
one_by_one kind [] = refl
one_by_one kind (e ∷ es) = ap (item (entry_data kind e)) (one_by_one kind es)

pub all_entries : (kind : ServiceKind) (values : List Value) (es : List ConfigEntry) → map view values ≡ map (entry_data kind) es → items_view values ≡ entries_data kind es
all_entries kind values es h = ap items_of h ∙ one_by_one kind es

pub ruleset entries = all_entries

-- the members of a configuration, part by part
pub whole_config : (config : ConfigValue) (named listed whole : Members) → named ≡ put_some participant_name_key (option_map string config.participant_name) no_members
    → listed ≡ put_lists config kinds named
    → whole ≡ put_some middleware_key (option_map middleware_data config.registry_uri) listed
    → object whole ≡ config_data config
unfolding config_data
whole_config config named listed whole one two three = rw (three, two, one) refl
