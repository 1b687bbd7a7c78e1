-- What a configuration does to the services of a participant.
use Rattle.std.specs.Prelude.{ℕ, ◌+◌, Bool, true, false, ◌&&◌, List, [], ◌∷◌, find, Option, Some, None, unwrap_or, if◌then◌else◌}
use Rattle.std.specs.List.{flat_map, list_any}
use Rattle.std.specs.Str.{bytes_eq}
use Rattle.sk_msg.specs.declared.service.Service.{Service}
use Rattle.sk_msg.specs.declared.service.ServiceKind.{ServiceKind}
use Rattle.sk_msg.specs.declared.service.ServiceKind.TheVariants.{Can, Ethernet, Lin, Publisher, Subscriber, Server, Client}
use Rattle.sk_config.specs.Keys.{kinds, row_of}
use Rattle.sk_config.specs.Paths.{key_at, index_at}
use Rattle.sk_config.specs.Configs.{ConfigValue, entries_of}
use Rattle.sk_config.specs.declared.config.ConfigEntry.{ConfigEntry}
use Rattle.sk_config.specs.declared.warning.Warning.{Warning}

-- whether two kinds are one
abbrev pub is_kind : ServiceKind → ServiceKind → Bool
is_kind Can Can = true
is_kind Ethernet Ethernet = true
is_kind Lin Lin = true
is_kind Publisher Publisher = true
is_kind Subscriber Subscriber = true
is_kind Server Server = true
is_kind Client Client = true
is_kind _ _ = false

-- the entry that speaks of a service: of its kind, with its name
unfoldable pub entry_for : ConfigValue → Service → Option ConfigEntry
entry_for config service = find (λ entry. bytes_eq entry.name service.name) (entries_of config service.kind)

-- the service with what the entry says in place of its own
abbrev pub overridden_by : Option ConfigEntry → Service → Service
overridden_by None service = service
overridden_by (Some entry) service = record service {
  spec = record service.spec { topic = unwrap_or entry.target service.spec.topic };
  history = unwrap_or entry.history service.history;
}

unfoldable pub overridden : ConfigValue → Service → Service
overridden config service = overridden_by (entry_for config service) service

-- whether one of these services is of the kind and has the name
unfoldable pub is_served : List Service → ServiceKind → List ℕ → Bool
is_served services kind name = list_any (λ service. is_kind service.kind kind && bytes_eq service.name name) services

-- the entries without a service, the first of which has this index
abbrev pub entries_unserved : List Service → ServiceKind → List ℕ → ℕ → List ConfigEntry → List Warning
entries_unserved services kind path index [] = []
entries_unserved services kind path index (entry ∷ entries) =
    if is_served services kind entry.name then entries_unserved services kind path (index + 1) entries
    else record { path = index_at path index; unused = false } ∷ entries_unserved services kind path (index + 1) entries

unfoldable pub list_unserved : List Service → List ℕ → ConfigValue → ServiceKind → List Warning
list_unserved services path config kind = entries_unserved services kind (key_at path (row_of kind).list) 0 (entries_of config kind)

-- in the order of the table
unfoldable pub unserved : List Service → List ℕ → ConfigValue → List Warning
unserved services path config = flat_map (list_unserved services path config) kinds
