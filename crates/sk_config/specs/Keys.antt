-- The table of keys, as in docs/FORMATS.md: which keys each object of a configuration has, with their texts.
use Rattle.std.specs.Prelude.{ℕ, Bool, true, false, ◌&&◌, ◌||◌, List, [], ◌∷◌, codes}
use Rattle.std.specs.List.{list_any}
use Rattle.std.specs.Str.{bytes_eq}
use Rattle.sk_msg.specs.declared.service.ServiceKind.{ServiceKind}
use Rattle.sk_msg.specs.declared.service.ServiceKind.TheVariants.{Can, Ethernet, Lin, Publisher, Subscriber, Server, Client}
use Rattle.sk_config.specs.Rows.{Row}
use Rattle.sk_config.specs.declared.keys.Object.{Object}
use Rattle.sk_config.specs.declared.keys.Object.TheVariants.{Root, Entry, Middleware}

-- ---- of the root, beside the lists of services

abbrev pub participant_name_key : List ℕ
participant_name_key = codes "ParticipantName"

abbrev pub middleware_key : List ℕ
middleware_key = codes "Middleware"

-- ---- of the middleware

abbrev pub registry_uri_key : List ℕ
registry_uri_key = codes "RegistryUri"

-- ---- of an entry: its name, what its service speaks of, and its history

abbrev pub name_key : List ℕ
name_key = codes "Name"

abbrev pub network_key : List ℕ
network_key = codes "Network"

abbrev pub topic_key : List ℕ
topic_key = codes "Topic"

abbrev pub function_name_key : List ℕ
function_name_key = codes "FunctionName"

abbrev pub history_key : List ℕ
history_key = codes "History"

-- ---- the lists of services

-- the kinds in the order of the table
abbrev pub kinds : List ServiceKind
kinds = Can ∷ Ethernet ∷ Lin ∷ Publisher ∷ Subscriber ∷ Server ∷ Client ∷ []

abbrev pub bus : List ℕ → Row
bus list = record { list = list; target = network_key; has_history = false }

abbrev pub row_of : ServiceKind → Row
row_of Can = bus (codes "CanControllers")
row_of Ethernet = bus (codes "EthernetControllers")
row_of Lin = bus (codes "LinControllers")
row_of Publisher = record { list = codes "DataPublishers"; target = topic_key; has_history = true }
row_of Subscriber = record { list = codes "DataSubscribers"; target = topic_key; has_history = false }
row_of Server = record { list = codes "RpcServers"; target = function_name_key; has_history = false }
row_of Client = record { list = codes "RpcClients"; target = function_name_key; has_history = false }

-- the key of a list of services
unfoldable pub is_list_key : List ℕ → Bool
is_list_key key = list_any (λ kind. bytes_eq key (row_of kind).list) kinds

-- ---- the keys that an object may have

unfoldable pub knows : Object → List ℕ → Bool
knows Root key = bytes_eq key participant_name_key || (is_list_key key || bytes_eq key middleware_key)
knows (Entry kind) key =
    bytes_eq key name_key || (bytes_eq key (row_of kind).target || ((row_of kind).has_history && bytes_eq key history_key))
knows Middleware key = bytes_eq key registry_uri_key
