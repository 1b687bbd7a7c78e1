-- The table of keys, as in docs/FORMATS.md: which keys each object of a scenario has, with their texts. Those of actions
-- and rules stand in `sk_rules`.
use Rattle.std.specs.Prelude.{ℕ, Bool, true, false, not, ◌&&◌, ◌||◌, List, codes}
use Rattle.std.specs.Str.{bytes_eq}
use Rattle.sk_msg.specs.declared.service.ServiceKind.{ServiceKind}
use Rattle.sk_msg.specs.declared.service.ServiceKind.TheVariants.{Can, Ethernet, Lin, Publisher, Subscriber, Server, Client}
use Rattle.sk_script.specs.declared.keys.Object.{Object}
use Rattle.sk_script.specs.declared.keys.Object.TheVariants.{Root, Participant, AnyService, Service, Label}

-- ---- of the file

abbrev pub duration_key : List ℕ
duration_key = codes "duration"

abbrev pub required_key : List ℕ
required_key = codes "required"

abbrev pub participants_key : List ℕ
participants_key = codes "participants"

-- ---- of a participant

abbrev pub name_key : List ℕ
name_key = codes "name"

abbrev pub mode_key : List ℕ
mode_key = codes "mode"

abbrev pub step_key : List ℕ
step_key = codes "step"

abbrev pub services_key : List ℕ
services_key = codes "services"

abbrev pub config_key : List ℕ
config_key = codes "config"

abbrev pub vars_key : List ℕ
vars_key = codes "vars"

abbrev pub ready_key : List ℕ
ready_key = codes "ready"

abbrev pub script_key : List ℕ
script_key = codes "script"

-- ---- of a service, beside its name

abbrev pub kind_key : List ℕ
kind_key = codes "kind"

abbrev pub network_key : List ℕ
network_key = codes "network"

abbrev pub topic_key : List ℕ
topic_key = codes "topic"

abbrev pub function_key : List ℕ
function_key = codes "function"

abbrev pub media_key : List ℕ
media_key = codes "media"

abbrev pub labels_key : List ℕ
labels_key = codes "labels"

abbrev pub history_key : List ℕ
history_key = codes "history"

-- ---- of a label, beside its kind

abbrev pub key_key : List ℕ
key_key = codes "key"

abbrev pub value_key : List ℕ
value_key = codes "value"

-- ---- which of them there may be

-- a controller on a bus
abbrev pub is_bus : ServiceKind → Bool
is_bus Can = true
is_bus Ethernet = true
is_bus Lin = true
is_bus Publisher = false
is_bus Subscriber = false
is_bus Server = false
is_bus Client = false

abbrev pub has_history : ServiceKind → Bool
has_history Publisher = true
has_history Can = false
has_history Ethernet = false
has_history Lin = false
has_history Subscriber = false
has_history Server = false
has_history Client = false

-- the key of what a service of this kind speaks of
abbrev pub target_key : ServiceKind → List ℕ
target_key Can = network_key
target_key Ethernet = network_key
target_key Lin = network_key
target_key Publisher = topic_key
target_key Subscriber = topic_key
target_key Server = function_key
target_key Client = function_key

-- a key of a service of this kind
unfoldable pub is_of_kind : ServiceKind → List ℕ → Bool
is_of_kind kind key =
    bytes_eq key kind_key
    || (bytes_eq key name_key
    || (bytes_eq key (target_key kind)
    || ((not (is_bus kind) && (bytes_eq key media_key || bytes_eq key labels_key)) || (has_history kind && bytes_eq key history_key))))

-- a key of a service of some kind
unfoldable pub is_of_service : List ℕ → Bool
is_of_service key =
    bytes_eq key kind_key
    || (bytes_eq key name_key
    || (bytes_eq key network_key
    || (bytes_eq key topic_key
    || (bytes_eq key function_key || (bytes_eq key media_key || (bytes_eq key labels_key || bytes_eq key history_key))))))

unfoldable pub knows : Object → List ℕ → Bool
knows Root key = bytes_eq key duration_key || (bytes_eq key required_key || bytes_eq key participants_key)
knows Participant key =
    bytes_eq key name_key
    || (bytes_eq key mode_key
    || (bytes_eq key step_key
    || (bytes_eq key services_key
    || (bytes_eq key config_key || (bytes_eq key vars_key || (bytes_eq key ready_key || bytes_eq key script_key))))))
knows AnyService key = is_of_service key
knows (Service kind) key = is_of_kind kind key
knows Label key = bytes_eq key key_key || (bytes_eq key value_key || bytes_eq key kind_key)
