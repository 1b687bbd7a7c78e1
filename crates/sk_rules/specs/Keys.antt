-- Which keys an action and a rule have, with their texts.
use Rattle.std.specs.Prelude.{ℕ, Bool, false, ◌||◌, List, codes}
use Rattle.std.specs.List.{list_any}
use Rattle.std.specs.Str.{bytes_eq}
use Rattle.sk_rules.specs.Verbs.{verbs, verb_key}
use Rattle.sk_rules.specs.declared.keys.RuleObject.{RuleObject}
use Rattle.sk_rules.specs.declared.keys.RuleObject.TheVariants.{AnyAction, Action, Rule}
use Rattle.sk_rules.specs.declared.verb.ServiceVerb.{ServiceVerb}
use Rattle.sk_rules.specs.declared.verb.ServiceVerb.TheVariants.{CanBaud, CanStart, CanStop, CanReset, CanSleep, CanSend, EthActivate, EthDeactivate, EthSend, LinInit, LinResponse, LinHeader, LinFrame, LinSleep, LinWakeup, Publish, Call, Reply}
use Rattle.sk_rules.specs.declared.verb.Verb.{Verb}
use Rattle.sk_rules.specs.declared.verb.Verb.TheVariants.{Of, Set, Add, Take, Pause, Stop, Error}

-- ---- of an action, behind its first key

abbrev pub rate_key : List ℕ
rate_key = codes "rate"

abbrev pub id_key : List ℕ
id_key = codes "id"

abbrev pub extended_key : List ℕ
extended_key = codes "extended"

abbrev pub fd_key : List ℕ
fd_key = codes "fd"

abbrev pub role_key : List ℕ
role_key = codes "role"

abbrev pub mode_key : List ℕ
mode_key = codes "mode"

abbrev pub checksum_key : List ℕ
checksum_key = codes "checksum"

abbrev pub data_key : List ℕ
data_key = codes "data"

abbrev pub append_key : List ℕ
append_key = codes "append"

abbrev pub to_key : List ℕ
to_key = codes "to"

abbrev pub by_key : List ℕ
by_key = codes "by"

-- ---- of a rule

abbrev pub do_key : List ℕ
do_key = codes "do"

abbrev pub at_key : List ℕ
at_key = codes "at"

abbrev pub every_key : List ℕ
every_key = codes "every"

abbrev pub from_key : List ℕ
from_key = codes "from"

abbrev pub on_key : List ℕ
on_key = codes "on"

-- ---- which of them there may be

-- bytes, and a variable behind them
abbrev pub is_payload_key : List ℕ → Bool
is_payload_key key = bytes_eq key data_key || bytes_eq key append_key

-- a key of such an action behind the first
abbrev pub takes_with : ServiceVerb → List ℕ → Bool
takes_with CanBaud key = bytes_eq key rate_key
takes_with CanStart key = false
takes_with CanStop key = false
takes_with CanReset key = false
takes_with CanSleep key = false
takes_with CanSend key = bytes_eq key id_key || (bytes_eq key extended_key || (bytes_eq key fd_key || is_payload_key key))
takes_with EthActivate key = false
takes_with EthDeactivate key = false
takes_with EthSend key = is_payload_key key
takes_with LinInit key = bytes_eq key role_key
takes_with LinResponse key = bytes_eq key id_key || (bytes_eq key mode_key || (bytes_eq key checksum_key || bytes_eq key data_key))
takes_with LinHeader key = bytes_eq key id_key
takes_with LinFrame key = bytes_eq key id_key || (bytes_eq key checksum_key || bytes_eq key data_key)
takes_with LinSleep key = false
takes_with LinWakeup key = false
takes_with Publish key = is_payload_key key
takes_with Call key = is_payload_key key
takes_with Reply key = is_payload_key key

abbrev pub takes : Verb → List ℕ → Bool
takes (Of verb) key = takes_with verb key
takes Set key = bytes_eq key to_key
takes Add key = bytes_eq key by_key
takes Take key = false
takes Pause key = false
takes Stop key = false
takes Error key = false

-- a key of an action's row
unfoldable pub is_of_row : Verb → List ℕ → Bool
is_of_row verb key = bytes_eq key (verb_key verb) || takes verb key

unfoldable pub knows : RuleObject → List ℕ → Bool
knows AnyAction key = list_any (λ verb. is_of_row verb key) verbs
knows (Action verb) key = is_of_row verb key
knows Rule key =
    bytes_eq key do_key || (bytes_eq key at_key || (bytes_eq key every_key || (bytes_eq key from_key || bytes_eq key on_key)))
