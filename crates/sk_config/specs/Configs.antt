-- What a configuration says, and which sayings are configurations.
use Rattle.std.specs.Prelude.{ℕ, Bool, true, not, ◌&&◌, ◌||◌, ◌==◌, List, [], length, drop, nat_eq, nat_le, Option, Some, None, is_none, codes}
use Rattle.std.specs.Char.{is_ascii_digit, is_ascii_alphanumeric}
use Rattle.std.specs.List.{list_all, list_any, starts_with, before_first, after_first}
use Rattle.std.specs.Str.{bytes_eq}
use Rattle.std.specs.Str.Parse.{digits_value}
use Rattle.sk_base.specs.Ranges.{is_name, is_text}
use Rattle.sk_msg.specs.Each.{each_after}
use Rattle.sk_msg.specs.declared.service.ServiceKind.{ServiceKind}
use Rattle.sk_msg.specs.declared.service.ServiceKind.TheVariants.{Can, Ethernet, Lin, Publisher, Subscriber, Server, Client}
use Rattle.sk_config.specs.Keys.{kinds, row_of}
use Rattle.sk_config.specs.declared.config.ConfigEntry.{ConfigEntry}

pub record ConfigValue : Type 0 where
  pub participant_name : Option (List ℕ)
  pub can : List ConfigEntry
  pub ethernet : List ConfigEntry
  pub lin : List ConfigEntry
  pub publishers : List ConfigEntry
  pub subscribers : List ConfigEntry
  pub servers : List ConfigEntry
  pub clients : List ConfigEntry
  pub registry_uri : Option (List ℕ)

-- the list of one kind
abbrev pub entries_of : ConfigValue → ServiceKind → List ConfigEntry
entries_of config Can = config.can
entries_of config Ethernet = config.ethernet
entries_of config Lin = config.lin
entries_of config Publisher = config.publishers
entries_of config Subscriber = config.subscribers
entries_of config Server = config.servers
entries_of config Client = config.clients

-- a letter, a digit, `.` or `-`
abbrev pub is_host_byte : ℕ → Bool
is_host_byte byte = is_ascii_alphanumeric byte || (byte == 46 || byte == 45)

-- a name of a host: at least one such byte
abbrev pub is_host : List ℕ → Bool
is_host host = not (length host == 0) && list_all is_host_byte host

-- decimal digits of a number from 1 to 65,535
abbrev pub is_port : List ℕ → Bool
is_port port = list_all is_ascii_digit port && (nat_le 1 (digits_value 10 port) && nat_le (digits_value 10 port) 65535)

abbrev pub is_colon : ℕ → Bool
is_colon byte = byte == 58

-- HOST:PORT, parted at the first colon
abbrev pub is_host_and_port : List ℕ → Bool
is_host_and_port text = is_host (before_first is_colon text) && is_port (after_first is_colon text)

-- `silkit://HOST:PORT`, of at most 64 bytes
unfoldable pub is_address : List ℕ → Bool
is_address text = is_text text && (starts_with nat_eq text (codes "silkit://") && is_host_and_port (drop 9 text))

abbrev pub is_none_or : {A : Type 0} → (A → Bool) → Option A → Bool
is_none_or test None = true
is_none_or test (Some x) = test x

-- none of these entries has the name
unfoldable pub is_new : List ConfigEntry → List ℕ → Bool
is_new earlier name = not (list_any (λ entry. bytes_eq entry.name name) earlier)

-- an entry behind these: its name is new, and it tells of history only where its kind does
unfoldable pub is_next_entry : ServiceKind → List ConfigEntry → ConfigEntry → Bool
is_next_entry kind earlier entry =
    is_name entry.name
    && (is_new earlier entry.name && (is_none_or is_name entry.target && ((row_of kind).has_history || is_none entry.history)))

unfoldable pub is_entry_count : ℕ → Bool
is_entry_count count = nat_le count 64

-- at most 64 entries of distinct names
unfoldable pub are_entries : ServiceKind → List ConfigEntry → Bool
are_entries kind entries = is_entry_count (length entries) && each_after (is_next_entry kind) [] entries

-- what the type keeps of each configuration
unfoldable pub is_config : ConfigValue → Bool
is_config config =
    is_none_or is_name config.participant_name
    && (list_all (λ kind. are_entries kind (entries_of config kind)) kinds && is_none_or is_address config.registry_uri)
