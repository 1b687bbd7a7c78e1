-- How the lists and the rest make a configuration.
use Rattle.std.proofs.Common.{◌≡◌, ℕ, true, List, [], ◌++◌, Option, None, Ok, refl, append_assoc, append-nil}
use Rattle.std.proofs.lemmas.Bool.{and_from}
use Rattle.serde_json.specs.Data.{Data}
use Rattle.sk_base.specs.Ranges.{is_name}
use Rattle.sk_msg.specs.declared.service.ServiceKind.{ServiceKind}
use Rattle.sk_msg.specs.declared.service.ServiceKind.TheVariants.{Can, Ethernet, Lin, Publisher, Subscriber, Server, Client}
use Rattle.sk_config.specs.Keys.{participant_name_key}
use Rattle.sk_config.specs.Configs.{ConfigValue, entries_of, is_none_or, is_address, are_entries, is_config}
use Rattle.sk_config.specs.Json.{object_fault, text_fault, text_at}
use Rattle.sk_config.specs.Faults.{config_faults}
use Rattle.sk_config.specs.Reading.{kind_fault, middleware_fault, fault_of, list_of, uri_of, config_of, unused_keys, list_unused, middleware_unused, all_unused, warnings_of, reading_at}
use Rattle.sk_config.specs.declared.config.ConfigEntry.{ConfigEntry}
use Rattle.sk_config.specs.declared.keys.Object.TheVariants.{Root}
use Rattle.sk_config.specs.declared.warning.Warning.{Warning}

-- a fact for each kind
abbrev pub ForKinds : (ServiceKind → Type 0) → Type 0
ForKinds P = P Can × P Ethernet × P Lin × P Publisher × P Subscriber × P Server × P Client

pub are_rules : (config : ConfigValue) → is_none_or is_name config.participant_name ≡ true → ForKinds (λ kind. are_entries kind (entries_of config kind) ≡ true) → is_none_or is_address config.registry_uri ≡ true → is_config config ≡ true
unfolding is_config
are_rules config name lists uri =
    and_from _ _ name (and_from _ _
    (and_from _ _ lists.0 (and_from _ _ lists.1 (and_from _ _ lists.2 (and_from _ _ lists.3 (and_from _ _ lists.4 (and_from _ _ lists.5 (and_from _ _ lists.6 refl)))))))
    uri)

pub no_fault : (path : List ℕ) (d : Data) → object_fault config_faults path d ≡ None → text_fault config_faults is_name path participant_name_key d ≡ None → ForKinds (λ kind. kind_fault path d kind ≡ None) → middleware_fault path d ≡ None → fault_of path d ≡ None
unfolding fault_of
no_fault path d object name lists middleware =
    rw (object, name, lists.0, lists.1, lists.2, lists.3, lists.4, lists.5, lists.6, middleware) refl

pub says_all : (path : List ℕ) (d : Data) (name : Option (List ℕ)) (can ethernet lin publishers subscribers servers clients : List ConfigEntry) (uri : Option (List ℕ))
    → name ≡ text_at participant_name_key d
    → (can ≡ list_of Can d) × (ethernet ≡ list_of Ethernet d) × (lin ≡ list_of Lin d) × (publishers ≡ list_of Publisher d) × (subscribers ≡ list_of Subscriber d) × (servers ≡ list_of Server d) × (clients ≡ list_of Client d)
    → uri ≡ uri_of d
    → ◌≡◌ {A = ConfigValue} (record { participant_name = name; can = can; ethernet = ethernet; lin = lin; publishers = publishers; subscribers = subscribers; servers = servers; clients = clients; registry_uri = uri }) (config_of d)
unfolding config_of
says_all path d name can ethernet lin publishers subscribers servers clients uri named lists addressed =
    rw (named, lists.0, lists.1, lists.2, lists.3, lists.4, lists.5, lists.6, addressed) refl

-- keys in the order in which they were noted
pub in_order : (noted : List (List ℕ)) (path : List ℕ) (d : Data) → let list = list_unused path d in
    (((((((((noted ++ unused_keys Root path d) ++ list Can) ++ list Ethernet) ++ list Lin) ++ list Publisher) ++ list Subscriber) ++ list Server) ++ list Client) ++ middleware_unused path d)
    ≡ noted ++ all_unused path d
unfolding all_unused
in_order noted path d = simp (append_assoc, append-nil)

pub reading_is : (path : List ℕ) (d : Data) (config : ConfigValue) (warnings : List Warning) → fault_of path d ≡ None → config ≡ config_of d → warnings ≡ warnings_of path d → reading_at path d ≡ Ok (record { config = config; warnings = warnings })
unfolding reading_at
reading_is path d config warnings fine says warned = rw (fine, says, warned) refl
