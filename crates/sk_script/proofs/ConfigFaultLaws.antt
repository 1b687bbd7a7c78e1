-- A configuration in a file is never refused as no JSON, and never for want of memory.
use Rattle.std.proofs.Common.{ℕ, ◌+◌, Bool, true, false, cond, List, [], ◌∷◌, ◌++◌, Option, Some, None, option_and_then, is_none}
use Rattle.std.specs.Prelude.{◌&&◌, nat_le}
use Rattle.serde_json.specs.Data.{Data, Items, no_items, item}
use Rattle.serde_json.specs.Events.{items_len}
use Rattle.serde_json.specs.Find.{get, as_object, as_str, as_array}
use Rattle.sk_base.specs.Ranges.{is_name}
use Rattle.sk_msg.specs.declared.service.ServiceKind.{ServiceKind}
use Rattle.sk_msg.specs.declared.service.ServiceKind.TheVariants.{Can, Ethernet, Lin, Publisher, Subscriber, Server, Client}
use Rattle.sk_config.specs.Configs.{is_new, is_address}
use Rattle.sk_config.specs.Keys.{row_of, participant_name_key, middleware_key, name_key, history_key, registry_uri_key}
use Rattle.sk_config.specs.Paths.{key_at, index_at}
use Rattle.sk_config.specs.Json.{whole, first_of, object_fault, string_fault, text_fault, missing_fault, whole_fault, number_fault, items_at, count_fault, list_fault}
use Rattle.sk_config.specs.Faults.{config_faults}
use Rattle.sk_config.specs.Reading.{name_of, entry_of, double_fault, history_fault, entry_name_fault, entry_fault, entries_fault, kind_fault, middleware_fault, fault_of}
use Rattle.sk_config.specs.declared.config.ConfigEntry.{ConfigEntry}
use Rattle.sk_config.specs.declared.fault.ConfigFault.{ConfigFault}
use Rattle.sk_config.specs.declared.fault.ConfigFault.TheVariants.{NotJson, Missing, WrongType, BadValue, Double, WantOfMemory}

-- a fault of a value's content, if any
abbrev pub IsOfConfig : Option ConfigFault → Type 0
IsOfConfig None = Unit {0}
IsOfConfig (Some NotJson) = ⊥
IsOfConfig (Some (Missing path)) = Unit {0}
IsOfConfig (Some (WrongType path)) = Unit {0}
IsOfConfig (Some (BadValue path)) = Unit {0}
IsOfConfig (Some (Double path)) = Unit {0}
IsOfConfig (Some WantOfMemory) = ⊥

either : (b : Bool) (one other : Option ConfigFault) → IsOfConfig one → IsOfConfig other → IsOfConfig (cond b one other)
either true one other p q = p
either false one other p q = q

both : (a : Option ConfigFault) (later : List (Option ConfigFault)) → IsOfConfig a → IsOfConfig (first_of later) → IsOfConfig (first_of (a ∷ later))
both None later p q = q
both (Some fault) later p q = p

each : {A : Type 0} (f : A → Option ConfigFault) (o : Option A) → ((x : A) → IsOfConfig (f x)) → IsOfConfig (option_and_then f o)
each f None h = tt
each f (Some x) h = h x

of_object : (path : List ℕ) (d : Data) → IsOfConfig (object_fault config_faults path d)
unfolding object_fault
of_object path d = either (is_none (as_object d)) (Some (WrongType path)) None tt tt

of_string : (is_fine : List ℕ → Bool) (path : List ℕ) (o : Option (List ℕ)) → IsOfConfig (string_fault config_faults is_fine path o)
of_string is_fine path None = tt
of_string is_fine path (Some text) = either (is_fine text) None (Some (BadValue path)) tt tt

of_text : (is_fine : List ℕ → Bool) (path key : List ℕ) (d : Data) → IsOfConfig (text_fault config_faults is_fine path key d)
unfolding text_fault
of_text is_fine path key d = each _ (get key d) (λ v. of_string is_fine (key_at path key) (as_str v))

of_missing : (path key : List ℕ) (d : Data) → IsOfConfig (missing_fault config_faults path key d)
unfolding missing_fault
of_missing path key d = either (is_none (get key d)) (Some (Missing (key_at path key))) None tt tt

of_double : (path : List ℕ) (earlier : List ConfigEntry) (d : Data) → IsOfConfig (double_fault path earlier d)
unfolding double_fault
of_double path earlier d = either (is_new earlier (name_of d)) None (Some (Double (key_at path name_key))) tt tt

of_whole : (low high : ℕ) (path : List ℕ) (o : Option ℕ) → IsOfConfig (whole_fault config_faults low high path o)
of_whole low high path None = tt
of_whole low high path (Some n) = either (nat_le low n && nat_le n high) None (Some (BadValue path)) tt tt

of_number : (low high : ℕ) (path key : List ℕ) (d : Data) → IsOfConfig (number_fault config_faults low high path key d)
unfolding number_fault
of_number low high path key d = each _ (get key d) (λ v. of_whole low high (key_at path key) (whole v))

of_history : (kind : ServiceKind) (path : List ℕ) (d : Data) → IsOfConfig (history_fault kind path d)
unfolding history_fault
of_history kind path d = either (row_of kind).has_history _ None (of_number 0 1 path history_key d) tt

of_entry_name : (path : List ℕ) (earlier : List ConfigEntry) (d : Data) → IsOfConfig (entry_name_fault path earlier d)
unfolding entry_name_fault
of_entry_name path earlier d = both _ _ (of_text is_name path name_key d) (both _ _ (of_missing path name_key d) (both _ [] (of_double path earlier d) tt))

of_entry : (kind : ServiceKind) (path : List ℕ) (earlier : List ConfigEntry) (d : Data) → IsOfConfig (entry_fault kind path earlier d)
unfolding entry_fault
of_entry kind path earlier d = both _ _ (of_object path d) (both _ _ (of_entry_name path earlier d) (both _ _ (of_text is_name path (row_of kind).target d) (both _ [] (of_history kind path d) tt)))

of_entries : (kind : ServiceKind) (path : List ℕ) (earlier : List ConfigEntry) (index : ℕ) (ds : Items) → IsOfConfig (entries_fault kind path earlier index ds)
of_entries kind path earlier index no_items = tt
of_entries kind path earlier index (item d ds) = both _ _ (of_entry kind (index_at path index) earlier d) (both _ [] (of_entries kind path (earlier ++ entry_of kind d ∷ []) (index + 1) ds) tt)

of_count : (least most : ℕ) (path : List ℕ) (o : Option Items) → IsOfConfig (count_fault config_faults least most path o)
of_count least most path None = tt
of_count least most path (Some ds) = either (nat_le least (items_len ds) && nat_le (items_len ds) most) None (Some (BadValue path)) tt tt

of_items : (least most : ℕ) (path key : List ℕ) (d : Data) → IsOfConfig (list_fault config_faults least most path key d)
unfolding list_fault
of_items least most path key d = each _ (get key d) (λ v. of_count least most (key_at path key) (as_array v))

of_list : (path : List ℕ) (d : Data) (kind : ServiceKind) → IsOfConfig (kind_fault path d kind)
unfolding kind_fault
of_list path d kind = both _ _ (of_items 0 64 path (row_of kind).list d) (both _ [] (of_entries kind (key_at path (row_of kind).list) [] 0 (items_at (row_of kind).list d)) tt)

of_middleware : (path : List ℕ) (d : Data) → IsOfConfig (middleware_fault path d)
unfolding middleware_fault
of_middleware path d = each _ (get middleware_key d) (λ v. both _ _ (of_object (key_at path middleware_key) v) (both _ [] (of_text is_address (key_at path middleware_key) registry_uri_key v) tt))

pub config_value : (path : List ℕ) (d : Data) → IsOfConfig (fault_of path d)
unfolding fault_of
config_value path d =
    let list = of_list path d in
    both _ _ (of_object path d) (both _ _ (of_text is_name path participant_name_key d)
    (both _ _ (list Can) (both _ _ (list Ethernet) (both _ _ (list Lin) (both _ _ (list Publisher) (both _ _ (list Subscriber) (both _ _ (list Server) (both _ _ (list Client)
    (both _ [] (of_middleware path d) tt)))))))))
