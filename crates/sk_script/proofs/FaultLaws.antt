-- A JSON value never has the two faults that aren't of its content.
use Rattle.std.proofs.Common.{◌≡◌, ℕ, ◌+◌, ◌^◌, ◌-◌, Bool, true, false, cond, List, [], ◌∷◌, ◌++◌, Option, Some, None, Ok, Err, option_and_then, unwrap_or, is_none, refl}
use Rattle.std.specs.Prelude.{Result, ◌↔◌, ◌&&◌, not, nat_le, nat_lt, length, if◌then◌else◌}
use Rattle.std.specs.List.{list_any}
use Rattle.std.specs.Str.{bytes_eq}
use Rattle.serde_json.specs.Data.{Data, Items, no_items, item, Members, no_members, member}
use Rattle.serde_json.specs.Events.{items_len, members_len}
use Rattle.serde_json.specs.Find.{get, as_object, as_str, as_array, as_bool}
use Rattle.hex.specs.Hex.{decode_of}
use Rattle.hex.specs.declared.error.FromHexError.{FromHexError}
use Rattle.sk_base.specs.Ranges.{is_name, is_text, is_payload}
use Rattle.sk_msg.specs.Rules.{is_new_name}
use Rattle.sk_msg.specs.Specs.{is_new_key}
use Rattle.sk_msg.specs.declared.label.Label.{Label}
use Rattle.sk_msg.specs.declared.service.Service.{Service}
use Rattle.sk_msg.specs.declared.service.ServiceKind.{ServiceKind}
use Rattle.sk_config.specs.Paths.{key_at, index_at}
use Rattle.sk_config.specs.Json.{json_of, whole, text_at, number_at, list_at, unknown_keys, object_fault, string_fault, text_fault, whole_fault, number_fault, count_fault, list_fault}
use Rattle.sk_config.specs.Reading.{fault_of, reading_or, reading_at}
use Rattle.sk_config.specs.declared.config.ConfigRead.{ConfigRead}
use Rattle.sk_config.specs.declared.fault.ConfigFault.{ConfigFault}
use Rattle.sk_config.specs.declared.fault.ConfigFault.TheVariants as config
use Rattle.sk_rules.specs.Actions.{service_read, variable_read, variable_for, append_read, payload_read, true_read, can_baud_read, can_send_read, eth_send_read, lin_init_read, checksum_read, lin_response_read, lin_header_read, lin_frame_read, publish_read, call_read, reply_read, served, set_read, add_read, take_read, pause_read, stop_read, error_read, told, named, action_read, actions_read}
use Rattle.sk_rules.specs.Faults.{scenario_faults}
use Rattle.sk_rules.specs.Fields.{has, none_unknown, object_read, needed, where_given, text_read, needed_text, number_read, needed_number, list_read, bool_value, bool_read, word_value, word_read, needed_word, bytes_of, bytes_value, bytes_read, items_read}
use Rattle.sk_rules.specs.Keys.{knows as knows_rule, rate_key, id_key, extended_key, fd_key, role_key, mode_key as lin_mode_key, checksum_key, data_key, append_key, to_key, by_key, do_key, at_key, every_key, from_key, on_key}
use Rattle.sk_rules.specs.Outcome.{◌>>=◌, ◌>>◌, checked, fine, must, found}
use Rattle.sk_rules.specs.Places.{ScopeValue, service_of, variable_of, receiver_of}
use Rattle.sk_rules.specs.Rules.{condition_of, may_start, place_of, do_read, at_read, every_read, on_read, when_read, rule_read, rules_read}
use Rattle.sk_rules.specs.Scripts.{sends}
use Rattle.sk_rules.specs.Vars.{value_read, var_read, vars_in, vars_read}
use Rattle.sk_rules.specs.Verbs.{kind_of, service_key, verb_key, only_verb, may_stand}
use Rattle.sk_rules.specs.Words.{role_of, lin_mode_of, checksum_of, service_kind_of, label_kind_of}
use Rattle.sk_rules.specs.declared.fault.Rule.{Rule}
use Rattle.sk_rules.specs.declared.fault.Rule.TheVariants as rules
use Rattle.sk_rules.specs.declared.fault.ScenarioFault.{ScenarioFault}
use Rattle.sk_rules.specs.declared.fault.ScenarioFault.TheVariants.{NotJson, Refused, WantOfMemory}
use Rattle.sk_rules.specs.declared.keys.RuleObject.TheVariants as rule_objects
use Rattle.sk_rules.specs.declared.place.Place.{Place}
use Rattle.sk_rules.specs.declared.place.Place.TheVariants.{Ready}
use Rattle.sk_rules.specs.declared.rule.Condition.{Condition}
use Rattle.sk_rules.specs.declared.rule.Condition.TheVariants as conditions
use Rattle.sk_rules.specs.declared.vars.Var.{Var}
use Rattle.sk_rules.specs.declared.verb.ServiceVerb.{ServiceVerb}
use Rattle.sk_rules.specs.declared.verb.ServiceVerb.TheVariants as v
use Rattle.sk_rules.specs.declared.verb.Verb.{Verb}
use Rattle.sk_rules.specs.declared.verb.Verb.TheVariants as verbs
use Rattle.sk_script.specs.Keys.{knows, is_bus, has_history, target_key, duration_key, required_key, participants_key, name_key, mode_key, step_key, services_key, config_key, vars_key, ready_key, script_key, kind_key, network_key, media_key, labels_key, history_key, key_key, value_key}
use Rattle.sk_script.specs.Parts.{services_read, own_vars_read, ready_read, script_read, config_outcome, config_read, scoped, part_read}
use Rattle.sk_script.specs.Placing.{in_order}
use Rattle.sk_script.specs.Reading.{required_name_read, names_in, required_read, participants_read, names_differ, all_coordinated, required_of, parts_of, scenario_read, reading_from, reading}
use Rattle.sk_script.specs.Scenarios.{PartValue, PartReadValue, ScenarioReadValue, has_name, is_coordinated_in}
use Rattle.sk_script.specs.Services.{label_read, labels_read, kind_in, object_of, new_name_read, network_read, media_read, bus_spec_read, full_spec_read, spec_read, history_given, history_read, service_read as own_service_read, services_in}
use Rattle.sk_script.specs.Words.{mode_of}
use Rattle.sk_script.specs.declared.keys.Object.TheVariants as objects
use Rattle.sk_script.proofs.ConfigFaultLaws.{IsOfConfig, config_value}

-- what was read, or a fault of a value's content
abbrev IsOfValue : {A : Type 0} → Result A ScenarioFault → Type 0
IsOfValue (Ok value) = Unit {0}
IsOfValue (Err NotJson) = ⊥
IsOfValue (Err (Refused path rule)) = Unit {0}
IsOfValue (Err WantOfMemory) = ⊥

-- ---- blocks

bind : {A B : Type 0} (r : Result A ScenarioFault) (next : A → Result B ScenarioFault) → IsOfValue r → ((x : A) → IsOfValue (next x)) → IsOfValue (r >>= next)
bind (Ok x) next p q = q x
bind (Err NotJson) next p q = p
bind (Err (Refused path rule)) next p q = tt
bind (Err WantOfMemory) next p q = p

after : {A B : Type 0} (r : Result A ScenarioFault) (next : Result B ScenarioFault) → IsOfValue r → IsOfValue next → IsOfValue (r >> next)
after (Ok x) next p q = q
after (Err NotJson) next p q = p
after (Err (Refused path rule)) next p q = tt
after (Err WantOfMemory) next p q = p

of_must : (path : List ℕ) (rule : Rule) (holds : Bool) → IsOfValue (must path rule holds)
of_must path rule true = tt
of_must path rule false = tt

of_found : {A : Type 0} (path : List ℕ) (rule : Rule) (o : Option A) → IsOfValue (found path rule o)
of_found path rule None = tt
of_found path rule (Some x) = tt

either : {A : Type 0} (b : Bool) (one other : Result A ScenarioFault) → IsOfValue one → IsOfValue other → IsOfValue (cond b one other)
either true one other p q = p
either false one other p q = q

given : {A : Type 0} (read : Data → Result A ScenarioFault) (o : Option Data) → ((d : Data) → IsOfValue (read d)) → IsOfValue (where_given read o)
given read None h = tt
given read (Some d) h = bind (read d) _ (h d) (λ x. tt)

of_items : {A : Type 0} (read : List ℕ → List A → Data → Result A ScenarioFault) → ((path : List ℕ) (earlier : List A) (d : Data) → IsOfValue (read path earlier d))
    → (path : List ℕ) (earlier : List A) (index : ℕ) (ds : Items) → IsOfValue (items_read read path earlier index ds)
of_items read each path earlier index no_items = tt
of_items read each path earlier index (item d ds) =
    bind (read (index_at path index) earlier d) _ (each (index_at path index) earlier d) (λ x. of_items read each path (earlier ++ x ∷ []) (index + 1) ds)

-- ---- what stands at a key

of_checked : {A B : Type 0} (f : B → Option ScenarioFault) (o : Option B) (value : A) → ((x : B) → IsOfValue (checked (f x) value)) → IsOfValue (checked (option_and_then f o) value)
of_checked f None value h = tt
of_checked f (Some x) value h = h x

of_test : {A : Type 0} (b : Bool) (path : List ℕ) (rule : Rule) (value : A) → IsOfValue (checked (cond b None (Some (Refused path rule))) value)
of_test true path rule value = tt
of_test false path rule value = tt

of_object : (is_known : List ℕ → Bool) (path : List ℕ) (d : Data) → IsOfValue (object_read is_known path d)
unfolding object_read object_fault
of_object is_known path d = after _ _ (by_test (is_none (as_object d))) (by_keys (unknown_keys is_known path d))
  where
    by_test : (b : Bool) → IsOfValue (fine (cond b (Some (Refused path rules.WrongType)) None))
    by_test true = tt
    by_test false = tt

    by_keys : (paths : List (List ℕ)) → IsOfValue (none_unknown paths)
    by_keys [] = tt
    by_keys (one ∷ paths) = tt

of_string : {A : Type 0} (is_fine : List ℕ → Bool) (path : List ℕ) (o : Option (List ℕ)) (value : A) → IsOfValue (checked (string_fault scenario_faults is_fine path o) value)
of_string is_fine path None value = tt
of_string is_fine path (Some text) value = of_test (is_fine text) path rules.BadText value

of_text : (is_fine : List ℕ → Bool) (path key : List ℕ) (d : Data) → IsOfValue (text_read is_fine path key d)
unfolding text_read text_fault
of_text is_fine path key d = of_checked (λ x. string_fault scenario_faults is_fine (key_at path key) (as_str x)) (get key d) (text_at key d) (λ x. of_string is_fine (key_at path key) (as_str x) (text_at key d))

of_needed_text : (is_fine : List ℕ → Bool) (path key : List ℕ) (d : Data) → IsOfValue (needed_text is_fine path key d)
unfolding needed_text
of_needed_text is_fine path key d = bind (text_read is_fine path key d) _ (of_text is_fine path key d) (λ o. of_found (key_at path key) rules.Missing o)

of_whole : {A : Type 0} (low high : ℕ) (path : List ℕ) (o : Option ℕ) (value : A) → IsOfValue (checked (whole_fault scenario_faults low high path o) value)
of_whole low high path None value = tt
of_whole low high path (Some n) value = of_test (nat_le low n && nat_le n high) path rules.OutOfRange value

of_number : (low high : ℕ) (path key : List ℕ) (d : Data) → IsOfValue (number_read low high path key d)
unfolding number_read number_fault
of_number low high path key d = of_checked (λ x. whole_fault scenario_faults low high (key_at path key) (whole x)) (get key d) (number_at key d) (λ x. of_whole low high (key_at path key) (whole x) (number_at key d))

of_needed_number : (low high : ℕ) (path key : List ℕ) (d : Data) → IsOfValue (needed_number low high path key d)
unfolding needed_number
of_needed_number low high path key d = bind (number_read low high path key d) _ (of_number low high path key d) (λ o. of_found (key_at path key) rules.Missing o)

of_count : {A : Type 0} (least most : ℕ) (path : List ℕ) (o : Option Items) (value : A) → IsOfValue (checked (count_fault scenario_faults least most path o) value)
of_count least most path None value = tt
of_count least most path (Some ds) value = of_test (nat_le least (items_len ds) && nat_le (items_len ds) most) path rules.OutOfRange value

of_list : (least most : ℕ) (path key : List ℕ) (d : Data) → IsOfValue (list_read least most path key d)
unfolding list_read list_fault
of_list least most path key d = of_checked (λ x. count_fault scenario_faults least most (key_at path key) (as_array x)) (get key d) (list_at key d) (λ x. of_count least most (key_at path key) (as_array x) (list_at key d))

of_bool : (path key : List ℕ) (d : Data) → IsOfValue (bool_read path key d)
unfolding bool_read
of_bool path key d = given (bool_value (key_at path key)) (get key d) (λ x. of_found (key_at path key) rules.WrongType (as_bool x))

of_word : {A : Type 0} (meaning : List ℕ → Option A) (path key : List ℕ) (d : Data) → IsOfValue (word_read meaning path key d)
unfolding word_read
of_word meaning path key d = given (word_value meaning (key_at path key)) (get key d)
    (λ x. bind (found (key_at path key) rules.WrongType (as_str x)) _ (of_found (key_at path key) rules.WrongType (as_str x)) (λ word. of_found (key_at path key) rules.OutOfRange (meaning word)))

of_needed_word : {A : Type 0} (meaning : List ℕ → Option A) (path key : List ℕ) (d : Data) → IsOfValue (needed_word meaning path key d)
unfolding needed_word
of_needed_word meaning path key d = bind (word_read meaning path key d) _ (of_word meaning path key d) (λ o. of_found (key_at path key) rules.Missing o)

of_digits : (path : List ℕ) (r : Result (List ℕ) FromHexError) → IsOfValue (bytes_of path r)
of_digits path (Ok bytes) = tt
of_digits path (Err fault) = tt

of_bytes : (most : ℕ) (path key : List ℕ) (d : Data) → IsOfValue (bytes_read most path key d)
unfolding bytes_read
of_bytes most path key d = given (bytes_value most (key_at path key)) (get key d)
    (λ x. bind (found (key_at path key) rules.WrongType (as_str x)) _ (of_found (key_at path key) rules.WrongType (as_str x))
    (λ text. bind (bytes_of (key_at path key) (decode_of text)) _ (of_digits (key_at path key) (decode_of text))
    (λ bytes. after (must (key_at path key) rules.OutOfRange (nat_le (length bytes) most)) _ (of_must (key_at path key) rules.OutOfRange (nat_le (length bytes) most))
    (after (must (key_at path key) rules.OutOfRange (is_payload bytes)) _ (of_must (key_at path key) rules.OutOfRange (is_payload bytes)) tt))))

-- ---- variables

of_var : (path key : List ℕ) (d : Data) → IsOfValue (var_read path key d)
of_var path key d =
    after (must (key_at path key) rules.BadText (is_name key)) _ (of_must (key_at path key) rules.BadText (is_name key))
    (bind (value_read (key_at path key) d) _ (bind (found (key_at path key) rules.WrongType (whole d)) _ (of_found (key_at path key) rules.WrongType (whole d))
    (λ n. after (must (key_at path key) rules.OutOfRange (nat_lt n (2 ^ 64))) _ (of_must (key_at path key) rules.OutOfRange (nat_lt n (2 ^ 64))) tt)) (λ x. tt))

of_members : (path : List ℕ) (earlier : List Var) (ms : Members) → IsOfValue (vars_in path earlier ms)
of_members path earlier no_members = tt
of_members path earlier (member key d ms) = bind (var_read path key d) _ (of_var path key d) (λ x. of_members path (earlier ++ x ∷ []) ms)

of_vars : (path : List ℕ) (d : Data) → IsOfValue (vars_read path d)
unfolding vars_read
of_vars path d = bind (found path rules.WrongType (as_object d)) _ (of_found path rules.WrongType (as_object d))
    (λ ms. after (must path rules.OutOfRange (nat_le (members_len ms) 64)) _ (of_must path rules.OutOfRange (nat_le (members_len ms) 64)) (of_members path [] ms))

-- ---- actions

of_service : (scope : ScopeValue) (kind : ServiceKind) (path key : List ℕ) (d : Data) → IsOfValue (service_read scope kind path key d)
unfolding service_read
of_service scope kind path key d = bind (needed_text is_name path key d) _ (of_needed_text is_name path key d) (λ name. of_found (key_at path key) rules.NoSuchService (service_of scope kind name))

of_variable : (scope : ScopeValue) (path key : List ℕ) (d : Data) → IsOfValue (variable_read scope path key d)
unfolding variable_read
of_variable scope path key d = bind (needed_text is_name path key d) _ (of_needed_text is_name path key d) (λ name. of_found (key_at path key) rules.NoSuchVariable (variable_of scope name))

of_append : (scope : ScopeValue) (path : List ℕ) (d : Data) → IsOfValue (append_read scope path d)
unfolding append_read
of_append scope path d = bind (text_read is_name path append_key d) _ (of_text is_name path append_key d) by_name
  where
    by_name : (o : Option (List ℕ)) → IsOfValue (variable_for scope (key_at path append_key) o)
    by_name None = tt
    by_name (Some name) = bind (found (key_at path append_key) rules.NoSuchVariable (variable_of scope name)) _ (of_found (key_at path append_key) rules.NoSuchVariable (variable_of scope name)) (λ x. tt)

of_payload : (path : List ℕ) (d : Data) → IsOfValue (payload_read path d)
unfolding payload_read
of_payload path d = bind (bytes_read (if has append_key d then 4088 else 4096) path data_key d) _ (of_bytes (if has append_key d then 4088 else 4096) path data_key d) (λ x. tt)

of_true : (path key : List ℕ) (d : Data) → IsOfValue (true_read path key d)
unfolding true_read
of_true path key d = bind (bool_read path key d) _ (of_bool path key d) (λ o. bind (needed path key o) _ (of_found (key_at path key) rules.Missing o) (λ value. after (must (key_at path key) rules.OutOfRange value) _ (of_must (key_at path key) rules.OutOfRange value) tt))

of_checksum : (path : List ℕ) (d : Data) → IsOfValue (checksum_read path d)
unfolding checksum_read
of_checksum path d = bind (word_read checksum_of path checksum_key d) _ (of_word checksum_of path checksum_key d) (λ x. tt)

-- bytes and what is appended, whatever is made of them
of_both : {A : Type 0} (scope : ScopeValue) (path : List ℕ) (d : Data) (make : List ℕ → Option ℕ → A) → IsOfValue (payload_read path d >>= λ payload. append_read scope path d >>= λ append. Ok (make payload append))
of_both scope path d make = bind (payload_read path d) _ (of_payload path d) (λ payload. bind (append_read scope path d) _ (of_append scope path d) (λ append. tt))

of_served : (scope : ScopeValue) (verb : ServiceVerb) (service : ℕ) (path : List ℕ) (d : Data) → IsOfValue (served scope verb service path d)
unfolding can_baud_read can_send_read eth_send_read lin_init_read lin_response_read lin_header_read lin_frame_read publish_read call_read reply_read
of_served scope v.CanBaud service path d = bind (needed_number 0 (2 ^ 32 - 1) path rate_key d) _ (of_needed_number 0 (2 ^ 32 - 1) path rate_key d) (λ x. tt)
of_served scope v.CanStart service path d = tt
of_served scope v.CanStop service path d = tt
of_served scope v.CanReset service path d = tt
of_served scope v.CanSleep service path d = tt
of_served scope v.CanSend service path d =
    bind (needed_number 0 (2 ^ 32 - 1) path id_key d) _ (of_needed_number 0 (2 ^ 32 - 1) path id_key d) (λ id.
    bind (bool_read path extended_key d) _ (of_bool path extended_key d) (λ extended. bind (bool_read path fd_key d) _ (of_bool path fd_key d) (λ fd. of_both scope path d _)))
of_served scope v.EthActivate service path d = tt
of_served scope v.EthDeactivate service path d = tt
of_served scope v.EthSend service path d = of_both scope path d _
of_served scope v.LinInit service path d = bind (needed_word role_of path role_key d) _ (of_needed_word role_of path role_key d) (λ x. tt)
of_served scope v.LinResponse service path d =
    bind (needed_number 0 255 path id_key d) _ (of_needed_number 0 255 path id_key d) (λ id. bind (needed_word lin_mode_of path lin_mode_key d) _ (of_needed_word lin_mode_of path lin_mode_key d) (λ mode.
    bind (checksum_read path d) _ (of_checksum path d) (λ checksum. bind (bytes_read (if sends mode then 4096 else 0) path data_key d) _ (of_bytes (if sends mode then 4096 else 0) path data_key d) (λ x. tt))))
of_served scope v.LinHeader service path d = bind (needed_number 0 255 path id_key d) _ (of_needed_number 0 255 path id_key d) (λ x. tt)
of_served scope v.LinFrame service path d =
    bind (needed_number 0 255 path id_key d) _ (of_needed_number 0 255 path id_key d) (λ id. bind (checksum_read path d) _ (of_checksum path d) (λ checksum. bind (bytes_read 4096 path data_key d) _ (of_bytes 4096 path data_key d) (λ x. tt)))
of_served scope v.LinSleep service path d = tt
of_served scope v.LinWakeup service path d = tt
of_served scope v.Publish service path d = of_both scope path d _
of_served scope v.Call service path d = of_both scope path d _
of_served scope v.Reply service path d = of_both scope path d _

of_told : (scope : ScopeValue) (verb : Verb) (path : List ℕ) (d : Data) → IsOfValue (told scope verb path d)
unfolding set_read add_read take_read pause_read stop_read error_read
of_told scope (verbs.Of verb) path d = bind (service_read scope (kind_of verb) path (service_key verb) d) _ (of_service scope (kind_of verb) path (service_key verb) d) (λ service. of_served scope verb service path d)
of_told scope verbs.Set path d = bind (variable_read scope path (verb_key verbs.Set) d) _ (of_variable scope path (verb_key verbs.Set) d) (λ x. bind (needed_number 0 (2 ^ 64 - 1) path to_key d) _ (of_needed_number 0 (2 ^ 64 - 1) path to_key d) (λ y. tt))
of_told scope verbs.Add path d = bind (variable_read scope path (verb_key verbs.Add) d) _ (of_variable scope path (verb_key verbs.Add) d) (λ x. bind (needed_number 0 (2 ^ 64 - 1) path by_key d) _ (of_needed_number 0 (2 ^ 64 - 1) path by_key d) (λ y. tt))
of_told scope verbs.Take path d = bind (variable_read scope path (verb_key verbs.Take) d) _ (of_variable scope path (verb_key verbs.Take) d) (λ x. tt)
of_told scope verbs.Pause path d = bind (needed_number 1 1000 path (verb_key verbs.Pause) d) _ (of_needed_number 1 1000 path (verb_key verbs.Pause) d) (λ x. tt)
of_told scope verbs.Stop path d = bind (true_read path (verb_key verbs.Stop) d) _ (of_true path (verb_key verbs.Stop) d) (λ x. tt)
of_told scope verbs.Error path d = bind (true_read path (verb_key verbs.Error) d) _ (of_true path (verb_key verbs.Error) d) (λ x. tt)

of_action : (scope : ScopeValue) (place : Place) (path : List ℕ) (d : Data) → IsOfValue (action_read scope place path d)
unfolding action_read
of_action scope place path d =
    after (object_read (knows_rule rule_objects.AnyAction) path d) _ (of_object (knows_rule rule_objects.AnyAction) path d)
    (bind (found path rules.NotAllowedHere (only_verb d)) _ (of_found path rules.NotAllowedHere (only_verb d)) (λ verb.
    after (must path rules.NotAllowedHere (may_stand verb place (named scope d))) _ (of_must path rules.NotAllowedHere (may_stand verb place (named scope d)))
    (after (object_read (knows_rule (rule_objects.Action verb)) path d) _ (of_object (knows_rule (rule_objects.Action verb)) path d) (of_told scope verb path d))))

of_actions : (scope : ScopeValue) (place : Place) (path : List ℕ) (ds : Items) → IsOfValue (actions_read scope place path ds)
unfolding actions_read
of_actions scope place path ds = of_items (λ at earlier d. action_read scope place at d) (λ at earlier d. of_action scope place at d) path [] 0 ds

-- ---- rules

of_do : (scope : ScopeValue) (path : List ℕ) (d : Data) → IsOfValue (do_read scope path d)
unfolding do_read
of_do scope path d = bind (list_read 1 256 path do_key d) _ (of_list 1 256 path do_key d) (λ o. bind (needed path do_key o) _ (of_found (key_at path do_key) rules.Missing o) (λ ds. of_actions scope (place_of scope d) (key_at path do_key) ds))

of_when : (scope : ScopeValue) (condition : Condition) (path : List ℕ) (d : Data) → IsOfValue (when_read scope condition path d)
unfolding at_read every_read on_read
of_when scope conditions.At path d = bind (needed_number 0 (2 ^ 62) path at_key d) _ (of_needed_number 0 (2 ^ 62) path at_key d) (λ x. tt)
of_when scope conditions.Every path d = bind (needed_number 1 (2 ^ 60) path every_key d) _ (of_needed_number 1 (2 ^ 60) path every_key d) (λ x. bind (number_read 0 (2 ^ 64 - 1) path from_key d) _ (of_number 0 (2 ^ 64 - 1) path from_key d) (λ y. tt))
of_when scope conditions.On path d = bind (needed_text is_name path on_key d) _ (of_needed_text is_name path on_key d) (λ name. bind (found (key_at path on_key) rules.NoSuchService (receiver_of scope name)) _ (of_found (key_at path on_key) rules.NoSuchService (receiver_of scope name)) (λ x. tt))

of_rule : (scope : ScopeValue) (path : List ℕ) (d : Data) → IsOfValue (rule_read scope path d)
unfolding rule_read
of_rule scope path d =
    after (object_read (knows_rule rule_objects.Rule) path d) _ (of_object (knows_rule rule_objects.Rule) path d)
    (bind (found path rules.NotAllowedHere (condition_of d)) _ (of_found path rules.NotAllowedHere (condition_of d)) (λ condition.
    after (must (key_at path from_key) rules.UnknownKey (may_start condition (has from_key d))) _ (of_must (key_at path from_key) rules.UnknownKey (may_start condition (has from_key d)))
    (bind (do_read scope path d) _ (of_do scope path d) (λ actions. bind (when_read scope condition path d) _ (of_when scope condition path d) (λ when. tt)))))

of_rules : (scope : ScopeValue) (path : List ℕ) (ds : Items) → IsOfValue (rules_read scope path ds)
unfolding rules_read
of_rules scope path ds = of_items (λ at earlier d. rule_read scope at d) (λ at earlier d. of_rule scope at d) path [] 0 ds

-- ---- services

of_label : (path : List ℕ) (earlier : List Label) (d : Data) → IsOfValue (label_read path earlier d)
unfolding label_read
of_label path earlier d =
    after (object_read (knows objects.Label) path d) _ (of_object (knows objects.Label) path d) (bind (needed_text is_name path key_key d) _ (of_needed_text is_name path key_key d) (λ key.
    after (must (key_at path key_key) rules.NameTaken (is_new_key earlier key)) _ (of_must (key_at path key_key) rules.NameTaken (is_new_key earlier key))
    (bind (needed_text is_text path value_key d) _ (of_needed_text is_text path value_key d) (λ value. bind (needed_word label_kind_of path kind_key d) _ (of_needed_word label_kind_of path kind_key d) (λ kind. tt)))))

of_labels : (path : List ℕ) (d : Data) → IsOfValue (labels_read path d)
unfolding labels_read
of_labels path d = bind (list_read 0 16 path labels_key d) _ (of_list 0 16 path labels_key d) (λ o. of_items label_read of_label (key_at path labels_key) [] 0 (unwrap_or o no_items))

of_new_name : (earlier : List Service) (path : List ℕ) (d : Data) → IsOfValue (new_name_read earlier path d)
unfolding new_name_read
of_new_name earlier path d = bind (needed_text is_name path name_key d) _ (of_needed_text is_name path name_key d) (λ name. after (must (key_at path name_key) rules.NameTaken (not (list_any (λ other. bytes_eq other.name name) earlier))) _ (of_must (key_at path name_key) rules.NameTaken (not (list_any (λ other. bytes_eq other.name name) earlier))) tt)

of_spec : (kind : ServiceKind) (name path : List ℕ) (d : Data) → IsOfValue (spec_read kind name path d)
unfolding bus_spec_read full_spec_read network_read media_read
of_spec kind name path d = either (is_bus kind) _ _
    (bind (network_read name path d) _ (bind (text_read is_name path network_key d) _ (of_text is_name path network_key d) (λ x. tt)) (λ x. tt))
    (bind (needed_text is_name path (target_key kind) d) _ (of_needed_text is_name path (target_key kind) d) (λ topic.
    bind (media_read path d) _ (bind (text_read is_text path media_key d) _ (of_text is_text path media_key d) (λ x. tt)) (λ media. bind (labels_read path d) _ (of_labels path d) (λ labels. tt))))

of_history : (kind : ServiceKind) (path : List ℕ) (d : Data) → IsOfValue (history_read kind path d)
unfolding history_given
of_history kind path d = either (has_history kind) _ _ (bind (number_read 0 1 path history_key d) _ (of_number 0 1 path history_key d) (λ x. tt)) tt

of_own_service : (path : List ℕ) (earlier : List Service) (d : Data) → IsOfValue (own_service_read path earlier d)
unfolding own_service_read
of_own_service path earlier d =
    after (object_read (knows (object_of (kind_in d))) path d) _ (of_object (knows (object_of (kind_in d))) path d) (bind (needed_word service_kind_of path kind_key d) _ (of_needed_word service_kind_of path kind_key d) (λ kind.
    bind (new_name_read earlier path d) _ (of_new_name earlier path d) (λ name. bind (spec_read kind name path d) _ (of_spec kind name path d) (λ spec. bind (history_read kind path d) _ (of_history kind path d) (λ history. tt)))))

of_services : (path : List ℕ) (ds : Items) → IsOfValue (services_in path ds)
unfolding services_in
of_services path ds = of_items own_service_read of_own_service path [] 0 ds

-- ---- participants

of_configuration : (o : Option ConfigFault) (read : ConfigRead) → IsOfConfig o → IsOfValue (config_outcome (reading_or o read))
of_configuration None read h = tt
of_configuration (Some config.NotJson) read h = h
of_configuration (Some (config.Missing path)) read h = tt
of_configuration (Some (config.WrongType path)) read h = tt
of_configuration (Some (config.BadValue path)) read h = tt
of_configuration (Some (config.Double path)) read h = tt
of_configuration (Some config.WantOfMemory) read h = h

of_config : (path : List ℕ) (d : Data) → IsOfValue (config_read path d)
unfolding config_read reading_at
of_config path d = given (λ x. config_outcome (reading_at (key_at path config_key) x)) (get config_key d) (λ x. of_configuration (fault_of (key_at path config_key) x) _ (config_value (key_at path config_key) x))

of_part : (path : List ℕ) (d : Data) → IsOfValue (part_read path d)
unfolding part_read services_read own_vars_read ready_read script_read
of_part path d =
    after (object_read (knows objects.Participant) path d) _ (of_object (knows objects.Participant) path d)
    (bind (needed_text is_name path name_key d) _ (of_needed_text is_name path name_key d) (λ name.
    bind (word_read mode_of path mode_key d) _ (of_word mode_of path mode_key d) (λ mode.
    bind (number_read 1 (2 ^ 60) path step_key d) _ (of_number 1 (2 ^ 60) path step_key d) (λ step.
    bind (services_read path d) _ (bind (list_read 0 64 path services_key d) _ (of_list 0 64 path services_key d) (λ o. of_services (key_at path services_key) (unwrap_or o no_items))) (λ services.
    bind (config_read path d) _ (of_config path d) (λ configuration.
    bind (own_vars_read path d) _ (bind (where_given (vars_read (key_at path vars_key)) (get vars_key d)) _ (given (vars_read (key_at path vars_key)) (get vars_key d) (λ x. of_vars (key_at path vars_key) x)) (λ x. tt)) (λ vars.
    bind (ready_read (scoped services vars) path d) _ (bind (list_read 0 (2 ^ 64 - 1) path ready_key d) _ (of_list 0 (2 ^ 64 - 1) path ready_key d) (λ o. of_actions (scoped services vars) Ready (key_at path ready_key) (unwrap_or o no_items))) (λ ready.
    bind (script_read (scoped services vars) path d) _ (bind (list_read 0 256 path script_key d) _ (of_list 0 256 path script_key d) (λ o. of_rules (scoped services vars) (key_at path script_key) (unwrap_or o no_items))) (λ script. tt)))))))))

-- ---- the file

of_required_name : (path : List ℕ) (earlier : List (List ℕ)) (d : Data) → IsOfValue (required_name_read path earlier d)
of_required_name path earlier d = bind (found path rules.WrongType (as_str d)) _ (of_found path rules.WrongType (as_str d)) (λ name.
    after (must path rules.BadText (is_name name)) _ (of_must path rules.BadText (is_name name)) (after (must path rules.NameTaken (is_new_name earlier name)) _ (of_must path rules.NameTaken (is_new_name earlier name)) tt))

of_names : (path : List ℕ) (o : Option Items) → IsOfValue (names_in path o)
of_names path None = tt
of_names path (Some ds) = bind (items_read required_name_read path [] 0 ds) _ (of_items required_name_read of_required_name path [] 0 ds) (λ x. tt)

of_required : (path : List ℕ) (d : Data) → IsOfValue (required_read path d)
unfolding required_read
of_required path d = bind (list_read 1 32 path required_key d) _ (of_list 1 32 path required_key d) (of_names (key_at path required_key))

of_participants : (path : List ℕ) (d : Data) → IsOfValue (participants_read path d)
unfolding participants_read
of_participants path d = bind (list_read 1 32 path participants_key d) _ (of_list 1 32 path participants_key d) (λ o. bind (needed path participants_key o) _ (of_found (key_at path participants_key) rules.Missing o)
    (λ ds. of_items (λ at earlier x. part_read at x) (λ at earlier x. of_part at x) (key_at path participants_key) [] 0 ds))

of_names_differ : (path : List ℕ) (earlier : List PartReadValue) (index : ℕ) (reads : List PartReadValue) → IsOfValue (names_differ path earlier index reads)
of_names_differ path earlier index [] = tt
of_names_differ path earlier index (one ∷ reads) =
    after (must (key_at (index_at path index) name_key) rules.NameTaken (not (has_name earlier one.part.name))) _ (of_must (key_at (index_at path index) name_key) rules.NameTaken (not (has_name earlier one.part.name)))
    (of_names_differ path (earlier ++ one ∷ []) (index + 1) reads)

of_all_coordinated : (path : List ℕ) (parts : List PartValue) (index : ℕ) (names : List (List ℕ)) → IsOfValue (all_coordinated path parts index names)
of_all_coordinated path parts index [] = tt
of_all_coordinated path parts index (name ∷ names) =
    after (must (index_at path index) rules.NoSuchParticipant (is_coordinated_in parts name)) _ (of_must (index_at path index) rules.NoSuchParticipant (is_coordinated_in parts name)) (of_all_coordinated path parts (index + 1) names)

of_required_of : (path : List ℕ) (parts : List PartValue) (o : Option (List (List ℕ))) → IsOfValue (required_of path parts o)
of_required_of path parts None = tt
of_required_of path parts (Some names) = after (all_coordinated path parts 0 names) _ (of_all_coordinated path parts 0 names) tt

of_scenario : (path : List ℕ) (d : Data) → IsOfValue (scenario_read path d)
unfolding scenario_read
of_scenario path d =
    after (object_read (knows objects.Root) path d) _ (of_object (knows objects.Root) path d)
    (bind (needed_number 0 (2 ^ 61) path duration_key d) _ (of_needed_number 0 (2 ^ 61) path duration_key d) (λ duration.
    bind (required_read path d) _ (of_required path d) (λ required.
    bind (participants_read path d) _ (of_participants path d) (λ reads.
    after (names_differ (key_at path participants_key) [] 0 reads) _ (of_names_differ (key_at path participants_key) [] 0 reads)
    (bind (required_of (key_at path required_key) (parts_of (in_order reads)) required) _ (of_required_of (key_at path required_key) (parts_of (in_order reads)) required) (λ names. tt))))))

-- ---- bytes

no_json_fault : (r : Result ScenarioReadValue ScenarioFault) → IsOfValue r → r ≡ Err NotJson → ⊥
no_json_fault (Ok read) h e = absurd cc
no_json_fault (Err NotJson) h e = h
no_json_fault (Err (Refused path rule)) h e = absurd cc
no_json_fault (Err WantOfMemory) h e = h

no_memory_fault : (r : Result ScenarioReadValue ScenarioFault) → IsOfValue r → r ≡ Err WantOfMemory → ⊥
no_memory_fault (Ok read) h e = absurd cc
no_memory_fault (Err NotJson) h e = h
no_memory_fault (Err (Refused path rule)) h e = absurd cc
no_memory_fault (Err WantOfMemory) h e = h

has_no_json : (o : Option Data) → reading_from o ≡ Err NotJson → o ≡ None
has_no_json None e = refl
has_no_json (Some d) e = absurd (no_json_fault (scenario_read [] d) (of_scenario [] d) e)

pub not_json_where : (bytes : List ℕ) → (reading bytes ≡ Err NotJson) ↔ (json_of bytes ≡ None)
unfolding reading
not_json_where bytes = (has_no_json (json_of bytes), λ none. rw none refl)

no_memory : (o : Option Data) → reading_from o ≡ Err WantOfMemory → ⊥
no_memory None e = absurd cc
no_memory (Some d) e = no_memory_fault (scenario_read [] d) (of_scenario [] d) e

pub never_memory : (bytes : List ℕ) → reading bytes ≡ Err WantOfMemory → ⊥
unfolding reading
never_memory bytes e = no_memory (json_of bytes) e
