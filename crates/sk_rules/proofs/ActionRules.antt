-- Actions that were read keep the rules of their place: a lemma for what actions have in common, and one for each kind.
use Rattle.std.proofs.Common.{◌≡◌, ℕ, ◌^◌, ◌-◌, Bool, true, false, List, [], length, Option, Some, None, Ok, refl, ap, subst, ◌∙◌, arith}
use Rattle.std.specs.Prelude.{Result, ◌||◌, ◌==◌, nat_le, is_some, unwrap_or, option_and_then, if◌then◌else◌}
use Rattle.std.specs.List.{list_all}
use Rattle.std.proofs.lemmas.Bool.{and_from, and_parts, le-leb, leb-true, lt-ltb, eq-eqb}
use Rattle.serde_json.specs.Data.{Data, Items}
use Rattle.serde_json.specs.Events.{items_len}
use Rattle.serde_json.specs.Find.{get, as_str}
use Rattle.hex.specs.Hex.{decode_of}
use Rattle.sk_base.specs.Ranges.{is_name, is_payload}
use Rattle.sk_msg.specs.Rules.{is_u32}
use Rattle.sk_msg.specs.declared.action.Action.{Action}
use Rattle.sk_msg.specs.declared.action.Action.TheVariants as act
use Rattle.sk_msg.specs.declared.service.ServiceKind.{ServiceKind}
use Rattle.sk_msg.specs.declared.service.ServiceKind.TheVariants.{Can, Ethernet, Lin, Publisher, Server, Client}
use Rattle.sk_config.specs.Json.{text_at, text_fault}
use Rattle.sk_config.specs.Paths.{key_at}
use Rattle.sk_rules.specs.Faults.{scenario_faults}
use Rattle.sk_rules.specs.Outcome.{◌>>=◌, must, found}
use Rattle.sk_rules.specs.Fields.{has, object_read, text_read, needed_text, needed_number, needed_word, bool_read, where_given, bytes_of, bytes_in, bytes_value, bytes_read}
use Rattle.sk_rules.specs.Keys.{rate_key, id_key, extended_key, fd_key, role_key, mode_key, append_key, data_key, to_key, by_key, knows}
use Rattle.sk_rules.specs.Places.{ScopeValue, service_of, variable_of, server_of, is_step, is_on, is_on_server}
use Rattle.sk_rules.specs.Scripts.{serves, is_variable, is_u8, is_u64, is_short_payload, appends_to, is_append, is_fixed, is_action, sends, is_pause}
use Rattle.sk_rules.specs.Actions.{service_read, variable_read, variable_for, append_read, payload_read, appending, checksum_read, can_baud_read, can_send_read, eth_send_read, lin_init_read, lin_response_read, lin_header_read, lin_frame_read, publish_read, call_read, reply_read, served, true_read, set_read, add_read, take_read, pause_read, stop_read, error_read, told, named, action_read, actions_read}
use Rattle.sk_rules.specs.Verbs.{kind_of, service_key, verb_key, is_reply, only_verb, may_stand}
use Rattle.sk_rules.specs.Words.{role_of, lin_mode_of}
use Rattle.sk_rules.specs.declared.action.ScriptAction.{ScriptAction}
use Rattle.sk_rules.specs.declared.fault.Rule.TheVariants as rules
use Rattle.sk_rules.specs.declared.fault.ScenarioFault.{ScenarioFault}
use Rattle.sk_rules.specs.declared.keys.RuleObject.TheVariants as objects
use Rattle.sk_rules.specs.declared.place.Place.{Place}
use Rattle.sk_rules.specs.declared.verb.ServiceVerb.{ServiceVerb}
use Rattle.sk_rules.specs.declared.verb.ServiceVerb.TheVariants as v
use Rattle.sk_rules.specs.declared.verb.Verb.{Verb}
use Rattle.sk_rules.specs.declared.verb.Verb.TheVariants as verbs
use Rattle.sk_rules.proofs.OutcomeLaws.{then_ok, after_ok, checked_ok, found_ok, must_ok, ok_is}
use Rattle.sk_rules.proofs.FieldLaws.{needed_within}
use Rattle.sk_rules.proofs.ItemLaws.{items_pass, items_number}
use Rattle.sk_rules.proofs.ServiceLaws.{service_serves, variable_is}

-- ---- texts

-- a text that was read is what stands at the key
pub text_is : (fine : List ℕ → Bool) (path key : List ℕ) (d : Data) (text : Option (List ℕ)) → text_read fine path key d ≡ Ok text → text_at key d ≡ text
unfolding text_read
text_is fine path key d text e = (checked_ok (text_fault scenario_faults fine path key d) (text_at key d) text e).1

pub needed_text_is : (fine : List ℕ → Bool) (path key : List ℕ) (d : Data) (text : List ℕ) → needed_text fine path key d ≡ Ok text → text_at key d ≡ Some text
unfolding needed_text
needed_text_is fine path key d text e =
    then_ok (text_read fine path key d) _ text e
    (λ given read is. text_is fine path key d given read ∙ found_ok _ _ given text is)

-- where a text stands at a key, the object has it
pub text_there : (key : List ℕ) (d : Data) (text : List ℕ) → text_at key d ≡ Some text → has key d ≡ true
unfolding has
text_there key d text e = by_value (get key d) e
  where
    by_value : (o : Option Data) → option_and_then as_str o ≡ Some text → is_some o ≡ true
    by_value None e = absurd cc
    by_value (Some v) e = refl

-- ---- numbers

module _ (path key : List ℕ) (d : Data) (n : ℕ) where
  u32_read : needed_number 0 (2 ^ 32 - 1) path key d ≡ Ok n → is_u32 n ≡ true
  unfolding is_u32
  u32_read e = let range = needed_within 0 (2 ^ 32 - 1) path key d n e in lt-ltb n (2 ^ 32) (omega (arith, range.1))

  u8_read : needed_number 0 255 path key d ≡ Ok n → is_u8 n ≡ true
  unfolding is_u8
  u8_read e = let range = needed_within 0 255 path key d n e in lt-ltb n (2 ^ 8) (omega (arith, range.1))

  u64_read : needed_number 0 (2 ^ 64 - 1) path key d ≡ Ok n → is_u64 n ≡ true
  unfolding is_u64
  u64_read e = let range = needed_within 0 (2 ^ 64 - 1) path key d n e in lt-ltb n (2 ^ 64) (omega (arith, range.1))

-- ---- bytes

-- at most so many, and no more than a message carries
abbrev Fit : ℕ → List ℕ → Type 0
Fit most bytes = (nat_le (length bytes) most ≡ true) × (is_payload bytes ≡ true)

none_fit : (most : ℕ) → Fit most []
unfolding is_payload
none_fit most = (le-leb 0 most (omega arith), refl)

-- bytes of digits fit
bytes_in_fit : (most : ℕ) (path text bytes : List ℕ) → bytes_in most path text ≡ Ok bytes → Fit most bytes
bytes_in_fit most path text bytes e =
    then_ok (bytes_of path (decode_of text)) _ bytes e
    (λ decoded read rest. after_ok (must path rules.OutOfRange (nat_le (length decoded) most)) _ bytes rest
    (λ x few rest. after_ok (must path rules.OutOfRange (is_payload decoded)) _ bytes rest
    (λ y fits same. subst (λ (bs : List ℕ). Fit most bs) (ok_is _ _ same) (must_ok _ _ _ _ few, must_ok _ _ _ _ fits))))

bytes_value_fit : (most : ℕ) (path : List ℕ) (d : Data) (bytes : List ℕ) → bytes_value most path d ≡ Ok bytes → Fit most bytes
bytes_value_fit most path d bytes e =
    then_ok (found path rules.WrongType (as_str d)) _ bytes e
    (λ text is rest. bytes_in_fit most path text bytes rest)

-- and so are those by default
bytes_fit : (most : ℕ) (path key : List ℕ) (d : Data) (given : Option (List ℕ)) → bytes_read most path key d ≡ Ok given
    → Fit most (unwrap_or given [])
unfolding bytes_read
bytes_fit most path key d given e = by_value (get key d) e
  where
    by_value : (o : Option Data) → where_given (bytes_value most (key_at path key)) o ≡ Ok given → Fit most (unwrap_or given [])
    by_value None e = subst (λ (o : Option (List ℕ)). Fit most (unwrap_or o [])) (ok_is _ _ e) (none_fit most)
    by_value (Some v) e =
        then_ok (bytes_value most (key_at path key) v) _ given e
        (λ bytes read same. subst (λ (o : Option (List ℕ)). Fit most (unwrap_or o [])) (ok_is _ _ same)
        (bytes_value_fit most (key_at path key) v bytes read))

-- ---- services and variables

-- the service that was read is the one that the text names
pub service_there : (scope : ScopeValue) (kind : ServiceKind) (path key : List ℕ) (d : Data) (service : ℕ) → service_read scope kind path key d ≡ Ok service → option_and_then (service_of scope kind) (text_at key d) ≡ Some service
unfolding service_read
service_there scope kind path key d service e =
    then_ok (needed_text is_name path key d) _ service e
    (λ name read is. ap (option_and_then (service_of scope kind)) (needed_text_is is_name path key d name read) ∙ found_ok _ _ _ service is)

pub there_serves : (scope : ScopeValue) (kind : ServiceKind) (text : Option (List ℕ)) (service : ℕ) → option_and_then (service_of scope kind) text ≡ Some service → serves scope kind service ≡ true
there_serves scope kind None service e = absurd cc
there_serves scope kind (Some name) service e = service_serves scope kind name service e

-- a variable that was read is one of the participant
variable_fits : (scope : ScopeValue) (path key : List ℕ) (d : Data) (variable : ℕ) → variable_read scope path key d ≡ Ok variable → is_variable scope variable ≡ true
unfolding variable_read
variable_fits scope path key d variable e =
    then_ok (needed_text is_name path key d) _ variable e
    (λ name read is. variable_is scope name variable (found_ok _ _ _ variable is))

-- the variable that was read to append is one of the participant, and the object has its key
append_there : (scope : ScopeValue) (path : List ℕ) (d : Data) (variable : ℕ) → append_read scope path d ≡ Ok (Some variable) → (has append_key d ≡ true) × (is_variable scope variable ≡ true)
unfolding append_read
append_there scope path d variable e =
    then_ok (text_read is_name path append_key d) _ (Some variable) e
    (λ name read is. by_name name (text_is is_name path append_key d name read) is)
  where
    by_name : (name : Option (List ℕ)) → text_at append_key d ≡ name → variable_for scope (key_at path append_key) name ≡ Ok (Some variable) → (has append_key d ≡ true) × (is_variable scope variable ≡ true)
    by_name None there is = absurd cc
    by_name (Some name) there is =
        then_ok (found (key_at path append_key) rules.NoSuchVariable (variable_of scope name)) _ (Some variable) is
        (λ place stands same. let one : place ≡ variable = cc in (text_there append_key d name there, subst (λ (n : ℕ). is_variable scope n ≡ true) one (variable_is scope name place (found_ok _ _ _ place stands))))

-- the bytes and what is appended fit together
payload_fits : (scope : ScopeValue) (path : List ℕ) (d : Data) (payload : List ℕ) (append : Option ℕ) → payload_read path d ≡ Ok payload → append_read scope path d ≡ Ok append
    → (is_payload payload ≡ true) × (is_append scope payload append ≡ true)
unfolding payload_read is_short_payload
payload_fits scope path d payload append read appended =
    then_ok (bytes_read (if has append_key d then 4088 else 4096) path data_key d) _ payload read
    (λ given is same. by_append append appended (subst (λ (bs : List ℕ). Fit (if has append_key d then 4088 else 4096) bs) (ok_is _ _ same) (bytes_fit _ path data_key d given is)))
  where
    by_append : (o : Option ℕ) → append_read scope path d ≡ Ok o → Fit (if has append_key d then 4088 else 4096) payload → (is_payload payload ≡ true) × (is_append scope payload o ≡ true)
    by_append None e fits = (fits.1, fits.1)
    by_append (Some variable) e fits =
        let there = append_there scope path d variable e in
        (fits.1, and_from _ _ there.1 (subst (λ (b : Bool). nat_le (length payload) (if b then 4088 else 4096) ≡ true) there.0 fits.0))

-- ---- actions of a service

-- what was read is what was made
just_keeps : (scope : ScopeValue) (place : Place) (made action : ScriptAction) → ◌≡◌ {A = Result ScriptAction ScenarioFault} (Ok made) (Ok action) → is_action scope place made ≡ true → is_action scope place action ≡ true
just_keeps scope place made action e fine = subst (λ (a : ScriptAction). is_action scope place a ≡ true) (ok_is made action e) fine

-- an action with bytes, and what is appended to them
appending_keeps : (scope : ScopeValue) (place : Place) (action : Action) (payload : List ℕ) (append : Option ℕ) → appends_to action ≡ is_short_payload payload → is_fixed scope place action ≡ true → is_append scope payload append ≡ true
    → is_action scope place (appending action append) ≡ true
appending_keeps scope place action payload None same fine fits = fine
appending_keeps scope place action payload (Some variable) same fine fits =
    let both = and_parts (is_variable scope variable) (is_short_payload payload) fits in
    and_from _ _ fine (and_from _ _ (same ∙ both.1) both.0)

-- no bytes where none are sent
none_unless : (sent : Bool) (bytes : List ℕ) → nat_le (length bytes) (if sent then 4096 else 0) ≡ true → (sent || length bytes == 0) ≡ true
none_unless true bytes few = refl
none_unless false bytes few = let none = leb-true (length bytes) 0 few in eq-eqb (length bytes) 0 (omega arith)

module _ (scope : ScopeValue) (place : Place) (service : ℕ) (path : List ℕ) (d : Data) (action : ScriptAction) where
  can_baud_keeps : can_baud_read service path d ≡ Ok action → serves scope Can service ≡ true → is_action scope place action ≡ true
  unfolding can_baud_read
  can_baud_keeps e serve =
      then_ok (needed_number 0 (2 ^ 32 - 1) path rate_key d) _ action e
      (λ rate read same. just_keeps scope place _ action same (and_from _ _ serve (u32_read path rate_key d rate read)))

  -- bytes and what is appended, for each kind of action that has just these
  module _ (made : List ℕ → Action) (fine : (payload : List ℕ) → is_payload payload ≡ true → is_fixed scope place (made payload) ≡ true) (short : (payload : List ℕ) → appends_to (made payload) ≡ is_short_payload payload) where
    sent_keeps : (payload_read path d >>= λ payload. append_read scope path d >>= λ append. Ok (appending (made payload) append)) ≡ Ok action → is_action scope place action ≡ true
    sent_keeps e =
        then_ok (payload_read path d) _ action e
        (λ payload payload_is rest. then_ok (append_read scope path d) _ action rest
        (λ append append_is same.
        let fits = payload_fits scope path d payload append payload_is append_is in
        just_keeps scope place _ action same (appending_keeps scope place (made payload) payload append (short payload) (fine payload fits.0) fits.1)))

  can_send_keeps : can_send_read scope service path d ≡ Ok action → serves scope Can service ≡ true → is_step place ≡ true → is_action scope place action ≡ true
  unfolding can_send_read
  can_send_keeps e serve step =
      then_ok (needed_number 0 (2 ^ 32 - 1) path id_key d) _ action e
      (λ id id_is rest. then_ok (bool_read path extended_key d) _ action rest
      (λ extended x rest. then_ok (bool_read path fd_key d) _ action rest
      (λ fd y rest. sent_keeps (λ payload. act.CanSend service (record { id = id; extended = unwrap_or extended false; fd = unwrap_or fd false; payload = payload }))
      (λ payload fits. and_from _ _ step (and_from _ _ serve (and_from _ _ (u32_read path id_key d id id_is) fits))) (λ payload. refl) rest)))

  eth_send_keeps : eth_send_read scope service path d ≡ Ok action → serves scope Ethernet service ≡ true → is_step place ≡ true → is_action scope place action ≡ true
  unfolding eth_send_read
  eth_send_keeps e serve step = sent_keeps (λ payload. act.EthSend service payload) (λ payload fits. and_from _ _ step (and_from _ _ serve fits)) (λ payload. refl) e

  publish_keeps : publish_read scope service path d ≡ Ok action → serves scope Publisher service ≡ true → is_step place ≡ true → is_action scope place action ≡ true
  unfolding publish_read
  publish_keeps e serve step = sent_keeps (λ payload. act.Publish service payload) (λ payload fits. and_from _ _ step (and_from _ _ serve fits)) (λ payload. refl) e

  call_keeps : call_read scope service path d ≡ Ok action → serves scope Client service ≡ true → is_step place ≡ true → is_action scope place action ≡ true
  unfolding call_read
  call_keeps e serve step = sent_keeps (λ payload. act.Call service payload) (λ payload fits. and_from _ _ step (and_from _ _ serve fits)) (λ payload. refl) e

  reply_keeps : reply_read scope service path d ≡ Ok action → serves scope Server service ≡ true → is_on_server place (Some service) ≡ true → is_action scope place action ≡ true
  unfolding reply_read
  reply_keeps e serve on =
      then_ok (payload_read path d) _ action e
      (λ payload payload_is rest. then_ok (append_read scope path d) _ action rest
      (λ append append_is same. just_keeps scope place _ action same
      (and_from _ _ on (and_from _ _ serve (payload_fits scope path d payload append payload_is append_is).1))))

  lin_init_keeps : lin_init_read service path d ≡ Ok action → serves scope Lin service ≡ true → is_action scope place action ≡ true
  unfolding lin_init_read
  lin_init_keeps e serve =
      then_ok (needed_word role_of path role_key d) _ action e
      (λ role read same. just_keeps scope place _ action same serve)

  lin_response_keeps : lin_response_read service path d ≡ Ok action → serves scope Lin service ≡ true → is_action scope place action ≡ true
  unfolding lin_response_read
  lin_response_keeps e serve =
      then_ok (needed_number 0 255 path id_key d) _ action e
      (λ id id_is rest. then_ok (needed_word lin_mode_of path mode_key d) _ action rest
      (λ mode x rest. then_ok (checksum_read path d) _ action rest
      (λ checksum y rest. then_ok (bytes_read (if sends mode then 4096 else 0) path data_key d) _ action rest
      (λ payload payload_is same.
      let fits = bytes_fit (if sends mode then 4096 else 0) path data_key d payload payload_is in
      just_keeps scope place _ action same
      (and_from _ _ serve (and_from _ _ (u8_read path id_key d id id_is) (and_from _ _ fits.1 (none_unless (sends mode) _ fits.0))))))))

  lin_header_keeps : lin_header_read service path d ≡ Ok action → serves scope Lin service ≡ true → is_step place ≡ true → is_action scope place action ≡ true
  unfolding lin_header_read
  lin_header_keeps e serve step =
      then_ok (needed_number 0 255 path id_key d) _ action e
      (λ id read same. just_keeps scope place _ action same (and_from _ _ step (and_from _ _ serve (u8_read path id_key d id read))))

  lin_frame_keeps : lin_frame_read service path d ≡ Ok action → serves scope Lin service ≡ true → is_step place ≡ true → is_action scope place action ≡ true
  unfolding lin_frame_read
  lin_frame_keeps e serve step =
      then_ok (needed_number 0 255 path id_key d) _ action e
      (λ id id_is rest. then_ok (checksum_read path d) _ action rest
      (λ checksum x rest. then_ok (bytes_read 4096 path data_key d) _ action rest
      (λ payload payload_is same. just_keeps scope place _ action same
      (and_from _ _ step (and_from _ _ serve (and_from _ _ (u8_read path id_key d id id_is) (and_from _ _ (bytes_fit 4096 path data_key d payload payload_is).1 refl)))))))

-- what was asked of a service keeps the rules, where that service is of its kind, and is the one named where it is a reply
served_keeps : (scope : ScopeValue) (place : Place) (named : Option ℕ) (verb : ServiceVerb) (service : ℕ) (path : List ℕ) (d : Data) (action : ScriptAction)
    → served scope verb service path d ≡ Ok action → serves scope (kind_of verb) service ≡ true → may_stand (verbs.Of verb) place named ≡ true → (is_reply verb ≡ true → named ≡ Some service)
    → is_action scope place action ≡ true
served_keeps scope place named v.CanBaud service path d action e serve may same = can_baud_keeps scope place service path d action e serve
served_keeps scope place named v.CanStart service path d action e serve may same = just_keeps scope place _ action e serve
served_keeps scope place named v.CanStop service path d action e serve may same = just_keeps scope place _ action e serve
served_keeps scope place named v.CanReset service path d action e serve may same = just_keeps scope place _ action e serve
served_keeps scope place named v.CanSleep service path d action e serve may same = just_keeps scope place _ action e serve
served_keeps scope place named v.CanSend service path d action e serve may same = can_send_keeps scope place service path d action e serve may
served_keeps scope place named v.EthActivate service path d action e serve may same = just_keeps scope place _ action e serve
served_keeps scope place named v.EthDeactivate service path d action e serve may same = just_keeps scope place _ action e serve
served_keeps scope place named v.EthSend service path d action e serve may same = eth_send_keeps scope place service path d action e serve may
served_keeps scope place named v.LinInit service path d action e serve may same = lin_init_keeps scope place service path d action e serve
served_keeps scope place named v.LinResponse service path d action e serve may same = lin_response_keeps scope place service path d action e serve
served_keeps scope place named v.LinHeader service path d action e serve may same = lin_header_keeps scope place service path d action e serve may
served_keeps scope place named v.LinFrame service path d action e serve may same = lin_frame_keeps scope place service path d action e serve may
served_keeps scope place named v.LinSleep service path d action e serve may same = just_keeps scope place _ action e serve
served_keeps scope place named v.LinWakeup service path d action e serve may same = just_keeps scope place _ action e serve
served_keeps scope place named v.Publish service path d action e serve may same = publish_keeps scope place service path d action e serve may
served_keeps scope place named v.Call service path d action e serve may same = call_keeps scope place service path d action e serve may
served_keeps scope place named v.Reply service path d action e serve may same =
    reply_keeps scope place service path d action e serve (subst (λ (o : Option ℕ). is_on_server place o ≡ true) (same refl) may)

-- a reply's service is the one that its key names
reply_named : (scope : ScopeValue) (verb : ServiceVerb) (d : Data) (service : ℕ) → option_and_then (service_of scope (kind_of verb)) (text_at (service_key verb) d) ≡ Some service → is_reply verb ≡ true → named scope d ≡ Some service
unfolding server_of
reply_named scope v.Reply d service there t = there
reply_named scope _ d service there t = absurd cc

-- ---- the others

module _ (scope : ScopeValue) (place : Place) (path : List ℕ) (d : Data) (action : ScriptAction) where
  set_keeps : set_read scope path d ≡ Ok action → is_action scope place action ≡ true
  unfolding set_read
  set_keeps e =
      then_ok (variable_read scope path (verb_key verbs.Set) d) _ action e
      (λ variable there rest. then_ok (needed_number 0 (2 ^ 64 - 1) path to_key d) _ action rest
      (λ value read same. just_keeps scope place _ action same (and_from _ _ (variable_fits scope path _ d variable there) (u64_read path to_key d value read))))

  add_keeps : add_read scope path d ≡ Ok action → is_action scope place action ≡ true
  unfolding add_read
  add_keeps e =
      then_ok (variable_read scope path (verb_key verbs.Add) d) _ action e
      (λ variable there rest. then_ok (needed_number 0 (2 ^ 64 - 1) path by_key d) _ action rest
      (λ value read same. just_keeps scope place _ action same (and_from _ _ (variable_fits scope path _ d variable there) (u64_read path by_key d value read))))

  take_keeps : take_read scope path d ≡ Ok action → is_on place ≡ true → is_action scope place action ≡ true
  unfolding take_read
  take_keeps e on =
      then_ok (variable_read scope path (verb_key verbs.Take) d) _ action e
      (λ variable there same. just_keeps scope place _ action same (and_from _ _ on (variable_fits scope path _ d variable there)))

  pause_keeps : pause_read path d ≡ Ok action → is_step place ≡ true → is_action scope place action ≡ true
  unfolding pause_read is_pause
  pause_keeps e step =
      then_ok (needed_number 1 1000 path (verb_key verbs.Pause) d) _ action e
      (λ turns read same.
      let range = needed_within 1 1000 path (verb_key verbs.Pause) d turns read in
      just_keeps scope place _ action same (and_from _ _ step (and_from _ _ (le-leb 1 turns range.0) (le-leb turns 1000 range.1))))

  stop_keeps : stop_read path d ≡ Ok action → is_step place ≡ true → is_action scope place action ≡ true
  unfolding stop_read
  stop_keeps e step =
      then_ok (true_read path (verb_key verbs.Stop) d) _ action e
      (λ sure read same. just_keeps scope place _ action same (and_from _ _ step refl))

  error_keeps : error_read path d ≡ Ok action → is_step place ≡ true → is_action scope place action ≡ true
  unfolding error_read
  error_keeps e step =
      then_ok (true_read path (verb_key verbs.Error) d) _ action e
      (λ sure read same. just_keeps scope place _ action same (and_from _ _ step refl))

-- what an action of this kind says keeps the rules where it may stand
told_keeps : (scope : ScopeValue) (place : Place) (verb : Verb) (path : List ℕ) (d : Data) (action : ScriptAction) → told scope verb path d ≡ Ok action → may_stand verb place (named scope d) ≡ true → is_action scope place action ≡ true
told_keeps scope place (verbs.Of verb) path d action e may =
    then_ok (service_read scope (kind_of verb) path (service_key verb) d) _ action e
    (λ service read rest.
    let there = service_there scope (kind_of verb) path (service_key verb) d service read in
    served_keeps scope place (named scope d) verb service path d action rest (there_serves scope (kind_of verb) _ service there) may (reply_named scope verb d service there))
told_keeps scope place verbs.Set path d action e may = set_keeps scope place path d action e
told_keeps scope place verbs.Add path d action e may = add_keeps scope place path d action e
told_keeps scope place verbs.Take path d action e may = take_keeps scope place path d action e may
told_keeps scope place verbs.Pause path d action e may = pause_keeps scope place path d action e may
told_keeps scope place verbs.Stop path d action e may = stop_keeps scope place path d action e may
told_keeps scope place verbs.Error path d action e may = error_keeps scope place path d action e may

-- ---- an action, and a list of them

pub action_keeps : (scope : ScopeValue) (place : Place) (path : List ℕ) (d : Data) (action : ScriptAction) → action_read scope place path d ≡ Ok action → is_action scope place action ≡ true
unfolding action_read
action_keeps scope place path d action e =
    after_ok (object_read (knows objects.AnyAction) path d) _ action e
    (λ x read rest. then_ok (found path rules.NotAllowedHere (only_verb d)) _ action rest
    (λ verb is rest. after_ok (must path rules.NotAllowedHere (may_stand verb place (named scope d))) _ action rest
    (λ y may rest. after_ok (object_read (knows (objects.Action verb)) path d) _ action rest
    (λ z own rest. told_keeps scope place verb path d action rest (must_ok _ _ _ _ may)))))

pub actions_keep : (scope : ScopeValue) (place : Place) (path : List ℕ) (ds : Items) (actions : List ScriptAction) → actions_read scope place path ds ≡ Ok actions → list_all (is_action scope place) actions ≡ true
unfolding actions_read
actions_keep scope place path ds actions e =
    items_pass (λ at earlier d. action_read scope place at d) (is_action scope place) (λ at earlier d action read. action_keeps scope place at d action read) path [] 0 ds actions e refl

-- there are as many as items
pub actions_number : (scope : ScopeValue) (place : Place) (path : List ℕ) (ds : Items) (actions : List ScriptAction) → actions_read scope place path ds ≡ Ok actions → length actions ≡ items_len ds
unfolding actions_read
actions_number scope place path ds actions e = let count = items_number (λ at earlier d. action_read scope place at d) path [] 0 ds actions e in omega (arith, count)
