-- What is written of an action reads as it.
use Rattle.std.proofs.Common.{◌≡◌, ℕ, ◌^◌, ◌-◌, Bool, true, List, [], ◌∷◌, length, Option, Some, None, Ok, option_map, refl, sym, subst, ◌∙◌, arith}
use Rattle.std.specs.Prelude.{◌||◌, ◌==◌, nat_le, if◌then◌else◌}
use Rattle.std.proofs.lemmas.Bool.{and_parts, or_right, le-leb, leb-true, ltb-true, eqb-true, false≢true}
use Rattle.serde_json.specs.Data.{Data, string}
use Rattle.serde_json.specs.Find.{get}
use Rattle.sk_base.specs.Ranges.{is_name, is_payload}
use Rattle.sk_msg.specs.Rules.{is_u32}
use Rattle.sk_msg.specs.declared.action.Action.{Action}
use Rattle.sk_msg.specs.declared.action.Action.TheVariants as act
use Rattle.sk_msg.specs.declared.bus.CanFrame.{CanFrame}
use Rattle.sk_msg.specs.declared.bus.LinChecksum.{LinChecksum}
use Rattle.sk_msg.specs.declared.bus.LinChecksum.TheVariants as checksums
use Rattle.sk_msg.specs.declared.bus.LinMode.{LinMode}
use Rattle.sk_msg.specs.declared.bus.LinMode.TheVariants as modes
use Rattle.sk_msg.specs.declared.bus.LinResponse.{LinResponse}
use Rattle.sk_msg.specs.declared.bus.LinRole.{LinRole}
use Rattle.sk_msg.specs.declared.bus.LinRole.TheVariants as roles
use Rattle.sk_msg.specs.declared.command.Command.{Command}
use Rattle.sk_msg.specs.declared.command.Command.TheVariants as commands
use Rattle.sk_msg.specs.declared.service.ServiceKind.{ServiceKind}
use Rattle.sk_msg.specs.declared.service.ServiceKind.TheVariants.{Server}
use Rattle.sk_rules.specs.Actions.{service_read, variable_read, append_read, payload_read, appending, true_read, can_baud_read, can_send_read, eth_send_read, lin_init_read, checksum_read, lin_response_read, lin_header_read, lin_frame_read, publish_read, call_read, reply_read, set_read, add_read, take_read, pause_read, stop_read, error_read, told, named, action_read}
use Rattle.sk_rules.specs.Fields.{has, bytes_read}
use Rattle.sk_rules.specs.Keys.{knows, is_of_row, rate_key, id_key, extended_key, fd_key, role_key, mode_key, checksum_key, data_key, append_key, to_key, by_key}
use Rattle.sk_rules.specs.Places.{ScopeValue, service_of, receiver_of, variable_of, server_of, is_step, is_on, is_on_server}
use Rattle.sk_rules.specs.Scripts.{serves, receives, is_variable, is_u8, is_u64, is_short_payload, sends, is_pause, is_asked, is_fixed, appends_to, is_append, is_action}
use Rattle.sk_rules.specs.Verbs.{kind_of, service_key, verb_key, verbs as all_verbs, only_verb, may_stand, is_of_both}
use Rattle.sk_rules.specs.Words.{role_of, lin_mode_of, checksum_of}
use Rattle.sk_rules.specs.declared.action.ScriptAction.{ScriptAction}
use Rattle.sk_rules.specs.declared.action.ScriptAction.TheVariants.{Fixed, Append, Reply, Set, Add, Take}
use Rattle.sk_rules.specs.declared.keys.RuleObject.TheVariants as objects
use Rattle.sk_rules.specs.declared.place.Place.{Place}
use Rattle.sk_rules.specs.declared.verb.ServiceVerb.{ServiceVerb}
use Rattle.sk_rules.specs.declared.verb.ServiceVerb.TheVariants as v
use Rattle.sk_rules.specs.declared.verb.Verb.{Verb}
use Rattle.sk_rules.specs.declared.verb.Verb.TheVariants as verbs
use Rattle.sk_script_text.specs.Actions.{service_name, variable_name, fixed_fields, action_fields, action_data}
use Rattle.sk_script_text.specs.Fitting.{are_bytes, sends_bytes, action_fits}
use Rattle.sk_script_text.specs.Objects.{Field, with_fields, text, hex, some_text}
use Rattle.sk_script_text.specs.Words.{role_word, mode_word, checksum_word}
use Rattle.sk_script_text.proofs.FieldLaws.{or_none, get_of, are_known, enters, only_in, only_of_is}
use Rattle.sk_script_text.proofs.ValueLaws.{some_bytes, bytes_or, flag_or, text_back, no_text_back, needed_text_back, needed_number_back, flag_back, word_back, no_word_back, needed_word_back, bytes_back}

-- ---- numbers

u32_within : (n : ℕ) → is_u32 n ≡ true → nat_le n (2 ^ 32 - 1) ≡ true
unfolding is_u32
u32_within n h = let less = ltb-true n (2 ^ 32) h in le-leb n (2 ^ 32 - 1) (omega (arith, less))

pub u64_within : (n : ℕ) → is_u64 n ≡ true → nat_le n (2 ^ 64 - 1) ≡ true
unfolding is_u64
u64_within n h = let less = ltb-true n (2 ^ 64) h in le-leb n (2 ^ 64 - 1) (omega (arith, less))

u8_within : (n : ℕ) → is_u8 n ≡ true → nat_le n 255 ≡ true
unfolding is_u8
u8_within n h = let less = ltb-true n (2 ^ 8) h in le-leb n 255 (omega (arith, less))

payload_few : (bytes : List ℕ) → is_payload bytes ≡ true → nat_le (length bytes) 4096 ≡ true
unfolding is_payload
payload_few bytes h = h

pub least : (n : ℕ) → nat_le 0 n ≡ true
least n = le-leb 0 n (omega arith)

-- ---- words

role_back : (role : LinRole) → role_of (role_word role) ≡ Some role
unfolding role_of
role_back roles.Master = refl
role_back roles.Slave = refl

mode_back : (mode : LinMode) → lin_mode_of (mode_word mode) ≡ Some mode
unfolding lin_mode_of
mode_back modes.Unused = refl
mode_back modes.Rx = refl
mode_back modes.TxUnconditional = refl

checksum_back : (path : List ℕ) (d : Data) (checksum : LinChecksum) → get checksum_key d ≡ some_text (checksum_word checksum) → checksum_read path d ≡ Ok checksum
unfolding checksum_read checksum_of
checksum_back path d checksums.Unknown there = rw (no_word_back path checksum_key d checksum_of there) refl
checksum_back path d checksums.Classic there = rw (word_back path checksum_key d checksum_of _ checksums.Classic there refl) refl
checksum_back path d checksums.Enhanced there = rw (word_back path checksum_key d checksum_of _ checksums.Enhanced there refl) refl

-- ---- names

-- services and variables are found by the names that are written for them
pub record IsNamed (scope : ScopeValue) : Type 0 where
  pub served : (kind : ServiceKind) (s : ℕ) → serves scope kind s ≡ true → (is_name (service_name scope s) ≡ true) × (service_of scope kind (service_name scope s) ≡ Some s)
  pub received : (s : ℕ) → receives scope s ≡ true → (is_name (service_name scope s) ≡ true) × (receiver_of scope (service_name scope s) ≡ Some s)
  pub server : (s : ℕ) → receives scope s ≡ true → service_of scope Server (service_name scope s) ≡ (if serves scope Server s then Some s else None)
  pub held : (place : ℕ) → is_variable scope place ≡ true → (is_name (variable_name scope place) ≡ true) × (variable_of scope (variable_name scope place) ≡ Some place)

-- a variable to append, if there is one
abbrev pub AppendIs : ScopeValue → Option ℕ → Type 0
AppendIs scope None = Unit {0}
AppendIs scope (Some variable) = is_variable scope variable ≡ true

-- bytes behind which it fits
abbrev pub is_carried : Option ℕ → List ℕ → Bool
is_carried None bytes = is_payload bytes
is_carried (Some variable) bytes = is_short_payload bytes

module _ (scope : ScopeValue) (named_all : IsNamed scope) (path : List ℕ) where
  service_back : (kind : ServiceKind) (key : List ℕ) (s : ℕ) (d : Data) → serves scope kind s ≡ true → get key d ≡ text (service_name scope s) → service_read scope kind path key d ≡ Ok s
  unfolding service_read
  service_back kind key s d serves there =
      let named = named_all.served kind s serves in rw (needed_text_back path key d is_name _ there named.0, named.1) refl

  variable_back : (key : List ℕ) (place : ℕ) (d : Data) → is_variable scope place ≡ true → get key d ≡ text (variable_name scope place) → variable_read scope path key d ≡ Ok place
  unfolding variable_read
  variable_back key place d holds there =
      let named = named_all.held place holds in rw (needed_text_back path key d is_name _ there named.0, named.1) refl

  append_back : (append : Option ℕ) (d : Data) → AppendIs scope append → get append_key d ≡ option_map (λ variable. string (variable_name scope variable)) append → append_read scope path d ≡ Ok append
  unfolding append_read
  append_back None d holds there = rw (no_text_back path append_key d is_name there) refl
  append_back (Some variable) d holds there =
      let named = named_all.held variable holds in rw (text_back path append_key d is_name _ there named.0, named.1) refl

  short : (bytes : List ℕ) → is_short_payload bytes ≡ true → nat_le (length bytes) 4088 ≡ true
  unfolding is_short_payload
  short bytes h = h

  short_payload : (bytes : List ℕ) → is_short_payload bytes ≡ true → is_payload bytes ≡ true
  unfolding is_short_payload is_payload
  short_payload bytes h = let few = leb-true (length bytes) 4088 h in le-leb (length bytes) 4096 (omega (arith, few))

  payload_back : (append : Option ℕ) (bytes : List ℕ) (d : Data) → is_carried append bytes ≡ true → are_bytes bytes ≡ true → get data_key d ≡ hex bytes
      → get append_key d ≡ option_map (λ variable. string (variable_name scope variable)) append → payload_read path d ≡ Ok bytes
  unfolding payload_read has
  payload_back None bytes d fits are there appended =
      rw (appended, bytes_back path data_key d 4096 bytes there are (payload_few bytes fits) fits, bytes_or bytes) refl
  payload_back (Some variable) bytes d fits are there appended =
      rw (appended, bytes_back path data_key d 4088 bytes there are (short bytes fits) (short_payload bytes fits), bytes_or bytes) refl

-- ---- an action

module _ (scope : ScopeValue) (place : Place) (path : List ℕ) where
  as_read : (fields : List Field) (verb : Verb) (action : ScriptAction) → are_known (knows objects.AnyAction) fields ≡ true → only_in None all_verbs fields ≡ Some verb
      → may_stand verb place (named scope (with_fields fields)) ≡ true → are_known (knows (objects.Action verb)) fields ≡ true → told scope verb path (with_fields fields) ≡ Ok action
      → action_read scope place path (with_fields fields) ≡ Ok action
  unfolding action_read only_verb
  as_read fields verb action any only may known is =
      rw (enters (knows objects.AnyAction) path fields any, only_of_is None all_verbs fields, only, may, enters (knows (objects.Action verb)) path fields known, is) refl

-- what is written of an action as it stands
abbrev fixed_data : ScopeValue → Option ℕ → Action → Data
fixed_data scope append action = with_fields (fixed_fields scope append action)

-- where it stands in a script alone
may_step : (verb : ServiceVerb) (place : Place) → is_step place ≡ true → (is_of_both verb || is_step place) ≡ true
may_step verb place h = or_right (is_of_both verb) (is_step place) h

module _ (scope : ScopeValue) (named_all : IsNamed scope) (place : Place) (path : List ℕ) where
  -- the service of an action
  serviced : (verb : ServiceVerb) (s : ℕ) (fields : List Field) → serves scope (kind_of verb) s ≡ true → get (service_key verb) (with_fields fields) ≡ text (service_name scope s)
      → service_read scope (kind_of verb) path (service_key verb) (with_fields fields) ≡ Ok s
  serviced verb s fields serves there = service_back scope named_all path (kind_of verb) (service_key verb) s (with_fields fields) serves there

  can_start_back : (s : ℕ) → serves scope (kind_of v.CanStart) s ≡ true → action_read scope place path (fixed_data scope None (act.CanStart s)) ≡ Ok (Fixed (act.CanStart s))
  unfolding knows is_of_row
  can_start_back s serves =
      let fields = fixed_fields scope None (act.CanStart s) in
      as_read scope place path fields (verbs.Of v.CanStart) _ refl refl refl refl (rw (serviced v.CanStart s fields serves (get_of (service_key v.CanStart) fields)) refl)

  can_stop_back : (s : ℕ) → serves scope (kind_of v.CanStop) s ≡ true → action_read scope place path (fixed_data scope None (act.CanStop s)) ≡ Ok (Fixed (act.CanStop s))
  unfolding knows is_of_row
  can_stop_back s serves =
      let fields = fixed_fields scope None (act.CanStop s) in
      as_read scope place path fields (verbs.Of v.CanStop) _ refl refl refl refl (rw (serviced v.CanStop s fields serves (get_of (service_key v.CanStop) fields)) refl)

  can_reset_back : (s : ℕ) → serves scope (kind_of v.CanReset) s ≡ true → action_read scope place path (fixed_data scope None (act.CanReset s)) ≡ Ok (Fixed (act.CanReset s))
  unfolding knows is_of_row
  can_reset_back s serves =
      let fields = fixed_fields scope None (act.CanReset s) in
      as_read scope place path fields (verbs.Of v.CanReset) _ refl refl refl refl (rw (serviced v.CanReset s fields serves (get_of (service_key v.CanReset) fields)) refl)

  can_sleep_back : (s : ℕ) → serves scope (kind_of v.CanSleep) s ≡ true → action_read scope place path (fixed_data scope None (act.CanSleep s)) ≡ Ok (Fixed (act.CanSleep s))
  unfolding knows is_of_row
  can_sleep_back s serves =
      let fields = fixed_fields scope None (act.CanSleep s) in
      as_read scope place path fields (verbs.Of v.CanSleep) _ refl refl refl refl (rw (serviced v.CanSleep s fields serves (get_of (service_key v.CanSleep) fields)) refl)

  eth_activate_back : (s : ℕ) → serves scope (kind_of v.EthActivate) s ≡ true → action_read scope place path (fixed_data scope None (act.EthActivate s)) ≡ Ok (Fixed (act.EthActivate s))
  unfolding knows is_of_row
  eth_activate_back s serves =
      let fields = fixed_fields scope None (act.EthActivate s) in
      as_read scope place path fields (verbs.Of v.EthActivate) _ refl refl refl refl (rw (serviced v.EthActivate s fields serves (get_of (service_key v.EthActivate) fields)) refl)

  eth_deactivate_back : (s : ℕ) → serves scope (kind_of v.EthDeactivate) s ≡ true → action_read scope place path (fixed_data scope None (act.EthDeactivate s)) ≡ Ok (Fixed (act.EthDeactivate s))
  unfolding knows is_of_row
  eth_deactivate_back s serves =
      let fields = fixed_fields scope None (act.EthDeactivate s) in
      as_read scope place path fields (verbs.Of v.EthDeactivate) _ refl refl refl refl (rw (serviced v.EthDeactivate s fields serves (get_of (service_key v.EthDeactivate) fields)) refl)

  lin_sleep_back : (s : ℕ) → serves scope (kind_of v.LinSleep) s ≡ true → action_read scope place path (fixed_data scope None (act.LinSleep s)) ≡ Ok (Fixed (act.LinSleep s))
  unfolding knows is_of_row
  lin_sleep_back s serves =
      let fields = fixed_fields scope None (act.LinSleep s) in
      as_read scope place path fields (verbs.Of v.LinSleep) _ refl refl refl refl (rw (serviced v.LinSleep s fields serves (get_of (service_key v.LinSleep) fields)) refl)

  lin_wakeup_back : (s : ℕ) → serves scope (kind_of v.LinWakeup) s ≡ true → action_read scope place path (fixed_data scope None (act.LinWakeup s)) ≡ Ok (Fixed (act.LinWakeup s))
  unfolding knows is_of_row
  lin_wakeup_back s serves =
      let fields = fixed_fields scope None (act.LinWakeup s) in
      as_read scope place path fields (verbs.Of v.LinWakeup) _ refl refl refl refl (rw (serviced v.LinWakeup s fields serves (get_of (service_key v.LinWakeup) fields)) refl)

  can_baud_back : (s rate : ℕ) → serves scope (kind_of v.CanBaud) s ≡ true → is_u32 rate ≡ true → action_read scope place path (fixed_data scope None (act.CanBaud s rate)) ≡ Ok (Fixed (act.CanBaud s rate))
  unfolding knows is_of_row can_baud_read
  can_baud_back s rate serves small =
      let fields = fixed_fields scope None (act.CanBaud s rate) in
      as_read scope place path fields (verbs.Of v.CanBaud) _ refl refl refl refl
      (rw (
        serviced v.CanBaud s fields serves (get_of (service_key v.CanBaud) fields),
        needed_number_back path rate_key (with_fields fields) 0 (2 ^ 32 - 1) rate (get_of rate_key fields) (least rate) (u32_within rate small),
      ) refl)

  eth_send_back : (append : Option ℕ) (s : ℕ) (bytes : List ℕ) → serves scope (kind_of v.EthSend) s ≡ true → is_step place ≡ true → is_carried append bytes ≡ true → are_bytes bytes ≡ true → AppendIs scope append → action_read scope place path (fixed_data scope append (act.EthSend s bytes)) ≡ Ok (appending (act.EthSend s bytes) append)
  unfolding knows is_of_row eth_send_read
  eth_send_back append s bytes serves stands fits are holds =
      let fields = fixed_fields scope append (act.EthSend s bytes) in
      as_read scope place path fields (verbs.Of v.EthSend) _ refl refl (may_step v.EthSend place stands) refl
      (rw (
        serviced v.EthSend s fields serves (get_of (service_key v.EthSend) fields),
        payload_back scope named_all path append bytes (with_fields fields) fits are (get_of data_key fields ∙ or_none _) (get_of append_key fields ∙ or_none _),
        append_back scope named_all path append (with_fields fields) holds (get_of append_key fields ∙ or_none _),
      ) refl)

  publish_back : (append : Option ℕ) (s : ℕ) (bytes : List ℕ) → serves scope (kind_of v.Publish) s ≡ true → is_step place ≡ true → is_carried append bytes ≡ true → are_bytes bytes ≡ true → AppendIs scope append → action_read scope place path (fixed_data scope append (act.Publish s bytes)) ≡ Ok (appending (act.Publish s bytes) append)
  unfolding knows is_of_row publish_read
  publish_back append s bytes serves stands fits are holds =
      let fields = fixed_fields scope append (act.Publish s bytes) in
      as_read scope place path fields (verbs.Of v.Publish) _ refl refl (may_step v.Publish place stands) refl
      (rw (
        serviced v.Publish s fields serves (get_of (service_key v.Publish) fields),
        payload_back scope named_all path append bytes (with_fields fields) fits are (get_of data_key fields ∙ or_none _) (get_of append_key fields ∙ or_none _),
        append_back scope named_all path append (with_fields fields) holds (get_of append_key fields ∙ or_none _),
      ) refl)

  call_back : (append : Option ℕ) (s : ℕ) (bytes : List ℕ) → serves scope (kind_of v.Call) s ≡ true → is_step place ≡ true → is_carried append bytes ≡ true → are_bytes bytes ≡ true → AppendIs scope append → action_read scope place path (fixed_data scope append (act.Call s bytes)) ≡ Ok (appending (act.Call s bytes) append)
  unfolding knows is_of_row call_read
  call_back append s bytes serves stands fits are holds =
      let fields = fixed_fields scope append (act.Call s bytes) in
      as_read scope place path fields (verbs.Of v.Call) _ refl refl (may_step v.Call place stands) refl
      (rw (
        serviced v.Call s fields serves (get_of (service_key v.Call) fields),
        payload_back scope named_all path append bytes (with_fields fields) fits are (get_of data_key fields ∙ or_none _) (get_of append_key fields ∙ or_none _),
        append_back scope named_all path append (with_fields fields) holds (get_of append_key fields ∙ or_none _),
      ) refl)

  can_send_back : (append : Option ℕ) (s : ℕ) (frame : CanFrame) → serves scope (kind_of v.CanSend) s ≡ true → is_step place ≡ true → is_u32 frame.id ≡ true → is_carried append frame.payload ≡ true → are_bytes frame.payload ≡ true → AppendIs scope append → action_read scope place path (fixed_data scope append (act.CanSend s frame)) ≡ Ok (appending (act.CanSend s frame) append)
  unfolding knows is_of_row can_send_read
  can_send_back append s frame serves stands small fits are holds =
      let fields = fixed_fields scope append (act.CanSend s frame) in
      as_read scope place path fields (verbs.Of v.CanSend) _ refl refl (may_step v.CanSend place stands) refl
      (rw (
        serviced v.CanSend s fields serves (get_of (service_key v.CanSend) fields),
        needed_number_back path id_key (with_fields fields) 0 (2 ^ 32 - 1) frame.id (get_of id_key fields) (least frame.id) (u32_within frame.id small),
        flag_back path extended_key (with_fields fields) frame.extended (get_of extended_key fields ∙ or_none _),
        flag_back path fd_key (with_fields fields) frame.fd (get_of fd_key fields ∙ or_none _),
        flag_or frame.extended,
        flag_or frame.fd,
        payload_back scope named_all path append frame.payload (with_fields fields) fits are (get_of data_key fields ∙ or_none _) (get_of append_key fields ∙ or_none _),
        append_back scope named_all path append (with_fields fields) holds (get_of append_key fields ∙ or_none _),
      ) refl)

  lin_init_back : (s : ℕ) (role : LinRole) → serves scope (kind_of v.LinInit) s ≡ true → action_read scope place path (fixed_data scope None (act.LinInit s role)) ≡ Ok (Fixed (act.LinInit s role))
  unfolding knows is_of_row lin_init_read
  lin_init_back s role serves =
      let fields = fixed_fields scope None (act.LinInit s role) in
      as_read scope place path fields (verbs.Of v.LinInit) _ refl refl refl refl
      (rw (
        serviced v.LinInit s fields serves (get_of (service_key v.LinInit) fields),
        needed_word_back path role_key (with_fields fields) role_of (role_word role) role (get_of role_key fields) (role_back role),
      ) refl)

  lin_header_back : (s id : ℕ) → serves scope (kind_of v.LinHeader) s ≡ true → is_step place ≡ true → is_u8 id ≡ true → action_read scope place path (fixed_data scope None (act.LinHeader s id)) ≡ Ok (Fixed (act.LinHeader s id))
  unfolding knows is_of_row lin_header_read
  lin_header_back s id serves stands small =
      let fields = fixed_fields scope None (act.LinHeader s id) in
      as_read scope place path fields (verbs.Of v.LinHeader) _ refl refl (may_step v.LinHeader place stands) refl
      (rw (
        serviced v.LinHeader s fields serves (get_of (service_key v.LinHeader) fields),
        needed_number_back path id_key (with_fields fields) 0 255 id (get_of id_key fields) (least id) (u8_within id small),
      ) refl)

  lin_response_back : (s : ℕ) (response : LinResponse) → serves scope (kind_of v.LinResponse) s ≡ true → is_u8 response.id ≡ true → is_payload response.payload ≡ true
      → (sends response.mode || length response.payload == 0) ≡ true → are_bytes response.payload ≡ true
      → action_read scope place path (fixed_data scope None (act.LinSetResponse s response)) ≡ Ok (Fixed (act.LinSetResponse s response))
  unfolding knows is_of_row lin_response_read
  lin_response_back s response serves small fits carried are =
      let fields = fixed_fields scope None (act.LinSetResponse s response) in
      let there = get_of data_key fields ∙ or_none _ in
      as_read scope place path fields (verbs.Of v.LinResponse) _ refl refl refl refl
      (rw (
        serviced v.LinResponse s fields serves (get_of (service_key v.LinResponse) fields),
        needed_number_back path id_key (with_fields fields) 0 255 response.id (get_of id_key fields) (least response.id) (u8_within response.id small),
        needed_word_back path mode_key (with_fields fields) lin_mode_of (mode_word response.mode) response.mode (get_of mode_key fields) (mode_back response.mode),
        checksum_back path (with_fields fields) response.checksum (get_of checksum_key fields ∙ or_none _),
        by_mode response.mode (with_fields fields) carried there,
        bytes_or response.payload,
      ) refl)
    where
      none : (bytes : List ℕ) → (length bytes == 0) ≡ true → nat_le (length bytes) 0 ≡ true
      none [] h = refl
      none (byte ∷ bytes) h = let many = eqb-true _ _ h in absurd (omega (arith, many))

      by_mode : (mode : LinMode) (d : Data) → (sends mode || length response.payload == 0) ≡ true → get data_key d ≡ hex response.payload
          → bytes_read (if sends mode then 4096 else 0) path data_key d ≡ Ok (some_bytes response.payload)
      by_mode modes.Unused d h there = bytes_back path data_key d 0 response.payload there are (none response.payload h) fits
      by_mode modes.Rx d h there = bytes_back path data_key d 0 response.payload there are (none response.payload h) fits
      by_mode modes.TxUnconditional d h there = bytes_back path data_key d 4096 response.payload there are (payload_few response.payload fits) fits

  -- a frame that is sent has a response of this mode alone
  lin_frame_back : (s id : ℕ) (checksum : LinChecksum) (bytes : List ℕ) → serves scope (kind_of v.LinFrame) s ≡ true → is_step place ≡ true → is_u8 id ≡ true → is_payload bytes ≡ true → are_bytes bytes ≡ true
      → action_read scope place path (fixed_data scope None (act.LinSendFrame s (record { id = id; mode = modes.TxUnconditional; checksum = checksum; payload = bytes })))
      ≡ Ok (Fixed (act.LinSendFrame s (record { id = id; mode = modes.TxUnconditional; checksum = checksum; payload = bytes })))
  unfolding knows is_of_row lin_frame_read
  lin_frame_back s id checksum bytes serves stands small fits are =
      let fields = fixed_fields scope None (act.LinSendFrame s (record { id = id; mode = modes.TxUnconditional; checksum = checksum; payload = bytes })) in
      as_read scope place path fields (verbs.Of v.LinFrame) _ refl refl (may_step v.LinFrame place stands) refl
      (rw (
        serviced v.LinFrame s fields serves (get_of (service_key v.LinFrame) fields),
        needed_number_back path id_key (with_fields fields) 0 255 id (get_of id_key fields) (least id) (u8_within id small),
        checksum_back path (with_fields fields) checksum (get_of checksum_key fields ∙ or_none _),
        bytes_back path data_key (with_fields fields) 4096 bytes (get_of data_key fields ∙ or_none _) are (payload_few bytes fits) fits,
        bytes_or bytes,
      ) refl)

  reply_back : (append : Option ℕ) (s : ℕ) (bytes : List ℕ) → serves scope (kind_of v.Reply) s ≡ true → is_on_server place (Some s) ≡ true → is_carried append bytes ≡ true → are_bytes bytes ≡ true → AppendIs scope append
      → action_read scope place path (with_fields (action_fields scope (Reply s bytes append))) ≡ Ok (Reply s bytes append)
  unfolding knows is_of_row reply_read server_of
  reply_back append s bytes serves stands fits are holds =
      let fields = action_fields scope (Reply s bytes append) in
      let named = named_all.served (kind_of v.Reply) s serves in
      as_read scope place path fields (verbs.Of v.Reply) _ refl refl (rw (get_of (service_key v.Reply) fields, named.1) stands) refl
      (rw (
        serviced v.Reply s fields serves (get_of (service_key v.Reply) fields),
        payload_back scope named_all path append bytes (with_fields fields) fits are (get_of data_key fields ∙ or_none _) (get_of append_key fields ∙ or_none _),
        append_back scope named_all path append (with_fields fields) holds (get_of append_key fields ∙ or_none _),
      ) refl)

  set_back : (variable value : ℕ) → is_variable scope variable ≡ true → is_u64 value ≡ true → action_read scope place path (with_fields (action_fields scope (Set variable value))) ≡ Ok (Set variable value)
  unfolding knows is_of_row set_read
  set_back variable value holds small =
      let fields = action_fields scope (Set variable value) in
      as_read scope place path fields verbs.Set _ refl refl refl refl
      (rw (
        variable_back scope named_all path (verb_key verbs.Set) variable (with_fields fields) holds (get_of (verb_key verbs.Set) fields),
        needed_number_back path to_key (with_fields fields) 0 (2 ^ 64 - 1) value (get_of to_key fields) (least value) (u64_within value small),
      ) refl)

  add_back : (variable value : ℕ) → is_variable scope variable ≡ true → is_u64 value ≡ true → action_read scope place path (with_fields (action_fields scope (Add variable value))) ≡ Ok (Add variable value)
  unfolding knows is_of_row add_read
  add_back variable value holds small =
      let fields = action_fields scope (Add variable value) in
      as_read scope place path fields verbs.Add _ refl refl refl refl
      (rw (
        variable_back scope named_all path (verb_key verbs.Add) variable (with_fields fields) holds (get_of (verb_key verbs.Add) fields),
        needed_number_back path by_key (with_fields fields) 0 (2 ^ 64 - 1) value (get_of by_key fields) (least value) (u64_within value small),
      ) refl)

  take_back : (variable : ℕ) → is_variable scope variable ≡ true → is_on place ≡ true → action_read scope place path (with_fields (action_fields scope (Take variable))) ≡ Ok (Take variable)
  unfolding knows is_of_row take_read
  take_back variable holds stands =
      let fields = action_fields scope (Take variable) in
      as_read scope place path fields verbs.Take _ refl refl stands refl
      (rw (variable_back scope named_all path (verb_key verbs.Take) variable (with_fields fields) holds (get_of (verb_key verbs.Take) fields)) refl)

  pause_back : (turns : ℕ) → is_step place ≡ true → is_pause turns ≡ true → action_read scope place path (fixed_data scope None (act.PauseFor turns)) ≡ Ok (Fixed (act.PauseFor turns))
  unfolding knows is_of_row pause_read is_pause
  pause_back turns stands h =
      let fields = fixed_fields scope None (act.PauseFor turns) in
      let range = and_parts _ _ h in
      as_read scope place path fields verbs.Pause _ refl refl stands refl
      (rw (needed_number_back path (verb_key verbs.Pause) (with_fields fields) 1 1000 turns (get_of (verb_key verbs.Pause) fields) range.0 range.1) refl)

  stop_back : is_step place ≡ true → action_read scope place path (fixed_data scope None (act.Ask commands.Stop)) ≡ Ok (Fixed (act.Ask commands.Stop))
  unfolding knows is_of_row stop_read true_read
  stop_back stands =
      let fields = fixed_fields scope None (act.Ask commands.Stop) in
      as_read scope place path fields verbs.Stop _ refl refl stands refl
      (rw (flag_back path (verb_key verbs.Stop) (with_fields fields) true (get_of (verb_key verbs.Stop) fields)) refl)

  error_back : is_step place ≡ true → action_read scope place path (fixed_data scope None (act.Ask commands.ReportError)) ≡ Ok (Fixed (act.Ask commands.ReportError))
  unfolding knows is_of_row error_read true_read
  error_back stands =
      let fields = fixed_fields scope None (act.Ask commands.ReportError) in
      as_read scope place path fields verbs.Error _ refl refl stands refl
      (rw (flag_back path (verb_key verbs.Error) (with_fields fields) true (get_of (verb_key verbs.Error) fields)) refl)

  asked_back : (command : Command) → is_step place ≡ true → is_asked command ≡ true → action_read scope place path (fixed_data scope None (act.Ask command)) ≡ Ok (Fixed (act.Ask command))
  asked_back commands.Stop stands h = stop_back stands
  asked_back commands.ReportError stands h = error_back stands
  asked_back commands.Pause stands h = absurd (false≢true h)
  asked_back commands.Continue stands h = absurd (false≢true h)
  asked_back commands.Abort stands h = absurd (false≢true h)

  lin_sent_back : (s : ℕ) (response : LinResponse) → serves scope (kind_of v.LinFrame) s ≡ true → is_step place ≡ true → is_u8 response.id ≡ true → is_payload response.payload ≡ true → sends response.mode ≡ true
      → are_bytes response.payload ≡ true → action_read scope place path (fixed_data scope None (act.LinSendFrame s response)) ≡ Ok (Fixed (act.LinSendFrame s response))
  lin_sent_back s response serves stands small fits sent are = by_mode response.mode refl sent
    where
      by_mode : (mode : LinMode) → response.mode ≡ mode → sends mode ≡ true → action_read scope place path (fixed_data scope None (act.LinSendFrame s response)) ≡ Ok (Fixed (act.LinSendFrame s response))
      by_mode modes.Unused e h = absurd (false≢true h)
      by_mode modes.Rx e h = absurd (false≢true h)
      by_mode modes.TxUnconditional e h =
          let read = lin_frame_back s response.id response.checksum response.payload serves stands small fits are in
          subst (λ (r : LinResponse). action_read scope place path (fixed_data scope None (act.LinSendFrame s r)) ≡ Ok (Fixed (act.LinSendFrame s r)))
          (λ j. record { id = response.id; mode = sym e j; checksum = response.checksum; payload = response.payload }) read

  -- an action as it stands
  fixed_back : (action : Action) → is_fixed scope place action ≡ true → sends_bytes action ≡ true → action_read scope place path (fixed_data scope None action) ≡ Ok (Fixed action)
  fixed_back (act.CanBaud s rate) h are = let p = and_parts _ _ h in can_baud_back s rate p.0 p.1
  fixed_back (act.CanStart s) h are = can_start_back s h
  fixed_back (act.CanStop s) h are = can_stop_back s h
  fixed_back (act.CanReset s) h are = can_reset_back s h
  fixed_back (act.CanSleep s) h are = can_sleep_back s h
  fixed_back (act.CanSend s frame) h are =
      let p = and_parts _ _ h in let q = and_parts _ _ p.1 in let r = and_parts _ _ q.1 in can_send_back None s frame q.0 p.0 r.0 r.1 are tt
  fixed_back (act.EthActivate s) h are = eth_activate_back s h
  fixed_back (act.EthDeactivate s) h are = eth_deactivate_back s h
  fixed_back (act.EthSend s bytes) h are = let p = and_parts _ _ h in let q = and_parts _ _ p.1 in eth_send_back None s bytes q.0 p.0 q.1 are tt
  fixed_back (act.LinInit s role) h are = lin_init_back s role h
  fixed_back (act.LinSetResponse s response) h are =
      let p = and_parts _ _ h in let q = and_parts _ _ p.1 in let r = and_parts _ _ q.1 in lin_response_back s response p.0 q.0 r.0 r.1 are
  fixed_back (act.LinHeader s id) h are = let p = and_parts _ _ h in let q = and_parts _ _ p.1 in lin_header_back s id q.0 p.0 q.1
  fixed_back (act.LinSendFrame s response) h are =
      let p = and_parts _ _ h in let q = and_parts _ _ p.1 in let r = and_parts _ _ q.1 in let t = and_parts _ _ r.1 in lin_sent_back s response q.0 p.0 r.0 t.0 t.1 are
  fixed_back (act.LinSleep s) h are = lin_sleep_back s h
  fixed_back (act.LinWakeup s) h are = lin_wakeup_back s h
  fixed_back (act.Publish s bytes) h are = let p = and_parts _ _ h in let q = and_parts _ _ p.1 in publish_back None s bytes q.0 p.0 q.1 are tt
  fixed_back (act.Call s bytes) h are = let p = and_parts _ _ h in let q = and_parts _ _ p.1 in call_back None s bytes q.0 p.0 q.1 are tt
  fixed_back (act.Submit s peer client call bytes) h are = absurd (false≢true h)
  fixed_back (act.Ask command) h are = let p = and_parts _ _ h in asked_back command p.0 p.1
  fixed_back (act.PauseFor turns) h are = let p = and_parts _ _ h in pause_back turns p.0 p.1

  -- with a variable to append
  appended_back : (action : Action) (variable : ℕ) → is_fixed scope place action ≡ true → appends_to action ≡ true → is_variable scope variable ≡ true → sends_bytes action ≡ true
      → action_read scope place path (fixed_data scope (Some variable) action) ≡ Ok (Append action variable)
  appended_back (act.CanSend s frame) variable h short holds are =
      let p = and_parts _ _ h in let q = and_parts _ _ p.1 in let r = and_parts _ _ q.1 in can_send_back (Some variable) s frame q.0 p.0 r.0 short are holds
  appended_back (act.EthSend s bytes) variable h short holds are = let p = and_parts _ _ h in let q = and_parts _ _ p.1 in eth_send_back (Some variable) s bytes q.0 p.0 short are holds
  appended_back (act.Publish s bytes) variable h short holds are = let p = and_parts _ _ h in let q = and_parts _ _ p.1 in publish_back (Some variable) s bytes q.0 p.0 short are holds
  appended_back (act.Call s bytes) variable h short holds are = let p = and_parts _ _ h in let q = and_parts _ _ p.1 in call_back (Some variable) s bytes q.0 p.0 short are holds
  appended_back (act.CanBaud s rate) variable h short holds are = absurd (false≢true short)
  appended_back (act.CanStart s) variable h short holds are = absurd (false≢true short)
  appended_back (act.CanStop s) variable h short holds are = absurd (false≢true short)
  appended_back (act.CanReset s) variable h short holds are = absurd (false≢true short)
  appended_back (act.CanSleep s) variable h short holds are = absurd (false≢true short)
  appended_back (act.EthActivate s) variable h short holds are = absurd (false≢true short)
  appended_back (act.EthDeactivate s) variable h short holds are = absurd (false≢true short)
  appended_back (act.LinInit s role) variable h short holds are = absurd (false≢true short)
  appended_back (act.LinSetResponse s response) variable h short holds are = absurd (false≢true short)
  appended_back (act.LinHeader s id) variable h short holds are = absurd (false≢true short)
  appended_back (act.LinSendFrame s response) variable h short holds are = absurd (false≢true short)
  appended_back (act.LinSleep s) variable h short holds are = absurd (false≢true short)
  appended_back (act.LinWakeup s) variable h short holds are = absurd (false≢true short)
  appended_back (act.Submit s peer client call bytes) variable h short holds are = absurd (false≢true short)
  appended_back (act.Ask command) variable h short holds are = absurd (false≢true short)
  appended_back (act.PauseFor turns) variable h short holds are = absurd (false≢true short)

  append_is : (append : Option ℕ) (bytes : List ℕ) → is_append scope bytes append ≡ true → (is_carried append bytes ≡ true) × AppendIs scope append
  append_is None bytes h = (h, tt)
  append_is (Some variable) bytes h = let p = and_parts _ _ h in (p.1, p.0)

  pub action_back : (action : ScriptAction) → is_action scope place action ≡ true → action_fits action ≡ true → action_read scope place path (action_data scope action) ≡ Ok action
  unfolding action_data
  action_back (Fixed action) h are = fixed_back action h are
  action_back (Append action variable) h are = let p = and_parts _ _ h in let q = and_parts _ _ p.1 in appended_back action variable p.0 q.0 q.1 are
  action_back (Reply s bytes append) h are =
      let p = and_parts _ _ h in let q = and_parts _ _ p.1 in let r = append_is append bytes q.1 in reply_back append s bytes q.0 p.0 r.0 are r.1
  action_back (Set variable value) h are = let p = and_parts _ _ h in set_back variable value p.0 p.1
  action_back (Add variable value) h are = let p = and_parts _ _ h in add_back variable value p.0 p.1
  action_back (Take variable) h are = let p = and_parts _ _ h in take_back variable p.1 p.0
