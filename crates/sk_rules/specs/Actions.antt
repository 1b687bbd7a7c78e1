-- What the JSON of an action reads as, key by key in the order of the table.
use Rattle.std.specs.Prelude.{ℕ, ◌^◌, ◌-◌, Bool, false, List, [], Option, Some, None, unwrap_or, Result, Ok, if◌then◌else◌}
use Rattle.serde_json.specs.Data.{Data, Items}
use Rattle.sk_base.specs.Ranges.{is_name}
use Rattle.sk_msg.specs.declared.action.Action.{Action}
use Rattle.sk_msg.specs.declared.action.Action.TheVariants as act
use Rattle.sk_msg.specs.declared.bus.LinChecksum.{LinChecksum}
use Rattle.sk_msg.specs.declared.bus.LinChecksum.TheVariants as checksums
use Rattle.sk_msg.specs.declared.bus.LinMode.TheVariants as modes
use Rattle.sk_msg.specs.declared.command.Command.TheVariants as commands
use Rattle.sk_msg.specs.declared.service.ServiceKind.{ServiceKind}
use Rattle.sk_config.specs.Json.{text_at}
use Rattle.sk_config.specs.Paths.{key_at}
use Rattle.sk_rules.specs.Outcome.{◌>>=◌, ◌>>◌, must, found}
use Rattle.sk_rules.specs.Fields.{has, object_read, needed_text, needed_number, needed_word, word_read, bool_read, bytes_read, text_read, items_read, needed}
use Rattle.sk_rules.specs.Places.{ScopeValue, service_of, variable_of, server_of}
use Rattle.sk_rules.specs.Verbs.{kind_of, service_key, verb_key, only_verb, may_stand}
use Rattle.sk_rules.specs.Keys.{knows, rate_key, id_key, extended_key, fd_key, role_key, mode_key, checksum_key, data_key, append_key, to_key, by_key}
use Rattle.sk_rules.specs.Scripts.{sends}
use Rattle.sk_rules.specs.Words.{role_of, lin_mode_of, checksum_of}
use Rattle.sk_rules.specs.declared.action.ScriptAction.{ScriptAction}
use Rattle.sk_rules.specs.declared.action.ScriptAction.TheVariants.{Fixed, Append, Reply, Set, Add, Take}
use Rattle.sk_rules.specs.declared.fault.Rule.TheVariants as rules
use Rattle.sk_rules.specs.declared.fault.ScenarioFault.{ScenarioFault}
use Rattle.sk_rules.specs.declared.keys.RuleObject.TheVariants as objects
use Rattle.sk_rules.specs.declared.place.Place.{Place}
use Rattle.sk_rules.specs.declared.verb.ServiceVerb.{ServiceVerb}
use Rattle.sk_rules.specs.declared.verb.ServiceVerb.TheVariants as v
use Rattle.sk_rules.specs.declared.verb.Verb.{Verb}
use Rattle.sk_rules.specs.declared.verb.Verb.TheVariants as verbs

-- ---- what actions have in common

-- the number of an own service of this kind
unfoldable pub service_read : ScopeValue → ServiceKind → List ℕ → List ℕ → Data → Result ℕ ScenarioFault
service_read scope kind path key d = do
  name ← needed_text is_name path key d
  found (key_at path key) rules.NoSuchService (service_of scope kind name)

-- the place of an own variable
unfoldable pub variable_read : ScopeValue → List ℕ → List ℕ → Data → Result ℕ ScenarioFault
variable_read scope path key d = do
  name ← needed_text is_name path key d
  found (key_at path key) rules.NoSuchVariable (variable_of scope name)

-- that of a variable, if one is named
abbrev pub variable_for : ScopeValue → List ℕ → Option (List ℕ) → Result (Option ℕ) ScenarioFault
variable_for scope path None = Ok None
variable_for scope path (Some name) = do
  variable ← found path rules.NoSuchVariable (variable_of scope name)
  Ok (Some variable)

-- that of the variable to append
unfoldable pub append_read : ScopeValue → List ℕ → Data → Result (Option ℕ) ScenarioFault
append_read scope path d = do
  name ← text_read is_name path append_key d
  variable_for scope (key_at path append_key) name

-- the bytes, none by default; where a variable is appended its eight fit behind them
unfoldable pub payload_read : List ℕ → Data → Result (List ℕ) ScenarioFault
payload_read path d = do
  bytes ← bytes_read (if has append_key d then 4088 else 4096) path data_key d
  Ok (unwrap_or bytes [])

-- the action, with what is appended to its bytes
abbrev pub appending : Action → Option ℕ → ScriptAction
appending action None = Fixed action
appending action (Some variable) = Append action variable

-- true, which is all that may stand there
unfoldable pub true_read : List ℕ → List ℕ → Data → Result Bool ScenarioFault
true_read path key d = do
  given ← bool_read path key d
  value ← needed path key given
  must (key_at path key) rules.OutOfRange value
  Ok value

-- ---- actions of a service, behind its number

unfoldable pub can_baud_read : ℕ → List ℕ → Data → Result ScriptAction ScenarioFault
can_baud_read service path d = do
  rate ← needed_number 0 (2 ^ 32 - 1) path rate_key d
  Ok (Fixed (act.CanBaud service rate))

unfoldable pub can_send_read : ScopeValue → ℕ → List ℕ → Data → Result ScriptAction ScenarioFault
can_send_read scope service path d = do
  id ← needed_number 0 (2 ^ 32 - 1) path id_key d
  extended ← bool_read path extended_key d
  fd ← bool_read path fd_key d
  payload ← payload_read path d
  append ← append_read scope path d
  Ok (appending (act.CanSend service (record { id = id; extended = unwrap_or extended false; fd = unwrap_or fd false; payload = payload })) append)

unfoldable pub eth_send_read : ScopeValue → ℕ → List ℕ → Data → Result ScriptAction ScenarioFault
eth_send_read scope service path d = do
  payload ← payload_read path d
  append ← append_read scope path d
  Ok (appending (act.EthSend service payload) append)

unfoldable pub lin_init_read : ℕ → List ℕ → Data → Result ScriptAction ScenarioFault
lin_init_read service path d = do
  role ← needed_word role_of path role_key d
  Ok (Fixed (act.LinInit service role))

-- how the checksum is made: unknown by default
unfoldable pub checksum_read : List ℕ → Data → Result LinChecksum ScenarioFault
checksum_read path d = do
  checksum ← word_read checksum_of path checksum_key d
  Ok (unwrap_or checksum checksums.Unknown)

-- bytes stand only where the controller answers
unfoldable pub lin_response_read : ℕ → List ℕ → Data → Result ScriptAction ScenarioFault
lin_response_read service path d = do
  id ← needed_number 0 255 path id_key d
  mode ← needed_word lin_mode_of path mode_key d
  checksum ← checksum_read path d
  payload ← bytes_read (if sends mode then 4096 else 0) path data_key d
  Ok (Fixed (act.LinSetResponse service (record { id = id; mode = mode; checksum = checksum; payload = unwrap_or payload [] })))

unfoldable pub lin_header_read : ℕ → List ℕ → Data → Result ScriptAction ScenarioFault
lin_header_read service path d = do
  id ← needed_number 0 255 path id_key d
  Ok (Fixed (act.LinHeader service id))

unfoldable pub lin_frame_read : ℕ → List ℕ → Data → Result ScriptAction ScenarioFault
lin_frame_read service path d = do
  id ← needed_number 0 255 path id_key d
  checksum ← checksum_read path d
  payload ← bytes_read 4096 path data_key d
  Ok (Fixed (act.LinSendFrame service (record { id = id; mode = modes.TxUnconditional; checksum = checksum; payload = unwrap_or payload [] })))

unfoldable pub publish_read : ScopeValue → ℕ → List ℕ → Data → Result ScriptAction ScenarioFault
publish_read scope service path d = do
  payload ← payload_read path d
  append ← append_read scope path d
  Ok (appending (act.Publish service payload) append)

unfoldable pub call_read : ScopeValue → ℕ → List ℕ → Data → Result ScriptAction ScenarioFault
call_read scope service path d = do
  payload ← payload_read path d
  append ← append_read scope path d
  Ok (appending (act.Call service payload) append)

unfoldable pub reply_read : ScopeValue → ℕ → List ℕ → Data → Result ScriptAction ScenarioFault
reply_read scope service path d = do
  payload ← payload_read path d
  append ← append_read scope path d
  Ok (Reply service payload append)

-- what is asked of the service of this number
abbrev pub served : ScopeValue → ServiceVerb → ℕ → List ℕ → Data → Result ScriptAction ScenarioFault
served scope v.CanBaud service path d = can_baud_read service path d
served scope v.CanStart service path d = Ok (Fixed (act.CanStart service))
served scope v.CanStop service path d = Ok (Fixed (act.CanStop service))
served scope v.CanReset service path d = Ok (Fixed (act.CanReset service))
served scope v.CanSleep service path d = Ok (Fixed (act.CanSleep service))
served scope v.CanSend service path d = can_send_read scope service path d
served scope v.EthActivate service path d = Ok (Fixed (act.EthActivate service))
served scope v.EthDeactivate service path d = Ok (Fixed (act.EthDeactivate service))
served scope v.EthSend service path d = eth_send_read scope service path d
served scope v.LinInit service path d = lin_init_read service path d
served scope v.LinResponse service path d = lin_response_read service path d
served scope v.LinHeader service path d = lin_header_read service path d
served scope v.LinFrame service path d = lin_frame_read service path d
served scope v.LinSleep service path d = Ok (Fixed (act.LinSleep service))
served scope v.LinWakeup service path d = Ok (Fixed (act.LinWakeup service))
served scope v.Publish service path d = publish_read scope service path d
served scope v.Call service path d = call_read scope service path d
served scope v.Reply service path d = reply_read scope service path d

-- ---- the others

unfoldable pub set_read : ScopeValue → List ℕ → Data → Result ScriptAction ScenarioFault
set_read scope path d = do
  variable ← variable_read scope path (verb_key verbs.Set) d
  value ← needed_number 0 (2 ^ 64 - 1) path to_key d
  Ok (Set variable value)

unfoldable pub add_read : ScopeValue → List ℕ → Data → Result ScriptAction ScenarioFault
add_read scope path d = do
  variable ← variable_read scope path (verb_key verbs.Add) d
  value ← needed_number 0 (2 ^ 64 - 1) path by_key d
  Ok (Add variable value)

unfoldable pub take_read : ScopeValue → List ℕ → Data → Result ScriptAction ScenarioFault
take_read scope path d = do
  variable ← variable_read scope path (verb_key verbs.Take) d
  Ok (Take variable)

unfoldable pub pause_read : List ℕ → Data → Result ScriptAction ScenarioFault
pause_read path d = do
  turns ← needed_number 1 1000 path (verb_key verbs.Pause) d
  Ok (Fixed (act.PauseFor turns))

unfoldable pub stop_read : List ℕ → Data → Result ScriptAction ScenarioFault
stop_read path d = do
  sure ← true_read path (verb_key verbs.Stop) d
  Ok (Fixed (act.Ask commands.Stop))

unfoldable pub error_read : List ℕ → Data → Result ScriptAction ScenarioFault
error_read path d = do
  sure ← true_read path (verb_key verbs.Error) d
  Ok (Fixed (act.Ask commands.ReportError))

-- what an action of this kind says
abbrev pub told : ScopeValue → Verb → List ℕ → Data → Result ScriptAction ScenarioFault
told scope (verbs.Of verb) path d = do
  service ← service_read scope (kind_of verb) path (service_key verb) d
  served scope verb service path d
told scope verbs.Set path d = set_read scope path d
told scope verbs.Add path d = add_read scope path d
told scope verbs.Take path d = take_read scope path d
told scope verbs.Pause path d = pause_read path d
told scope verbs.Stop path d = stop_read path d
told scope verbs.Error path d = error_read path d

-- ---- an action

-- the server that it names, where it is a reply
abbrev pub named : ScopeValue → Data → Option ℕ
named scope d = server_of scope (text_at (service_key v.Reply) d)

-- an action: an object without keys that no action has, of one kind and in its place, without keys of other kinds
unfoldable pub action_read : ScopeValue → Place → List ℕ → Data → Result ScriptAction ScenarioFault
action_read scope place path d = do
  object_read (knows objects.AnyAction) path d
  verb ← found path rules.NotAllowedHere (only_verb d)
  must path rules.NotAllowedHere (may_stand verb place (named scope d))
  object_read (knows (objects.Action verb)) path d
  told scope verb path d

-- the actions of a list
unfoldable pub actions_read : ScopeValue → Place → List ℕ → Items → Result (List ScriptAction) ScenarioFault
actions_read scope place path ds = items_read (λ at earlier d. action_read scope place at d) path [] 0 ds
