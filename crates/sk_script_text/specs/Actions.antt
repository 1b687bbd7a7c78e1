-- What is written of actions and rules. Services and variables are written by their names.
use Rattle.std.specs.Prelude.{ℕ, true, List, [], ◌∷◌, Option, Some, None, option_map, slice_get, unwrap_or}
use Rattle.serde_json.specs.Data.{Data, string, array}
use Rattle.sk_msg.specs.declared.action.Action.{Action}
use Rattle.sk_msg.specs.declared.action.Action.TheVariants as act
use Rattle.sk_msg.specs.declared.bus.CanFrame.{CanFrame}
use Rattle.sk_msg.specs.declared.bus.LinResponse.{LinResponse}
use Rattle.sk_msg.specs.declared.command.Command.{Command}
use Rattle.sk_msg.specs.declared.command.Command.TheVariants as commands
use Rattle.sk_msg.specs.declared.service.Service.{Service}
use Rattle.sk_rules.specs.Keys.{rate_key, id_key, extended_key, fd_key, role_key, mode_key, checksum_key, data_key, append_key, to_key, by_key, do_key, at_key, every_key, from_key, on_key}
use Rattle.sk_rules.specs.Places.{ScopeValue}
use Rattle.sk_rules.specs.Scripts.{RuleValue}
use Rattle.sk_rules.specs.Verbs.{service_key, verb_key}
use Rattle.sk_rules.specs.declared.action.ScriptAction.{ScriptAction}
use Rattle.sk_rules.specs.declared.action.ScriptAction.TheVariants.{Fixed, Append, Reply, Set, Add, Take}
use Rattle.sk_rules.specs.declared.rule.When.{When}
use Rattle.sk_rules.specs.declared.rule.When.TheVariants as whens
use Rattle.sk_rules.specs.declared.vars.Var.{Var}
use Rattle.sk_rules.specs.declared.verb.ServiceVerb.{ServiceVerb}
use Rattle.sk_rules.specs.declared.verb.ServiceVerb.TheVariants as v
use Rattle.sk_rules.specs.declared.verb.Verb.TheVariants as verbs
use Rattle.sk_script_text.specs.Objects.{Field, with_fields, text, some_text, whole, some_whole, flag, hex, items}
use Rattle.sk_script_text.specs.Words.{role_word, mode_word, checksum_word}

-- the name of the service of this number
unfoldable pub service_name : ScopeValue → ℕ → List ℕ
service_name scope s = unwrap_or (option_map (λ (service : Service). service.name) (slice_get scope.services s)) []

-- the name of the variable in this place
unfoldable pub variable_name : ScopeValue → ℕ → List ℕ
variable_name scope place = unwrap_or (option_map (λ (var : Var). var.name) (slice_get scope.vars place)) []

-- the first key of an action of a service, with the service
abbrev pub of_service : ScopeValue → ServiceVerb → ℕ → Field
of_service scope verb s = record { key = service_key verb; value = text (service_name scope s) }

-- bytes, and the variable that is appended to them
abbrev pub payload_fields : ScopeValue → List ℕ → Option ℕ → List Field
payload_fields scope bytes append =
    record { key = data_key; value = hex bytes }
    ∷ record { key = append_key; value = option_map (λ variable. string (variable_name scope variable)) append }
    ∷ []

abbrev pub asked_fields : Command → List Field
asked_fields commands.Stop = record { key = verb_key verbs.Stop; value = flag true } ∷ []
asked_fields commands.ReportError = record { key = verb_key verbs.Error; value = flag true } ∷ []
asked_fields commands.Pause = []
asked_fields commands.Continue = []
asked_fields commands.Abort = []

-- a CAN frame
abbrev pub frame_fields : ScopeValue → CanFrame → Option ℕ → List Field
frame_fields scope frame append =
    record { key = id_key; value = whole frame.id }
    ∷ record { key = extended_key; value = flag frame.extended }
    ∷ record { key = fd_key; value = flag frame.fd }
    ∷ payload_fields scope frame.payload append

-- how a LIN controller answers a header
abbrev pub response_fields : LinResponse → List Field
response_fields response =
    record { key = id_key; value = whole response.id }
    ∷ record { key = mode_key; value = text (mode_word response.mode) }
    ∷ record { key = checksum_key; value = some_text (checksum_word response.checksum) }
    ∷ record { key = data_key; value = hex response.payload }
    ∷ []

-- a LIN frame that is sent
abbrev pub lin_frame_fields : LinResponse → List Field
lin_frame_fields response =
    record { key = id_key; value = whole response.id }
    ∷ record { key = checksum_key; value = some_text (checksum_word response.checksum) }
    ∷ record { key = data_key; value = hex response.payload }
    ∷ []

-- an action as it stands, with a variable to append, if there is one; no script has the last ones
abbrev pub fixed_fields : ScopeValue → Option ℕ → Action → List Field
fixed_fields scope append (act.CanBaud s rate) = of_service scope v.CanBaud s ∷ record { key = rate_key; value = whole rate } ∷ []
fixed_fields scope append (act.CanStart s) = of_service scope v.CanStart s ∷ []
fixed_fields scope append (act.CanStop s) = of_service scope v.CanStop s ∷ []
fixed_fields scope append (act.CanReset s) = of_service scope v.CanReset s ∷ []
fixed_fields scope append (act.CanSleep s) = of_service scope v.CanSleep s ∷ []
fixed_fields scope append (act.CanSend s frame) = of_service scope v.CanSend s ∷ frame_fields scope frame append
fixed_fields scope append (act.EthActivate s) = of_service scope v.EthActivate s ∷ []
fixed_fields scope append (act.EthDeactivate s) = of_service scope v.EthDeactivate s ∷ []
fixed_fields scope append (act.EthSend s bytes) = of_service scope v.EthSend s ∷ payload_fields scope bytes append
fixed_fields scope append (act.LinInit s role) = of_service scope v.LinInit s ∷ record { key = role_key; value = text (role_word role) } ∷ []
fixed_fields scope append (act.LinSetResponse s response) = of_service scope v.LinResponse s ∷ response_fields response
fixed_fields scope append (act.LinHeader s id) = of_service scope v.LinHeader s ∷ record { key = id_key; value = whole id } ∷ []
fixed_fields scope append (act.LinSendFrame s response) = of_service scope v.LinFrame s ∷ lin_frame_fields response
fixed_fields scope append (act.LinSleep s) = of_service scope v.LinSleep s ∷ []
fixed_fields scope append (act.LinWakeup s) = of_service scope v.LinWakeup s ∷ []
fixed_fields scope append (act.Publish s bytes) = of_service scope v.Publish s ∷ payload_fields scope bytes append
fixed_fields scope append (act.Call s bytes) = of_service scope v.Call s ∷ payload_fields scope bytes append
fixed_fields scope append (act.PauseFor turns) = record { key = verb_key verbs.Pause; value = whole turns } ∷ []
fixed_fields scope append (act.Ask command) = asked_fields command
fixed_fields scope append (act.Submit s peer client call bytes) = []

-- an action of a participant of this scope
abbrev pub action_fields : ScopeValue → ScriptAction → List Field
action_fields scope (Fixed action) = fixed_fields scope None action
action_fields scope (Append action variable) = fixed_fields scope (Some variable) action
action_fields scope (Reply s bytes append) = of_service scope v.Reply s ∷ payload_fields scope bytes append
action_fields scope (Set variable value) =
    record { key = verb_key verbs.Set; value = text (variable_name scope variable) } ∷ record { key = to_key; value = whole value } ∷ []
action_fields scope (Add variable value) =
    record { key = verb_key verbs.Add; value = text (variable_name scope variable) } ∷ record { key = by_key; value = whole value } ∷ []
action_fields scope (Take variable) = record { key = verb_key verbs.Take; value = text (variable_name scope variable) } ∷ []

unfoldable pub action_data : ScopeValue → ScriptAction → Data
action_data scope action = with_fields (action_fields scope action)

-- ---- rules

abbrev pub when_fields : ScopeValue → When → List Field
when_fields scope (whens.At at) = record { key = at_key; value = whole at } ∷ []
when_fields scope (whens.Every size from) = record { key = every_key; value = whole size } ∷ record { key = from_key; value = some_whole from } ∷ []
when_fields scope (whens.On s) = record { key = on_key; value = text (service_name scope s) } ∷ []

unfoldable pub rule_data : ScopeValue → RuleValue → Data
rule_data scope rule =
    with_fields (record { key = do_key; value = Some (array (items (action_data scope) rule.actions)) } ∷ when_fields scope rule.when)
