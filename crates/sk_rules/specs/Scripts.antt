-- What scripts say, and which sayings are those of a participant's script.
use Rattle.std.specs.Prelude.{ℕ, ◌^◌, Bool, true, false, not, ◌&&◌, ◌||◌, ◌==◌, List, length, nat_lt, nat_le, Option, Some, None, if◌then◌else◌}
use Rattle.std.specs.List.{list_all, list_any}
use Rattle.sk_base.specs.Ranges.{is_time, is_payload}
use Rattle.sk_msg.specs.Rules.{is_u32, is_step_size}
use Rattle.sk_msg.specs.declared.action.Action.{Action}
use Rattle.sk_msg.specs.declared.action.Action.TheVariants as act
use Rattle.sk_msg.specs.declared.bus.LinMode.{LinMode}
use Rattle.sk_msg.specs.declared.bus.LinMode.TheVariants as modes
use Rattle.sk_msg.specs.declared.command.Command.{Command}
use Rattle.sk_msg.specs.declared.command.Command.TheVariants as commands
use Rattle.sk_msg.specs.declared.service.Service.{Service}
use Rattle.sk_msg.specs.declared.service.ServiceKind.{ServiceKind}
use Rattle.sk_msg.specs.declared.service.ServiceKind.TheVariants.{Can, Ethernet, Lin, Publisher, Server, Client}
use Rattle.sk_config.specs.Applied.{is_kind}
use Rattle.sk_rules.specs.Places.{ScopeValue, is_step, is_on, is_on_server}
use Rattle.sk_rules.specs.declared.action.ScriptAction.{ScriptAction}
use Rattle.sk_rules.specs.declared.action.ScriptAction.TheVariants.{Fixed, Append, Reply, Set, Add, Take}
use Rattle.sk_rules.specs.declared.place.Place.{Place}
use Rattle.sk_rules.specs.declared.place.Place.TheVariants.{Timed, On}
use Rattle.sk_rules.specs.declared.rule.When.{When}
use Rattle.sk_rules.specs.declared.rule.When.TheVariants as whens

-- a rule: when it is carried out, and what is done then
pub record RuleValue : Type 0 where
  pub when : When
  pub actions : List ScriptAction

-- one of these is a service of this number and of a kind that passes the test
abbrev pub is_own : (ServiceKind → Bool) → List Service → ℕ → Bool
is_own fits services id = list_any (λ service. service.id == id && fits service.kind) services

-- this is the number of an own service of this kind
unfoldable pub serves : ScopeValue → ServiceKind → ℕ → Bool
serves scope kind id = is_own (λ one. is_kind one kind) scope.services id

-- this is the number of an own service that receives something
unfoldable pub receives : ScopeValue → ℕ → Bool
receives scope id = is_own (λ one. not (is_kind one Publisher)) scope.services id

-- this is the place of an own variable
unfoldable pub is_variable : ScopeValue → ℕ → Bool
is_variable scope place = nat_lt place (length scope.vars)

-- a byte
unfoldable pub is_u8 : ℕ → Bool
is_u8 n = nat_lt n (2 ^ 8)

unfoldable pub is_u64 : ℕ → Bool
is_u64 n = nat_lt n (2 ^ 64)

-- bytes behind which those of a variable fit
unfoldable pub is_short_payload : List ℕ → Bool
is_short_payload bytes = nat_le (length bytes) 4088

abbrev pub sends : LinMode → Bool
sends modes.Unused = false
sends modes.Rx = false
sends modes.TxUnconditional = true

-- 1 to 1,000 turns
unfoldable pub is_pause : ℕ → Bool
is_pause turns = nat_le 1 turns && nat_le turns 1000

-- what a script may ask of its own participant
abbrev pub is_asked : Command → Bool
is_asked commands.Pause = false
is_asked commands.Continue = false
is_asked commands.Stop = true
is_asked commands.ReportError = true
is_asked commands.Abort = false

-- an action as it stands, in this place
abbrev pub is_fixed : ScopeValue → Place → Action → Bool
is_fixed scope place (act.CanBaud s rate) = serves scope Can s && is_u32 rate
is_fixed scope place (act.CanStart s) = serves scope Can s
is_fixed scope place (act.CanStop s) = serves scope Can s
is_fixed scope place (act.CanReset s) = serves scope Can s
is_fixed scope place (act.CanSleep s) = serves scope Can s
is_fixed scope place (act.CanSend s frame) = is_step place && (serves scope Can s && (is_u32 frame.id && is_payload frame.payload))
is_fixed scope place (act.EthActivate s) = serves scope Ethernet s
is_fixed scope place (act.EthDeactivate s) = serves scope Ethernet s
is_fixed scope place (act.EthSend s bytes) = is_step place && (serves scope Ethernet s && is_payload bytes)
is_fixed scope place (act.LinInit s role) = serves scope Lin s
is_fixed scope place (act.LinSetResponse s response) =
    serves scope Lin s && (is_u8 response.id && (is_payload response.payload && (sends response.mode || length response.payload == 0)))
is_fixed scope place (act.LinHeader s id) = is_step place && (serves scope Lin s && is_u8 id)
is_fixed scope place (act.LinSendFrame s response) =
    is_step place && (serves scope Lin s && (is_u8 response.id && (is_payload response.payload && sends response.mode)))
is_fixed scope place (act.LinSleep s) = serves scope Lin s
is_fixed scope place (act.LinWakeup s) = serves scope Lin s
is_fixed scope place (act.Publish s bytes) = is_step place && (serves scope Publisher s && is_payload bytes)
is_fixed scope place (act.Call s bytes) = is_step place && (serves scope Client s && is_payload bytes)
is_fixed scope place (act.Submit s peer client call bytes) = false
is_fixed scope place (act.Ask command) = is_step place && is_asked command
is_fixed scope place (act.PauseFor turns) = is_step place && is_pause turns

-- bytes that a variable is appended to
abbrev pub appends_to : Action → Bool
appends_to (act.CanSend s frame) = is_short_payload frame.payload
appends_to (act.EthSend s bytes) = is_short_payload bytes
appends_to (act.Publish s bytes) = is_short_payload bytes
appends_to (act.Call s bytes) = is_short_payload bytes
appends_to (act.CanBaud s rate) = false
appends_to (act.CanStart s) = false
appends_to (act.CanStop s) = false
appends_to (act.CanReset s) = false
appends_to (act.CanSleep s) = false
appends_to (act.EthActivate s) = false
appends_to (act.EthDeactivate s) = false
appends_to (act.LinInit s role) = false
appends_to (act.LinSetResponse s response) = false
appends_to (act.LinHeader s id) = false
appends_to (act.LinSendFrame s response) = false
appends_to (act.LinSleep s) = false
appends_to (act.LinWakeup s) = false
appends_to (act.Submit s peer client call bytes) = false
appends_to (act.Ask command) = false
appends_to (act.PauseFor turns) = false

-- a variable to append, if there is one, behind these bytes
abbrev pub is_append : ScopeValue → List ℕ → Option ℕ → Bool
is_append scope bytes None = is_payload bytes
is_append scope bytes (Some variable) = is_variable scope variable && is_short_payload bytes

-- an action of a participant's script, in this place
abbrev pub is_action : ScopeValue → Place → ScriptAction → Bool
is_action scope place (Fixed action) = is_fixed scope place action
is_action scope place (Append action variable) = is_fixed scope place action && (appends_to action && is_variable scope variable)
is_action scope place (Reply s bytes append) = is_on_server place (Some s) && (serves scope Server s && is_append scope bytes append)
is_action scope place (Set variable value) = is_variable scope variable && is_u64 value
is_action scope place (Add variable value) = is_variable scope variable && is_u64 value
is_action scope place (Take variable) = is_on place && is_variable scope variable

-- when a rule is carried out
abbrev pub is_when : ScopeValue → When → Bool
is_when scope (whens.At at) = is_time at
is_when scope (whens.Every size from) = is_step_size size && is_u64 from
is_when scope (whens.On s) = receives scope s

-- the place of the actions of a rule
abbrev pub place_in : ScopeValue → When → Place
place_in scope (whens.At at) = Timed
place_in scope (whens.Every size from) = Timed
place_in scope (whens.On s) = On (if serves scope Server s then Some s else None)

-- 1 to 256
unfoldable pub is_action_count : ℕ → Bool
is_action_count count = nat_le 1 count && nat_le count 256

-- a rule of a participant's script
unfoldable pub is_rule : ScopeValue → RuleValue → Bool
is_rule scope rule =
    is_when scope rule.when
    && (is_action_count (length rule.actions) && list_all (is_action scope (place_in scope rule.when)) rule.actions)
