-- What the types of the code keep of a scenario besides its rules: bytes are bytes, and lists stand in memory.
use Rattle.std.specs.Prelude.{ℕ, ◌^◌, Bool, true, ◌&&◌, List, length, nat_lt}
use Rattle.std.specs.List.{list_all}
use Rattle.sk_msg.specs.declared.action.Action.{Action}
use Rattle.sk_msg.specs.declared.action.Action.TheVariants as act
use Rattle.sk_rules.specs.Scripts.{RuleValue}
use Rattle.sk_rules.specs.declared.action.ScriptAction.{ScriptAction}
use Rattle.sk_rules.specs.declared.action.ScriptAction.TheVariants.{Fixed, Append, Reply, Set, Add, Take}
use Rattle.sk_script.specs.Scenarios.{PartValue, ScenarioValue}

abbrev pub is_byte : ℕ → Bool
is_byte n = nat_lt n 256

unfoldable pub are_bytes : List ℕ → Bool
are_bytes bytes = list_all is_byte bytes

abbrev pub sends_bytes : Action → Bool
sends_bytes (act.CanSend s frame) = are_bytes frame.payload
sends_bytes (act.EthSend s bytes) = are_bytes bytes
sends_bytes (act.LinSetResponse s response) = are_bytes response.payload
sends_bytes (act.LinSendFrame s response) = are_bytes response.payload
sends_bytes (act.Publish s bytes) = are_bytes bytes
sends_bytes (act.Call s bytes) = are_bytes bytes
sends_bytes (act.CanBaud s rate) = true
sends_bytes (act.CanStart s) = true
sends_bytes (act.CanStop s) = true
sends_bytes (act.CanReset s) = true
sends_bytes (act.CanSleep s) = true
sends_bytes (act.EthActivate s) = true
sends_bytes (act.EthDeactivate s) = true
sends_bytes (act.LinInit s role) = true
sends_bytes (act.LinHeader s id) = true
sends_bytes (act.LinSleep s) = true
sends_bytes (act.LinWakeup s) = true
sends_bytes (act.Submit s peer client call bytes) = true
sends_bytes (act.Ask command) = true
sends_bytes (act.PauseFor turns) = true

abbrev pub action_fits : ScriptAction → Bool
action_fits (Fixed action) = sends_bytes action
action_fits (Append action variable) = sends_bytes action
action_fits (Reply s bytes append) = are_bytes bytes
action_fits (Set variable value) = true
action_fits (Add variable value) = true
action_fits (Take variable) = true

abbrev pub rule_fits : RuleValue → Bool
rule_fits rule = list_all action_fits rule.actions

-- a list that stands in memory
unfoldable pub is_held : ℕ → Bool
is_held count = nat_lt count (2 ^ 64)

unfoldable pub part_fits : PartValue → Bool
part_fits part = is_held (length part.ready) && (list_all action_fits part.ready && list_all rule_fits part.script)

unfoldable pub fits : ScenarioValue → Bool
fits s = list_all part_fits s.participants
