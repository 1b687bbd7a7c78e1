-- Which scenarios are closed: what happens in them depends on the file alone.
use Rattle.std.specs.Prelude.{ℕ, Bool, true, false, not, ◌&&◌, List, is_some}
use Rattle.std.specs.List.{list_all, list_any}
use Rattle.std.specs.Str.{bytes_eq}
use Rattle.sk_msg.specs.declared.action.Action.{Action}
use Rattle.sk_msg.specs.declared.action.Action.TheVariants as act
use Rattle.sk_msg.specs.declared.command.Command.{Command}
use Rattle.sk_msg.specs.declared.command.Command.TheVariants as commands
use Rattle.sk_rules.specs.Scripts.{RuleValue}
use Rattle.sk_rules.specs.declared.action.ScriptAction.{ScriptAction}
use Rattle.sk_rules.specs.declared.action.ScriptAction.TheVariants.{Fixed, Append, Reply, Set, Add, Take}
use Rattle.sk_script.specs.Scenarios.{PartValue, ScenarioValue}

-- a participant reports an error
abbrev pub is_error : Command → Bool
is_error commands.ReportError = true
is_error commands.Pause = false
is_error commands.Continue = false
is_error commands.Stop = false
is_error commands.Abort = false

abbrev pub reports_error : Action → Bool
reports_error (act.Ask command) = is_error command
reports_error (act.CanBaud s rate) = false
reports_error (act.CanStart s) = false
reports_error (act.CanStop s) = false
reports_error (act.CanReset s) = false
reports_error (act.CanSleep s) = false
reports_error (act.CanSend s frame) = false
reports_error (act.EthActivate s) = false
reports_error (act.EthDeactivate s) = false
reports_error (act.EthSend s bytes) = false
reports_error (act.LinInit s role) = false
reports_error (act.LinSetResponse s response) = false
reports_error (act.LinHeader s id) = false
reports_error (act.LinSendFrame s response) = false
reports_error (act.LinSleep s) = false
reports_error (act.LinWakeup s) = false
reports_error (act.Publish s bytes) = false
reports_error (act.Call s bytes) = false
reports_error (act.Submit s peer client call bytes) = false
reports_error (act.PauseFor turns) = false

-- a call that changes a controller of a bus, and sends no frame
abbrev pub changes_controller : Action → Bool
changes_controller (act.CanBaud s rate) = true
changes_controller (act.CanStart s) = true
changes_controller (act.CanStop s) = true
changes_controller (act.CanReset s) = true
changes_controller (act.CanSleep s) = true
changes_controller (act.EthActivate s) = true
changes_controller (act.EthDeactivate s) = true
changes_controller (act.LinInit s role) = true
changes_controller (act.LinSetResponse s response) = true
changes_controller (act.LinSleep s) = true
changes_controller (act.LinWakeup s) = true
changes_controller (act.CanSend s frame) = false
changes_controller (act.EthSend s bytes) = false
changes_controller (act.LinHeader s id) = false
changes_controller (act.LinSendFrame s response) = false
changes_controller (act.Publish s bytes) = false
changes_controller (act.Call s bytes) = false
changes_controller (act.Submit s peer client call bytes) = false
changes_controller (act.Ask command) = false
changes_controller (act.PauseFor turns) = false

-- an action that a closed scenario may have when a participant is ready
abbrev pub is_closed_ready : ScriptAction → Bool
is_closed_ready (Fixed action) = not (reports_error action)
is_closed_ready (Append action variable) = not (reports_error action)
is_closed_ready (Reply s bytes append) = true
is_closed_ready (Set variable value) = true
is_closed_ready (Add variable value) = true
is_closed_ready (Take variable) = true

-- and in a rule
abbrev pub is_closed_step : ScriptAction → Bool
is_closed_step (Fixed action) = not (reports_error action) && not (changes_controller action)
is_closed_step (Append action variable) = not (reports_error action) && not (changes_controller action)
is_closed_step (Reply s bytes append) = true
is_closed_step (Set variable value) = true
is_closed_step (Add variable value) = true
is_closed_step (Take variable) = true

unfoldable pub is_closed_rule : RuleValue → Bool
is_closed_rule rule = list_all is_closed_step rule.actions

-- it is coordinated, required and synchronised, and each of its actions may stand there
unfoldable pub is_closed_part : List (List ℕ) → PartValue → Bool
is_closed_part required part =
    part.coordinated
    && (list_any (λ name. bytes_eq name part.name) required
    && (is_some part.step && (list_all is_closed_ready part.ready && list_all is_closed_rule part.script)))

unfoldable pub is_closed : ScenarioValue → Bool
is_closed s = list_all (is_closed_part s.required) s.participants
