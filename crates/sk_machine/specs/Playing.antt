-- What a participant's script does, as a function: of the values of its variables, the time of a step and what it sees.
use Rattle.std.specs.Prelude.{ℕ, ◌+◌, ◌-◌, ◌^◌, min, List, [], ◌∷◌, ◌++◌, Option, Some, None, slice_index, slice_set, if◌then◌else◌}
use Rattle.std.specs.List.{fold}
use Rattle.std.specs.Int.{w64, to_le_bytes}
use Rattle.sk_law.specs.Script.{Delivery, View, Script}
use Rattle.sk_msg.specs.declared.action.Action.{Action}
use Rattle.sk_msg.specs.declared.action.Action.TheVariants as actions
use Rattle.sk_msg.specs.declared.service.ServiceKind.{ServiceKind}
use Rattle.sk_rpc.specs.declared.open_call.OpenCall.{OpenCall}
use Rattle.sk_rules.specs.Scripts.{RuleValue}
use Rattle.sk_rules.specs.declared.action.ScriptAction.{ScriptAction}
use Rattle.sk_rules.specs.declared.action.ScriptAction.TheVariants.{Fixed, Append, Reply, Set, Add, Take}
use Rattle.sk_machine.specs.declared.cause.Cause.{Cause}
use Rattle.sk_machine.specs.declared.cause.Cause.TheVariants.{Ready, Time}
use Rattle.sk_machine.specs.Causes.{number_of, call_of, cause_of, is_taken, fires}

-- a participant's script: the kinds of its services by their numbers, what it does when it is ready, and its rules
pub record PartScript : Type 0 where
  pub kinds : List ServiceKind
  pub when_ready : List ScriptAction
  pub rules : List RuleValue

-- the values of the variables by their places, and what is asked of the participant
pub record Played : Type 0 where
  pub values : List ℕ
  pub actions : List Action

-- ## One action

-- the 8 bytes of a variable, little-endian
abbrev pub bytes_of : List ℕ → ℕ → List ℕ
bytes_of values variable = to_le_bytes w64 (slice_index values variable)

-- the action with these bytes behind its own
abbrev pub extended : List ℕ → Action → Action
extended more (actions.CanSend service frame) = actions.CanSend service (record frame { payload = frame.payload ++ more })
extended more (actions.EthSend service payload) = actions.EthSend service (payload ++ more)
extended more (actions.Publish service payload) = actions.Publish service (payload ++ more)
extended more (actions.Call service payload) = actions.Call service (payload ++ more)
extended more action = action

-- the bytes of an answer: with those of a variable behind them, if one is named
abbrev pub answer_bytes : List ℕ → List ℕ → Option ℕ → List ℕ
answer_bytes values payload None = payload
answer_bytes values payload (Some variable) = payload ++ bytes_of values variable

-- a server's answer to this call; where there is no call, none
abbrev pub answers : ℕ → List ℕ → Option OpenCall → List Action
answers service payload None = []
answers service payload (Some call) = actions.Submit service call.peer call.client call.call payload ∷ []

-- these are asked for besides
abbrev pub ask : List Action → Played → Played
ask more played = record { values = played.values; actions = played.actions ++ more }

-- the variable has this value from now on
abbrev pub assign : ℕ → ℕ → Played → Played
assign variable value played = record { values = slice_set played.values variable value; actions = played.actions }

-- what one action does, by what is the cause
abbrev pub act : Cause → Played → ScriptAction → Played
act cause played (Fixed action) = ask (action ∷ []) played
act cause played (Append action variable) = ask (extended (bytes_of played.values variable) action ∷ []) played
act cause played (Reply service payload append) = ask (answers service (answer_bytes played.values payload append) (call_of cause)) played
act cause played (Set variable value) = assign variable value played
act cause played (Add variable value) = assign variable (min (slice_index played.values variable + value) (2 ^ 64 - 1)) played
act cause played (Take variable) = assign variable (number_of cause) played

-- ## A step

-- actions in order
abbrev pub act_all : Cause → Played → List ScriptAction → Played
act_all cause played actions = fold (act cause) played actions

-- the actions of a rule, where the cause fires it
abbrev pub follow : Cause → Played → RuleValue → Played
follow cause played rule = if fires cause rule.when then act_all cause played rule.actions else played

-- each rule in order
abbrev pub follow_all : Cause → List RuleValue → Played → Played
follow_all cause rules played = fold (follow cause) played rules

-- a message that was handed to a service: the rules of this service, where it takes the message
abbrev pub hear : List ServiceKind → List RuleValue → Played → Delivery → Played
hear kinds rules played item = if is_taken kinds item then follow_all (cause_of item) rules played else played

-- what is done when the participant is ready, from these values on
abbrev pub ready : PartScript → List ℕ → Played
ready part values = act_all Ready (record { values = values; actions = [] }) part.when_ready

-- a step at this time from these values on: for each message that it sees, in order, each rule of its receiver; then each rule
-- that is due at the time
abbrev pub script : PartScript → List ℕ → ℕ → List Delivery → Played
script part values t seen = follow_all (Time t) part.rules (fold (hear part.kinds part.rules) (record { values = values; actions = [] }) seen)

-- the values behind these steps, from the first values on: the participant got ready before them
abbrev pub values_after : PartScript → List ℕ → List View → List ℕ
values_after part first earlier = fold (λ values step. (script part values step.at step.seen).values) (ready part first).values earlier

-- as the law of journals asks for it
abbrev pub script_of : PartScript → List ℕ → Script
script_of part first = record {
  ready = (ready part first).actions;
  step = λ earlier now. (script part (values_after part first earlier) now.at now.seen).actions;
}
