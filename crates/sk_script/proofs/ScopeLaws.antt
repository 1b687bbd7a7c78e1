-- What a script may do goes by the numbers and kinds of the services, and by how many variables there are.
use Rattle.std.proofs.Common.{◌≡◌, ℕ, List, [], ◌∷◌, Option, Some, None, refl}
use Rattle.std.specs.List.{list_all}
use Rattle.sk_msg.specs.declared.action.Action.{Action}
use Rattle.sk_msg.specs.declared.action.Action.TheVariants as act
use Rattle.sk_msg.specs.declared.service.ServiceKind.{ServiceKind}
use Rattle.sk_msg.specs.declared.service.ServiceKind.TheVariants.{Can, Ethernet, Lin, Publisher, Server, Client}
use Rattle.sk_rules.specs.Places.{ScopeValue}
use Rattle.sk_rules.specs.Scripts.{RuleValue, serves, receives, is_variable, is_fixed, is_append, is_action, is_when, place_in, is_rule}
use Rattle.sk_rules.specs.declared.action.ScriptAction.{ScriptAction}
use Rattle.sk_rules.specs.declared.action.ScriptAction.TheVariants.{Fixed, Append, Reply, Set, Add, Take}
use Rattle.sk_rules.specs.declared.place.Place.{Place}
use Rattle.sk_rules.specs.declared.rule.When.{When}
use Rattle.sk_rules.specs.declared.rule.When.TheVariants as whens

module _ (one other : ScopeValue) (served : (kind : ServiceKind) (id : ℕ) → serves one kind id ≡ serves other kind id) (heard : (id : ℕ) → receives one id ≡ receives other id)
    (held : (variable : ℕ) → is_variable one variable ≡ is_variable other variable) where
  fixed_same : (place : Place) (action : Action) → is_fixed one place action ≡ is_fixed other place action
  fixed_same place (act.CanBaud s rate) = rw (served Can s) refl
  fixed_same place (act.CanStart s) = served Can s
  fixed_same place (act.CanStop s) = served Can s
  fixed_same place (act.CanReset s) = served Can s
  fixed_same place (act.CanSleep s) = served Can s
  fixed_same place (act.CanSend s frame) = rw (served Can s) refl
  fixed_same place (act.EthActivate s) = served Ethernet s
  fixed_same place (act.EthDeactivate s) = served Ethernet s
  fixed_same place (act.EthSend s bytes) = rw (served Ethernet s) refl
  fixed_same place (act.LinInit s role) = served Lin s
  fixed_same place (act.LinSetResponse s response) = rw (served Lin s) refl
  fixed_same place (act.LinHeader s id) = rw (served Lin s) refl
  fixed_same place (act.LinSendFrame s response) = rw (served Lin s) refl
  fixed_same place (act.LinSleep s) = served Lin s
  fixed_same place (act.LinWakeup s) = served Lin s
  fixed_same place (act.Publish s bytes) = rw (served Publisher s) refl
  fixed_same place (act.Call s bytes) = rw (served Client s) refl
  fixed_same place (act.Submit s peer client call bytes) = refl
  fixed_same place (act.Ask command) = refl
  fixed_same place (act.PauseFor turns) = refl

  append_same : (bytes : List ℕ) (append : Option ℕ) → is_append one bytes append ≡ is_append other bytes append
  append_same bytes None = refl
  append_same bytes (Some variable) = rw (held variable) refl

  action_same : (place : Place) (action : ScriptAction) → is_action one place action ≡ is_action other place action
  action_same place (Fixed action) = fixed_same place action
  action_same place (Append action variable) = rw (fixed_same place action, held variable) refl
  action_same place (Reply s bytes append) = rw (served Server s, append_same bytes append) refl
  action_same place (Set variable value) = rw (held variable) refl
  action_same place (Add variable value) = rw (held variable) refl
  action_same place (Take variable) = rw (held variable) refl

  pub actions_same : (place : Place) (actions : List ScriptAction) → list_all (is_action one place) actions ≡ list_all (is_action other place) actions
  actions_same place [] = refl
  actions_same place (action ∷ actions) = rw (action_same place action, actions_same place actions) refl

  when_same : (when : When) → is_when one when ≡ is_when other when
  when_same (whens.At at) = refl
  when_same (whens.Every size from) = refl
  when_same (whens.On s) = heard s

  place_same : (when : When) → place_in one when ≡ place_in other when
  place_same (whens.At at) = refl
  place_same (whens.Every size from) = refl
  place_same (whens.On s) = rw (served Server s) refl

  rule_same : (rule : RuleValue) → is_rule one rule ≡ is_rule other rule
  unfolding is_rule
  rule_same rule = rw (when_same rule.when, place_same rule.when, actions_same (place_in other rule.when) rule.actions) refl

  pub rules_same : (rules : List RuleValue) → list_all (is_rule one) rules ≡ list_all (is_rule other) rules
  rules_same [] = refl
  rules_same (rule ∷ rules) = rw (rule_same rule, rules_same rules) refl
