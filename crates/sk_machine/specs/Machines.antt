-- What a machine is, as contracts see it.
use Rattle.std.specs.Prelude.{ℕ, List, map}
use Rattle.sk_msg.specs.declared.service.Service.{Service}
use Rattle.sk_msg.specs.declared.service.ServiceKind.{ServiceKind}
use Rattle.sk_rules.specs.Places.{ScopeValue}
use Rattle.sk_rules.specs.Scripts.{RuleValue}
use Rattle.sk_rules.specs.declared.action.ScriptAction.{ScriptAction}
use Rattle.sk_rules.specs.declared.vars.Var.{Var}
use Rattle.sk_machine.specs.declared.play.Play.{Play}
use Rattle.sk_machine.specs.Playing.{PartScript, Played}

-- a participant's script, and the values of its variables
pub record MachineValue : Type 0 where
  pub part : PartScript
  pub values : List ℕ

abbrev pub kinds_of : List Service → List ServiceKind
kinds_of services = map (λ service. service.kind) services

-- the values of variables at first
abbrev pub first_values : List Var → List ℕ
first_values vars = map (λ var. var.value) vars

-- the script of a participant with these services
abbrev pub part_script : ScopeValue → List ScriptAction → List RuleValue → PartScript
part_script scope when_ready rules = record { kinds = kinds_of scope.services; when_ready = when_ready; rules = rules }

-- how far a step came
abbrev pub played : Play → Played
played play = record { values = play.values.items; actions = play.actions.items }
