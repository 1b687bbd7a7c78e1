-- What the JSON of a rule reads as.
use Rattle.std.specs.Prelude.{ℕ, ◌^◌, ◌-◌, not, Bool, true, false, List, [], Option, Some, None, unwrap_or, Result, Ok, if◌then◌else◌}
use Rattle.serde_json.specs.Data.{Data, Items}
use Rattle.sk_base.specs.Ranges.{is_name}
use Rattle.sk_config.specs.Json.{text_at}
use Rattle.sk_config.specs.Paths.{key_at}
use Rattle.sk_rules.specs.Outcome.{◌>>=◌, ◌>>◌, must, found}
use Rattle.sk_rules.specs.Fields.{has, object_read, needed_text, needed_number, number_read, list_read, items_read, needed}
use Rattle.sk_rules.specs.Places.{ScopeValue, receiver_of, server_of}
use Rattle.sk_rules.specs.Keys.{knows, do_key, at_key, every_key, from_key, on_key}
use Rattle.sk_rules.specs.Scripts.{RuleValue}
use Rattle.sk_rules.specs.Actions.{actions_read}
use Rattle.sk_rules.specs.declared.action.ScriptAction.{ScriptAction}
use Rattle.sk_rules.specs.declared.fault.Rule.TheVariants as rules
use Rattle.sk_rules.specs.declared.fault.ScenarioFault.{ScenarioFault}
use Rattle.sk_rules.specs.declared.keys.RuleObject.TheVariants as objects
use Rattle.sk_rules.specs.declared.place.Place.{Place}
use Rattle.sk_rules.specs.declared.place.Place.TheVariants.{Timed, On}
use Rattle.sk_rules.specs.declared.rule.Condition.{Condition}
use Rattle.sk_rules.specs.declared.rule.Condition.TheVariants as conditions
use Rattle.sk_rules.specs.declared.rule.When.{When}
use Rattle.sk_rules.specs.declared.rule.When.TheVariants as whens

-- the one condition, by which of the three keys are there
abbrev pub the_condition : Bool → Bool → Bool → Option Condition
the_condition true false false = Some conditions.At
the_condition false true false = Some conditions.Every
the_condition false false true = Some conditions.On
the_condition true true on = None
the_condition true false true = None
the_condition false true true = None
the_condition false false false = None

unfoldable pub condition_of : Data → Option Condition
condition_of d = the_condition (has at_key d) (has every_key d) (has on_key d)

-- `from` stands only beside `every`
abbrev pub may_start : Condition → Bool → Bool
may_start conditions.Every from = true
may_start conditions.At from = not from
may_start conditions.On from = not from

-- the place of the actions: a rule with `on` is one on a server where that key names one
unfoldable pub place_of : ScopeValue → Data → Place
place_of scope d = if has on_key d then On (server_of scope (text_at on_key d)) else Timed

-- the actions, of which there has to be at least one
unfoldable pub do_read : ScopeValue → List ℕ → Data → Result (List ScriptAction) ScenarioFault
do_read scope path d = do
  given ← list_read 1 256 path do_key d
  items ← needed path do_key given
  actions_read scope (place_of scope d) (key_at path do_key) items

unfoldable pub at_read : List ℕ → Data → Result When ScenarioFault
at_read path d = do
  at ← needed_number 0 (2 ^ 62) path at_key d
  Ok (whens.At at)

unfoldable pub every_read : List ℕ → Data → Result When ScenarioFault
every_read path d = do
  size ← needed_number 1 (2 ^ 60) path every_key d
  from ← number_read 0 (2 ^ 64 - 1) path from_key d
  Ok (whens.Every size (unwrap_or from 0))

unfoldable pub on_read : ScopeValue → List ℕ → Data → Result When ScenarioFault
on_read scope path d = do
  name ← needed_text is_name path on_key d
  service ← found (key_at path on_key) rules.NoSuchService (receiver_of scope name)
  Ok (whens.On service)

-- when it is carried out
abbrev pub when_read : ScopeValue → Condition → List ℕ → Data → Result When ScenarioFault
when_read scope conditions.At path d = at_read path d
when_read scope conditions.Every path d = every_read path d
when_read scope conditions.On path d = on_read scope path d

-- a rule: an object without other keys, with one condition, and then its actions and its condition
unfoldable pub rule_read : ScopeValue → List ℕ → Data → Result RuleValue ScenarioFault
rule_read scope path d = do
  object_read (knows objects.Rule) path d
  condition ← found path rules.NotAllowedHere (condition_of d)
  must (key_at path from_key) rules.UnknownKey (may_start condition (has from_key d))
  actions ← do_read scope path d
  when ← when_read scope condition path d
  Ok (record { when = when; actions = actions })

-- the rules of a list
unfoldable pub rules_read : ScopeValue → List ℕ → Items → Result (List RuleValue) ScenarioFault
rules_read scope path ds = items_read (λ at earlier d. rule_read scope at d) path [] 0 ds
