-- What scripts of participants keep, as far as playing them needs it.
use Rattle.std.proofs.Common.{◌≡◌, ℕ, Bool, true, List, [], ◌∷◌, length, Option, Some, None, refl, arith}
use Rattle.std.specs.Prelude.{◌&&◌}
use Rattle.std.specs.List.{list_all}
use Rattle.std.proofs.lemmas.Bool.{and_parts, and_from}
use Rattle.sk_msg.specs.Rules.{is_step_size}
use Rattle.sk_msg.specs.declared.service.ServiceKind.TheVariants.{Server}
use Rattle.sk_rules.specs.Places.{ScopeValue, is_on_server}
use Rattle.sk_rules.specs.Scripts.{RuleValue, is_action, is_rule, is_fixed, is_append, is_when, is_variable, is_short_payload, appends_to, serves, place_in, is_action_count}
use Rattle.sk_rules.specs.declared.action.ScriptAction.{ScriptAction}
use Rattle.sk_rules.specs.declared.action.ScriptAction.TheVariants.{Fixed, Append, Reply, Set, Add, Take}
use Rattle.sk_rules.specs.declared.place.Place.{Place}
use Rattle.sk_rules.specs.declared.rule.When.{When}
use Rattle.sk_rules.specs.declared.rule.When.TheVariants.{At, Every, On}
use Rattle.sk_machine.specs.Sound.{leaves_room, has_room, has_size, is_sound}

-- what each of a list passes, where it follows from another test
all_pass : {X : Type 0} (test other : X → Bool) → ((x : X) → test x ≡ true → other x ≡ true) → (xs : List X) → list_all test xs ≡ true → list_all other xs ≡ true
all_pass test other f [] h = refl
all_pass test other f (x ∷ xs) h =
    let p = and_parts (test x) (list_all test xs) h in
    and_from (other x) (list_all other xs) (f x p.0) (all_pass test other f xs p.1)

appended_fits : (scope : ScopeValue) (payload : List ℕ) (append : Option ℕ) → is_append scope payload append ≡ true → has_room payload append ≡ true
appended_fits scope payload None h = refl
appended_fits scope payload (Some variable) h = (and_parts (is_variable scope variable) (is_short_payload payload) h).1

action_fits : (scope : ScopeValue) (place : Place) (action : ScriptAction) → is_action scope place action ≡ true → leaves_room action ≡ true
action_fits scope place (Fixed action) h = refl
action_fits scope place (Append action variable) h =
    let more = (and_parts (is_fixed scope place action) (appends_to action && is_variable scope variable) h).1 in
    (and_parts (appends_to action) (is_variable scope variable) more).0
action_fits scope place (Reply service payload append) h =
    let more = (and_parts (is_on_server place (Some service)) (serves scope Server service && is_append scope payload append) h).1 in
    appended_fits scope payload append (and_parts (serves scope Server service) (is_append scope payload append) more).1
action_fits scope place (Set variable value) h = refl
action_fits scope place (Add variable value) h = refl
action_fits scope place (Take variable) h = refl

pub actions_fit : (scope : ScopeValue) (place : Place) (actions : List ScriptAction) → list_all (is_action scope place) actions ≡ true → list_all leaves_room actions ≡ true
actions_fit scope place actions h = all_pass (is_action scope place) leaves_room (action_fits scope place) actions h

size_fits : (scope : ScopeValue) (when : When) → is_when scope when ≡ true → has_size when ≡ true
unfolding is_step_size
size_fits scope (At at) h = refl
size_fits scope (Every size from) h = grind arith
size_fits scope (On service) h = refl

rule_fits : (scope : ScopeValue) (rule : RuleValue) → is_rule scope rule ≡ true → is_sound rule ≡ true
unfolding is_rule
rule_fits scope rule h =
    let p = and_parts (is_when scope rule.when) (is_action_count (length rule.actions) && list_all (is_action scope (place_in scope rule.when)) rule.actions) h in
    let q = and_parts (is_action_count (length rule.actions)) (list_all (is_action scope (place_in scope rule.when)) rule.actions) p.1 in
    and_from (has_size rule.when) (list_all leaves_room rule.actions) (size_fits scope rule.when p.0) (actions_fit scope (place_in scope rule.when) rule.actions q.1)

pub rules_fit : (scope : ScopeValue) (rules : List RuleValue) → list_all (is_rule scope) rules ≡ true → list_all is_sound rules ≡ true
rules_fit scope rules h = all_pass (is_rule scope) is_sound (rule_fits scope) rules h
