-- Rules that were read keep the rules of scripts.
use Rattle.std.proofs.Common.{◌≡◌, ℕ, ◌^◌, ◌-◌, ◌≤◌, Bool, true, false, List, [], length, Option, Some, None, Ok, refl, ap, subst, ◌∙◌, arith}
use Rattle.std.specs.Prelude.{◌&&◌, unwrap_or}
use Rattle.std.specs.List.{list_all}
use Rattle.std.proofs.lemmas.Bool.{and_from, le-leb, lt-ltb}
use Rattle.serde_json.specs.Data.{Data, Items}
use Rattle.serde_json.specs.Events.{items_len}
use Rattle.sk_base.specs.Ranges.{is_name, is_time}
use Rattle.sk_msg.specs.Rules.{is_step_size}
use Rattle.sk_config.specs.Json.{text_at, list_at, list_fault}
use Rattle.sk_config.specs.Paths.{key_at}
use Rattle.sk_rules.specs.Faults.{scenario_faults}
use Rattle.sk_rules.specs.Outcome.{must, found}
use Rattle.sk_rules.specs.Fields.{has, object_read, needed_text, needed_number, number_read, list_read, needed}
use Rattle.sk_rules.specs.Keys.{knows, do_key, at_key, every_key, from_key, on_key}
use Rattle.sk_rules.specs.Places.{ScopeValue, are_own, receiver_of, server_of}
use Rattle.sk_rules.specs.Scripts.{RuleValue, is_u64, is_action, is_action_count, is_when, place_in, is_rule}
use Rattle.sk_rules.specs.Rules.{the_condition, condition_of, may_start, place_of, do_read, at_read, every_read, on_read, when_read, rule_read, rules_read}
use Rattle.sk_rules.specs.declared.action.ScriptAction.{ScriptAction}
use Rattle.sk_rules.specs.declared.fault.Rule.TheVariants as rules
use Rattle.sk_rules.specs.declared.keys.RuleObject.TheVariants as objects
use Rattle.sk_rules.specs.declared.place.Place.{Place}
use Rattle.sk_rules.specs.declared.place.Place.TheVariants.{Timed, On}
use Rattle.sk_rules.specs.declared.rule.Condition.{Condition}
use Rattle.sk_rules.specs.declared.rule.Condition.TheVariants as conditions
use Rattle.sk_rules.specs.declared.rule.When.{When}
use Rattle.sk_rules.proofs.OutcomeLaws.{then_ok, after_ok, checked_ok, found_ok, ok_is}
use Rattle.sk_rules.proofs.JsonLaws.{count_in_range}
use Rattle.sk_rules.proofs.FieldLaws.{number_within, needed_within}
use Rattle.sk_rules.proofs.ItemLaws.{items_pass}
use Rattle.sk_rules.proofs.ServiceLaws.{receiver_receives, receiver_server}
use Rattle.sk_rules.proofs.ActionRules.{needed_text_is, text_there, actions_keep, actions_number}

-- ---- the actions

-- a list that was read has so many items
items_within : (least most : ℕ) (path key : List ℕ) (d : Data) (ds : Items) → list_read least most path key d ≡ Ok (Some ds) → (least ≤ items_len ds) × (items_len ds ≤ most)
unfolding list_read
items_within least most path key d ds e =
    let parts = checked_ok (list_fault scenario_faults least most path key d) (list_at key d) (Some ds) e in
    count_in_range least most path key d ds parts.0 parts.1

-- the actions that were read are 1 to 256, and keep the rules of their place
do_keeps : (scope : ScopeValue) (path : List ℕ) (d : Data) (actions : List ScriptAction) → do_read scope path d ≡ Ok actions
    → (is_action_count (length actions) ≡ true) × (list_all (is_action scope (place_of scope d)) actions ≡ true)
unfolding do_read is_action_count
do_keeps scope path d actions e =
    then_ok (list_read 1 256 path do_key d) _ actions e
    (λ given given_is rest. then_ok (needed path do_key given) _ actions rest
    (λ items items_is rest.
    let there = subst (λ (o : Option Items). list_read 1 256 path do_key d ≡ Ok o) (found_ok _ _ given items items_is) given_is in
    let range = items_within 1 256 path do_key d items there in
    let count = actions_number scope (place_of scope d) (key_at path do_key) items actions rest in (
      and_from _ _ (le-leb 1 (length actions) (omega (arith, range.0, count))) (le-leb (length actions) 256 (omega (arith, range.1, count))),
      actions_keep scope (place_of scope d) (key_at path do_key) items actions rest,
    )))

-- ---- when it is carried out

-- beside `at` and `every` no `on` stands
at_alone : (at every on : Bool) → the_condition at every on ≡ Some conditions.At → on ≡ false
at_alone at every false e = refl
at_alone true true true e = absurd cc
at_alone true false true e = absurd cc
at_alone false true true e = absurd cc
at_alone false false true e = absurd cc

every_alone : (at every on : Bool) → the_condition at every on ≡ Some conditions.Every → on ≡ false
every_alone at every false e = refl
every_alone true true true e = absurd cc
every_alone true false true e = absurd cc
every_alone false true true e = absurd cc
every_alone false false true e = absurd cc

-- without `on` the actions are those of a time
timed : (scope : ScopeValue) (d : Data) → has on_key d ≡ false → place_of scope d ≡ Timed
unfolding place_of
timed scope d none = rw none refl

-- with `on` they are those of the server that it names
on_server : (scope : ScopeValue) (d : Data) (name : List ℕ) → text_at on_key d ≡ Some name → place_of scope d ≡ On (server_of scope (Some name))
unfolding place_of
on_server scope d name there = rw (text_there on_key d name there) (ap (λ (o : Option (List ℕ)). On (server_of scope o)) there)

-- it passes its test, and the actions stand where it says
abbrev Keeps : ScopeValue → Data → When → Type 0
Keeps scope d when = (is_when scope when ≡ true) × (place_of scope d ≡ place_in scope when)

at_keeps : (scope : ScopeValue) (path : List ℕ) (d : Data) (when : When) → has on_key d ≡ false → at_read path d ≡ Ok when → Keeps scope d when
unfolding at_read is_time
at_keeps scope path d when none e =
    then_ok (needed_number 0 (2 ^ 62) path at_key d) _ when e
    (λ at read same.
    let range = needed_within 0 (2 ^ 62) path at_key d at read in
    subst (λ (w : When). Keeps scope d w) (ok_is _ _ same) (le-leb at (2 ^ 62) range.1, timed scope d none))

-- the number from which a rule is carried out fits
from_fits : (path : List ℕ) (d : Data) (from : Option ℕ) → number_read 0 (2 ^ 64 - 1) path from_key d ≡ Ok from → is_u64 (unwrap_or from 0) ≡ true
unfolding is_u64
from_fits path d None e = refl
from_fits path d (Some n) e = let range = number_within 0 (2 ^ 64 - 1) path from_key d n e in lt-ltb n (2 ^ 64) (omega (arith, range.1))

every_keeps : (scope : ScopeValue) (path : List ℕ) (d : Data) (when : When) → has on_key d ≡ false → every_read path d ≡ Ok when → Keeps scope d when
unfolding every_read is_step_size
every_keeps scope path d when none e =
    then_ok (needed_number 1 (2 ^ 60) path every_key d) _ when e
    (λ size size_is rest. then_ok (number_read 0 (2 ^ 64 - 1) path from_key d) _ when rest
    (λ from from_is same.
    let range = needed_within 1 (2 ^ 60) path every_key d size size_is in
    subst (λ (w : When). Keeps scope d w) (ok_is _ _ same)
    (and_from _ _ (and_from _ _ (le-leb 1 size range.0) (le-leb size (2 ^ 60) range.1)) (from_fits path d from from_is), timed scope d none)))

on_keeps : (scope : ScopeValue) (path : List ℕ) (d : Data) (when : When) → are_own scope.services ≡ true → on_read scope path d ≡ Ok when → Keeps scope d when
unfolding on_read
on_keeps scope path d when own e =
    then_ok (needed_text is_name path on_key d) _ when e
    (λ name read rest. then_ok (found (key_at path on_key) rules.NoSuchService (receiver_of scope name)) _ when rest
    (λ service is same.
    let receiver = found_ok _ _ _ service is in
    subst (λ (w : When). Keeps scope d w) (ok_is _ _ same)
    (receiver_receives scope name service receiver, on_server scope d name (needed_text_is is_name path on_key d name read) ∙ ap On (receiver_server scope name service own receiver))))

when_keeps : (scope : ScopeValue) (condition : Condition) (path : List ℕ) (d : Data) (when : When) → are_own scope.services ≡ true → condition_of d ≡ Some condition → when_read scope condition path d ≡ Ok when → Keeps scope d when
unfolding condition_of
when_keeps scope conditions.At path d when own is e = at_keeps scope path d when (at_alone (has at_key d) (has every_key d) (has on_key d) is) e
when_keeps scope conditions.Every path d when own is e = every_keeps scope path d when (every_alone (has at_key d) (has every_key d) (has on_key d) is) e
when_keeps scope conditions.On path d when own is e = on_keeps scope path d when own e

-- ---- a rule, and a list of them

rule_keeps : (scope : ScopeValue) (path : List ℕ) (d : Data) (rule : RuleValue) → are_own scope.services ≡ true → rule_read scope path d ≡ Ok rule → is_rule scope rule ≡ true
unfolding rule_read is_rule
rule_keeps scope path d rule own e =
    after_ok (object_read (knows objects.Rule) path d) _ rule e
    (λ x read rest. then_ok (found path rules.NotAllowedHere (condition_of d)) _ rule rest
    (λ condition condition_is rest. after_ok (must (key_at path from_key) rules.UnknownKey (may_start condition (has from_key d))) _ rule rest
    (λ y may rest. then_ok (do_read scope path d) _ rule rest
    (λ actions actions_are rest. then_ok (when_read scope condition path d) _ rule rest
    (λ when when_is same.
    let done = do_keeps scope path d actions actions_are in
    let kept = when_keeps scope condition path d when own (found_ok _ _ _ condition condition_is) when_is in
    subst (λ (r : RuleValue). (is_when scope r.when && (is_action_count (length r.actions) && list_all (is_action scope (place_in scope r.when)) r.actions)) ≡ true) (ok_is _ _ same)
    (and_from _ _ kept.0 (and_from _ _ done.0 (subst (λ (place : Place). list_all (is_action scope place) actions ≡ true) kept.1 done.1))))))))

pub rules_keep : (scope : ScopeValue) (path : List ℕ) (ds : Items) (rules : List RuleValue) → are_own scope.services ≡ true → rules_read scope path ds ≡ Ok rules → list_all (is_rule scope) rules ≡ true
unfolding rules_read
rules_keep scope path ds rules own e =
    items_pass (λ at earlier d. rule_read scope at d) (is_rule scope) (λ at earlier d rule read. rule_keeps scope at d rule own read) path [] 0 ds rules e refl
