-- A participant that was read keeps the rules of participants.
use Rattle.std.proofs.Common.{◌≡◌, ℕ, ◌^◌, ◌-◌, ◌++◌, Bool, true, List, [], ◌∷◌, length, map, Option, Some, None, Ok, refl, ◌∙◌, arith}
use Rattle.std.specs.Prelude.{IfSome, IsTrue, not, nat_le, unwrap_or}
use Rattle.std.specs.List.{list_all}
use Rattle.std.proofs.lemmas.Bool.{and_from, and_parts, le-leb}
use Rattle.serde_json.specs.Data.{Data, Items, no_items}
use Rattle.sk_base.specs.Ranges.{is_name}
use Rattle.sk_msg.specs.Each.{each_after}
use Rattle.sk_msg.specs.Rules.{is_step_size}
use Rattle.sk_msg.specs.declared.service.Service.{Service}
use Rattle.sk_msg.specs.declared.service.ServiceKind.{ServiceKind}
use Rattle.sk_msg.specs.declared.service.ServiceKind.TheVariants.{Publisher}
use Rattle.sk_config.specs.Applied.{is_kind, overridden}
use Rattle.sk_config.specs.Configs.{is_none_or, is_config}
use Rattle.sk_config.specs.Paths.{key_at}
use Rattle.sk_config.specs.declared.config.ConfigRead.{ConfigRead}
use Rattle.sk_rules.specs.Actions.{actions_read}
use Rattle.sk_rules.specs.Fields.{needed_text, number_read, list_read}
use Rattle.sk_rules.specs.Places.{ScopeValue, is_next_own, are_own}
use Rattle.sk_rules.specs.Rules.{rule_read, rules_read}
use Rattle.sk_rules.specs.Scripts.{RuleValue, serves, receives, is_variable, is_action, is_rule}
use Rattle.sk_rules.specs.Vars.{are_vars}
use Rattle.sk_rules.specs.declared.action.ScriptAction.{ScriptAction}
use Rattle.sk_rules.specs.declared.place.Place.{Place}
use Rattle.sk_rules.specs.declared.place.Place.TheVariants.{Ready}
use Rattle.sk_rules.specs.declared.vars.Var.{Var}
use Rattle.sk_script.specs.Keys.{name_key, step_key, services_key, ready_key, script_key}
use Rattle.sk_script.specs.Parts.{services_read, ready_read, script_read, applied, made, scoped}
use Rattle.sk_script.specs.Scenarios.{is_script, is_part}
use Rattle.sk_script.specs.Services.{is_next_service, are_services, services_in}
use Rattle.sk_script.proofs.OutcomeLaws.{then_ok}
use Rattle.sk_script.proofs.FieldLaws.{needed_fine, number_within, list_within}
use Rattle.sk_script.proofs.ItemLaws.{items_number}
use Rattle.sk_script.proofs.ServiceLaws.{services_are}
use Rattle.sk_script.proofs.ConfiguredLaws.{services_kept, own_same}
use Rattle.sk_script.proofs.ScopeLaws.{actions_same, rules_same}

-- the laws of scripts that this goes by
abbrev pub ActionsKeep : Type 0
ActionsKeep = (scope : ScopeValue) (place : Place) (path : List ℕ) (ds : Items) (actions : List ScriptAction) → actions_read scope place path ds ≡ Ok actions → IsTrue (list_all (is_action scope place) actions)

abbrev pub RulesKeep : Type 0
RulesKeep = (scope : ScopeValue) (path : List ℕ) (ds : Items) (rules : List RuleValue) → IsTrue (are_own scope.services) → rules_read scope path ds ≡ Ok rules → IsTrue (list_all (is_rule scope) rules)

-- ---- what was read at each key

step_is : (path : List ℕ) (d : Data) (step : Option ℕ) → number_read 1 (2 ^ 60) path step_key d ≡ Ok step → is_none_or is_step_size step ≡ true
unfolding is_step_size
step_is path d None e = refl
step_is path d (Some n) e = let range = number_within 1 (2 ^ 60) path step_key d n e in and_from _ _ (le-leb 1 n range.0) (le-leb n (2 ^ 60) range.1)

own_services_are : (path : List ℕ) (d : Data) (services : List Service) → services_read path d ≡ Ok services → are_services services ≡ true
unfolding services_read
own_services_are path d services e =
    then_ok (list_read 0 64 path services_key d) _ services e
    (λ given listed read. by_given given listed read)
  where
    by_given : (given : Option Items) → list_read 0 64 path services_key d ≡ Ok given → services_in (key_at path services_key) (unwrap_or given no_items) ≡ Ok services → are_services services ≡ true
    by_given None listed read = services_are (key_at path services_key) no_items services (omega arith) read
    by_given (Some ds) listed read = services_are (key_at path services_key) ds services (list_within 0 64 path services_key d ds listed).1 read

each_own : (before services : List Service) → each_after is_next_service before services ≡ true → each_after is_next_own before services ≡ true
unfolding is_next_service
each_own before [] all = refl
each_own before (service ∷ services) all =
    let both = and_parts _ _ all in
    and_from _ _ (and_parts _ _ both.0).0 (each_own (before ++ service ∷ []) services both.1)

-- numbers count and names differ
pub services_own : (services : List Service) → are_services services ≡ true → are_own services ≡ true
unfolding are_services are_own
services_own services fine = each_own [] services (and_parts _ _ fine).1

ready_is : ActionsKeep → (scope : ScopeValue) (path : List ℕ) (d : Data) (ready : List ScriptAction) → ready_read scope path d ≡ Ok ready → list_all (is_action scope Ready) ready ≡ true
unfolding ready_read
ready_is keep scope path d ready e =
    then_ok (list_read 0 (2 ^ 64 - 1) path ready_key d) _ ready e
    (λ given listed read. keep scope Ready (key_at path ready_key) (unwrap_or given no_items) ready read)

script_is : RulesKeep → (scope : ScopeValue) (path : List ℕ) (d : Data) (script : List RuleValue) → are_own scope.services ≡ true → script_read scope path d ≡ Ok script → is_script scope script ≡ true
unfolding script_read is_script rules_read
script_is keep scope path d script own e =
    then_ok (list_read 0 256 path script_key d) _ script e
    (λ given listed read. and_from _ _ (by_given given listed read) (keep scope (key_at path script_key) (unwrap_or given no_items) script own read))
  where
    by_given : (given : Option Items) → list_read 0 256 path script_key d ≡ Ok given → rules_read scope (key_at path script_key) (unwrap_or given no_items) ≡ Ok script → nat_le (length script) 256 ≡ true
    by_given None listed read =
        let count = items_number (λ at (earlier : List RuleValue) v. rule_read scope at v) (key_at path script_key) [] 0 no_items script read in
        le-leb (length script) 256 (omega (arith, count))
    by_given (Some ds) listed read =
        let count = items_number (λ at (earlier : List RuleValue) v. rule_read scope at v) (key_at path script_key) [] 0 ds script read in
        let range = list_within 0 256 path script_key d ds listed in
        le-leb (length script) 256 (omega (arith, count, range.1))

-- ---- a participant

module _ (path : List ℕ) (d : Data) (place name : List ℕ) (coordinated : Bool) (step : Option ℕ) (services : List Service) (vars : List Var) (ready : List ScriptAction) (script : List RuleValue)
    (named : needed_text is_name path name_key d ≡ Ok name) (stepped : number_read 1 (2 ^ 60) path step_key d ≡ Ok step) (offered : services_read path d ≡ Ok services) (held : are_vars vars ≡ true)
    (readied : ready_read (scoped services vars) path d ≡ Ok ready) (scripted : script_read (scoped services vars) path d ≡ Ok script) (actions_keep : ActionsKeep) (rules_keep : RulesKeep) where
  services_fine : are_services services ≡ true
  services_fine = own_services_are path d services offered

  ready_fine : list_all (is_action (scoped services vars) Ready) ready ≡ true
  ready_fine = ready_is actions_keep (scoped services vars) path d ready readied

  script_fine : is_script (scoped services vars) script ≡ true
  script_fine = script_is rules_keep (scoped services vars) path d script (services_own services services_fine) scripted

  plain_rules : is_part (made (applied place None name services) coordinated step vars ready script).part ≡ true
  unfolding is_part
  plain_rules =
      and_from _ _ (needed_fine is_name path name_key d name named)
      (and_from _ _ (step_is path d step stepped) (and_from _ _ services_fine (and_from _ _ held (and_from _ _ ready_fine script_fine))))

  name_or : (given : Option (List ℕ)) → is_none_or is_name given ≡ true → is_name (unwrap_or given name) ≡ true
  name_or None h = needed_fine is_name path name_key d name named
  name_or (Some text) h = h

  configured_rules : (read : ConfigRead) → is_config read.config ≡ true → is_part (made (applied place (Some read) name services) coordinated step vars ready script).part ≡ true
  unfolding is_part is_config is_script serves receives is_variable
  configured_rules read h =
      let other : ScopeValue = scoped (map (overridden read.config) services) vars in
      let served : (kind : ServiceKind) (id : ℕ) → serves other kind id ≡ serves (scoped services vars) kind id = λ kind id. own_same read.config (λ one. is_kind one kind) services id in
      let heard : (id : ℕ) → receives other id ≡ receives (scoped services vars) id = λ id. own_same read.config (λ one. not (is_kind one Publisher)) services id in
      and_from _ _ (name_or read.config.participant_name (and_parts _ _ h).0)
      (and_from _ _ (step_is path d step stepped)
      (and_from _ _ (services_kept read.config services h services_fine)
      (and_from _ _ held
      (and_from _ _ (actions_same other (scoped services vars) served heard (λ variable. refl) Ready ready ∙ ready_fine)
      (and_from _ _ (and_parts _ _ script_fine).0 (rules_same other (scoped services vars) served heard (λ variable. refl) script ∙ (and_parts _ _ script_fine).1))))))

  pub part_rules : (config : Option ConfigRead) → IfSome config (λ read. IsTrue (is_config read.config)) → is_part (made (applied place config name services) coordinated step vars ready script).part ≡ true
  part_rules None h = plain_rules
  part_rules (Some read) h = configured_rules read h
