-- What is written of a participant reads as it.
use Rattle.std.proofs.Common.{◌≡◌, ℕ, ◌^◌, ◌-◌, Bool, true, false, List, [], ◌∷◌, length, Option, Some, None, Ok, refl, ap, ◌∙◌, arith}
use Rattle.std.specs.Prelude.{◌&&◌, nat_le}
use Rattle.std.specs.List.{list_all}
use Rattle.std.proofs.lemmas.Bool.{and_parts, le-leb, ltb-true}
use Rattle.serde_json.specs.Data.{Data}
use Rattle.serde_json.specs.Find.{get}
use Rattle.sk_base.specs.Ranges.{is_name}
use Rattle.sk_msg.specs.Rules.{is_step_size}
use Rattle.sk_msg.specs.declared.service.Service.{Service}
use Rattle.sk_config.specs.Configs.{is_none_or}
use Rattle.sk_config.specs.Paths.{key_at}
use Rattle.sk_rules.specs.Fields.{number_read, word_read}
use Rattle.sk_rules.specs.Places.{ScopeValue}
use Rattle.sk_rules.specs.Rules.{rule_read, rules_read}
use Rattle.sk_rules.specs.Scripts.{RuleValue, is_action, is_rule}
use Rattle.sk_rules.specs.Vars.{are_vars}
use Rattle.sk_rules.specs.declared.action.ScriptAction.{ScriptAction}
use Rattle.sk_rules.specs.declared.place.Place.TheVariants.{Ready}
use Rattle.sk_script.specs.Keys.{knows, name_key, mode_key, step_key, services_key, config_key, vars_key, ready_key, script_key}
use Rattle.sk_script.specs.Parts.{is_coordinated, services_read, ready_read, script_read, config_read, part_read}
use Rattle.sk_script.specs.Scenarios.{PartValue, PartReadValue, scope_of, is_script, is_part}
use Rattle.sk_script.specs.Services.{are_services}
use Rattle.sk_script.specs.Words.{mode_of}
use Rattle.sk_script.specs.declared.keys.Object.TheVariants as objects
use Rattle.sk_script.specs.declared.word.Mode.{Mode}
use Rattle.sk_script.specs.declared.word.Mode.TheVariants.{Autonomous}
use Rattle.sk_script_text.specs.Actions.{action_data, rule_data}
use Rattle.sk_script_text.specs.Fitting.{action_fits, rule_fits, is_held, part_fits}
use Rattle.sk_script_text.specs.Objects.{Field, with_fields, text, list, items}
use Rattle.sk_script_text.specs.Services.{service_data, vars_data}
use Rattle.sk_script_text.specs.Written.{mode_data, step_data, part_data}
use Rattle.sk_script_text.proofs.ActionLaws.{IsNamed}
use Rattle.sk_script_text.proofs.FieldLaws.{or_none, get_of, enters}
use Rattle.sk_script_text.proofs.ListLaws.{count_back, items_back, all_after}
use Rattle.sk_script_text.proofs.RuleLaws.{actions_back, rule_back}
use Rattle.sk_script_text.proofs.ScopeLaws.{all_named}
use Rattle.sk_script_text.proofs.ServiceLaws.{services_back}
use Rattle.sk_script_text.proofs.ValueLaws.{needed_text_back, number_back, no_number_back, word_back, no_word_back, some_list_back, list_or}
use Rattle.sk_script_text.proofs.VarLaws.{own_vars_back}

-- ---- how it takes part

abbrev given_mode : Bool → Option Mode
given_mode true = None
given_mode false = Some Autonomous

mode_back : (path : List ℕ) (d : Data) (coordinated : Bool) → get mode_key d ≡ mode_data coordinated → word_read mode_of path mode_key d ≡ Ok (given_mode coordinated)
unfolding mode_of
mode_back path d true there = no_word_back path mode_key d mode_of there
mode_back path d false there = word_back path mode_key d mode_of _ Autonomous there refl

mode_is : (coordinated : Bool) → is_coordinated (given_mode coordinated) ≡ coordinated
mode_is true = refl
mode_is false = refl

step_back : (path : List ℕ) (d : Data) (step : Option ℕ) → is_none_or is_step_size step ≡ true → get step_key d ≡ step_data step → number_read 1 (2 ^ 60) path step_key d ≡ Ok step
unfolding is_step_size
step_back path d None fine there = no_number_back path step_key d 1 (2 ^ 60) there
step_back path d (Some size) fine there = let p = and_parts (nat_le 1 size) (nat_le size (2 ^ 60)) fine in number_back path step_key d 1 (2 ^ 60) size there p.0 p.1

-- ---- its lists

own_services_back : (path : List ℕ) (d : Data) (services : List Service) → are_services services ≡ true → get services_key d ≡ list (items service_data services) → services_read path d ≡ Ok services
unfolding services_read are_services
own_services_back path d services fine there =
    let p = and_parts _ _ fine in
    let few = ap (λ n. nat_le n 64) (count_back service_data services) ∙ p.0 in
    rw (some_list_back path services_key d 64 (items service_data services) there few, list_or (items service_data services)) (services_back (key_at path services_key) services fine)

ready_back : (scope : ScopeValue) (named : IsNamed scope) (path : List ℕ) (d : Data) (ready : List ScriptAction) → list_all (is_action scope Ready) ready ≡ true → list_all action_fits ready ≡ true → is_held (length ready) ≡ true
    → get ready_key d ≡ list (items (action_data scope) ready) → ready_read scope path d ≡ Ok ready
unfolding ready_read is_held
ready_back scope named path d ready fine fit held there =
    let less = ltb-true (length ready) (2 ^ 64) held in
    let most : nat_le (length ready) (2 ^ 64 - 1) ≡ true = le-leb (length ready) (2 ^ 64 - 1) (omega (arith, less)) in
    let few = ap (λ n. nat_le n (2 ^ 64 - 1)) (count_back (action_data scope) ready) ∙ most in
    rw (some_list_back path ready_key d (2 ^ 64 - 1) (items (action_data scope) ready) there few, list_or (items (action_data scope) ready))
    (actions_back scope named (key_at path ready_key) Ready ready fine fit)

script_back : (scope : ScopeValue) (named : IsNamed scope) (path : List ℕ) (d : Data) (script : List RuleValue) → is_script scope script ≡ true → list_all rule_fits script ≡ true
    → get script_key d ≡ list (items (rule_data scope) script) → script_read scope path d ≡ Ok script
unfolding script_read is_script rules_read
script_back scope named path d script fine fit there =
    let p = and_parts _ _ fine in
    let few = ap (λ n. nat_le n 256) (count_back (rule_data scope) script) ∙ p.0 in
    rw (some_list_back path script_key d 256 (items (rule_data scope) script) there few, list_or (items (rule_data scope) script))
    (items_back (λ at (earlier : List RuleValue) v. rule_read scope at v) (rule_data scope) (λ earlier rule. is_rule scope rule && rule_fits rule)
    (λ at earlier rule both. let q = and_parts _ _ both in rule_back scope named at rule q.0 q.1)
    (key_at path script_key) [] 0 script (all_after (is_rule scope) rule_fits [] script p.1 fit))

-- ---- the whole

-- a participant as it is read where it has no configuration
abbrev pub read_of : PartValue → PartReadValue
read_of part = record { part = part; uri = None; warnings = [] }

-- what is known of a participant
record IsFine (part : PartValue) : Type 0 where
  name : is_name part.name ≡ true
  step : is_none_or is_step_size part.step ≡ true
  services : are_services part.services ≡ true
  vars : are_vars part.vars ≡ true
  ready : list_all (is_action (scope_of part) Ready) part.ready ≡ true
  script : is_script (scope_of part) part.script ≡ true

fine_is : (part : PartValue) → is_part part ≡ true → IsFine part
unfolding is_part
fine_is part h =
    let a = and_parts _ _ h in
    let b = and_parts _ _ a.1 in
    let c = and_parts _ _ b.1 in
    let d = and_parts _ _ c.1 in
    let e = and_parts _ _ d.1 in
    record { name = a.0; step = b.0; services = c.0; vars = d.0; ready = e.0; script = e.1 }

pub part_back : (path : List ℕ) (part : PartValue) → is_part part ≡ true → part_fits part ≡ true → part_read path (part_data part) ≡ Ok (read_of part)
unfolding part_read part_data part_fits knows config_read
part_back path part h fit =
    let fine = fine_is part h in
    let fa = and_parts _ _ fit in
    let fb = and_parts _ _ fa.1 in
    let scope = scope_of part in
    let named = all_named scope fine.services fine.vars in
    let fields : List Field =
    record { key = name_key; value = text part.name }
    ∷ record { key = mode_key; value = mode_data part.coordinated }
    ∷ record { key = step_key; value = step_data part.step }
    ∷ record { key = services_key; value = list (items service_data part.services) }
    ∷ record { key = vars_key; value = vars_data part.vars }
    ∷ record { key = ready_key; value = list (items (action_data scope) part.ready) }
    ∷ record { key = script_key; value = list (items (rule_data scope) part.script) }
    ∷ [] in
    let d = with_fields fields in
    rw (
      enters (knows objects.Participant) path fields refl,
      needed_text_back path name_key d is_name part.name (get_of name_key fields) fine.name,
      mode_back path d part.coordinated (get_of mode_key fields ∙ or_none _),
      step_back path d part.step fine.step (get_of step_key fields ∙ or_none _),
      own_services_back path d part.services fine.services (get_of services_key fields ∙ or_none _),
      get_of config_key fields,
      own_vars_back path d part.vars fine.vars (get_of vars_key fields ∙ or_none _),
      ready_back scope named path d part.ready fine.ready fb.0 fa.0 (get_of ready_key fields ∙ or_none _),
      script_back scope named path d part.script fine.script fb.1 (get_of script_key fields ∙ or_none _),
      mode_is part.coordinated,
    ) refl
