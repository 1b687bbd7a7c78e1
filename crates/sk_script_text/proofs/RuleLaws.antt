-- What is written of a rule reads as it.
use Rattle.std.proofs.Common.{◌≡◌, ℕ, ◌^◌, ◌-◌, true, List, [], ◌∷◌, length, Some, Ok, refl, sym, subst, ap, ◌∙◌}
use Rattle.std.specs.Prelude.{◌&&◌, nat_le}
use Rattle.std.specs.List.{list_all}
use Rattle.std.proofs.lemmas.Bool.{and_parts}
use Rattle.serde_json.specs.Data.{Data, array}
use Rattle.serde_json.specs.Find.{get}
use Rattle.sk_base.specs.Ranges.{is_name, is_time}
use Rattle.sk_msg.specs.Rules.{is_step_size}
use Rattle.sk_config.specs.Paths.{key_at}
use Rattle.sk_rules.specs.Actions.{action_read, actions_read}
use Rattle.sk_rules.specs.Keys.{knows, do_key, at_key, every_key, from_key, on_key}
use Rattle.sk_rules.specs.Places.{ScopeValue, server_of}
use Rattle.sk_rules.specs.Rules.{condition_of, place_of, do_read, at_read, every_read, on_read, rule_read}
use Rattle.sk_rules.specs.Scripts.{RuleValue, is_u64, is_action, is_when, place_in, is_action_count, is_rule, receives}
use Rattle.sk_rules.specs.declared.action.ScriptAction.{ScriptAction}
use Rattle.sk_rules.specs.declared.keys.RuleObject.TheVariants as objects
use Rattle.sk_rules.specs.declared.place.Place.{Place}
use Rattle.sk_rules.specs.declared.place.Place.TheVariants.{Timed}
use Rattle.sk_rules.specs.declared.rule.When.{When}
use Rattle.sk_rules.specs.declared.rule.When.TheVariants as whens
use Rattle.sk_script_text.specs.Actions.{service_name, action_data, when_fields, rule_data}
use Rattle.sk_script_text.specs.Fitting.{action_fits, rule_fits}
use Rattle.sk_script_text.specs.Objects.{Field, with_fields, items}
use Rattle.sk_script_text.proofs.ActionLaws.{IsNamed, u64_within, least, action_back}
use Rattle.sk_script_text.proofs.FieldLaws.{or_none, get_of, has_of, enters}
use Rattle.sk_script_text.proofs.ListLaws.{count_back, items_back, all_after}
use Rattle.sk_script_text.proofs.ValueLaws.{number_or, needed_number_back, some_number_back, needed_text_back, list_back}

module _ (scope : ScopeValue) (named_all : IsNamed scope) (path : List ℕ) where
  pub actions_back : (place : Place) (actions : List ScriptAction) → list_all (is_action scope place) actions ≡ true → list_all action_fits actions ≡ true
      → actions_read scope place path (items (action_data scope) actions) ≡ Ok actions
  unfolding actions_read
  actions_back place actions fine fit =
      items_back (λ at (earlier : List ScriptAction) d. action_read scope place at d) (action_data scope) (λ earlier action. is_action scope place action && action_fits action)
      (λ at earlier action both. let p = and_parts _ _ both in action_back scope named_all place at action p.0 p.1)
      path [] 0 actions (all_after (is_action scope place) action_fits [] actions fine fit)

module _ (scope : ScopeValue) (named_all : IsNamed scope) (path : List ℕ) (actions : List ScriptAction) where
  -- what is done
  abbrev do_field : Field
  do_field = record { key = do_key; value = Some (array (items (action_data scope) actions)) }

  do_back : (place : Place) (d : Data) → is_action_count (length actions) ≡ true → list_all (is_action scope place) actions ≡ true → list_all action_fits actions ≡ true
      → get do_key d ≡ Some (array (items (action_data scope) actions)) → place_of scope d ≡ place → do_read scope path d ≡ Ok actions
  unfolding do_read is_action_count
  do_back place d count fine fit there here =
      let range = and_parts _ _ count in
      let many = count_back (action_data scope) actions in
      rw (
        list_back path do_key d 1 256 (items (action_data scope) actions) there (ap (nat_le 1) many ∙ range.0) (ap (λ n. nat_le n 256) many ∙ range.1),
        here,
        actions_back scope named_all (key_at path do_key) place actions fine fit,
      ) refl

  time_fine : (at : ℕ) → is_time at ≡ true → nat_le at (2 ^ 62) ≡ true
  unfolding is_time
  time_fine at h = h

  size_fine : (size : ℕ) → is_step_size size ≡ true → (nat_le 1 size ≡ true) × (nat_le size (2 ^ 60) ≡ true)
  unfolding is_step_size
  size_fine size h = and_parts _ _ h

  -- what is known of the actions of a rule carried out then
  abbrev AreFine : When → Type 0
  AreFine when = (is_action_count (length actions) ≡ true) × (list_all (is_action scope (place_in scope when)) actions ≡ true) × (list_all action_fits actions ≡ true)

  at_back : (at : ℕ) → is_time at ≡ true → AreFine (whens.At at) → rule_read scope path (rule_data scope (record { when = whens.At at; actions = actions })) ≡ Ok (record { when = whens.At at; actions = actions })
  unfolding rule_read rule_data condition_of at_read place_of knows
  at_back at fine h =
      let fields = do_field ∷ when_fields scope (whens.At at) in
      let d = with_fields fields in
      rw (
        enters (knows objects.Rule) path fields refl,
        has_of at_key fields,
        has_of every_key fields,
        has_of on_key fields,
        has_of from_key fields,
        do_back Timed d h.0 h.1 h.2 (get_of do_key fields) (rw (has_of on_key fields) refl),
        needed_number_back path at_key d 0 (2 ^ 62) at (get_of at_key fields) (least at) (time_fine at fine),
      ) refl

  every_back : (size from : ℕ) → is_step_size size ≡ true → is_u64 from ≡ true → AreFine (whens.Every size from)
      → rule_read scope path (rule_data scope (record { when = whens.Every size from; actions = actions })) ≡ Ok (record { when = whens.Every size from; actions = actions })
  unfolding rule_read rule_data condition_of every_read place_of knows
  every_back size from sized small h =
      let fields = do_field ∷ when_fields scope (whens.Every size from) in
      let d = with_fields fields in
      let range = size_fine size sized in
      rw (
        enters (knows objects.Rule) path fields refl,
        has_of at_key fields,
        has_of every_key fields,
        has_of on_key fields,
        do_back Timed d h.0 h.1 h.2 (get_of do_key fields) (rw (has_of on_key fields) refl),
        needed_number_back path every_key d 1 (2 ^ 60) size (get_of every_key fields) range.0 range.1,
        some_number_back path from_key d (2 ^ 64 - 1) from (get_of from_key fields ∙ or_none _) (u64_within from small),
        number_or from,
      ) refl

  on_back : (s : ℕ) → receives scope s ≡ true → AreFine (whens.On s) → rule_read scope path (rule_data scope (record { when = whens.On s; actions = actions })) ≡ Ok (record { when = whens.On s; actions = actions })
  unfolding rule_read rule_data condition_of on_read place_of knows server_of
  on_back s receiving h =
      let fields = do_field ∷ when_fields scope (whens.On s) in
      let d = with_fields fields in
      let named = named_all.received s receiving in
      rw (
        enters (knows objects.Rule) path fields refl,
        has_of at_key fields,
        has_of every_key fields,
        has_of on_key fields,
        has_of from_key fields,
        do_back (place_in scope (whens.On s)) d h.0 h.1 h.2 (get_of do_key fields) (rw (has_of on_key fields, get_of on_key fields, named_all.server s receiving) refl),
        needed_text_back path on_key d is_name (service_name scope s) (get_of on_key fields) named.0,
        named.1,
      ) refl

module _ (scope : ScopeValue) (named_all : IsNamed scope) (path : List ℕ) where
  pub rule_back : (rule : RuleValue) → is_rule scope rule ≡ true → rule_fits rule ≡ true → rule_read scope path (rule_data scope rule) ≡ Ok rule
  unfolding is_rule
  rule_back rule fine fit = let p = and_parts _ _ fine in let q = and_parts _ _ p.1 in by_when rule.when refl p.0 (q.0, q.1, fit)
    where
      by_when : (when : When) → rule.when ≡ when → is_when scope rule.when ≡ true → AreFine scope named_all path rule.actions rule.when → rule_read scope path (rule_data scope rule) ≡ Ok rule
      by_when when e w h = go when (subst (λ (x : When). is_when scope x ≡ true) e w) (subst (λ (x : When). AreFine scope named_all path rule.actions x) e h)
          (λ j. record { when = sym e j; actions = rule.actions })
        where
          go : (when : When) → is_when scope when ≡ true → AreFine scope named_all path rule.actions when → record { when = when; actions = rule.actions } ≡ rule → rule_read scope path (rule_data scope rule) ≡ Ok rule
          go (whens.At at) w h same = subst (λ (r : RuleValue). rule_read scope path (rule_data scope r) ≡ Ok r) same (at_back scope named_all path rule.actions at w h)
          go (whens.Every size from) w h same = let p = and_parts _ _ w in subst (λ (r : RuleValue). rule_read scope path (rule_data scope r) ≡ Ok r) same (every_back scope named_all path rule.actions size from p.0 p.1 h)
          go (whens.On s) w h same = subst (λ (r : RuleValue). rule_read scope path (rule_data scope r) ≡ Ok r) same (on_back scope named_all path rule.actions s w h)
