-- What is written has no floats and nests only a few levels deep, so its text reads as it.
use Rattle.std.proofs.Common.{◌≡◌, ℕ, zero, suc, ◌≤◌, Bool, true, false, List, [], ◌∷◌, Option, Some, None, Ordering, Less, Equal, Greater, nat_cmp, option_map, map, refl, arith}
use Rattle.std.specs.Prelude.{◌&&◌, if◌then◌else◌}
use Rattle.std.specs.Str.{bytes_eq}
use Rattle.std.specs.Cmp.Lexicographic.{slice_cmp}
use Rattle.std.specs.Ordering.{match_ordering}
use Rattle.std.proofs.lemmas.Bool.{or_parts}
use Rattle.serde_json.specs.Data.{Data, string, array, Items, no_items, item, Members, no_members, member, put, depth, items_depth, members_depth}
use Rattle.serde_json.specs.Read.{max_depth}
use Rattle.serde_json.specs.Written.{has_float, items_have_float, members_have_float}
use Rattle.sk_msg.specs.declared.action.Action.{Action}
use Rattle.sk_msg.specs.declared.action.Action.TheVariants as act
use Rattle.sk_msg.specs.declared.command.Command.{Command}
use Rattle.sk_msg.specs.declared.command.Command.TheVariants as commands
use Rattle.sk_msg.specs.declared.label.Label.{Label}
use Rattle.sk_msg.specs.declared.service.Service.{Service}
use Rattle.sk_rules.specs.Places.{ScopeValue}
use Rattle.sk_rules.specs.Scripts.{RuleValue}
use Rattle.sk_rules.specs.declared.action.ScriptAction.{ScriptAction}
use Rattle.sk_rules.specs.declared.action.ScriptAction.TheVariants.{Fixed, Append, Reply, Set, Add, Take}
use Rattle.sk_rules.specs.declared.rule.When.{When}
use Rattle.sk_rules.specs.declared.rule.When.TheVariants as whens
use Rattle.sk_rules.specs.declared.vars.Var.{Var}
use Rattle.sk_rules.specs.Keys.{do_key}
use Rattle.sk_script.specs.Keys.{is_bus, target_key, name_key, kind_key, media_key, labels_key, history_key, key_key, value_key, mode_key, step_key, services_key, vars_key, ready_key, script_key, duration_key, required_key, participants_key}
use Rattle.sk_script.specs.Scenarios.{PartValue, ScenarioValue, scope_of, coordinated_names}
use Rattle.sk_script_text.specs.Actions.{variable_name, payload_fields, asked_fields, fixed_fields, action_fields, action_data, when_fields, rule_data}
use Rattle.sk_script_text.specs.Objects.{Field, put_some, put_all, with_fields, text, some_text, whole, some_whole, flag, hex, list, items}
use Rattle.sk_script_text.specs.Services.{label_data, target_data, history_data, service_data, var_field, vars_data}
use Rattle.sk_script_text.specs.Words.{checksum_word, kind_word, label_word}
use Rattle.sk_script_text.specs.Written.{mode_data, step_data, part_data, are_same, required_data, scenario_data}

-- ---- no floats, and no deeper than this

pub record IsPlain (n : ℕ) (d : Data) : Type 0 where
  pub shallow : depth d ≤ n
  pub whole : has_float d ≡ false

record ArePlain (n : ℕ) (ms : Members) : Type 0 where
  shallow : members_depth ms ≤ n
  whole : members_have_float ms ≡ false

record ItemsPlain (n : ℕ) (ds : Items) : Type 0 where
  shallow : items_depth ds ≤ n
  whole : items_have_float ds ≡ false

abbrev IfPlain : ℕ → Option Data → Type 0
IfPlain n None = Unit {0}
IfPlain n (Some d) = IsPlain n d

abbrev FieldsPlain : ℕ → List Field → Type 0
FieldsPlain n [] = Unit {0}
FieldsPlain n (field ∷ fields) = IfPlain n field.value × FieldsPlain n fields

-- ---- members

one_plain : (n : ℕ) (k : List ℕ) (d : Data) (ms : Members) → IsPlain n d → ArePlain n ms → ArePlain n (member k d ms)
one_plain n k d ms p q = record { shallow = omega (arith, p.shallow, q.shallow); whole = rw (p.whole, q.whole) refl }

rest_plain : (n : ℕ) (k : List ℕ) (d : Data) (ms : Members) → ArePlain n (member k d ms) → IsPlain n d × ArePlain n ms
rest_plain n k d ms p =
    let both = or_parts (has_float d) (members_have_float ms) p.whole in
    (record { shallow = omega (arith, p.shallow); whole = both.0 }, record { shallow = omega (arith, p.shallow); whole = both.1 })

plain_at : (n : ℕ) (k l : List ℕ) (d e : Data) (ms : Members) (o : Ordering) → IsPlain n d → ArePlain n (member l e ms) → ArePlain n (put k d ms) → ArePlain n (match_ordering o (member k d (member l e ms)) (member l d ms) (member l e (put k d ms)))
plain_at n k l d e ms Less p q later = one_plain n k d (member l e ms) p q
plain_at n k l d e ms Equal p q later = one_plain n l d ms p (rest_plain n l e ms q).1
plain_at n k l d e ms Greater p q later = one_plain n l e (put k d ms) (rest_plain n l e ms q).0 later

plain_put : (n : ℕ) (k : List ℕ) (d : Data) (ms : Members) → IsPlain n d → ArePlain n ms → ArePlain n (put k d ms)
plain_put n k d no_members p q = one_plain n k d no_members p q
plain_put n k d (member l e ms) p q = plain_at n k l d e ms (slice_cmp nat_cmp k l) p q (plain_put n k d ms p (rest_plain n l e ms q).1)

plain_some : (n : ℕ) (k : List ℕ) (o : Option Data) (ms : Members) → IfPlain n o → ArePlain n ms → ArePlain n (put_some k o ms)
unfolding put_some
plain_some n k None ms p q = q
plain_some n k (Some d) ms p q = plain_put n k d ms p q

plain_all : (n : ℕ) (fields : List Field) (ms : Members) → FieldsPlain n fields → ArePlain n ms → ArePlain n (put_all fields ms)
plain_all n [] ms p q = q
plain_all n (field ∷ fields) ms p q = plain_all n fields (put_some field.key field.value ms) p.1 (plain_some n field.key field.value ms p.0 q)

plain_fields : (n : ℕ) (fields : List Field) → FieldsPlain n fields → IsPlain (suc n) (with_fields fields)
unfolding with_fields
plain_fields n fields p =
    let ms = plain_all n fields no_members p (record { shallow = omega arith; whole = refl }) in
    record { shallow = omega (arith, ms.shallow); whole = ms.whole }

-- ---- lists

plain_items : {A : Type 0} (n : ℕ) (write : A → Data) (xs : List A) → ((x : A) → IsPlain n (write x)) → ItemsPlain n (items write xs)
plain_items n write [] each = record { shallow = omega arith; whole = refl }
plain_items n write (x ∷ xs) each =
    let here = each x in
    let later = plain_items n write xs each in
    record { shallow = omega (arith, here.shallow, later.shallow); whole = rw (here.whole, later.whole) refl }

plain_array : (n : ℕ) (ds : Items) → ItemsPlain n ds → IsPlain (suc n) (array ds)
plain_array n ds p = record { shallow = omega (arith, p.shallow); whole = p.whole }

plain_list : (n : ℕ) (ds : Items) → ItemsPlain n ds → IfPlain (suc n) (list ds)
plain_list n no_items p = tt
plain_list n (item d ds) p = plain_array n (item d ds) p

-- ---- values

module _ (n : ℕ) where
  text_plain : (t : List ℕ) → IfPlain n (text t)
  text_plain t = record { shallow = omega arith; whole = refl }

  some_text_plain : (t : List ℕ) → IfPlain n (some_text t)
  some_text_plain [] = tt
  some_text_plain (byte ∷ bytes) = record { shallow = omega arith; whole = refl }

  whole_plain : (m : ℕ) → IfPlain n (whole m)
  whole_plain m = record { shallow = omega arith; whole = refl }

  some_whole_plain : (m : ℕ) → IfPlain n (some_whole m)
  some_whole_plain zero = tt
  some_whole_plain (suc m) = record { shallow = omega arith; whole = refl }

  flag_plain : (b : Bool) → IfPlain n (flag b)
  flag_plain true = record { shallow = omega arith; whole = refl }
  flag_plain false = tt

  hex_plain : (bytes : List ℕ) → IfPlain n (hex bytes)
  hex_plain [] = tt
  hex_plain (byte ∷ bytes) = record { shallow = omega arith; whole = refl }

-- ---- actions

append_plain : (scope : ScopeValue) (append : Option ℕ) → IfPlain 0 (option_map (λ variable. string (variable_name scope variable)) append)
append_plain scope None = tt
append_plain scope (Some variable) = record { shallow = omega arith; whole = refl }

payload_plain : (scope : ScopeValue) (bytes : List ℕ) (append : Option ℕ) → FieldsPlain 0 (payload_fields scope bytes append)
payload_plain scope bytes append = (hex_plain 0 bytes, (append_plain scope append, tt))

asked_plain : (command : Command) → FieldsPlain 0 (asked_fields command)
asked_plain commands.Stop = (flag_plain 0 true, tt)
asked_plain commands.ReportError = (flag_plain 0 true, tt)
asked_plain commands.Pause = tt
asked_plain commands.Continue = tt
asked_plain commands.Abort = tt

module _ (scope : ScopeValue) where
  fixed_plain : (append : Option ℕ) (action : Action) → FieldsPlain 0 (fixed_fields scope append action)
  fixed_plain append (act.CanBaud s rate) = (record { shallow = omega arith; whole = refl }, (record { shallow = omega arith; whole = refl }, tt))
  fixed_plain append (act.CanStart s) = (record { shallow = omega arith; whole = refl }, tt)
  fixed_plain append (act.CanStop s) = (record { shallow = omega arith; whole = refl }, tt)
  fixed_plain append (act.CanReset s) = (record { shallow = omega arith; whole = refl }, tt)
  fixed_plain append (act.CanSleep s) = (record { shallow = omega arith; whole = refl }, tt)
  fixed_plain append (act.CanSend s frame) = (record { shallow = omega arith; whole = refl }, (record { shallow = omega arith; whole = refl }, (flag_plain 0 frame.extended, (flag_plain 0 frame.fd, payload_plain scope frame.payload append))))
  fixed_plain append (act.EthActivate s) = (record { shallow = omega arith; whole = refl }, tt)
  fixed_plain append (act.EthDeactivate s) = (record { shallow = omega arith; whole = refl }, tt)
  fixed_plain append (act.EthSend s bytes) = (record { shallow = omega arith; whole = refl }, payload_plain scope bytes append)
  fixed_plain append (act.LinInit s role) = (record { shallow = omega arith; whole = refl }, (record { shallow = omega arith; whole = refl }, tt))
  fixed_plain append (act.LinSetResponse s response) = (record { shallow = omega arith; whole = refl }, (record { shallow = omega arith; whole = refl }, (record { shallow = omega arith; whole = refl }, (some_text_plain 0 (checksum_word response.checksum), (hex_plain 0 response.payload, tt)))))
  fixed_plain append (act.LinHeader s id) = (record { shallow = omega arith; whole = refl }, (record { shallow = omega arith; whole = refl }, tt))
  fixed_plain append (act.LinSendFrame s response) = (record { shallow = omega arith; whole = refl }, (record { shallow = omega arith; whole = refl }, (some_text_plain 0 (checksum_word response.checksum), (hex_plain 0 response.payload, tt))))
  fixed_plain append (act.LinSleep s) = (record { shallow = omega arith; whole = refl }, tt)
  fixed_plain append (act.LinWakeup s) = (record { shallow = omega arith; whole = refl }, tt)
  fixed_plain append (act.Publish s bytes) = (record { shallow = omega arith; whole = refl }, payload_plain scope bytes append)
  fixed_plain append (act.Call s bytes) = (record { shallow = omega arith; whole = refl }, payload_plain scope bytes append)
  fixed_plain append (act.PauseFor turns) = (record { shallow = omega arith; whole = refl }, tt)
  fixed_plain append (act.Ask command) = asked_plain command
  fixed_plain append (act.Submit s peer client call bytes) = tt

  fields_plain : (action : ScriptAction) → FieldsPlain 0 (action_fields scope action)
  fields_plain (Fixed action) = fixed_plain None action
  fields_plain (Append action variable) = fixed_plain (Some variable) action
  fields_plain (Reply s bytes append) = (record { shallow = omega arith; whole = refl }, payload_plain scope bytes append)
  fields_plain (Set variable value) = (record { shallow = omega arith; whole = refl }, (record { shallow = omega arith; whole = refl }, tt))
  fields_plain (Add variable value) = (record { shallow = omega arith; whole = refl }, (record { shallow = omega arith; whole = refl }, tt))
  fields_plain (Take variable) = (record { shallow = omega arith; whole = refl }, tt)

  action_plain : (action : ScriptAction) → IsPlain 1 (action_data scope action)
  unfolding action_data
  action_plain action = plain_fields 0 (action_fields scope action) (fields_plain action)

  when_plain : (when : When) → FieldsPlain 2 (when_fields scope when)
  when_plain (whens.At at) = (whole_plain 2 at, tt)
  when_plain (whens.Every size from) = (whole_plain 2 size, (some_whole_plain 2 from, tt))
  when_plain (whens.On s) = (record { shallow = omega arith; whole = refl }, tt)

  rule_plain : (rule : RuleValue) → IsPlain 3 (rule_data scope rule)
  unfolding rule_data
  rule_plain rule =
      plain_fields 2 (record { key = do_key; value = Some (array (items (action_data scope) rule.actions)) } ∷ when_fields scope rule.when)
      (plain_array 1 (items (action_data scope) rule.actions) (plain_items 1 (action_data scope) rule.actions action_plain), when_plain rule.when)

-- ---- services and variables

label_plain : (label : Label) → IsPlain 1 (label_data label)
unfolding label_data
label_plain label =
    plain_fields 0 (record { key = key_key; value = text label.key } ∷ record { key = kind_key; value = text (label_word label.kind) } ∷ record { key = value_key; value = text label.value } ∷ [])
    (text_plain 0 label.key, (text_plain 0 (label_word label.kind), (text_plain 0 label.value, tt)))

target_plain : (service : Service) → IfPlain 2 (target_data service)
target_plain service = by_test (is_bus service.kind && bytes_eq service.spec.topic service.name)
  where
    by_test : (b : Bool) → IfPlain 2 (if b then None else text service.spec.topic)
    by_test true = tt
    by_test false = text_plain 2 service.spec.topic

history_plain : (history : Bool) → IfPlain 2 (history_data history)
history_plain true = whole_plain 2 1
history_plain false = tt

service_plain : (service : Service) → IsPlain 3 (service_data service)
unfolding service_data
service_plain service =
    plain_fields 2 (
    record { key = kind_key; value = text (kind_word service.kind) }
    ∷ record { key = name_key; value = text service.name }
    ∷ record { key = target_key service.kind; value = target_data service }
    ∷ record { key = media_key; value = some_text service.spec.media }
    ∷ record { key = labels_key; value = list (items label_data service.spec.labels) }
    ∷ record { key = history_key; value = history_data service.history }
    ∷ []) (
      text_plain 2 (kind_word service.kind),
      (
        text_plain 2 service.name,
        (
          target_plain service,
          (
            some_text_plain 2 service.spec.media,
            (plain_list 1 (items label_data service.spec.labels) (plain_items 1 label_data service.spec.labels label_plain), (history_plain service.history, tt)),
          ),
        ),
      ),
    )

each_var_plain : (vars : List Var) → FieldsPlain 0 (map var_field vars)
each_var_plain [] = tt
each_var_plain (var ∷ vars) = (whole_plain 0 var.value, each_var_plain vars)

higher : (m n : ℕ) (d : Data) → m ≤ n → IsPlain m d → IsPlain n d
higher m n d le p = record { shallow = omega (arith, le, p.shallow); whole = p.whole }

vars_plain : (vars : List Var) → IfPlain 4 (vars_data vars)
vars_plain [] = tt
vars_plain (var ∷ vars) = higher 1 4 (with_fields (map var_field (var ∷ vars))) (omega arith) (plain_fields 0 (map var_field (var ∷ vars)) (each_var_plain (var ∷ vars)))

-- ---- participants and the whole

mode_plain : (coordinated : Bool) → IfPlain 4 (mode_data coordinated)
mode_plain true = tt
mode_plain false = record { shallow = omega arith; whole = refl }

step_plain : (step : Option ℕ) → IfPlain 4 (step_data step)
step_plain None = tt
step_plain (Some size) = whole_plain 4 size

ready_plain : (scope : ScopeValue) (ready : List ScriptAction) → IfPlain 4 (list (items (action_data scope) ready))
ready_plain scope ready = plain_list 3 (items (action_data scope) ready) (plain_items 3 (action_data scope) ready (λ action. higher 1 3 (action_data scope action) (omega arith) (action_plain scope action)))

part_plain : (part : PartValue) → IsPlain 5 (part_data part)
unfolding part_data
part_plain part =
    plain_fields 4 (
    record { key = name_key; value = text part.name }
    ∷ record { key = mode_key; value = mode_data part.coordinated }
    ∷ record { key = step_key; value = step_data part.step }
    ∷ record { key = services_key; value = list (items service_data part.services) }
    ∷ record { key = vars_key; value = vars_data part.vars }
    ∷ record { key = ready_key; value = list (items (action_data (scope_of part)) part.ready) }
    ∷ record { key = script_key; value = list (items (rule_data (scope_of part)) part.script) }
    ∷ []) (
      text_plain 4 part.name,
      (
        mode_plain part.coordinated,
        (
          step_plain part.step,
          (
            plain_list 3 (items service_data part.services) (plain_items 3 service_data part.services service_plain),
            (
              vars_plain part.vars,
              (
                ready_plain (scope_of part) part.ready,
                (plain_list 3 (items (rule_data (scope_of part)) part.script) (plain_items 3 (rule_data (scope_of part)) part.script (rule_plain (scope_of part))), tt),
              ),
            ),
          ),
        ),
      ),
    )

names_plain : (names : List (List ℕ)) → IsPlain 6 (array (items string names))
names_plain names = plain_array 5 (items string names) (plain_items 5 string names (λ name. record { shallow = omega arith; whole = refl }))

required_plain : (s : ScenarioValue) → IfPlain 6 (required_data s)
unfolding required_data
required_plain s = by_test (are_same s.required (coordinated_names s.participants))
  where
    by_test : (b : Bool) → IfPlain 6 (if b then None else Some (array (items string s.required)))
    by_test true = tt
    by_test false = names_plain s.required

scenario_plain : (s : ScenarioValue) → IsPlain 7 (scenario_data s)
unfolding scenario_data
scenario_plain s =
    plain_fields 6 (
    record { key = duration_key; value = whole s.duration }
    ∷ record { key = required_key; value = required_data s }
    ∷ record { key = participants_key; value = Some (array (items part_data s.participants)) }
    ∷ [])
    (whole_plain 6 s.duration, (required_plain s, (plain_array 5 (items part_data s.participants) (plain_items 5 part_data s.participants part_plain), tt)))

pub plain_scenario : (s : ScenarioValue) → (depth (scenario_data s) ≤ max_depth) × (has_float (scenario_data s) ≡ false)
plain_scenario s = let p = scenario_plain s in (omega (arith, p.shallow), p.whole)
