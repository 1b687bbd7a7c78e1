-- What scripts ask for: never an Abort, and where the scenario is closed they report no error.
use Rattle.std.specs.Prelude.{◌≡◌, refl, ℕ, zero, suc, ◌==◌, nat_le, Bool, true, false, not, ◌&&◌, ◌||◌, List, [], ◌∷◌, ◌++◌, length, take, Option, Some, None, slice_get, is_some, if◌then◌else◌}
use Rattle.std.specs.List.{fold, list_any, list_all}
use Rattle.std.specs.Str.{bytes_eq}
use Rattle.std.proofs.Common.{ap, sym, ◌∙◌}
use Rattle.std.proofs.lemmas.Bool.{and_parts, and_from}
use Rattle.std.proofs.lemmas.List.Folds.{list_all-append}
use Rattle.std.proofs.lemmas.Option.{same_Some, none-some}
use Rattle.sk_base.specs.Ranges.{is_name}
use Rattle.sk_msg.specs.Rules.{is_step_size}
use Rattle.sk_msg.specs.declared.action.Action.{Action}
use Rattle.sk_msg.specs.declared.action.Action.TheVariants as actions
use Rattle.sk_msg.specs.declared.command.Command.TheVariants as commands
use Rattle.sk_msg.specs.declared.service.ServiceKind.{ServiceKind}
use Rattle.sk_config.specs.Configs.{is_none_or}
use Rattle.sk_rpc.specs.declared.open_call.OpenCall.{OpenCall}
use Rattle.sk_rules.specs.Orders.{are_sorted}
use Rattle.sk_rules.specs.Places.{ScopeValue, is_step}
use Rattle.sk_rules.specs.Scripts.{RuleValue, is_fixed, is_asked, is_action, is_rule, is_when, is_action_count, is_variable, place_in, appends_to}
use Rattle.sk_rules.specs.Vars.{are_vars}
use Rattle.sk_rules.specs.declared.action.ScriptAction.{ScriptAction}
use Rattle.sk_rules.specs.declared.action.ScriptAction.TheVariants.{Fixed, Append, Reply, Set, Add, Take}
use Rattle.sk_rules.specs.declared.place.Place.{Place}
use Rattle.sk_rules.specs.declared.place.Place.TheVariants.{Ready}
use Rattle.sk_machine.specs.Causes.{call_of, cause_of, is_taken, fires}
use Rattle.sk_machine.specs.Machines.{part_script, first_values}
use Rattle.sk_machine.specs.Playing.{PartScript, Played, bytes_of, extended, answer_bytes, answers, ask, act, act_all, follow, follow_all, hear, ready, script, values_after, script_of}
use Rattle.sk_law.specs.Script.{Delivery, View, Script}
use Rattle.sk_law.specs.declared.made.Call.{Call}
use Rattle.sk_law.specs.declared.made.Call.TheVariants as calls
use Rattle.sk_law.specs.declared.made.Made.{Made}
use Rattle.sk_script.specs.Closed.{is_error, reports_error, changes_controller, is_closed_ready, is_closed_step, is_closed_rule, is_closed_part, is_closed}
use Rattle.sk_script.specs.Scenarios.{PartValue, ScenarioValue, names_of, scope_of, is_script, is_part, is_duration, is_participant_count, are_required, is_scenario}
use Rattle.sk_script.specs.Services.{are_services}
use Rattle.sk_sim.specs.Played.{is_unstarted, views_called, view_behind, asked_for, PlayedFrom, HasPlayed}
use Rattle.sk_sim.specs.Scripts.{script_by}
use Rattle.sk_sim.proofs.CalmCalls.{asks_abort, is_mild, asks_mildly}

-- ## Lists

-- what passes one test or two passes a third
each_passes : {X : Type 0} (f g : X → Bool) → ((x : X) → f x ≡ true → g x ≡ true) → (xs : List X) → list_all f xs ≡ true → list_all g xs ≡ true
each_passes f g from [] e = refl
each_passes f g from (x ∷ xs) e = let p = and_parts (f x) (list_all f xs) e in and_from (g x) (list_all g xs) (from x p.0) (each_passes f g from xs p.1)

each_passes_both : {X : Type 0} (f g h : X → Bool) → ((x : X) → f x ≡ true → g x ≡ true → h x ≡ true) → (xs : List X) → list_all f xs ≡ true → list_all g xs ≡ true → list_all h xs ≡ true
each_passes_both f g h from [] d e = refl
each_passes_both f g h from (x ∷ xs) d e =
    let p = and_parts (f x) (list_all f xs) d in let q = and_parts (g x) (list_all g xs) e in
    and_from (h x) (list_all h xs) (from x p.0 q.0) (each_passes_both f g h from xs p.1 q.1)

one_passes : {X : Type 0} (f : X → Bool) (xs : List X) (i : ℕ) (x : X) → list_all f xs ≡ true → slice_get xs i ≡ Some x → f x ≡ true
one_passes f [] i x e at = absurd (none-some x at)
one_passes f (y ∷ xs) zero x e at = ap f (sym (same_Some y x at)) ∙ (and_parts (f y) (list_all f xs) e).0
one_passes f (y ∷ xs) (suc i) x e at = one_passes f xs i x (and_parts (f y) (list_all f xs) e).1 at

first_pass : {X : Type 0} (f : X → Bool) (n : ℕ) (xs : List X) → list_all f xs ≡ true → list_all f (take n xs) ≡ true
first_pass f zero xs e = refl
first_pass f (suc n) [] e = refl
first_pass f (suc n) (x ∷ xs) e = let p = and_parts (f x) (list_all f xs) e in and_from (f x) (list_all f (take n xs)) p.0 (first_pass f n xs p.1)

all_more : {X : Type 0} (f : X → Bool) (xs ys : List X) → list_all f xs ≡ true → list_all f ys ≡ true → list_all f (xs ++ ys) ≡ true
all_more f xs ys d e = list_all-append f xs ys ∙ and_from (list_all f xs) (list_all f ys) d e

-- ## What is asked for, by what a script says

-- an action of a script that asks mildly
abbrev pub acts_mildly : Bool → ScriptAction → Bool
acts_mildly silent (Fixed action) = is_mild silent action
acts_mildly silent (Append action variable) = is_mild silent action
acts_mildly silent _ = true

abbrev pub rules_mildly : Bool → RuleValue → Bool
rules_mildly silent rule = list_all (acts_mildly silent) rule.actions

-- what has been asked for so far is mild
abbrev PlaysMildly : Bool → Played → Type 0
PlaysMildly silent played = list_all (is_mild silent) played.actions ≡ true

extended_mildly : (silent : Bool) (more : List ℕ) (action : Action) → is_mild silent action ≡ true → is_mild silent (extended more action) ≡ true
extended_mildly silent more (actions.Ask command) e = e
extended_mildly silent more action e = refl

answers_mildly : (silent : Bool) (service : ℕ) (payload : List ℕ) (call : Option OpenCall) → list_all (is_mild silent) (answers service payload call) ≡ true
answers_mildly silent service payload None = refl
answers_mildly silent service payload (Some call) = refl

asks_more : (silent : Bool) (more : List Action) (played : Played) → list_all (is_mild silent) more ≡ true → PlaysMildly silent played → PlaysMildly silent (ask more played)
asks_more silent more played e h = all_more (is_mild silent) played.actions more h e

acting : (silent : Bool) (cause : _) (played : Played) (one : ScriptAction) → acts_mildly silent one ≡ true → PlaysMildly silent played → PlaysMildly silent (act cause played one)
acting silent cause played (Fixed action) e h = asks_more silent (action ∷ []) played (and_from (is_mild silent action) true e refl) h
acting silent cause played (Append action variable) e h =
    let more = bytes_of played.values variable in
    asks_more silent (extended more action ∷ []) played (and_from (is_mild silent (extended more action)) true (extended_mildly silent more action e) refl) h
acting silent cause played (Reply service payload append) e h =
    let bytes = answer_bytes played.values payload append in
    asks_more silent (answers service bytes (call_of cause)) played (answers_mildly silent service bytes (call_of cause)) h
acting silent cause played (Set variable value) e h = h
acting silent cause played (Add variable value) e h = h
acting silent cause played (Take variable) e h = h

acting_all : (silent : Bool) (cause : _) (more : List ScriptAction) (played : Played) → list_all (acts_mildly silent) more ≡ true → PlaysMildly silent played
    → PlaysMildly silent (act_all cause played more)
acting_all silent cause [] played e h = h
acting_all silent cause (one ∷ more) played e h =
    let p = and_parts (acts_mildly silent one) (list_all (acts_mildly silent) more) e in acting_all silent cause more (act cause played one) p.1 (acting silent cause played one p.0 h)

if_plays : (silent : Bool) (b : Bool) (x y : Played) → PlaysMildly silent x → PlaysMildly silent y → PlaysMildly silent (if b then x else y)
if_plays silent true x y h i = h
if_plays silent false x y h i = i

following : (silent : Bool) (cause : _) (rules : List RuleValue) (played : Played) → list_all (rules_mildly silent) rules ≡ true → PlaysMildly silent played
    → PlaysMildly silent (follow_all cause rules played)
following silent cause [] played e h = h
following silent cause (rule ∷ rules) played e h =
    let p = and_parts (rules_mildly silent rule) (list_all (rules_mildly silent) rules) e in
    following silent cause rules (follow cause played rule) p.1
    (if_plays silent (fires cause rule.when) (act_all cause played rule.actions) played (acting_all silent cause rule.actions played p.0 h) h)

hearing : (silent : Bool) (kinds : List ServiceKind) (rules : List RuleValue) (items : List Delivery) (played : Played) → list_all (rules_mildly silent) rules ≡ true
    → PlaysMildly silent played → PlaysMildly silent (fold (hear kinds rules) played items)
hearing silent kinds rules [] played e h = h
hearing silent kinds rules (item ∷ items) played e h =
    hearing silent kinds rules items (hear kinds rules played item) e
    (if_plays silent (is_taken kinds item) (follow_all (cause_of item) rules played) played (following silent (cause_of item) rules played e h) h)

-- a script that asks for mild actions alone
pub record AsksMildly (silent : Bool) (all : Script) : Type 0 where
  pub when_ready : list_all (is_mild silent) all.ready ≡ true
  pub in_step : (earlier : List View) (now : View) → list_all (is_mild silent) (all.step earlier now) ≡ true

-- what a participant's script says is mild
pub record IsMildPart (silent : Bool) (part : PartValue) : Type 0 where
  pub when_ready : list_all (acts_mildly silent) part.ready ≡ true
  pub rules : list_all (rules_mildly silent) part.script ≡ true

plays_part : (silent : Bool) (part : PartScript) (first : List ℕ) → list_all (acts_mildly silent) part.when_ready ≡ true → list_all (rules_mildly silent) part.rules ≡ true
    → AsksMildly silent (script_of part first)
plays_part silent part first d e = record {
  when_ready = let none : PlaysMildly silent (record { values = first; actions = [] }) = refl in search (acting_all, d, none);
  in_step = λ earlier now.
      let values = values_after part first earlier in
      let heard = fold (hear part.kinds part.rules) (record { values = values; actions = [] }) now.seen in
      let heard_so : PlaysMildly silent heard = hearing silent part.kinds part.rules now.seen (record { values = values; actions = [] }) e refl in
      search (following, e, heard_so);
}

script_mildly : (silent : Bool) (part : PartValue) → IsMildPart silent part → AsksMildly silent (script_by part)
script_mildly silent part h = plays_part silent (part_script (scope_of part) part.ready part.script) (first_values part.vars) h.when_ready h.rules

-- ## Calls of apps that play a script

called_mildly : (silent : Bool) (all : Script) → AsksMildly silent all → (before : List Made) (call : Call) → list_all (is_mild silent) (asked_for all before call) ≡ true
called_mildly silent all h before calls.Ready = by (is_unstarted before)
  where
    by : (b : Bool) → list_all (is_mild silent) (if b then all.ready else []) ≡ true
    by true = h.when_ready
    by false = refl
called_mildly silent all h before (calls.Step n t) = h.in_step (views_called before) (view_behind before t)
called_mildly silent all h before (calls.Message p place r m) = refl

played_from : (silent : Bool) (all : Script) → AsksMildly silent all → (before made : List Made) → PlayedFrom all before made → list_all (asks_mildly silent) made ≡ true
played_from silent all h before [] played = refl
played_from silent all h before (one ∷ made) played =
    let wanted = asked_for all before one.call in
    and_from (asks_mildly silent one) (list_all (asks_mildly silent) made)
    (ap (list_all (is_mild silent)) played.0.0 ∙ first_pass (is_mild silent) 256 wanted (called_mildly silent all h before one.call))
    (played_from silent all h (before ++ one ∷ []) made played.1)

pub played_mildly : (silent : Bool) (part : PartValue) (made : List Made) → IsMildPart silent part → HasPlayed (script_by part) made → list_all (asks_mildly silent) made ≡ true
played_mildly silent part made h played = played_from silent (script_by part) (script_mildly silent part h) [] made played

-- ## What a participant may say

fixed_mildly : (scope : ScopeValue) (place : Place) (action : Action) → is_fixed scope place action ≡ true → is_mild false action ≡ true
fixed_mildly scope place (actions.Ask commands.Abort) e = absurd (let none = (and_parts (is_step place) false e).1 in cc)
fixed_mildly scope place (actions.Ask commands.ReportError) e = refl
fixed_mildly scope place (actions.Ask command) e = refl
fixed_mildly scope place action e = refl

action_mildly : (scope : ScopeValue) (place : Place) (one : ScriptAction) → is_action scope place one ≡ true → acts_mildly false one ≡ true
action_mildly scope place (Fixed action) e = fixed_mildly scope place action e
action_mildly scope place (Append action variable) e = fixed_mildly scope place action (and_parts (is_fixed scope place action) (appends_to action && is_variable scope variable) e).0
action_mildly scope place one e = refl

rule_mildly : (scope : ScopeValue) (rule : RuleValue) → is_rule scope rule ≡ true → rules_mildly false rule ≡ true
unfolding is_rule
rule_mildly scope rule e =
    let place = place_in scope rule.when in
    let p = and_parts (is_when scope rule.when) (is_action_count (length rule.actions) && list_all (is_action scope place) rule.actions) e in
    let q = and_parts (is_action_count (length rule.actions)) (list_all (is_action scope place) rule.actions) p.1 in
    each_passes (is_action scope place) (acts_mildly false) (action_mildly scope place) rule.actions q.1

-- no participant says that it is aborted
pub part_mildly : (part : PartValue) → is_part part ≡ true → IsMildPart false part
unfolding is_part is_script
part_mildly part e =
    let scope = scope_of part in
    let said = list_all (is_action scope Ready) part.ready in
    let ruled = nat_le (length part.script) 256 && list_all (is_rule scope) part.script in
    let a = and_parts (is_name part.name) (is_none_or is_step_size part.step && (are_services part.services && (are_vars part.vars && (said && ruled)))) e in
    let b = and_parts (is_none_or is_step_size part.step) (are_services part.services && (are_vars part.vars && (said && ruled))) a.1 in
    let c = and_parts (are_services part.services) (are_vars part.vars && (said && ruled)) b.1 in
    let d = and_parts (are_vars part.vars) (said && ruled) c.1 in
    let f = and_parts said ruled d.1 in
    let g = and_parts (nat_le (length part.script) 256) (list_all (is_rule scope) part.script) f.1 in
    record {
      when_ready = each_passes (is_action scope Ready) (acts_mildly false) (action_mildly scope Ready) part.ready f.0;
      rules = each_passes (is_rule scope) (rules_mildly false) (rule_mildly scope) part.script g.1;
    }

-- ## Closed scenarios

silently : (action : Action) → is_mild false action ≡ true → not (reports_error action) ≡ true → is_mild true action ≡ true
silently action e f = by (asks_abort action) (reports_error action) e f
  where
    by : (a r : Bool) → (not a && not (r && false)) ≡ true → not r ≡ true → (not a && not (r && true)) ≡ true
    by true r d g = absurd (cc)
    by false true d g = absurd (cc)
    by false false d g = refl

ready_silently : (one : ScriptAction) → acts_mildly false one ≡ true → is_closed_ready one ≡ true → acts_mildly true one ≡ true
ready_silently (Fixed action) e f = silently action e f
ready_silently (Append action variable) e f = silently action e f
ready_silently one e f = refl

step_silently : (one : ScriptAction) → acts_mildly false one ≡ true → is_closed_step one ≡ true → acts_mildly true one ≡ true
step_silently (Fixed action) e f = silently action e (and_parts (not (reports_error action)) (not (changes_controller action)) f).0
step_silently (Append action variable) e f = silently action e (and_parts (not (reports_error action)) (not (changes_controller action)) f).0
step_silently one e f = refl

rule_silently : (rule : RuleValue) → rules_mildly false rule ≡ true → is_closed_rule rule ≡ true → rules_mildly true rule ≡ true
unfolding is_closed_rule
rule_silently rule e f = each_passes_both (acts_mildly false) is_closed_step (acts_mildly true) step_silently rule.actions e f

-- a participant of a closed scenario says no error
pub part_silently : (required : List (List ℕ)) (part : PartValue) → IsMildPart false part → is_closed_part required part ≡ true → IsMildPart true part
unfolding is_closed_part
part_silently required part h e =
    let said = list_all is_closed_ready part.ready in
    let ruled = list_all is_closed_rule part.script in
    let a = and_parts part.coordinated (list_any (λ name. bytes_eq name part.name) required && (is_some part.step && (said && ruled))) e in
    let b = and_parts (list_any (λ name. bytes_eq name part.name) required) (is_some part.step && (said && ruled)) a.1 in
    let c = and_parts (is_some part.step) (said && ruled) b.1 in
    let d = and_parts said ruled c.1 in
    record {
      when_ready = each_passes_both (acts_mildly false) is_closed_ready (acts_mildly true) ready_silently part.ready h.when_ready d.0;
      rules = each_passes_both (rules_mildly false) is_closed_rule (rules_mildly true) rule_silently part.script h.rules d.1;
    }

-- ## Participants of a scenario

pub part_in : (S : ScenarioValue) → is_scenario S ≡ true → (i : ℕ) (part : PartValue) → slice_get S.participants i ≡ Some part → is_part part ≡ true
unfolding is_scenario
part_in S e i part at =
    let parts = list_all is_part S.participants in
    let rest = are_sorted (names_of S.participants) && are_required S.participants S.required in
    let a = and_parts (is_duration S.duration) (is_participant_count (length S.participants) && (parts && rest)) e in
    let b = and_parts (is_participant_count (length S.participants)) (parts && rest) a.1 in
    one_passes is_part S.participants i part (and_parts parts rest b.1).0 at

pub closed_part_in : (S : ScenarioValue) → is_closed S ≡ true → (i : ℕ) (part : PartValue) → slice_get S.participants i ≡ Some part → is_closed_part S.required part ≡ true
unfolding is_closed
closed_part_in S e i part at = one_passes (is_closed_part S.required) S.participants i part e at
