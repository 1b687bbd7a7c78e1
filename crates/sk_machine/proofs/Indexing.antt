-- A message leads to the same with the rules of its receiver alone as with all rules.
use Rattle.std.proofs.Common.{◌≡◌, ℕ, ◌<◌, ◌+◌, suc, zero, Bool, true, false, cond, List, [], ◌∷◌, ◌++◌, length, refl, ap, ◌∙◌, sym, arith}
use Rattle.std.specs.Prelude.{map, slice_get, slice_index_or}
use Rattle.std.specs.List.{filter, fold, list_all, range_with_len}
use Rattle.std.proofs.lemmas.Bool.{and_parts, and_from}
use Rattle.std.proofs.lemmas.List.FromFn.{get_or-map-range_with_len, map-range_with_len_more}
use Rattle.sk_law.specs.Script.{Delivery}
use Rattle.sk_msg.specs.declared.content.Content.{Content}
use Rattle.sk_msg.specs.declared.service.ServiceKind.{ServiceKind}
use Rattle.sk_rules.specs.Scripts.{RuleValue}
use Rattle.sk_machine.specs.declared.cause.Cause.{Cause}
use Rattle.sk_machine.specs.Causes.{is_of, is_taken, is_taken_by, cause_of, fires}
use Rattle.sk_machine.specs.Playing.{Played, act_all, follow, follow_all, hear}
use Rattle.sk_machine.specs.Index.{rules_of, by_service, hear_by}
use Rattle.sk_machine.specs.Sound.{is_sound}

-- ## Rules that aren't carried out may be left out

follow_kept : (cause : Cause) (keep : RuleValue → Bool) → ((rule : RuleValue) → keep rule ≡ false → fires cause rule.when ≡ false) → (rules : List RuleValue) (played : Played) →
    follow_all cause (filter keep rules) played ≡ follow_all cause rules played
follow_kept cause keep f [] played = refl
follow_kept cause keep f (rule ∷ rules) played = by_test (keep rule) refl (λ p. follow_kept cause keep f rules p)
  where
    by_test : (b : Bool) → keep rule ≡ b → ((p : Played) → follow_all cause (filter keep rules) p ≡ follow_all cause rules p) → follow_all cause (filter keep (rule ∷ rules)) played ≡ follow_all cause (rule ∷ rules) played
    by_test true e more = ap (λ (c : Bool). fold (follow cause) played (cond c (rule ∷ filter keep rules) (filter keep rules))) e ∙ more (follow cause played rule)
    by_test false e more =
        ap (λ (c : Bool). fold (follow cause) played (cond c (rule ∷ filter keep rules) (filter keep rules))) e
        ∙ more played
        ∙ sym (ap (λ (c : Bool). fold (follow cause) (cond c (act_all cause played rule.actions) played) rules) (f rule e))

-- ## The rules of a service

found : (rules : List RuleValue) (count service : ℕ) → service < count → slice_index_or (by_service count rules) service [] ≡ rules_of rules service
found rules count service lt = get_or-map-range_with_len (rules_of rules) 0 count service service [] lt (omega arith)

there : (kinds : List ServiceKind) (service : ℕ) (m : Content) → is_taken_by (slice_get kinds service) m ≡ true → service < length kinds
there [] service m h = absurd cc
there (kind ∷ kinds) zero m h = omega arith
there (kind ∷ kinds) (suc service) m h = let more = there kinds service m h in omega arith

hear_same : (kinds : List ServiceKind) (rules : List RuleValue) (played : Played) (item : Delivery) → hear_by kinds (by_service (length kinds) rules) played item ≡ hear kinds rules played item
hear_same kinds rules played item = by_test (is_taken kinds item) refl
  where
    by_test : (b : Bool) → is_taken kinds item ≡ b → hear_by kinds (by_service (length kinds) rules) played item ≡ hear kinds rules played item
    by_test true e =
        ap (λ (c : Bool). cond c (follow_all (cause_of item) (slice_index_or (by_service (length kinds) rules) item.service []) played) played) e
        ∙ ap (λ (own : List RuleValue). follow_all (cause_of item) own played) (found rules (length kinds) item.service (there kinds item.service item.message e))
        ∙ follow_kept (cause_of item) (λ rule. is_of item.service rule.when) (λ rule no'. no') rules played
        ∙ sym (ap (λ (c : Bool). cond c (follow_all (cause_of item) rules played) played) e)
    by_test false e =
        ap (λ (c : Bool). cond c (follow_all (cause_of item) (slice_index_or (by_service (length kinds) rules) item.service []) played) played) e
        ∙ sym (ap (λ (c : Bool). cond c (follow_all (cause_of item) rules played) played) e)

pub hear_all_same : (kinds : List ServiceKind) (rules : List RuleValue) (items : List Delivery) (played : Played) → fold (hear_by kinds (by_service (length kinds) rules)) played items ≡ fold (hear kinds rules) played items
hear_all_same kinds rules [] played = refl
hear_all_same kinds rules (item ∷ items) played =
    ap (λ (p : Played). fold (hear_by kinds (by_service (length kinds) rules)) p items) (hear_same kinds rules played item)
    ∙ hear_all_same kinds rules items (hear kinds rules played item)

-- the services so far, with one more
pub one_service_more : (rules : List RuleValue) (service : ℕ) (before after : List (List RuleValue)) (own : List RuleValue) →
    before ≡ by_service service rules → after ≡ before ++ own ∷ [] → own ≡ rules_of rules service → after ≡ by_service (service + 1) rules
one_service_more rules service before after own e f g =
    f ∙ ap (λ (on : List (List RuleValue)). on ++ own ∷ []) e ∙ ap (λ (one : List RuleValue). by_service service rules ++ one ∷ []) g
    ∙ sym (map-range_with_len_more (rules_of rules) 0 service service (omega arith))

-- ## What all rules keep, those of a service keep

kept_sound : (keep : RuleValue → Bool) (rules : List RuleValue) → list_all is_sound rules ≡ true → list_all is_sound (filter keep rules) ≡ true
kept_sound keep [] h = refl
kept_sound keep (rule ∷ rules) h =
    let p = and_parts (is_sound rule) (list_all is_sound rules) h in
    by_test (keep rule) p.0 (kept_sound keep rules p.1)
  where
    by_test : (b : Bool) → is_sound rule ≡ true → list_all is_sound (filter keep rules) ≡ true → list_all is_sound (cond b (rule ∷ filter keep rules) (filter keep rules)) ≡ true
    by_test true one more = and_from (is_sound rule) (list_all is_sound (filter keep rules)) one more
    by_test false one more = more

each_sound : (rules : List RuleValue) → list_all is_sound rules ≡ true → (from count : ℕ) → list_all (λ own. list_all is_sound own) (map (rules_of rules) (range_with_len from count)) ≡ true
each_sound rules h from zero = refl
each_sound rules h from (suc count) =
    and_from (list_all is_sound (rules_of rules from)) (list_all (λ own. list_all is_sound own) (map (rules_of rules) (range_with_len (from + 1) count)))
    (kept_sound (λ rule. is_of from rule.when) rules h) (each_sound rules h (from + 1) count)

pub all_sound : (rules : List RuleValue) (count : ℕ) → list_all is_sound rules ≡ true → list_all (λ own. list_all is_sound own) (by_service count rules) ≡ true
all_sound rules count h = each_sound rules h 0 count
