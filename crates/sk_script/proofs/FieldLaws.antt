-- What a reading at a key says of what was read.
use Rattle.std.proofs.Common.{◌≡◌, ℕ, ◌≤◌, Bool, true, false, cond, List, Option, Some, None, Ok, option_and_then, refl, subst}
use Rattle.std.specs.Prelude.{nat_le, ◌&&◌}
use Rattle.std.proofs.lemmas.Bool.{and_parts, leb-true}
use Rattle.serde_json.specs.Data.{Data, Items}
use Rattle.serde_json.specs.Events.{items_len}
use Rattle.serde_json.specs.Find.{get, as_str, as_array}
use Rattle.sk_config.specs.Paths.{key_at}
use Rattle.sk_config.specs.Json.{whole, text_at, number_at, list_at, string_fault, text_fault, whole_fault, number_fault, count_fault, list_fault}
use Rattle.sk_rules.specs.Faults.{scenario_faults}
use Rattle.sk_rules.specs.Fields.{text_read, needed_text, number_read, needed_number, list_read}
use Rattle.sk_rules.specs.declared.fault.Rule.TheVariants as rules
use Rattle.sk_rules.specs.declared.fault.ScenarioFault.{ScenarioFault}
use Rattle.sk_rules.specs.declared.fault.ScenarioFault.TheVariants.{Refused}
use Rattle.sk_script.proofs.OutcomeLaws.{then_ok, checked_ok, found_ok}

-- ---- texts

fine_of : (is_fine : List ℕ → Bool) (path : List ℕ) (v : Option Data) (text : List ℕ)
    → option_and_then (λ d. string_fault scenario_faults is_fine path (as_str d)) v ≡ None → option_and_then as_str v ≡ Some text → is_fine text ≡ true
fine_of is_fine path None text none e = absurd cc
fine_of is_fine path (Some d) text none e = by_test (is_fine text) refl (rw e at none)
  where
    by_test : (b : Bool) → is_fine text ≡ b → cond (is_fine text) None (Some (Refused path rules.BadText)) ≡ None → is_fine text ≡ true
    by_test true t h = t
    by_test false t h = let wrong = rw t at h in absurd cc

-- a text that was read passes the test
pub text_fine : (is_fine : List ℕ → Bool) (path key : List ℕ) (d : Data) (text : List ℕ) → text_read is_fine path key d ≡ Ok (Some text) → is_fine text ≡ true
unfolding text_read text_fault
text_fine is_fine path key d text e =
    let parts = checked_ok (text_fault scenario_faults is_fine path key d) (text_at key d) (Some text) e in
    fine_of is_fine (key_at path key) (get key d) text parts.0 parts.1

pub needed_fine : (is_fine : List ℕ → Bool) (path key : List ℕ) (d : Data) (text : List ℕ) → needed_text is_fine path key d ≡ Ok text → is_fine text ≡ true
unfolding needed_text
needed_fine is_fine path key d text e =
    then_ok (text_read is_fine path key d) _ text e
    (λ o read is. text_fine is_fine path key d text (subst (λ x. text_read is_fine path key d ≡ Ok x) (found_ok _ _ o text is) read))

-- ---- numbers and counts

in_range : (low high n : ℕ) (fault : ScenarioFault) → cond (nat_le low n && nat_le n high) None (Some fault) ≡ None → (low ≤ n) × (n ≤ high)
in_range low high n fault none = by_test (nat_le low n && nat_le n high) refl none
  where
    by_test : (b : Bool) → (nat_le low n && nat_le n high) ≡ b → cond b None (Some fault) ≡ None → (low ≤ n) × (n ≤ high)
    by_test true t e = let both = and_parts _ _ t in (leb-true low n both.0, leb-true n high both.1)
    by_test false t e = absurd cc

number_of : (low high : ℕ) (path : List ℕ) (v : Option Data) (n : ℕ) → option_and_then (λ d. whole_fault scenario_faults low high path (whole d)) v ≡ None → option_and_then whole v ≡ Some n → (low ≤ n) × (n ≤ high)
number_of low high path None n none e = absurd cc
number_of low high path (Some d) n none e = in_range low high n (Refused path rules.OutOfRange) (rw e at none)

-- a number that was read is in its range
pub number_within : (low high : ℕ) (path key : List ℕ) (d : Data) (n : ℕ) → number_read low high path key d ≡ Ok (Some n) → (low ≤ n) × (n ≤ high)
unfolding number_read number_fault
number_within low high path key d n e =
    let parts = checked_ok (number_fault scenario_faults low high path key d) (number_at key d) (Some n) e in
    number_of low high (key_at path key) (get key d) n parts.0 parts.1

pub needed_within : (low high : ℕ) (path key : List ℕ) (d : Data) (n : ℕ) → needed_number low high path key d ≡ Ok n → (low ≤ n) × (n ≤ high)
unfolding needed_number
needed_within low high path key d n e =
    then_ok (number_read low high path key d) _ n e
    (λ o read is. number_within low high path key d n (subst (λ x. number_read low high path key d ≡ Ok x) (found_ok _ _ o n is) read))

count_of : (least most : ℕ) (path : List ℕ) (v : Option Data) (ds : Items) → option_and_then (λ d. count_fault scenario_faults least most path (as_array d)) v ≡ None → option_and_then as_array v ≡ Some ds → (least ≤ items_len ds) × (items_len ds ≤ most)
count_of least most path None ds none e = absurd cc
count_of least most path (Some d) ds none e = in_range least most (items_len ds) (Refused path rules.OutOfRange) (rw e at none)

-- a list that was read has so many items
pub list_within : (least most : ℕ) (path key : List ℕ) (d : Data) (ds : Items) → list_read least most path key d ≡ Ok (Some ds) → (least ≤ items_len ds) × (items_len ds ≤ most)
unfolding list_read list_fault
list_within least most path key d ds e =
    let parts = checked_ok (list_fault scenario_faults least most path key d) (list_at key d) (Some ds) e in
    count_of least most (key_at path key) (get key d) ds parts.0 parts.1
