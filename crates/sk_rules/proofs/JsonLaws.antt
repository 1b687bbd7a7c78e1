-- What the tests of a value at a key say of it.
use Rattle.std.proofs.Common.{◌≡◌, ℕ, ◌≤◌, ◌<◌, ◌+◌, Bool, true, false, cond, List, length, get_or, drop, drop-cons, add-one, Option, Some, None, option_and_then, refl}
use Rattle.std.specs.Prelude.{nat_le, ◌&&◌}
use Rattle.std.proofs.lemmas.Bool.{and_parts, leb-true}
use Rattle.serde_json.specs.Data.{Data, Items, item}
use Rattle.serde_json.specs.Events.{items_len}
use Rattle.serde_json.specs.Find.{get, as_array}
use Rattle.serde_json.specs.View.{view, items_view}
use Rattle.serde_json.specs.declared.value.Value.{Value}
use Rattle.sk_config.specs.Paths.{key_at}
use Rattle.sk_config.specs.Json.{whole, number_at, list_at, whole_fault, number_fault, count_fault, list_fault}
use Rattle.sk_rules.specs.Faults.{scenario_faults}
use Rattle.sk_rules.specs.declared.fault.ScenarioFault.{ScenarioFault}
use Rattle.sk_rules.specs.declared.fault.ScenarioFault.TheVariants.{Refused}
use Rattle.sk_rules.specs.declared.fault.Rule.TheVariants as rules

-- ---- a number is in its range, and so is a count

in_range : (low high n : ℕ) (fault : ScenarioFault) → cond (nat_le low n && nat_le n high) None (Some fault) ≡ None → (low ≤ n) × (n ≤ high)
in_range low high n fault none = by_test (nat_le low n && nat_le n high) refl none
  where
    by_test : (b : Bool) → (nat_le low n && nat_le n high) ≡ b → cond b None (Some fault) ≡ None → (low ≤ n) × (n ≤ high)
    by_test true t e = let both = and_parts _ _ t in (leb-true low n both.0, leb-true n high both.1)
    by_test false t e = absurd cc

number_of : (low high : ℕ) (path : List ℕ) (v : Option Data) (n : ℕ) → option_and_then (λ d. whole_fault scenario_faults low high path (whole d)) v ≡ None → option_and_then whole v ≡ Some n → (low ≤ n) × (n ≤ high)
number_of low high path None n none e = absurd cc
number_of low high path (Some d) n none e = in_range low high n (Refused path rules.OutOfRange) (rw e at none)

pub number_in_range : (low high : ℕ) (path key : List ℕ) (d : Data) (n : ℕ) → number_fault scenario_faults low high path key d ≡ None → number_at key d ≡ Some n → (low ≤ n) × (n ≤ high)
unfolding number_fault
number_in_range low high path key d n none e = number_of low high (key_at path key) (get key d) n none e

count_of : (least most : ℕ) (path : List ℕ) (v : Option Data) (ds : Items) → option_and_then (λ d. count_fault scenario_faults least most path (as_array d)) v ≡ None → option_and_then as_array v ≡ Some ds → (least ≤ items_len ds) × (items_len ds ≤ most)
count_of least most path None ds none e = absurd cc
count_of least most path (Some d) ds none e = in_range least most (items_len ds) (Refused path rules.OutOfRange) (rw e at none)

pub count_in_range : (least most : ℕ) (path key : List ℕ) (d : Data) (ds : Items) → list_fault scenario_faults least most path key d ≡ None → list_at key d ≡ Some ds → (least ≤ items_len ds) × (items_len ds ≤ most)
unfolding list_fault
count_in_range least most path key d ds none e = count_of least most (key_at path key) (get key d) ds none e

-- ---- the item at an index

pub items_from : (vs : List Value) (index : ℕ) (v : Value) → index < length vs → v ≡ get_or vs index v → items_view (drop index vs) ≡ item (view v) (items_view (drop (index + 1) vs))
items_from vs index v within is = rw (add-one, drop-cons vs index v within, ← is) refl
