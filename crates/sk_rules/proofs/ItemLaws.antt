-- What was read of the items of a list: a test that each passes, and how many they are.
use Rattle.std.proofs.Common.{◌≡◌, ℕ, ◌+◌, Bool, true, List, [], ◌∷◌, ◌++◌, length, length-append, Ok, refl, ap, subst, ◌∙◌, arith}
use Rattle.std.specs.Prelude.{Result}
use Rattle.std.specs.List.{list_all}
use Rattle.std.proofs.lemmas.Bool.{and_from}
use Rattle.std.proofs.lemmas.List.Folds.{list_all-append}
use Rattle.serde_json.specs.Data.{Data, Items, no_items, item}
use Rattle.serde_json.specs.Events.{items_len}
use Rattle.sk_config.specs.Paths.{index_at}
use Rattle.sk_rules.specs.Fields.{items_read}
use Rattle.sk_rules.specs.declared.fault.ScenarioFault.{ScenarioFault}
use Rattle.sk_rules.proofs.OutcomeLaws.{then_ok, ok_is}

-- where each item that is read passes the test, all do
pub items_pass : {A : Type 0} (read : List ℕ → List A → Data → Result A ScenarioFault) (test : A → Bool)
    → ((place : List ℕ) (before : List A) (d : Data) (value : A) → read place before d ≡ Ok value → test value ≡ true)
    → (path : List ℕ) (earlier : List A) (index : ℕ) (ds : Items) (values : List A)
    → items_read read path earlier index ds ≡ Ok values → list_all test earlier ≡ true → list_all test values ≡ true
items_pass {A = A} read test each path earlier index no_items values e fine = subst (λ (vs : List A). list_all test vs ≡ true) (ok_is _ _ e) fine
items_pass read test each path earlier index (item d ds) values e fine =
    then_ok (read (index_at path index) earlier d) _ values e
    (λ value is rest. items_pass read test each path (earlier ++ value ∷ []) (index + 1) ds values rest
    (list_all-append test earlier _ ∙ and_from _ _ fine (and_from _ _ (each _ _ _ value is) refl)))

-- there are as many as items
pub items_number : {A : Type 0} (read : List ℕ → List A → Data → Result A ScenarioFault) (path : List ℕ) (earlier : List A) (index : ℕ) (ds : Items) (values : List A)
    → items_read read path earlier index ds ≡ Ok values → length values ≡ length earlier + items_len ds
items_number {A = A} read path earlier index no_items values e = let same : length earlier ≡ length values = ap length (ok_is {A = List A} earlier values e) in omega arith
items_number read path earlier index (item d ds) values e =
    then_ok (read (index_at path index) earlier d) _ values e
    (λ value is rest. let count = items_number read path (earlier ++ value ∷ []) (index + 1) ds values rest in omega (arith, count, length-append earlier (value ∷ [])))
