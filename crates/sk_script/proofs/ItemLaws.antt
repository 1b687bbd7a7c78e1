-- What was read of the items of a list.
use Rattle.std.proofs.Common.{◌≡◌, ℕ, ◌+◌, Bool, true, List, [], ◌∷◌, ◌++◌, length, length-append, Ok, refl, sym, ap, subst, ◌∙◌, arith, append_assoc, append-nil}
use Rattle.std.specs.Prelude.{Result}
use Rattle.std.proofs.lemmas.Bool.{and_from, and_parts}
use Rattle.serde_json.specs.Data.{Data, Items, no_items, item}
use Rattle.serde_json.specs.Events.{items_len}
use Rattle.sk_msg.specs.Each.{each_after}
use Rattle.sk_config.specs.Paths.{index_at}
use Rattle.sk_rules.specs.Fields.{items_read}
use Rattle.sk_rules.specs.declared.fault.ScenarioFault.{ScenarioFault}
use Rattle.sk_script.proofs.OutcomeLaws.{then_ok, ok_is}

-- one more at the end
each_after-snoc : {A : Type 0} (test : List A → A → Bool) (before xs : List A) (x : A) → each_after test before xs ≡ true → test (before ++ xs) x ≡ true → each_after test before (xs ++ x ∷ []) ≡ true
each_after-snoc {A = A} test before [] x h t = and_from _ _ (ap (λ (ys : List A). test ys x) (sym (append-nil before)) ∙ t) refl
each_after-snoc {A = A} test before (y ∷ ys) x h t =
    let both = and_parts _ _ h in
    and_from _ _ both.0 (each_after-snoc test (before ++ y ∷ []) ys x both.1 (ap (λ (zs : List A). test zs x) (append_assoc before (y ∷ []) ys) ∙ t))

-- where each item that is read passes the test behind those before it, all do
pub items_pass : {A : Type 0} (read : List ℕ → List A → Data → Result A ScenarioFault) (test : List A → A → Bool)
    → ((place : List ℕ) (before : List A) (d : Data) (value : A) → read place before d ≡ Ok value → test before value ≡ true)
    → (path : List ℕ) (earlier : List A) (index : ℕ) (ds : Items) (values : List A)
    → items_read read path earlier index ds ≡ Ok values → each_after test [] earlier ≡ true → each_after test [] values ≡ true
items_pass {A = A} read test each path earlier index no_items values e fine = subst (λ (vs : List A). each_after test [] vs ≡ true) (ok_is _ _ e) fine
items_pass read test each path earlier index (item d ds) values e fine =
    then_ok (read (index_at path index) earlier d) _ values e
    (λ value is rest. items_pass read test each path (earlier ++ value ∷ []) (index + 1) ds values rest
    (each_after-snoc test [] earlier value fine (each _ _ _ value is)))

-- there are as many as items
pub items_number : {A : Type 0} (read : List ℕ → List A → Data → Result A ScenarioFault) (path : List ℕ) (earlier : List A) (index : ℕ) (ds : Items) (values : List A)
    → items_read read path earlier index ds ≡ Ok values → length values ≡ length earlier + items_len ds
items_number {A = A} read path earlier index no_items values e = let same : length earlier ≡ length values = ap length (ok_is {A = List A} earlier values e) in omega arith
items_number read path earlier index (item d ds) values e =
    then_ok (read (index_at path index) earlier d) _ values e
    (λ value is rest. let count = items_number read path (earlier ++ value ∷ []) (index + 1) ds values rest in omega (arith, count, length-append earlier (value ∷ [])))
