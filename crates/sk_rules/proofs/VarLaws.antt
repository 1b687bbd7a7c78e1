-- Variables that were read keep the rules of variables.
use Rattle.std.proofs.Common.{◌≡◌, ℕ, ◌<◌, ◌≤◌, ◌^◌, Bool, true, false, List, [], ◌∷◌, ◌++◌, length, Some, Ok, Err, Less, Equal, Greater, String, Global, string_bytes, string_cmp, nat_cmp, cond, eqb, ltb, refl, sym, ap, subst, suc, ◌∙◌, arith, append_assoc, append-nil}
use Rattle.std.specs.Prelude.{Result, ◌&&◌, ◌||◌, nat_le, nat_lt}
use Rattle.std.specs.List.{list_all, position, AllByRecursion}
use Rattle.std.specs.List.Sorted.{IsStrictlySortedBy}
use Rattle.std.specs.Map.{keys_of}
use Rattle.std.specs.Ordering.{ordering_then, is_lt}
use Rattle.std.specs.Cmp.Lexicographic.{slice_cmp}
use Rattle.std.proofs.lemmas.Bool.{and_from, and_parts, le-leb, leb-true, lt-leb}
use Rattle.std.proofs.lemmas.List.{length-map, map-append}
use Rattle.std.proofs.lemmas.List.Folds.{list_all-append}
use Rattle.std.proofs.lemmas.List.Quantifiers.{position-Some}
use Rattle.serde_json.specs.Data.{Data, Members, no_members, member}
use Rattle.serde_json.specs.Events.{members_len}
use Rattle.serde_json.specs.Find.{as_object}
use Rattle.serde_json.specs.View.{members_view}
use Rattle.serde_json.proofs.Views.{Entry}
use Rattle.sk_base.specs.Ranges.{is_name}
use Rattle.sk_config.specs.Paths.{key_at}
use Rattle.sk_config.specs.Json.{whole}
use Rattle.sk_rules.specs.Orders.{is_before, are_sorted}
use Rattle.sk_rules.specs.Outcome.{◌>>◌, must, found}
use Rattle.sk_rules.specs.Vars.{is_var, are_vars, names_of, var_read, value_read, vars_in, vars_read, keys_in}
use Rattle.sk_rules.specs.declared.fault.Rule.TheVariants as rules
use Rattle.sk_rules.specs.declared.fault.ScenarioFault.{ScenarioFault}
use Rattle.sk_rules.specs.declared.fault.ScenarioFault.TheVariants.{Refused}
use Rattle.sk_rules.specs.declared.vars.Var.{Var}
use Rattle.sk_rules.proofs.OutcomeLaws.{then_ok, after_ok, must_ok, ok_is}

-- ---- the keys of an object are in order

before_is : (xs ys : List ℕ) → is_lt (slice_cmp nat_cmp xs ys) ≡ is_before xs ys
before_is [] [] = refl
before_is [] (y ∷ ys) = refl
before_is (x ∷ xs) [] = refl
before_is (x ∷ xs) (y ∷ ys) = by_test (ltb x y) (eqb x y) (before_is xs ys)
  where
    by_test : (lt eq : Bool) → is_lt (slice_cmp nat_cmp xs ys) ≡ is_before xs ys → is_lt (ordering_then (cond lt Less (cond eq Equal Greater)) (slice_cmp nat_cmp xs ys)) ≡ (lt || (eq && is_before xs ys))
    by_test true eq rest = refl
    by_test false true rest = rest
    by_test false false rest = refl

before_each : (key : String Global) (es : List Entry) → AllByRecursion (λ y. string_cmp key y ≡ Less) (keys_of es) → list_all (is_before (string_bytes key)) (keys_in (members_view es)) ≡ true
before_each key [] h = refl
before_each key (e ∷ es) h = and_from _ _ (sym (before_is (string_bytes key) (string_bytes e.0)) ∙ ap is_lt h.0) (before_each key es h.1)

pub keys_sorted : (es : List Entry) → IsStrictlySortedBy string_cmp (keys_of es) → are_sorted (keys_in (members_view es)) ≡ true
unfolding IsStrictlySortedBy
keys_sorted [] h = refl
keys_sorted (e ∷ es) h = and_from _ _ (before_each e.0 es h.0) (keys_sorted es h.1)

-- ---- a variable

value_fits : (path : List ℕ) (d : Data) (value : ℕ) → value_read path d ≡ Ok value → nat_lt value (2 ^ 64) ≡ true
value_fits path d value e =
    then_ok (found path rules.WrongType (whole d)) _ value e
    (λ n there fits. after_ok (must path rules.OutOfRange (nat_lt n (2 ^ 64))) _ value fits
    (λ x small same. subst (λ (m : ℕ). nat_lt m (2 ^ 64) ≡ true) (ok_is n value same) (must_ok _ _ _ _ small)))

var_is : (path key : List ℕ) (d : Data) (var : Var) → var_read path key d ≡ Ok var → (is_var var ≡ true) × (var.name ≡ key)
unfolding is_var
var_is path key d var e =
    after_ok (must (key_at path key) rules.BadText (is_name key)) _ var e
    (λ x named rest. then_ok (value_read (key_at path key) d) _ var rest
    (λ value read made. subst (λ (v : Var). (is_var v ≡ true) × (v.name ≡ key)) (ok_is _ _ made)
    (and_from _ _ (must_ok _ _ _ _ named) (value_fits (key_at path key) d _ read), refl)))

-- ---- variables

pub names_are : (path : List ℕ) (earlier : List Var) (ms : Members) (vars : List Var) → vars_in path earlier ms ≡ Ok vars → names_of vars ≡ names_of earlier ++ keys_in ms
names_are path earlier no_members vars e = ap names_of (sym (ok_is _ _ e)) ∙ sym (append-nil _)
names_are path earlier (member key d ms) vars e =
    then_ok (var_read path key d) _ vars e
    (λ var read rest. names_are path (earlier ++ var ∷ []) ms vars rest ∙ ap (λ (names : List (List ℕ)). names ++ keys_in ms) (map-append (λ (v : Var). v.name) earlier (var ∷ []))
    ∙ append_assoc (names_of earlier) (var.name ∷ []) (keys_in ms) ∙ ap (λ (name : List ℕ). names_of earlier ++ name ∷ keys_in ms) (var_is path key d var read).1)

pub vars_fine : (path : List ℕ) (earlier : List Var) (ms : Members) (vars : List Var) → vars_in path earlier ms ≡ Ok vars → list_all is_var earlier ≡ true → list_all is_var vars ≡ true
vars_fine path earlier no_members vars e fine = subst (λ (vs : List Var). list_all is_var vs ≡ true) (ok_is _ _ e) fine
vars_fine path earlier (member key d ms) vars e fine =
    then_ok (var_read path key d) _ vars e
    (λ var read rest. vars_fine path (earlier ++ var ∷ []) ms vars rest
    (list_all-append is_var earlier _ ∙ and_from _ _ fine (and_from _ _ (var_is path key d var read).0 refl)))

keys_length : (ms : Members) → length (keys_in ms) ≡ members_len ms
keys_length no_members = refl
keys_length (member key d ms) = ap suc (keys_length ms)

pub vars_rules : (path : List ℕ) (ms : Members) (vars : List Var) → vars_in path [] ms ≡ Ok vars → members_len ms ≤ 64 → are_sorted (keys_in ms) ≡ true → are_vars vars ≡ true
unfolding are_vars
vars_rules path ms vars e few sorted =
    let names = names_are path [] ms vars e in
    let count : length vars ≤ 64 = omega (arith, few, keys_length ms, ap length names, length-map vars (λ (v : Var). v.name)) in
    and_from _ _ (le-leb (length vars) 64 count) (and_from _ _ (vars_fine path [] ms vars e refl) (ap are_sorted names ∙ sorted))

-- ---- an object of variables

too_long : (path : List ℕ) (n : ℕ) (rest : Result (List Var) ScenarioFault) → 64 < n → (must path rules.OutOfRange (nat_le n 64) >> rest) ≡ Err (Refused path rules.OutOfRange)
too_long path n rest more = rw (lt-leb n 64 more) refl

module _ (path : List ℕ) (d : Data) (ms : Members) (is : as_object d ≡ Some ms) where
  pub vars_too_many : 64 < members_len ms → vars_read path d ≡ Err (Refused path rules.OutOfRange)
  unfolding vars_read
  vars_too_many more = rw is (too_long path (members_len ms) _ more)

  pub vars_are : members_len ms ≤ 64 → vars_read path d ≡ vars_in path [] ms
  unfolding vars_read
  vars_are few = rw (is, le-leb (members_len ms) 64 few) refl

-- ---- the place of a variable

pub place_small : (test : Var → Bool) (vars : List Var) (place : ℕ) → are_vars vars ≡ true → position test vars ≡ Some place → place < 64
unfolding are_vars
place_small test vars place fine is =
    let within = position-Some test vars place (record { name = []; value = 0 }) is in
    omega (arith, within.0, leb-true (length vars) 64 (and_parts _ _ fine).0)
