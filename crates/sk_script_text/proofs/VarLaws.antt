-- What is written of variables reads as them.
use Rattle.std.proofs.Common.{◌≡◌, ℕ, suc, ◌^◌, Bool, true, false, List, [], ◌∷◌, ◌++◌, length, map, Ok, Greater, nat_cmp, refl, sym, ap, ◌∙◌, arith}
use Rattle.std.specs.Prelude.{◌&&◌, ◌==◌, nat_le, nat_lt}
use Rattle.std.specs.Cmp.Lexicographic.{slice_cmp}
use Rattle.std.specs.List.{list_all}
use Rattle.std.proofs.lemmas.Bool.{and_from, and_parts, false≢true}
use Rattle.std.proofs.lemmas.Bool.Decides.{nat_tests}
use Rattle.serde_json.specs.Data.{Data, unsigned, number, Members, no_members, member, put}
use Rattle.serde_json.specs.Events.{members_len}
use Rattle.serde_json.specs.Find.{get}
use Rattle.sk_base.specs.Ranges.{is_name}
use Rattle.sk_config.specs.Paths.{key_at}
use Rattle.sk_rules.specs.Orders.{is_before, are_sorted}
use Rattle.sk_rules.specs.Vars.{is_var, are_vars, names_of, vars_in, vars_read}
use Rattle.sk_rules.specs.declared.vars.Var.{Var}
use Rattle.sk_script.specs.Keys.{vars_key}
use Rattle.sk_script.specs.Parts.{own_vars_read}
use Rattle.sk_script_text.specs.Objects.{put_some, put_all, with_fields}
use Rattle.sk_script_text.specs.Services.{var_field, vars_data}

-- ---- keys that come in order are put in order

-- a key behind the other
behind : (k l : List ℕ) → is_before l k ≡ true → slice_cmp nat_cmp k l ≡ Greater
behind [] [] h = absurd (false≢true h)
behind [] (y ∷ ys) h = absurd (false≢true h)
behind (x ∷ xs) [] h = refl
behind (x ∷ xs) (y ∷ ys) h = by_test (nat_lt y x) refl (behind xs ys)
  where
    by_test : (b : Bool) → nat_lt y x ≡ b → (is_before ys xs ≡ true → slice_cmp nat_cmp xs ys ≡ Greater) → slice_cmp nat_cmp (x ∷ xs) (y ∷ ys) ≡ Greater
    by_test true t later =
        let less : nat_lt x y ≡ false = grind (arith, nat_tests, t) in
        let same : (x == y) ≡ false = grind (arith, nat_tests, t) in
        rw (less, same) refl
    by_test false t later =
        let p = and_parts (y == x) (is_before ys xs) (rw t at h) in
        let less : nat_lt x y ≡ false = grind (arith, nat_tests, p.0) in
        let same : (x == y) ≡ true = grind (arith, nat_tests, p.0) in
        rw (less, same) (later p.1)

-- each of these keys comes before the name
abbrev keys_before : Members → List ℕ → Bool
keys_before no_members name = true
keys_before (member k d ms) name = is_before k name && keys_before ms name

abbrev add_last : List ℕ → Data → Members → Members
add_last k d no_members = member k d no_members
add_last k d (member l e ms) = member l e (add_last k d ms)

put_last : (k : List ℕ) (d : Data) (ms : Members) → keys_before ms k ≡ true → put k d ms ≡ add_last k d ms
put_last k d no_members h = refl
put_last k d (member l e ms) h = let p = and_parts (is_before l k) (keys_before ms k) h in rw (behind k l p.0) (ap (member l e) (put_last k d ms p.1))

last_before : (k : List ℕ) (d : Data) (ms : Members) (name : List ℕ) → keys_before ms name ≡ true → is_before k name ≡ true → keys_before (add_last k d ms) name ≡ true
last_before k d no_members name h less = and_from _ _ less refl
last_before k d (member l e ms) name h less = let p = and_parts (is_before l name) (keys_before ms name) h in and_from _ _ p.0 (last_before k d ms name p.1 less)

all_before : (k : List ℕ) (d : Data) (ms : Members) (names : List (List ℕ)) → list_all (keys_before ms) names ≡ true → list_all (is_before k) names ≡ true → list_all (keys_before (add_last k d ms)) names ≡ true
all_before k d ms [] p q = refl
all_before k d ms (name ∷ names) p q =
    let a = and_parts _ _ p in
    let b = and_parts _ _ q in
    and_from _ _ (last_before k d ms name a.0 b.0) (all_before k d ms names a.1 b.1)

none_before : (names : List (List ℕ)) → list_all (keys_before no_members) names ≡ true
none_before [] = refl
none_before (name ∷ names) = none_before names

abbrev value_of : Var → Data
value_of var = number (unsigned var.value)

-- the members, and behind them these variables in their order
abbrev join : Members → List Var → Members
join no_members [] = no_members
join no_members (var ∷ vars) = member var.name (value_of var) (join no_members vars)
join (member k d ms) vars = member k d (join ms vars)

join_last : (ms : Members) (var : Var) (vars : List Var) → join (add_last var.name (value_of var) ms) vars ≡ join ms (var ∷ vars)
join_last no_members var vars = refl
join_last (member k d ms) var vars = ap (member k d) (join_last ms var vars)

join_none : (ms : Members) → ms ≡ join ms []
join_none no_members = refl
join_none (member k d ms) = ap (member k d) (join_none ms)

put_in_order : (vars : List Var) (ms : Members) → list_all (keys_before ms) (names_of vars) ≡ true → are_sorted (names_of vars) ≡ true → put_all (map var_field vars) ms ≡ join ms vars
unfolding put_some
put_in_order [] ms before sorted = join_none ms
put_in_order (var ∷ vars) ms before sorted =
    let b = and_parts _ _ before in
    let s = and_parts _ _ sorted in
    ap (put_all (map var_field vars)) (put_last var.name (value_of var) ms b.0)
    ∙ put_in_order vars (add_last var.name (value_of var) ms) (all_before var.name (value_of var) ms (names_of vars) b.1 s.0) s.1
    ∙ join_last ms var vars

-- ---- they are read in this order

number_of : (vars : List Var) → members_len (join no_members vars) ≡ length vars
number_of [] = refl
number_of (var ∷ vars) = ap suc (number_of vars)

append_one : (xs : List Var) (y : Var) (ys : List Var) → (xs ++ y ∷ []) ++ ys ≡ xs ++ y ∷ ys
append_one [] y ys = refl
append_one (x ∷ xs) y ys = ap (λ (zs : List Var). x ∷ zs) (append_one xs y ys)

append_none : (xs : List Var) → xs ++ [] ≡ xs
append_none [] = refl
append_none (x ∷ xs) = ap (λ (zs : List Var). x ∷ zs) (append_none xs)

each_back : (path : List ℕ) (earlier vars : List Var) → list_all is_var vars ≡ true → vars_in path earlier (join no_members vars) ≡ Ok (earlier ++ vars)
unfolding is_var
each_back path earlier [] h = ap Ok (sym (append_none earlier))
each_back path earlier (var ∷ vars) h =
    let p = and_parts _ _ h in
    let q = and_parts (is_name var.name) (nat_lt var.value (2 ^ 64)) p.0 in
    rw (q.0, q.1, each_back path (earlier ++ var ∷ []) vars p.1) (ap Ok (append_one earlier var vars))

vars_back : (path : List ℕ) (vars : List Var) → are_vars vars ≡ true → vars_read path (with_fields (map var_field vars)) ≡ Ok vars
unfolding vars_read are_vars with_fields
vars_back path vars h =
    let p = and_parts (nat_le (length vars) 64) (list_all is_var vars && are_sorted (names_of vars)) h in
    let q = and_parts (list_all is_var vars) (are_sorted (names_of vars)) p.1 in
    rw (put_in_order vars no_members (none_before (names_of vars)) q.1, number_of vars, p.0, each_back path [] vars q.0) refl

pub own_vars_back : (path : List ℕ) (d : Data) (vars : List Var) → are_vars vars ≡ true → get vars_key d ≡ vars_data vars → own_vars_read path d ≡ Ok vars
unfolding own_vars_read
own_vars_back path d [] h there = rw there refl
own_vars_back path d (var ∷ vars) h there = rw (there, vars_back (key_at path vars_key) (var ∷ vars) h) refl
