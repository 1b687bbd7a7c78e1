-- Required names are those of coordinated participants.
use Rattle.std.proofs.Common.{◌≡◌, ◌≤◌, ◌+◌, ℕ, zero, suc, Bool, true, false, cond, List, [], ◌∷◌, length, refl, subst, Option, Some, None, Ok, arith}
use Rattle.std.specs.Prelude.{◌&&◌, ◌||◌, ◌==◌, nat_le, ⊤}
use Rattle.std.specs.List.{list_all}
use Rattle.std.proofs.lemmas.Bool.{and_from, and_parts, or_left, or_right, le-leb}
use Rattle.sk_msg.specs.Each.{each_after}
use Rattle.sk_msg.specs.Rules.{is_new_name}
use Rattle.sk_rules.specs.Orders.{is_before, are_sorted}
use Rattle.sk_script.specs.Scenarios.{PartValue, names_of, is_coordinated_in, coordinated_names, are_required}
use Rattle.sk_script.specs.Reading.{all_coordinated, required_of}
use Rattle.sk_script.proofs.OutcomeLaws.{after_ok, ok_is}
use Rattle.sk_script.proofs.OrderLaws.{sorted_distinct, same_name}

-- ---- names that the file has

all_stand : (path : List ℕ) (parts : List PartValue) (index : ℕ) (names : List (List ℕ)) (sure : ⊤) → all_coordinated path parts index names ≡ Ok sure → list_all (is_coordinated_in parts) names ≡ true
all_stand path parts index [] sure stand = refl
all_stand path parts index (name ∷ names) sure stand = by_test (is_coordinated_in parts name) refl (all_stand path parts (index + 1) names sure)
  where
    by_test : (b : Bool) → is_coordinated_in parts name ≡ b → (all_coordinated path parts (index + 1) names ≡ Ok sure → list_all (is_coordinated_in parts) names ≡ true)
        → (is_coordinated_in parts name && list_all (is_coordinated_in parts) names) ≡ true
    by_test true e rest = and_from _ _ e (rest (rw e at stand))
    by_test false e rest = let wrong = rw e at stand in absurd cc

given_required : (path : List ℕ) (parts : List PartValue) (names : List (List ℕ)) (sure : ⊤) → (1 ≤ length names) × (length names ≤ 32) × (each_after is_new_name [] names ≡ true) → all_coordinated path parts 0 names ≡ Ok sure → are_required parts names ≡ true
unfolding are_required
given_required path parts names sure h stand =
    and_from _ _ (le-leb (length names) 32 h.1) (and_from _ _ h.2 (and_from _ _ (all_stand path parts 0 names sure stand) (or_left _ _ (le-leb 1 (length names) h.0))))

-- ---- names of all that are coordinated

all_some : (test : List ℕ → Bool) (parts : List PartValue) → list_all test (names_of parts) ≡ true → list_all test (coordinated_names parts) ≡ true
all_some test [] all = refl
all_some test (part ∷ parts) all = by_test part.coordinated (all_some test parts (and_parts _ _ all).1)
  where
    by_test : (b : Bool) → list_all test (coordinated_names parts) ≡ true → list_all test (cond b (part.name ∷ coordinated_names parts) (coordinated_names parts)) ≡ true
    by_test true rest = and_from _ _ (and_parts _ _ all).0 rest
    by_test false rest = rest

some_sorted : (parts : List PartValue) → are_sorted (names_of parts) ≡ true → are_sorted (coordinated_names parts) ≡ true
some_sorted [] sorted = refl
some_sorted (part ∷ parts) sorted = by_test part.coordinated (some_sorted parts (and_parts _ _ sorted).1)
  where
    by_test : (b : Bool) → are_sorted (coordinated_names parts) ≡ true → are_sorted (cond b (part.name ∷ coordinated_names parts) (coordinated_names parts)) ≡ true
    by_test true rest = and_from _ _ (all_some (is_before part.name) parts (and_parts _ _ sorted).0) rest
    by_test false rest = rest

some_few : (parts : List PartValue) → length (coordinated_names parts) ≤ length parts
some_few [] = omega arith
some_few (part ∷ parts) = by_test part.coordinated (some_few parts)
  where
    by_test : (b : Bool) → length (coordinated_names parts) ≤ length parts → length (cond b (part.name ∷ coordinated_names parts) (coordinated_names parts)) ≤ suc (length parts)
    by_test true rest = omega (arith, rest)
    by_test false rest = omega (arith, rest)

stands_later : (part : PartValue) (parts : List PartValue) (name : List ℕ) → is_coordinated_in parts name ≡ true → is_coordinated_in (part ∷ parts) name ≡ true
unfolding is_coordinated_in
stands_later part parts name h = or_right _ _ h

stands_first : (part : PartValue) (parts : List PartValue) → part.coordinated ≡ true → is_coordinated_in (part ∷ parts) part.name ≡ true
unfolding is_coordinated_in
stands_first part parts e = or_left _ _ (and_from _ _ e (same_name part.name))

still_stand : (part : PartValue) (parts : List PartValue) (names : List (List ℕ)) → list_all (is_coordinated_in parts) names ≡ true → list_all (is_coordinated_in (part ∷ parts)) names ≡ true
still_stand part parts [] all = refl
still_stand part parts (name ∷ names) all =
    and_from _ _ (stands_later part parts name (and_parts _ _ all).0) (still_stand part parts names (and_parts _ _ all).1)

some_stand : (parts : List PartValue) → list_all (is_coordinated_in parts) (coordinated_names parts) ≡ true
some_stand [] = refl
some_stand (part ∷ parts) = by_test part.coordinated refl (still_stand part parts _ (some_stand parts))
  where
    by_test : (b : Bool) → part.coordinated ≡ b → list_all (is_coordinated_in (part ∷ parts)) (coordinated_names parts) ≡ true
        → list_all (is_coordinated_in (part ∷ parts)) (cond b (part.name ∷ coordinated_names parts) (coordinated_names parts)) ≡ true
    by_test true e rest = and_from _ _ (stands_first part parts e) rest
    by_test false e rest = rest

one_or_none : (n : ℕ) → (nat_le 1 n || n == 0) ≡ true
one_or_none zero = refl
one_or_none (suc n) = or_left _ _ (le-leb 1 (suc n) (omega arith))

pub own_required : (parts : List PartValue) → are_sorted (names_of parts) ≡ true → length parts ≤ 32 → are_required parts (coordinated_names parts) ≡ true
unfolding are_required
own_required parts sorted few =
    let fewer = some_few parts in
    and_from _ _ (le-leb (length (coordinated_names parts)) 32 (omega (arith, fewer, few)))
    (and_from _ _ (sorted_distinct [] (coordinated_names parts) (some_sorted parts sorted)) (and_from _ _ (some_stand parts) (one_or_none (length (coordinated_names parts)))))

-- ---- the required names

-- those that are given are 1 to 32 distinct ones
abbrev pub AreGiven : Option (List (List ℕ)) → Type 0
AreGiven None = Unit {0}
AreGiven (Some names) = (1 ≤ length names) × (length names ≤ 32) × (each_after is_new_name [] names ≡ true)

pub required_rules : (path : List ℕ) (parts : List PartValue) (given : Option (List (List ℕ))) (names : List (List ℕ)) → AreGiven given → are_sorted (names_of parts) ≡ true → length parts ≤ 32
    → required_of path parts given ≡ Ok names → are_required parts names ≡ true
required_rules path parts None names h sorted few is = subst (λ (ns : List (List ℕ)). are_required parts ns ≡ true) (ok_is _ _ is) (own_required parts sorted few)
required_rules path parts (Some given) names h sorted few is =
    after_ok (all_coordinated path parts 0 given) _ names is
    (λ sure stand same. subst (λ (ns : List (List ℕ)). are_required parts ns ≡ true) (ok_is _ _ same) (given_required path parts given sure h stand))
