-- Participants put in their places: they are the same ones, and their names are in order.
use Rattle.std.proofs.Common.{◌≡◌, ◌+◌, ◌≤◌, ℕ, suc, Bool, true, false, cond, List, [], ◌∷◌, ◌++◌, length, refl, sym, ap, subst, ◌∙◌, arith, rules, append_assoc, append-nil}
use Rattle.std.specs.Prelude.{not, ◌&&◌, ◌||◌, nat_lt, fold, map, Some, None, Ok, ⊤}
use Rattle.std.specs.List.{insert, position, prefix_len, list_all, list_any}
use Rattle.std.specs.List.Sorted.{IsPermutation}
use Rattle.std.proofs.lemmas.List.Sorted.{IsPermutation-refl, IsPermutation-trans, IsPermutation-insert, IsPermutation-to_front, IsPermutation-append_left}
use Rattle.std.specs.Option.{unwrap_or}
use Rattle.std.specs.Str.{bytes_eq}
use Rattle.std.proofs.lemmas.Bool.{and_from, and_parts, or_parts}
use Rattle.std.proofs.lemmas.List.Sums.{fold-append, prefix_len-le-length}
use Rattle.sk_rules.specs.Orders.{is_before, are_sorted}
use Rattle.sk_script.specs.Scenarios.{PartReadValue, has_name}
use Rattle.sk_script.specs.Placing.{place, put_in_place, in_order}
use Rattle.sk_script.specs.Reading.{names_differ}
use Rattle.sk_script.proofs.OrderLaws.{before_other, before_all}

-- the names of those that were read
abbrev pub names_in : List PartReadValue → List (List ℕ)
names_in reads = map (λ read. read.part.name) reads

-- ---- a place

counted : (before : Bool) (n m : ℕ) → n ≡ m → cond (not (not before)) (1 + n) 0 ≡ cond before (suc m) 0
counted true n m is = omega (arith, is)
counted false n m is = refl

place_prefix : (new : PartReadValue) (parts : List PartReadValue) → prefix_len (λ one. not (not (is_before one.part.name new.part.name))) parts ≡ place new parts
place_prefix new [] = refl
place_prefix new (part ∷ parts) = counted (is_before part.part.name new.part.name) _ _ (place_prefix new parts)

found : (n len : ℕ) → n ≤ len → unwrap_or (cond (nat_lt n len) (Some n) None) len ≡ n
found n len within = grind (arith, rules)

pub place_is : (new : PartReadValue) (parts : List PartReadValue) → unwrap_or (position (λ one. not (is_before one.part.name new.part.name)) parts) (length parts) ≡ place new parts
place_is new parts = found _ (length parts) (prefix_len-le-length (λ one. not (not (is_before one.part.name new.part.name))) parts) ∙ place_prefix new parts

pub place_within : (new : PartReadValue) (parts : List PartReadValue) → place new parts ≤ length parts
place_within new parts = subst (λ n. n ≤ length parts) (place_prefix new parts) (prefix_len-le-length (λ one. not (not (is_before one.part.name new.part.name))) parts)

pub put_at : (new : PartReadValue) (parts : List PartReadValue) → insert parts (place new parts) new ≡ put_in_place new parts
put_at new [] = refl
put_at new (part ∷ parts) = by_test (is_before part.part.name new.part.name) (put_at new parts)
  where
    by_test : (before : Bool) → insert parts (place new parts) new ≡ put_in_place new parts
        → insert (part ∷ parts) (cond before (suc (place new parts)) 0) new ≡ cond before (part ∷ put_in_place new parts) (new ∷ part ∷ parts)
    by_test true rest = ap (λ later. part ∷ later) rest
    by_test false rest = refl

-- ---- one more

pub put_last : (parts : List PartReadValue) (part : PartReadValue) → in_order (parts ++ part ∷ []) ≡ put_in_place part (in_order parts)
unfolding in_order
put_last parts part = fold-append (λ placed one. put_in_place one placed) [] parts (part ∷ [])

-- ---- the same participants

module _ (test : PartReadValue → Bool) where
  swapped : (a b c : Bool) → (b || (a || c)) ≡ (a || (b || c))
  swapped true true c = refl
  swapped true false c = refl
  swapped false true c = refl
  swapped false false c = refl

  any_put : (new : PartReadValue) (parts : List PartReadValue) → list_any test (put_in_place new parts) ≡ (test new || list_any test parts)
  any_put new [] = refl
  any_put new (part ∷ parts) = by_test (is_before part.part.name new.part.name) (any_put new parts)
    where
      by_test : (before : Bool) → list_any test (put_in_place new parts) ≡ (test new || list_any test parts) → list_any test (cond before (part ∷ put_in_place new parts) (new ∷ part ∷ parts)) ≡ (test new || (test part || list_any test parts))
      by_test true rest = ap (λ later. test part || later) rest ∙ swapped (test new) (test part) (list_any test parts)
      by_test false rest = refl

  both_swapped : (a b c : Bool) → (b && (a && c)) ≡ (a && (b && c))
  both_swapped true true c = refl
  both_swapped true false c = refl
  both_swapped false true c = refl
  both_swapped false false c = refl

  all_put : (new : PartReadValue) (parts : List PartReadValue) → list_all test (put_in_place new parts) ≡ (test new && list_all test parts)
  all_put new [] = refl
  all_put new (part ∷ parts) = by_test (is_before part.part.name new.part.name) (all_put new parts)
    where
      by_test : (before : Bool) → list_all test (put_in_place new parts) ≡ (test new && list_all test parts) → list_all test (cond before (part ∷ put_in_place new parts) (new ∷ part ∷ parts)) ≡ (test new && (test part && list_all test parts))
      by_test true rest = ap (λ later. test part && later) rest ∙ both_swapped (test new) (test part) (list_all test parts)
      by_test false rest = refl

  all_fold : (ordered parts : List PartReadValue) → list_all test ordered ≡ true → list_all test parts ≡ true → list_all test (fold (λ placed part. put_in_place part placed) ordered parts) ≡ true
  all_fold ordered [] so_far left = so_far
  all_fold ordered (part ∷ parts) so_far left =
      let both = and_parts _ _ left in
      all_fold (put_in_place part ordered) parts (all_put part ordered ∙ and_from _ _ both.0 so_far) both.1

  -- what each passes, each passes in order
  pub all_in_order : (parts : List PartReadValue) → list_all test parts ≡ true → list_all test (in_order parts) ≡ true
  unfolding in_order
  all_in_order parts all = all_fold [] parts refl all

length_put : (new : PartReadValue) (parts : List PartReadValue) → length (put_in_place new parts) ≡ suc (length parts)
length_put new [] = refl
length_put new (part ∷ parts) = by_test (is_before part.part.name new.part.name) (length_put new parts)
  where
    by_test : (before : Bool) → length (put_in_place new parts) ≡ suc (length parts) → length (cond before (part ∷ put_in_place new parts) (new ∷ part ∷ parts)) ≡ suc (suc (length parts))
    by_test true rest = ap suc rest
    by_test false rest = refl

length_fold : (ordered parts : List PartReadValue) → length (fold (λ placed part. put_in_place part placed) ordered parts) ≡ length ordered + length parts
length_fold ordered [] = omega arith
length_fold ordered (part ∷ parts) = let rest = length_fold (put_in_place part ordered) parts in let one = length_put part ordered in omega (arith, rest, one)

pub length_in_order : (parts : List PartReadValue) → length (in_order parts) ≡ length parts
unfolding in_order
length_in_order parts = let whole = length_fold [] parts in omega (arith, whole)

-- ---- in order

all_names : (test : List ℕ → Bool) (new : PartReadValue) (parts : List PartReadValue) → list_all test (names_in parts) ≡ true → test new.part.name ≡ true → list_all test (names_in (put_in_place new parts)) ≡ true
all_names test new [] all passes = and_from _ _ passes refl
all_names test new (part ∷ parts) all passes = by_test (is_before part.part.name new.part.name) (all_names test new parts (and_parts _ _ all).1 passes)
  where
    by_test : (before : Bool) → list_all test (names_in (put_in_place new parts)) ≡ true → list_all test (names_in (cond before (part ∷ put_in_place new parts) (new ∷ part ∷ parts))) ≡ true
    by_test true rest = and_from _ _ (and_parts _ _ all).0 rest
    by_test false rest = and_from _ _ passes all

put_sorted : (new : PartReadValue) (parts : List PartReadValue) → are_sorted (names_in parts) ≡ true → list_any (λ part. bytes_eq part.part.name new.part.name) parts ≡ false → are_sorted (names_in (put_in_place new parts)) ≡ true
put_sorted new [] sorted differs = refl
put_sorted new (part ∷ parts) sorted differs = by_test (is_before part.part.name new.part.name) refl (put_sorted new parts (and_parts _ _ sorted).1 (or_parts _ _ differs).1)
  where
    by_test : (before : Bool) → is_before part.part.name new.part.name ≡ before → are_sorted (names_in (put_in_place new parts)) ≡ true → are_sorted (names_in (cond before (part ∷ put_in_place new parts) (new ∷ part ∷ parts))) ≡ true
    by_test true e rest = and_from _ _ (all_names (is_before part.part.name) new parts (and_parts _ _ sorted).0 e) rest
    by_test false e rest =
        let first = before_other part.part.name new.part.name e (or_parts _ _ differs).0 in
        and_from _ _ (and_from _ _ first (before_all new.part.name part.part.name (names_in parts) first (and_parts _ _ sorted).0)) sorted

any_end : (test : PartReadValue → Bool) (part : PartReadValue) (xs : List PartReadValue) → list_any test (xs ++ part ∷ []) ≡ (test part || list_any test xs)
any_end test part [] = refl
any_end test part (x ∷ xs) = ap (λ later. test x || later) (any_end test part xs) ∙ swapped test (test part) (test x) (list_any test xs)

-- whose name none before it has
first_new : (path : List ℕ) (earlier : List PartReadValue) (index : ℕ) (part : PartReadValue) (parts : List PartReadValue) (sure : ⊤)
    → names_differ path earlier index (part ∷ parts) ≡ Ok sure
    → (list_any (λ one. bytes_eq one.part.name part.part.name) earlier ≡ false) × (names_differ path (earlier ++ part ∷ []) (index + 1) parts ≡ Ok sure)
unfolding has_name
first_new path earlier index part parts sure differ = by_test (list_any (λ one. bytes_eq one.part.name part.part.name) earlier) refl
  where
    by_test : (b : Bool) → list_any (λ one. bytes_eq one.part.name part.part.name) earlier ≡ b
        → (list_any (λ one. bytes_eq one.part.name part.part.name) earlier ≡ false) × (names_differ path (earlier ++ part ∷ []) (index + 1) parts ≡ Ok sure)
    by_test true e = let wrong = rw e at differ in absurd cc
    by_test false e = (e, rw e at differ)

-- so far these are put in their places, and they are those before
sorted_fold : (path : List ℕ) (earlier : List PartReadValue) (index : ℕ) (ordered parts : List PartReadValue) (sure : ⊤)
    → names_differ path earlier index parts ≡ Ok sure
    → are_sorted (names_in ordered) ≡ true
    → ((test : PartReadValue → Bool) → list_any test ordered ≡ list_any test earlier)
    → are_sorted (names_in (fold (λ placed part. put_in_place part placed) ordered parts)) ≡ true
sorted_fold path earlier index ordered [] sure none sorted same = sorted
sorted_fold path earlier index ordered (part ∷ parts) sure none sorted same =
    let new = first_new path earlier index part parts sure none in
    sorted_fold path (earlier ++ part ∷ []) (index + 1) (put_in_place part ordered) parts sure new.1
    (put_sorted part ordered sorted (same (λ one. bytes_eq one.part.name part.part.name) ∙ new.0))
    (λ test. any_put test part ordered ∙ ap (λ later. test part || later) (same test) ∙ sym (any_end test part earlier))

-- where no two have one name
pub in_order_sorted : (path : List ℕ) (parts : List PartReadValue) (sure : ⊤) → names_differ path [] 0 parts ≡ Ok sure → are_sorted (names_in (in_order parts)) ≡ true
unfolding in_order
in_order_sorted path parts sure none = sorted_fold path [] 0 [] parts sure none refl (λ test. refl)

-- ---- the same ones

put_same : (new : PartReadValue) (parts : List PartReadValue) → IsPermutation (new ∷ parts) (put_in_place new parts)
put_same new parts = subst (IsPermutation (new ∷ parts)) (put_at new parts) (IsPermutation-insert parts (place new parts) new)

fold_same : (ordered parts : List PartReadValue) → IsPermutation (ordered ++ parts) (fold (λ placed part. put_in_place part placed) ordered parts)
fold_same ordered [] = subst (λ (xs : List PartReadValue). IsPermutation xs ordered) (sym (append-nil ordered)) (IsPermutation-refl ordered)
fold_same ordered (part ∷ parts) =
    let front = IsPermutation-trans _ _ _ (IsPermutation-to_front ordered part) (put_same part ordered) in
    let both = subst (λ (xs : List PartReadValue). IsPermutation xs (put_in_place part ordered ++ parts)) (append_assoc ordered (part ∷ []) parts) (IsPermutation-append_left parts _ _ front) in
    IsPermutation-trans _ _ _ both (fold_same (put_in_place part ordered) parts)

pub in_order_same : (parts : List PartReadValue) → IsPermutation parts (in_order parts)
unfolding in_order
in_order_same parts = fold_same [] parts
