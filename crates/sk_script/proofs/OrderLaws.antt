-- The byte order of names is an order, and names in it are distinct.
use Rattle.std.proofs.Common.{◌≡◌, ℕ, Bool, true, false, cond, List, [], ◌∷◌, ◌++◌, Ordering, Less, Equal, Greater, refl, sym, ap, ◌∙◌, eqb, ltb}
use Rattle.std.specs.Prelude.{◌&&◌, ◌||◌}
use Rattle.std.specs.List.{list_all, list_any}
use Rattle.std.specs.Ordering.{ordering_then, ordering_reverse, nat_cmp, is_lt, is_eq}
use Rattle.std.specs.Cmp.Lexicographic.{slice_cmp}
use Rattle.std.specs.Str.{bytes_eq}
use Rattle.std.proofs.lemmas.Bool.{eq-eqb, and_from, and_parts, or_from, not_from_false}
use Rattle.std.proofs.lemmas.Cmp.{nat_list_cmp_total}
use Rattle.std.proofs.lemmas.Map.Text.{is_eq-slice_cmp}
use Rattle.sk_msg.specs.Each.{each_after}
use Rattle.sk_msg.specs.Rules.{is_new_name}
use Rattle.sk_rules.specs.Orders.{is_before, are_sorted}

-- it is what `<` of two texts answers
pub before_is : (xs ys : List ℕ) → is_lt (slice_cmp nat_cmp xs ys) ≡ is_before xs ys
before_is [] [] = refl
before_is [] (y ∷ ys) = refl
before_is (x ∷ xs) [] = refl
before_is (x ∷ xs) (y ∷ ys) = by_test (ltb x y) (eqb x y) (before_is xs ys)
  where
    by_test : (lt eq : Bool) → is_lt (slice_cmp nat_cmp xs ys) ≡ is_before xs ys → is_lt (ordering_then (cond lt Less (cond eq Equal Greater)) (slice_cmp nat_cmp xs ys)) ≡ (lt || (eq && is_before xs ys))
    by_test true eq rest = refl
    by_test false true rest = rest
    by_test false false rest = refl

less_is : (o : Ordering) → is_lt o ≡ true → o ≡ Less
less_is Less e = refl
less_is Equal e = absurd cc
less_is Greater e = absurd cc

pub before_trans : (a b c : List ℕ) → is_before a b ≡ true → is_before b c ≡ true → is_before a c ≡ true
before_trans a b c p q =
    sym (before_is a c) ∙ ap is_lt (nat_list_cmp_total.trans a b c (less_is _ (before_is a b ∙ p)) (less_is _ (before_is b c ∙ q)))

greater_back : (o : Ordering) → is_lt o ≡ false → is_eq o ≡ false → ordering_reverse o ≡ Less
greater_back Less e f = absurd cc
greater_back Equal e f = absurd cc
greater_back Greater e f = refl

-- of two different names one comes before the other
pub before_other : (a b : List ℕ) → is_before a b ≡ false → bytes_eq a b ≡ false → is_before b a ≡ true
before_other a b p q =
    sym (before_is b a) ∙ ap is_lt (nat_list_cmp_total.antisymm b a ∙ greater_back _ (before_is a b ∙ p) (is_eq-slice_cmp a b ∙ q))

pub same_name : (name : List ℕ) → bytes_eq name name ≡ true
same_name [] = refl
same_name (x ∷ xs) = and_from _ _ (eq-eqb x x refl) (same_name xs)

less_differs : (o : Ordering) → is_lt o ≡ true → is_eq o ≡ false
less_differs Less e = refl
less_differs Equal e = absurd cc
less_differs Greater e = absurd cc

pub before_differs : (a b : List ℕ) → is_before a b ≡ true → bytes_eq a b ≡ false
before_differs a b p = sym (is_eq-slice_cmp a b) ∙ less_differs _ (before_is a b ∙ p)

-- what comes before the first comes before all
pub before_all : (a b : List ℕ) (names : List (List ℕ)) → is_before a b ≡ true → list_all (is_before b) names ≡ true → list_all (is_before a) names ≡ true
before_all a b [] p all = refl
before_all a b (name ∷ names) p all =
    let both = and_parts _ _ all in
    and_from _ _ (before_trans a b name p both.0) (before_all a b names p both.1)

-- ---- names in order are distinct

-- a part of what passes
all_last : (test : List ℕ → Bool) (names : List (List ℕ)) (name : List ℕ) (later : List (List ℕ)) → list_all test (names ++ name ∷ later) ≡ true → test name ≡ true
all_last test [] name later all = (and_parts _ _ all).0
all_last test (first ∷ names) name later all = all_last test names name later (and_parts _ _ all).1

new_behind : (before : List (List ℕ)) (name : List ℕ) (later : List (List ℕ)) → are_sorted (before ++ name ∷ later) ≡ true → list_any (λ other. bytes_eq other name) before ≡ false
new_behind [] name later sorted = refl
new_behind (first ∷ before) name later sorted =
    let both = and_parts _ _ sorted in
    or_from _ _ (before_differs first name (all_last (is_before first) before name later both.0)) (new_behind before name later both.1)

append_one : (before : List (List ℕ)) (name : List ℕ) (later : List (List ℕ)) → (before ++ name ∷ []) ++ later ≡ before ++ name ∷ later
append_one [] name later = refl
append_one (first ∷ before) name later = ap (λ names. first ∷ names) (append_one before name later)

pub sorted_distinct : (before names : List (List ℕ)) → are_sorted (before ++ names) ≡ true → each_after is_new_name before names ≡ true
unfolding is_new_name
sorted_distinct before [] sorted = refl
sorted_distinct before (name ∷ names) sorted =
    and_from _ _ (not_from_false _ (new_behind before name names sorted))
    (sorted_distinct (before ++ name ∷ []) names (ap are_sorted (append_one before name names) ∙ sorted))
