-- The order in which responses of different identifiers or sources are kept makes no difference.
use Rattle.std.proofs.Common.{◌≡◌, ℕ, Bool, true, false, cond, List, [], ◌∷◌, refl, ap, sym, ◌∙◌, rules, arith, nat_lt}
use Rattle.std.specs.Prelude.{◌&&◌, ◌||◌, ◌==◌}
use Rattle.sk_lin.specs.declared.kept.Kept.{Kept}
use Rattle.sk_lin.specs.Kept.{peer_rank, service_rank, is_before, is_in_place_of, keep}
use Rattle.sk_lin.proofs.KeptLaws.{past, instead, front}

-- ## Three numbers, the first of which count most

abbrev before : (p s i q t j : ℕ) → Bool
before p s i q t j = nat_lt p q || (p == q && (nat_lt s t || (s == t && nat_lt i j)))

abbrev same : (p s i q t j : ℕ) → Bool
same p s i q t j = p == q && (s == t && i == j)

-- x is before a and not before b
between : (p s i q t j r u k : ℕ) → before p s i q t j ≡ true → before p s i r u k ≡ false → before r u k q t j ≡ true
between p s i q t j r u k a b = grind (arith, rules, a, b)

other_way : (p s i q t j : ℕ) → same p s i q t j ≡ false → before p s i q t j ≡ false → before q t j p s i ≡ true
other_way p s i q t j a b = grind (arith, rules, a, b)

not_both : (p s i q t j : ℕ) → before p s i q t j ≡ true → before q t j p s i ≡ false
not_both p s i q t j a = grind (arith, rules, a)

turned : (p s i q t j : ℕ) → same p s i q t j ≡ false → same q t j p s i ≡ false
turned p s i q t j a = grind (arith, rules, a)

-- b is before x, which is in a's place
below : (p s i q t j r u k : ℕ) → same p s i q t j ≡ true → before p s i r u k ≡ false → same p s i r u k ≡ false → before r u k q t j ≡ true
below p s i q t j r u k a b c = grind (arith, rules, a, b, c)

one_place : (p s i q t j r u k : ℕ) → same p s i q t j ≡ true → same p s i r u k ≡ true → same q t j r u k ≡ true
one_place p s i q t j r u k a b = grind (arith, rules, a, b)

-- ## The same of what is kept

module _ (a b : Kept) where
  module _ (x : Kept) where
    is_between : is_before x a ≡ true → is_before x b ≡ false → is_before b a ≡ true
    is_between = between x.response.id (peer_rank x.source) (service_rank x.source) a.response.id (peer_rank a.source) (service_rank a.source) b.response.id (peer_rank b.source) (service_rank b.source)

    is_below : is_in_place_of x a ≡ true → is_before x b ≡ false → is_in_place_of x b ≡ false → is_before b a ≡ true
    is_below = below x.response.id (peer_rank x.source) (service_rank x.source) a.response.id (peer_rank a.source) (service_rank a.source) b.response.id (peer_rank b.source) (service_rank b.source)

    in_one_place : is_in_place_of x a ≡ true → is_in_place_of x b ≡ true → is_in_place_of a b ≡ true
    in_one_place = one_place x.response.id (peer_rank x.source) (service_rank x.source) a.response.id (peer_rank a.source) (service_rank a.source) b.response.id (peer_rank b.source) (service_rank b.source)

  is_other_way : is_in_place_of a b ≡ false → is_before a b ≡ false → is_before b a ≡ true
  is_other_way = other_way a.response.id (peer_rank a.source) (service_rank a.source) b.response.id (peer_rank b.source) (service_rank b.source)

  not_back : is_before a b ≡ true → is_before b a ≡ false
  not_back = not_both a.response.id (peer_rank a.source) (service_rank a.source) b.response.id (peer_rank b.source) (service_rank b.source)

  not_turned : is_in_place_of a b ≡ false → is_in_place_of b a ≡ false
  not_turned = turned a.response.id (peer_rank a.source) (service_rank a.source) b.response.id (peer_rank b.source) (service_rank b.source)

data Stands (x new : Kept) : Type 0 where
  Past : is_before x new ≡ true → Stands x new
  Instead : is_before x new ≡ false → is_in_place_of x new ≡ true → Stands x new
  Front : is_before x new ≡ false → is_in_place_of x new ≡ false → Stands x new

stands : (x new : Kept) → Stands x new
stands x new = split (is_before x new) (is_in_place_of x new) refl refl
  where
    split : (lt eq : Bool) → is_before x new ≡ lt → is_in_place_of x new ≡ eq → Stands x new
    split true eq a b = Past a
    split false true a b = Instead a b
    split false false a b = Front a b

-- ## Two responses

-- both go to the front
in_front : (a b : Kept) (list : List Kept) → is_in_place_of a b ≡ false → keep a list ≡ a ∷ list → keep b list ≡ b ∷ list → keep a (keep b list) ≡ keep b (keep a list)
in_front a b list differs is_a is_b = ap (keep a) is_b ∙ split (is_before b a) refl ∙ sym (ap (keep b) is_a)
  where
    split : (lt : Bool) → is_before b a ≡ lt → keep a (b ∷ list) ≡ keep b (a ∷ list)
    split true ba = past a b list ba ∙ ap (λ rest. b ∷ rest) is_a ∙ sym (front b a list (not_back b a ba) differs)
    split false ba = front a b list ba (not_turned a b differs) ∙ sym (past b a list (is_other_way b a (not_turned a b differs) ba) ∙ ap (λ rest. a ∷ rest) is_b)

pub keep_in_any_order : (a b : Kept) (list : List Kept) → is_in_place_of a b ≡ false → keep a (keep b list) ≡ keep b (keep a list)
keep_in_any_order a b [] differs = in_front a b [] differs refl refl
keep_in_any_order a b (x ∷ xs) differs = split (stands x a) (stands x b) (keep_in_any_order a b xs differs)
  where
    split : Stands x a → Stands x b → keep a (keep b xs) ≡ keep b (keep a xs) → keep a (keep b (x ∷ xs)) ≡ keep b (keep a (x ∷ xs))
    split (Past xa) (Past xb) rest =
        ap (keep a) (past b x xs xb) ∙ past a x (keep b xs) xa ∙ ap (λ list. x ∷ list) rest ∙ sym (past b x (keep a xs) xb) ∙ sym (ap (keep b) (past a x xs xa))
    split (Past xa) (Instead xb eb) rest =
        ap (keep a) (instead b x xs xb eb) ∙ past a b xs (is_between a b x xa xb) ∙ sym (instead b x (keep a xs) xb eb) ∙ sym (ap (keep b) (past a x xs xa))
    split (Past xa) (Front xb eb) rest =
        ap (keep a) (front b x xs xb eb) ∙ past a b (x ∷ xs) (is_between a b x xa xb) ∙ ap (λ list. b ∷ list) (past a x xs xa)
        ∙ sym (front b x (keep a xs) xb eb) ∙ sym (ap (keep b) (past a x xs xa))
    split (Instead xa ea) (Past xb) rest =
        ap (keep a) (past b x xs xb) ∙ instead a x (keep b xs) xa ea ∙ sym (past b a xs (is_between b a x xb xa)) ∙ sym (ap (keep b) (instead a x xs xa ea))
    split (Instead xa ea) (Instead xb eb) rest = let place = in_one_place a b x ea eb in absurd cc
    split (Instead xa ea) (Front xb eb) rest =
        let ba = is_below a b x ea xb eb in
        ap (keep a) (front b x xs xb eb) ∙ past a b (x ∷ xs) ba ∙ ap (λ list. b ∷ list) (instead a x xs xa ea)
        ∙ sym (front b a xs (not_back b a ba) differs) ∙ sym (ap (keep b) (instead a x xs xa ea))
    split (Front xa ea) (Past xb) rest =
        ap (keep a) (past b x xs xb) ∙ front a x (keep b xs) xa ea ∙ ap (λ list. a ∷ list) (sym (past b x xs xb))
        ∙ sym (past b a (x ∷ xs) (is_between b a x xb xa)) ∙ sym (ap (keep b) (front a x xs xa ea))
    split (Front xa ea) (Instead xb eb) rest =
        let ab = is_below b a x eb xa ea in
        ap (keep a) (instead b x xs xb eb) ∙ front a b xs (not_back a b ab) (not_turned a b differs) ∙ ap (λ list. a ∷ list) (sym (instead b x xs xb eb))
        ∙ sym (past b a (x ∷ xs) ab) ∙ sym (ap (keep b) (front a x xs xa ea))
    split (Front xa ea) (Front xb eb) rest = in_front a b (x ∷ xs) differs (front a x xs xa ea) (front b x xs xb eb)
