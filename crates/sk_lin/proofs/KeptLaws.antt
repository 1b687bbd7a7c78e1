-- What is kept, by its place.
use Rattle.std.proofs.Common.{◌≡◌, ◌+◌, ◌<◌, ◌≤◌, ℕ, suc, Bool, true, false, cond, List, [], ◌∷◌, length, set, get_or, refl, ap, subst, ◌∙◌, arith, rules}
use Rattle.std.specs.List.{insert, position, prefix_len}
use Rattle.std.specs.Option.{unwrap_or}
use Rattle.std.specs.Prelude.{not, nat_lt, Some, None}
use Rattle.std.proofs.lemmas.List.Sums.{prefix_len-le-length}
use Rattle.sk_lin.specs.declared.kept.Kept.{Kept}
use Rattle.sk_lin.specs.Kept.{is_before, is_in_place_of, place, keep}

counted : (before : Bool) (n m : ℕ) → n ≡ m → cond (not (not before)) (1 + n) 0 ≡ cond before (suc m) 0
counted true n m is = omega (arith, is)
counted false n m is = refl

place_prefix : (new : Kept) (kept : List Kept) → prefix_len (λ one. not (not (is_before one new))) kept ≡ place new kept
place_prefix new [] = refl
place_prefix new (old ∷ kept) = counted (is_before old new) _ _ (place_prefix new kept)

found : (n len : ℕ) → n ≤ len → unwrap_or (cond (nat_lt n len) (Some n) None) len ≡ n
found n len within = grind (arith, rules)

pub place_is : (new : Kept) (kept : List Kept) → unwrap_or (position (λ one. not (is_before one new)) kept) (length kept) ≡ place new kept
place_is new kept = found _ (length kept) (prefix_len-le-length (λ one. not (not (is_before one new))) kept) ∙ place_prefix new kept

pub place_within : (new : Kept) (kept : List Kept) → place new kept ≤ length kept
place_within new kept = subst (λ n. n ≤ length kept) (place_prefix new kept) (prefix_len-le-length (λ one. not (not (is_before one new))) kept)

pub keep_in_place : (new d : Kept) (kept : List Kept) → place new kept < length kept → is_in_place_of (get_or kept (place new kept) d) new ≡ true → set kept (place new kept) new ≡ keep new kept
keep_in_place new d [] within same = absurd (omega (arith, within))
keep_in_place new d (old ∷ kept) within same = split (is_before old new) (keep_in_place new d kept) within same
  where
    split : (before : Bool)
        → (place new kept < length kept → is_in_place_of (get_or kept (place new kept) d) new ≡ true → set kept (place new kept) new ≡ keep new kept)
        → cond before (suc (place new kept)) 0 < suc (length kept)
        → is_in_place_of (get_or (old ∷ kept) (cond before (suc (place new kept)) 0) d) new ≡ true
        → set (old ∷ kept) (cond before (suc (place new kept)) 0) new ≡ cond before (old ∷ keep new kept) (cond (is_in_place_of old new) (new ∷ kept) (new ∷ old ∷ kept))
    split true rest within same = ap (λ behind. old ∷ behind) (rest (omega (arith, within)) same)
    split false rest within same = rw same refl

pub keep_between : (new d : Kept) (kept : List Kept) → (place new kept < length kept → is_in_place_of (get_or kept (place new kept) d) new ≡ false) → insert kept (place new kept) new ≡ keep new kept
keep_between new d [] differs = refl
keep_between new d (old ∷ kept) differs = split (is_before old new) (keep_between new d kept) differs
  where
    split : (before : Bool)
        → ((place new kept < length kept → is_in_place_of (get_or kept (place new kept) d) new ≡ false) → insert kept (place new kept) new ≡ keep new kept)
        → (cond before (suc (place new kept)) 0 < suc (length kept) → is_in_place_of (get_or (old ∷ kept) (cond before (suc (place new kept)) 0) d) new ≡ false)
        → insert (old ∷ kept) (cond before (suc (place new kept)) 0) new ≡ cond before (old ∷ keep new kept) (cond (is_in_place_of old new) (new ∷ kept) (new ∷ old ∷ kept))
    split true rest differs = ap (λ behind. old ∷ behind) (rest (λ within. differs (omega (arith, within))))
    split false rest differs = rw (differs (omega arith)) refl

-- ## The same by any place that is this one, and by what stands there

pub keep_at : (new one : Kept) (kept : List Kept) (at : ℕ) → at ≡ place new kept → at < length kept → one ≡ get_or kept at one → is_in_place_of one new ≡ true → set kept at new ≡ keep new kept
keep_at new one kept at is within there same =
    rw is (keep_in_place new one kept (subst (λ n. n < length kept) is within) (subst (λ n. is_in_place_of (get_or kept n one) new ≡ true) is (subst (λ x. is_in_place_of x new ≡ true) there same)))

pub keep_before : (new one : Kept) (kept : List Kept) (at : ℕ) → at ≡ place new kept → one ≡ get_or kept at one → is_in_place_of one new ≡ false → insert kept at new ≡ keep new kept
keep_before new one kept at is there differs =
    rw is (keep_between new one kept (λ within. subst (λ n. is_in_place_of (get_or kept n one) new ≡ false) is (subst (λ x. is_in_place_of x new ≡ false) there differs)))

pub keep_last : (new : Kept) (kept : List Kept) (at : ℕ) → at ≡ place new kept → length kept ≤ at → insert kept at new ≡ keep new kept
keep_last new kept at is behind = rw is (keep_between new new kept (λ within. absurd (omega (arith, is, behind, within))))

-- ## One step of `keep`

module _ (new x : Kept) (xs : List Kept) where
  pub past : is_before x new ≡ true → keep new (x ∷ xs) ≡ x ∷ keep new xs
  past is = ap (λ t. cond t (x ∷ keep new xs) (cond (is_in_place_of x new) (new ∷ xs) (new ∷ x ∷ xs))) is

  pub instead : is_before x new ≡ false → is_in_place_of x new ≡ true → keep new (x ∷ xs) ≡ new ∷ xs
  instead is place = ap (λ t. cond t (x ∷ keep new xs) (cond (is_in_place_of x new) (new ∷ xs) (new ∷ x ∷ xs))) is ∙ ap (λ t. cond t (new ∷ xs) (new ∷ x ∷ xs)) place

  pub front : is_before x new ≡ false → is_in_place_of x new ≡ false → keep new (x ∷ xs) ≡ new ∷ x ∷ xs
  front is place = ap (λ t. cond t (x ∷ keep new xs) (cond (is_in_place_of x new) (new ∷ xs) (new ∷ x ∷ xs))) is ∙ ap (λ t. cond t (new ∷ xs) (new ∷ x ∷ xs)) place
