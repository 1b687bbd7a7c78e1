-- What is in a list, and what a filter keeps of it.
use Rattle.std.proofs.Common.{◌≡◌, ◌<◌, ◌≤◌, ◌∙◌, ℕ, Bool, true, false, cond, List, [], ◌∷◌, ◌++◌, length, filter, refl, sym, ap, subst, inl, inr, arith}
use Rattle.std.specs.Prelude.{Contains, ◌⊎◌, slice_index_or}
use Rattle.std.specs.List.{AllByRecursion}
use Rattle.std.proofs.lemmas.Bool.{cond-true}
use Rattle.std.proofs.lemmas.List.Elements.{Contains-append_right, Contains-append_cases, Contains-append_left, Contains-push, filter-append}

module _ {X : Type 0} where
  pub none_in_nothing : (x : X) → Contains [] x → ⊥
  none_in_nothing x here = omega (arith, here.1)

  pub first_or_later : (y : X) (xs : List X) (x : X) → Contains (y ∷ xs) x → (y ≡ x) ⊎ Contains xs x
  first_or_later y xs x here = elim (Contains-append_cases (y ∷ []) xs x here) [
    | inl first ↦ inl (the_one first)
    | inr later ↦ inr later
  ]
    where
      the_one : Contains (y ∷ []) x → y ≡ x
      the_one (k, below, is) = let zero : k ≡ 0 = omega arith in subst (λ (n : ℕ). slice_index_or (y ∷ []) n x ≡ x) zero is

  pub is_first : (x : X) (xs : List X) → Contains (x ∷ xs) x
  is_first x xs = Contains-append_left (x ∷ []) xs x (Contains-push [] x)

  pub is_later : (y : X) (xs : List X) (x : X) → Contains xs x → Contains (y ∷ xs) x
  is_later y xs x here = Contains-append_right (y ∷ []) xs x here

  module _ (test : X → Bool) where
    pub Contains-filter : (xs : List X) (x : X) → Contains xs x → test x ≡ true → Contains (filter test xs) x
    Contains-filter [] x here passes = absurd (none_in_nothing x here)
    Contains-filter (y ∷ xs) x here passes = elim (first_or_later y xs x here) [
      | inl first ↦ rw (ap test first ∙ passes) (subst (λ (z : X). Contains (z ∷ filter test xs) x) (sym first) (is_first x (filter test xs)))
      | inr later ↦ split (test y) (Contains-filter xs x later passes)
    ]
      where
        split : (b : Bool) → Contains (filter test xs) x → Contains (cond b (y ∷ filter test xs) (filter test xs)) x
        split true kept = is_later y (filter test xs) x kept
        split false kept = kept

    pub Contains-from_filter : (xs : List X) (x : X) → Contains (filter test xs) x → Contains xs x × (test x ≡ true)
    Contains-from_filter [] x here = absurd (none_in_nothing x here)
    Contains-from_filter (y ∷ xs) x here =
        split (test y) refl here (λ kept. let rest = Contains-from_filter xs x kept in (is_later y xs x rest.0, rest.1))
      where
        split : (b : Bool) → test y ≡ b → Contains (cond b (y ∷ filter test xs) (filter test xs)) x
            → (Contains (filter test xs) x → Contains (y ∷ xs) x × (test x ≡ true)) → Contains (y ∷ xs) x × (test x ≡ true)
        split false fails kept later = later kept
        split true passes kept later = elim (first_or_later y (filter test xs) x kept) [
          | inl first ↦ (subst (λ (z : X). Contains (y ∷ xs) z) first (is_first y xs), sym (ap test first) ∙ passes)
          | inr rest ↦ later rest
        ]

    -- one that passes is kept where it stands
    pub filter-at : (xs : List X) (x : X) (ys : List X) → test x ≡ true → filter test (xs ++ x ∷ ys) ≡ filter test xs ++ x ∷ filter test ys
    filter-at xs x ys passes =
        filter-append test xs (x ∷ ys) ∙ ap (λ (zs : List X). filter test xs ++ zs) (cond-true (test x) (x ∷ filter test ys) (filter test ys) passes)

    -- where all pass, all are kept
    pub filter_all : (xs : List X) → AllByRecursion (λ x. test x ≡ true) xs → filter test xs ≡ xs
    filter_all [] all = refl
    filter_all (x ∷ xs) all = rw (all.0, filter_all xs all.1) refl

    pub length_filter : (xs : List X) → length (filter test xs) ≤ length xs
    length_filter [] = omega arith
    length_filter (x ∷ xs) = split (test x) (length_filter xs)
      where
        split : (b : Bool) → length (filter test xs) ≤ length xs → length (cond b (x ∷ filter test xs) (filter test xs)) ≤ length (x ∷ xs)
        split true below = omega arith
        split false below = omega arith

  -- what stands before it, and what behind it
  pub split_at : (xs : List X) (x : X) → Contains xs x → (front : List X) × (back : List X) × (xs ≡ front ++ x ∷ back)
  split_at [] x here = absurd (none_in_nothing x here)
  split_at (y ∷ xs) x here = elim (first_or_later y xs x here) [
    | inl first ↦ ([], xs, ap (λ (z : X). z ∷ xs) first)
    | inr later ↦ let rest = split_at xs x later in (y ∷ rest.0, rest.1, ap (λ (zs : List X). y ∷ zs) rest.2)
  ]

  -- of two ways to take a list apart at an element, the later has the earlier before it
  pub later_part : (xs ys : List X) (x y : X) (us vs : List X) → xs ++ x ∷ us ≡ ys ++ y ∷ vs → length xs < length ys
      → (zs : List X) × (ys ≡ xs ++ x ∷ zs) × (us ≡ zs ++ y ∷ vs)
  later_part [] [] x y us vs same below = absurd (omega arith)
  later_part (w ∷ xs) [] x y us vs same below = absurd (omega arith)
  later_part [] (z ∷ ys) x y us vs same below =
      let first : x ≡ z = cc in
      let rest : us ≡ ys ++ y ∷ vs = cc in
      (ys, ap (λ (w : X). w ∷ ys) (sym first), rest)
  later_part (w ∷ xs) (z ∷ ys) x y us vs same below =
      let first : w ≡ z = cc in
      let rest : xs ++ x ∷ us ≡ ys ++ y ∷ vs = cc in
      let further = later_part xs ys x y us vs rest (omega arith) in
      (further.0, ap (λ (v : X). v ∷ ys) (sym first) ∙ ap (λ (vs : List X). w ∷ vs) further.1, further.2)
