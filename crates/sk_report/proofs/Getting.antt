-- Messages of a peer: one more of it is one more there, and nowhere else.
use Rattle.std.specs.Prelude.{◌==◌, unwrap_or, if◌then◌else◌}
use Rattle.std.proofs.Common.{◌≡◌, ◌≢◌, ℕ, zero, suc, ◌<◌, ◌≤◌, Bool, true, false, List, [], ◌∷◌, ◌++◌, length, map, Option, Some, None, refl, sym, ◌∙◌, ap, subst, arith, get_or}
use Rattle.std.specs.List.{slice_get, list_all}
use Rattle.std.proofs.Math.ListN.{set}
use Rattle.std.proofs.lemmas.Bool.{and_parts}
use Rattle.std.proofs.lemmas.Bool.Decides.{nat_tests}
use Rattle.std.proofs.lemmas.Option.{slice_get_past}
use Rattle.sk_msg.specs.declared.content.Content.{Content}
use Rattle.sk_report.specs.Groups.{with_message}

equal : (i j : ℕ) → (i == j) ≡ true → i ≡ j
equal i j e = grind (arith, nat_tests)

differ : (i j : ℕ) → (i == j) ≡ false → i ≡ j → ⊥
differ i j e same = grind (arith, nat_tests)

module _ {G : Type 0} (f : G → List Content) where
  set_same : (gs : List G) (i : ℕ) (g : G) → i < length gs → slice_get (map f (set gs i g)) i ≡ Some (f g)
  set_same [] i g low = absurd (omega (arith, low))
  set_same (x ∷ xs) zero g low = refl
  set_same (x ∷ xs) (suc i) g low = set_same xs i g (omega (arith, low))

  set_other : (gs : List G) (i j : ℕ) (g : G) → i ≢ j → slice_get (map f (set gs i g)) j ≡ slice_get (map f gs) j
  set_other [] i j g n = refl
  set_other (x ∷ xs) zero zero g n = absurd (n refl)
  set_other (x ∷ xs) zero (suc j) g n = refl
  set_other (x ∷ xs) (suc i) zero g n = refl
  set_other (x ∷ xs) (suc i) (suc j) g n = set_other xs i j g (λ e. n (ap suc e))

  read : (gs : List G) (i : ℕ) (d : G) → i < length gs → slice_get (map f gs) i ≡ Some (f (get_or gs i d))
  read [] i d low = absurd (omega (arith, low))
  read (x ∷ xs) zero d low = refl
  read (x ∷ xs) (suc i) d low = read xs i d (omega (arith, low))

  -- one more in the vector
  pub first_more : (gs : List G) (i : ℕ) (g d : G) (m : Content) (rest : ℕ → List Content) → i < length gs → f g ≡ f (get_or gs i d) ++ m ∷ []
      → (other : ℕ) → unwrap_or (slice_get (map f (set gs i g)) other) (rest other) ≡ with_message i m (λ p. unwrap_or (slice_get (map f gs) p) (rest p)) other
  first_more gs i g d m rest low more other = by (i == other) refl
    where
      by : (b : Bool) → (i == other) ≡ b → unwrap_or (slice_get (map f (set gs i g)) other) (rest other) ≡ with_message i m (λ p. unwrap_or (slice_get (map f gs) p) (rest p)) other
      by true e =
          let same = equal i other e in
          let now : slice_get (map f (set gs i g)) other ≡ Some (f g) = ap (slice_get (map f (set gs i g))) (sym same) ∙ set_same gs i g low in
          let was : slice_get (map f gs) other ≡ Some (f (get_or gs i d)) = ap (slice_get (map f gs)) (sym same) ∙ read gs i d low in
          rw (e, now, was) more
      by false e = rw (e, set_other gs i other g (differ i other e)) refl

-- one more elsewhere
pub others_more : (firsts : List (List Content)) (i : ℕ) (m : Content) (old new : ℕ → List Content) → length firsts ≤ i → ((other : ℕ) → new other ≡ with_message i m old other)
    → (other : ℕ) → unwrap_or (slice_get firsts other) (new other) ≡ with_message i m (λ p. unwrap_or (slice_get firsts p) (old p)) other
others_more firsts i m old new past more other = by (i == other) refl
  where
    by : (b : Bool) → (i == other) ≡ b → unwrap_or (slice_get firsts other) (new other) ≡ with_message i m (λ p. unwrap_or (slice_get firsts p) (old p)) other
    by true e =
        let none : slice_get firsts other ≡ None = ap (slice_get firsts) (sym (equal i other e)) ∙ slice_get_past firsts i past in
        let there = rw e at (more other) in
        rw (e, none) there
    by false e = let same = rw e at (more other) in rw (e, same) refl

-- nothing was got
pub nothing_of : (firsts : List (List Content)) (rest : ℕ → List Content) → list_all (λ group. length group == 0) firsts ≡ true → ((p : ℕ) → rest p ≡ [])
    → (p : ℕ) → unwrap_or (slice_get firsts p) (rest p) ≡ []
nothing_of [] rest all none p = none p
nothing_of (x ∷ xs) rest all none zero = empty x (and_parts (length x == 0) (list_all (λ group. length group == 0) xs) all).0
  where
    empty : (group : List Content) → (length group == 0) ≡ true → group ≡ []
    empty [] e = refl
    empty (y ∷ ys) e = absurd (grind (arith, nat_tests))
nothing_of (x ∷ xs) rest all none (suc p) = nothing_of xs (λ k. rest (suc k)) (and_parts (length x == 0) (list_all (λ group. length group == 0) xs) all).1 (λ k. none (suc k)) p
