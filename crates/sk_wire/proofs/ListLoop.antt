-- Reading items one after the other, as a loop does.
use Rattle.std.proofs.Common.{◌≡◌, ℕ, suc, ◌-◌, ◌+◌, ◌≤◌, ◌<◌, Bool, true, List, [], ◌∷◌, ◌++◌, Ok, Err, refl, sym, ap, ◌∙◌, append_assoc, arith}
use Rattle.std.proofs.lemmas.Bool.{and_from, and_parts}
use Rattle.sk_msg.specs.Each.{each_after}
use Rattle.std.proofs.lemmas.List.{append-nil}
use Rattle.sk_wire.specs.declared.fault.ReadError.{ReadError}
use Rattle.sk_wire.specs.declared.fault.ReadError.TheVariants as errors
use Rattle.sk_wire.specs.Reading.{Reading, ◌>>=◌, Fails}
use Rattle.sk_wire.specs.Fields.{Field, items_at}

module _ {A : Type 0} (item : List A → Field A) where
  -- what was read before, and what is still read
  abbrev pub with_front : List A → Reading (List A) → Reading (List A)
  with_front front read = read >>= λ x. Ok (front ++ x.0, x.1)

  -- i of count items are read, and stand in front
  abbrev pub SoFar : ℕ → List ℕ → ℕ → List A → List ℕ → Type 0
  SoFar count start i front bytes = with_front front (items_at item (count - i) front bytes) ≡ items_at item count [] start

  regroup : (front : List A) (x : A) (read : Reading (List A)) → with_front front (read >>= λ xs. Ok (x ∷ xs.0, xs.1)) ≡ with_front (front ++ x ∷ []) read
  regroup front x (Ok xs) = ap (λ (ys : List A). Ok (ys, xs.1)) (sym (append_assoc front (x ∷ []) xs.0))
  regroup front x (Err f) = refl

  pub goes_on : (count : ℕ) (start : List ℕ) (i : ℕ) (front : List A) (bytes : List ℕ) (x : A) (after : List ℕ) → i < count
      → (item front).at bytes ≡ Ok (x, after) → SoFar count start i front bytes → SoFar count start (i + 1) (front ++ x ∷ []) after
  goes_on count start i front bytes x after lt h so_far =
      let k : count - i ≡ suc (count - (i + 1)) = omega arith in
      let one : with_front front (items_at item (count - i) front bytes) ≡ with_front (front ++ x ∷ []) (items_at item (count - (i + 1)) (front ++ x ∷ []) after) =
      rw (k, h) (regroup front x (items_at item (count - (i + 1)) (front ++ x ∷ []) after)) in
      sym one ∙ so_far

  pub ends : (e : ReadError) (count : ℕ) (start : List ℕ) (i : ℕ) (front : List A) (bytes : List ℕ) → i < count
      → Fails e ((item front).at bytes) → SoFar count start i front bytes → Fails e (items_at item count [] start)
  ends errors.WantOfMemory count start i front bytes lt h so_far = tt
  ends (errors.Fault f) count start i front bytes lt h so_far =
      let k : count - i ≡ suc (count - (i + 1)) = omega arith in
      let one : with_front front (items_at item (count - i) front bytes) ≡ Err f = rw (k, h) refl in
      sym so_far ∙ one

  pub is_done : (count : ℕ) (start : List ℕ) (i : ℕ) (front : List A) (bytes : List ℕ) → count ≤ i → SoFar count start i front bytes → items_at item count [] start ≡ Ok (front, bytes)
  is_done count start i front bytes le so_far =
      let k : count - i ≡ 0 = omega arith in
      let one : with_front front (items_at item (count - i) front bytes) ≡ Ok (front, bytes) = rw k (ap (λ (xs : List A). Ok (xs, bytes)) (append-nil front)) in
      sym so_far ∙ one

-- each item passes a test on those before it; one more that passes
pub each_after-snoc : {A : Type 0} (test : List A → A → Bool) (before xs : List A) (x : A) → each_after test before xs ≡ true → test (before ++ xs) x ≡ true → each_after test before (xs ++ x ∷ []) ≡ true
each_after-snoc {A = A} test before [] x h t = and_from _ _ (ap (λ (ys : List A). test ys x) (sym (append-nil before)) ∙ t) refl
each_after-snoc {A = A} test before (y ∷ ys) x h t =
    let both = and_parts _ _ h in
    and_from _ _ both.0 (each_after-snoc test (before ++ y ∷ []) ys x both.1 (ap (λ (zs : List A). test zs x) (append_assoc before (y ∷ []) ys) ∙ t))
