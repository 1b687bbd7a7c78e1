-- Lists of anything: where an element of a joined or filtered list stands.
use Rattle.std.specs.Prelude.{◌≡◌, ◌⊎◌, ◌<◌, refl, ℕ, zero, suc, Bool, true, false, ◌||◌, List, [], ◌∷◌, ◌++◌, length, Option, Some, None, slice_get}
use Rattle.std.specs.List.{filter_map, cons_option, list_all, list_any}
use Rattle.std.proofs.lemmas.Bool.{and_parts}
use Rattle.std.proofs.lemmas.List.Folds.{list_all-append}
use Rattle.std.proofs.Common.{ap, sym, ◌∙◌, arith, inl, inr, ⊎_elim}

-- an element of a joined list is in one of the two
pub split : {X : Type 0} (xs ys ps : List X) (x : X) (qs : List X) → xs ++ ys ≡ ps ++ x ∷ qs →
    ((rest : List X) × (xs ≡ ps ++ x ∷ rest)) ⊎ ((front : List X) × (ps ≡ xs ++ front) × (ys ≡ front ++ x ∷ qs))
split [] ys ps x qs e = inr (ps, refl, e)
split (y ∷ xs) ys [] x qs e = let h : y ≡ x = cc in inl (xs, ap (λ z. z ∷ xs) h)
split {X} (y ∷ xs) ys (z ∷ ps) x qs e =
    let h : y ≡ z = cc in let t : xs ++ ys ≡ ps ++ x ∷ qs = cc in
    let Goal : Type 0 = ((rest : List X) × (y ∷ xs ≡ z ∷ (ps ++ x ∷ rest))) ⊎ ((front : List X) × (z ∷ ps ≡ y ∷ (xs ++ front)) × (ys ≡ front ++ x ∷ qs)) in
    ⊎_elim
    (λ (a : (rest : List X) × (xs ≡ ps ++ x ∷ rest)). let g : Goal = inl (a.0, ap (λ w. w ∷ xs) h ∙ ap (λ w. z ∷ w) a.1) in g)
    (λ (a : (front : List X) × (ps ≡ xs ++ front) × (ys ≡ front ++ x ∷ qs)). let g : Goal = inr (a.0, ap (λ w. w ∷ ps) (sym h) ∙ ap (λ w. y ∷ w) a.1, a.2) in g)
    (split xs ys ps x qs t)

-- what fails the test isn't among what passes it
pub outside : {X : Type 0} (test : X → Bool) (xs front : List X) (x : X) (after : List X) → list_all test xs ≡ true → xs ≡ front ++ x ∷ after → test x ≡ true
outside test xs front x after h e =
    let a : list_all test (front ++ x ∷ after) ≡ true = ap (list_all test) (sym e) ∙ h in
    let b = (and_parts (list_all test front) (list_all test (x ∷ after)) (sym (list_all-append test front (x ∷ after)) ∙ a)).1 in
    (and_parts (test x) (list_all test after) b).0

-- it stands in the first part where the second passes a test that it fails
pub in_front : {X : Type 0} (test : X → Bool) (xs ys ps : List X) (x : X) (qs : List X) → list_all test ys ≡ true → test x ≡ false → xs ++ ys ≡ ps ++ x ∷ qs →
    (rest : List X) × (xs ≡ ps ++ x ∷ rest)
in_front {X} test xs ys ps x qs all fails e = ⊎_elim
    (λ (a : (rest : List X) × (xs ≡ ps ++ x ∷ rest)). a)
    (λ (a : (front : List X) × (ps ≡ xs ++ front) × (ys ≡ front ++ x ∷ qs)). let h = outside test ys a.0 x qs all a.2 in absurd cc)
    (split xs ys ps x qs e)

-- no element of what passes a test meets the other test
pub finds_none : {X : Type 0} (test other : X → Bool) → ((x : X) → test x ≡ true → other x ≡ false) → (xs : List X) → list_all test xs ≡ true → list_any other xs ≡ false
finds_none test other h [] e = refl
finds_none test other h (x ∷ xs) e =
    let s = and_parts (test x) (list_all test xs) e in
    ap (λ b. b || list_any other xs) (h x s.0) ∙ finds_none test other h xs s.1

-- where an element of a filtered list comes from
pub record IsFound {X Y : Type 0} (f : X → Option Y) (xs : List X) (us : List Y) (v : Y) : Type 0 where
  pub early : List X
  pub x : X
  pub late : List X
  pub cut : xs ≡ early ++ x ∷ late
  pub is : f x ≡ Some v
  pub front : filter_map f early ≡ us

pub find : {X Y : Type 0} (f : X → Option Y) (xs : List X) (us : List Y) (v : Y) (vs : List Y) → filter_map f xs ≡ us ++ v ∷ vs → IsFound f xs us v
find f [] [] v vs e = absurd cc
find f [] (u ∷ us) v vs e = absurd cc
find {X} {Y} f (x ∷ xs) us v vs e = by_case (λ us e. find f xs us v vs e) (f x) refl us e
  where
    by_case : ((us : List Y) → filter_map f xs ≡ us ++ v ∷ vs → IsFound f xs us v) → (o : Option Y) → f x ≡ o → (us : List Y) →
        cons_option o (filter_map f xs) ≡ us ++ v ∷ vs → IsFound f (x ∷ xs) us v
    by_case more None h us e =
        let r = more us e in
        record { early = x ∷ r.early; x = r.x; late = r.late; cut = ap (λ z. x ∷ z) r.cut; is = r.is; front = ap (λ o. cons_option o (filter_map f r.early)) h ∙ r.front }
    by_case more (Some z) h [] e =
        let s : z ≡ v = cc in
        record { early = []; x = x; late = xs; cut = refl; is = h ∙ ap Some s; front = refl }
    by_case more (Some z) h (u ∷ us) e =
        let s : z ≡ u = cc in let t : filter_map f xs ≡ us ++ v ∷ vs = cc in
        let r = more us t in
        record { early = x ∷ r.early; x = r.x; late = r.late; cut = ap (λ z. x ∷ z) r.cut; is = r.is; front = ap (λ o. cons_option o (filter_map f r.early)) h ∙ ap (λ w. w ∷ filter_map f r.early) s ∙ ap (λ w. u ∷ w) r.front }

-- the k-th element with what stands before and behind it
pub cut_at : {X : Type 0} (xs : List X) (k : ℕ) (x : X) → slice_get xs k ≡ Some x → (front rest : List X) × (xs ≡ front ++ x ∷ rest) × (length front ≡ k)
cut_at [] k x e = absurd cc
cut_at (y ∷ xs) zero x e = let s : y ≡ x = cc in ([], xs, ap (λ z. z ∷ xs) s, refl)
cut_at (y ∷ xs) (suc k) x e = let r = cut_at xs k x e in (y ∷ r.0, r.1, ap (λ z. y ∷ z) r.2, ap suc r.3)

-- an element that passes a test, where there is one
pub some_at : {X : Type 0} (test : X → Bool) (xs : List X) → list_any test xs ≡ true → (front : List X) × (x : X) × (rest : List X) × (xs ≡ front ++ x ∷ rest) × (test x ≡ true)
some_at test [] e = absurd cc
some_at {X} test (x ∷ xs) e = by_case (λ h. some_at test xs h) (test x) refl e
  where
    by_case : (list_any test xs ≡ true → (front : List X) × (y : X) × (rest : List X) × (xs ≡ front ++ y ∷ rest) × (test y ≡ true)) →
        (b : Bool) → test x ≡ b → (b || list_any test xs) ≡ true → (front : List X) × (y : X) × (rest : List X) × (x ∷ xs ≡ front ++ y ∷ rest) × (test y ≡ true)
    by_case more true h e = ([], x, xs, refl, h)
    by_case more false h e = let r = more e in (x ∷ r.0, r.1, r.2, ap (λ z. x ∷ z) r.3, r.4)

-- what stands in the first part of a list
pub get_left : {X : Type 0} (xs ys : List X) (n : ℕ) → n < length xs → slice_get (xs ++ ys) n ≡ slice_get xs n
get_left [] ys n lt = absurd (omega arith)
get_left (x ∷ xs) ys zero lt = refl
get_left (x ∷ xs) ys (suc n) lt = get_left xs ys n (omega arith)
