-- The order of visible messages, and a list with one more of them.
use Rattle.std.proofs.Common.{◌≡◌, ℕ, ◌<◌, suc, zero, List, [], ◌∷◌, ◌++◌, length, Bool, true, false, refl, ap, ◌∙◌, arith, get_or, inl, inr}
use Rattle.std.specs.Prelude.{◌⊎◌, ◌&&◌, ◌||◌, if◌then◌else◌, nat_eq, nat_lt}
use Rattle.std.specs.List.{All, Contains}
use Rattle.std.proofs.lemmas.Bool.Decides.{nat_tests}
use Rattle.std.proofs.lemmas.List.Elements.{All-nil, All-cons}
use Rattle.sk_law.specs.declared.visible.Visible.{Visible}
use Rattle.sk_law.specs.Visible.{comes_before, insert, sort, sort_onto}
use Rattle.sk_visible.specs.Ordered.{by_sender}

pub asymmetric : (v w : Visible) → comes_before v w ≡ true → comes_before w v ≡ true → ⊥
asymmetric v w h i = grind (arith, nat_tests)

-- ## One comes before another that doesn't come before a third

abbrev by_place : Visible → Visible → Bool
by_place v w = nat_lt v.place w.place || (nat_eq v.place w.place && nat_lt v.service w.service)

first_below : (a b c : ℕ) (r s u : Bool) → (r ≡ true → s ≡ false → u ≡ true) → (nat_lt a b || (nat_eq a b && r)) ≡ true → (nat_lt c b || (nat_eq c b && s)) ≡ false → (nat_lt a c || (nat_eq a c && u)) ≡ true
first_below a b c r s u f h i = grind (arith, nat_tests)

last_below : (a b c : ℕ) → nat_lt a b ≡ true → nat_lt c b ≡ false → nat_lt a c ≡ true
last_below a b c h i = grind (arith, nat_tests)

pub before_later : (v w x : Visible) → comes_before v w ≡ true → comes_before x w ≡ false → comes_before v x ≡ true
before_later v w x h i =
    first_below v.stamp w.stamp x.stamp (by_sender v w) (by_sender x w) (by_sender v x)
    (λ a b. first_below v.peer w.peer x.peer (by_place v w) (by_place x w) (by_place v x)
    (λ c d. first_below v.place w.place x.place (nat_lt v.service w.service) (nat_lt x.service w.service) (nat_lt v.service x.service)
    (λ e f. last_below v.service w.service x.service e f) c d) a b) h i

-- ## Members

pub later : {X : Type 0} (y : X) (xs : List X) (x : X) → Contains xs x → Contains (y ∷ xs) x
later y xs x c = (suc c.0, omega (arith, c.1), c.2)

pub cons_cases : {X : Type 0} (y : X) (xs : List X) (x : X) → Contains (y ∷ xs) x → (y ≡ x) ⊎ Contains xs x
cons_cases y xs x c = cons_at y xs x c.0 c.1 c.2
  where
    cons_at : {X : Type 0} (y : X) (xs : List X) (x : X) (k : ℕ) → k < length (y ∷ xs) → get_or (y ∷ xs) k x ≡ x → (y ≡ x) ⊎ Contains xs x
    cons_at y xs x zero lt e = inl e
    cons_at y xs x (suc k) lt e = inr (k, omega (arith, lt), e)

pub all_from : {X : Type 0} (T : X → Type 0) (xs : List X) → ((x : X) → Contains xs x → T x) → All T xs
all_from T [] f = All-nil T
all_from T (x ∷ xs) f = All-cons T x xs (f x (0, omega arith, refl)) (all_from T xs (λ y c. f y (later x xs y c)))

-- ## One item more

-- where the place of an item is found by a search
pub insert_at : (v : Visible) (xs ys : List Visible) → ((x : Visible) → Contains xs x → comes_before v x ≡ false) → ((y : Visible) → Contains ys y → comes_before v y ≡ true) → insert v (xs ++ ys) ≡ xs ++ v ∷ ys
insert_at v [] [] f g = refl
insert_at v [] (y ∷ ys) f g = ap (λ (b : Bool). if b then v ∷ y ∷ ys else y ∷ insert v ys) (g y (0, omega arith, refl))
insert_at v (x ∷ xs) ys f g = ap (λ (b : Bool). if b then v ∷ x ∷ (xs ++ ys) else x ∷ insert v (xs ++ ys)) (f x (0, omega arith, refl)) ∙ ap (λ l. x ∷ l) (insert_at v xs ys (λ z c. f z (later x xs z c)) g)

onto_more : (ws vs : List Visible) (v : Visible) → sort_onto ws (vs ++ v ∷ []) ≡ insert v (sort_onto ws vs)
onto_more ws [] v = refl
onto_more ws (x ∷ vs) v = onto_more (insert x ws) vs v

-- each item may be put in its place when it comes
pub sort_more : (vs : List Visible) (v : Visible) → sort (vs ++ v ∷ []) ≡ insert v (sort vs)
sort_more vs v = onto_more [] vs v
