-- The place of an item in order.
use Rattle.std.proofs.Common.{◌≡◌, ℕ, ◌+◌, ◌-◌, ◌<◌, ◌≤◌, suc, zero, List, [], ◌∷◌, ◌++◌, length, take, drop, true, false, refl, ap, ◌∙◌, sym, subst, arith, get_or, ⊎_elim}
use Rattle.std.specs.List.{All, Contains}
use Rattle.std.proofs.lemmas.Bool.{true≢false, false_from_ne_true}
use Rattle.std.proofs.lemmas.List.{drop_more, take-append-drop}
use Rattle.std.proofs.lemmas.List.Elements.{All-cons, All-head, All-contains, Contains-append_left, Contains-append_right, Contains-append_cases}
use Rattle.sk_law.specs.declared.visible.Visible.{Visible}
use Rattle.sk_law.specs.Visible.{comes_before, insert}
use Rattle.sk_visible.specs.Ordered.{IsOrdered, IsAfterLast, IsPlace}
use Rattle.sk_visible.proofs.Orders.{later, cons_cases, all_from, insert_at, asymmetric, before_later}

-- ## The search from the end

pub one_back : (v : Visible) (items : List Visible) (place : ℕ) (x : Visible) → x ≡ get_or items (place - 1) x → 0 < place → place ≤ length items → All (λ w. comes_before v w ≡ true) (drop place items) → comes_before v x ≡ true →
    All (λ w. comes_before v w ≡ true) (drop (place - 1) items)
one_back v items place x is pos le h b =
    let e : drop (place - 1) items ≡ get_or items (place - 1) x ∷ drop (place - 1 + 1) items = drop_more items (place - 1) x (omega arith) in
    let n : place - 1 + 1 ≡ place = omega arith in
    subst (λ l. All (λ w. comes_before v w ≡ true) l) (sym (e ∙ ap (λ y. y ∷ drop (place - 1 + 1) items) (sym is) ∙ ap (λ m. x ∷ drop m items) n))
    (All-cons (λ w. comes_before v w ≡ true) x (drop place items) b h)

after_last : (v : Visible) (vs : List Visible) (p : ℕ) (d : Visible) → p < length vs → comes_before v (get_or vs p d) ≡ false → IsAfterLast v (take (suc p) vs)
after_last v [] p d lt h = let no' : ⊥ = omega arith in absurd no'
after_last v (w ∷ vs) zero d lt h = h
after_last v (w ∷ []) (suc p) d lt h = let no' : ⊥ = omega arith in absurd no'
after_last v (w ∷ x ∷ vs) (suc p) d lt h = after_last v (x ∷ vs) p d (omega arith) h

pub place_found : (v : Visible) (items : List Visible) (place : ℕ) (x : Visible) → x ≡ get_or items (place - 1) x → 0 < place → place ≤ length items → All (λ w. comes_before v w ≡ true) (drop place items) → comes_before v x ≡ false → IsPlace v items place
place_found v items place x is pos le h b =
    let n : suc (place - 1) ≡ place = omega arith in
    record {
      later = h;
      earlier = subst (λ m. IsAfterLast v (take m items)) n (after_last v items (place - 1) x (omega arith) (ap (comes_before v) (sym is) ∙ b));
    }

-- ## An item in its place

all_earlier : (v : Visible) (xs ys : List Visible) → IsOrdered (xs ++ ys) → IsAfterLast v xs → (x : Visible) → Contains xs x → comes_before v x ≡ false
all_earlier v [] ys o h x c = let no' : ⊥ = omega (arith, c.1) in absurd no'
all_earlier v (w ∷ []) ys o h x c = ⊎_elim
    (λ (e : w ≡ x). subst (λ y. comes_before v y ≡ false) e h)
    (λ (d : Contains [] x). let no' : ⊥ = omega (arith, d.1) in absurd no')
    (cons_cases w [] x c)
all_earlier v (w ∷ z ∷ xs) ys o h x c = ⊎_elim
    (λ (e : w ≡ x). subst (λ y. comes_before v y ≡ false) e (false_from_ne_true (comes_before v w) (λ b.
    true≢false (sym (before_later v w z b (All-head (λ y. comes_before y w ≡ false) z (xs ++ ys) o.0)) ∙ all_earlier v (z ∷ xs) ys o.1 h z (0, omega arith, refl)))))
    (λ (d : Contains (z ∷ xs) x). all_earlier v (z ∷ xs) ys o.1 h x d)
    (cons_cases w (z ∷ xs) x c)

ordered_insert : (v : Visible) (xs ys : List Visible) → IsOrdered (xs ++ ys) → ((x : Visible) → Contains xs x → comes_before v x ≡ false) → ((y : Visible) → Contains ys y → comes_before v y ≡ true) → IsOrdered (xs ++ v ∷ ys)
ordered_insert v [] ys o f g = (all_from (λ y. comes_before y v ≡ false) ys (λ y c. false_from_ne_true (comes_before y v) (λ b. asymmetric v y (g y c) b)), o)
ordered_insert v (x ∷ xs) ys o f g =
    (all_from (λ y. comes_before y x ≡ false) (xs ++ v ∷ ys) (λ y c. in_joined y c), ordered_insert v xs ys o.1 (λ z c. f z (later x xs z c)) g)
  where
    in_joined : (y : Visible) → Contains (xs ++ v ∷ ys) y → comes_before y x ≡ false
    in_joined y c = ⊎_elim
        (λ (d : Contains xs y). All-contains (λ z. comes_before z x ≡ false) (xs ++ ys) y o.0 (Contains-append_left xs ys y d))
        (λ (d : Contains (v ∷ ys) y). ⊎_elim
        (λ (e : v ≡ y). subst (λ z. comes_before z x ≡ false) e (f x (0, omega arith, refl)))
        (λ (e : Contains ys y). All-contains (λ z. comes_before z x ≡ false) (xs ++ ys) y o.0 (Contains-append_right xs ys y e))
        (cons_cases v ys y d))
        (Contains-append_cases xs (v ∷ ys) y c)

-- put there, it stands where `insert` puts it, and the list is in order
pub record Inserted (items : List Visible) (item : Visible) (place : ℕ) : Type 0 where
  pub ordered : IsOrdered (take place items ++ item ∷ drop place items)
  pub same : take place items ++ item ∷ drop place items ≡ insert item items

pub inserted : (items : List Visible) (item : Visible) (place : ℕ) → IsOrdered items → IsPlace item items place → Inserted items item place
inserted items item place o at =
    let parts : take place items ++ drop place items ≡ items = take-append-drop place items in
    let both : IsOrdered (take place items ++ drop place items) = subst IsOrdered (sym parts) o in
    let f = all_earlier item (take place items) (drop place items) both at.earlier in
    let g : (y : Visible) → Contains (drop place items) y → comes_before item y ≡ true = λ y c. All-contains (λ w. comes_before item w ≡ true) (drop place items) y at.later c in
    record {
      ordered = ordered_insert item (take place items) (drop place items) both f g;
      same = sym (insert_at item (take place items) (drop place items) f g) ∙ ap (insert item) parts;
    }
