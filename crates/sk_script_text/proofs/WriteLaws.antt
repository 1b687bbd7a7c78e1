-- How members are put, and what is written of each item of a list.
use Rattle.std.proofs.Common.{◌≡◌, ℕ, zero, suc, ◌≤◌, Bool, true, false, List, [], ◌∷◌, ◌++◌, length, map, drop, Some, refl, sym, ap, ◌∙◌, arith}
use Rattle.std.specs.Prelude.{if◌then◌else◌}
use Rattle.std.specs.Str.{bytes_eq}
use Rattle.std.proofs.lemmas.Bool.{false≢true, false_from_ne_true}
use Rattle.serde_json.proofs.Views.{members_view-insert_entry, view-Object, view-Array}
use Rattle.serde_json.specs.Data.{Data, array, item}
use Rattle.serde_json.specs.View.{view, items_of, items_view}
use Rattle.serde_json.specs.declared.value.Value.{Value}
use Rattle.sk_script_text.specs.Objects.{list, items}
use Rattle.sk_script_text.specs.Written.{are_same}

pub ruleset puts = (members_view-insert_entry, view-Object, view-Array)

one_by_one : {A : Type 0} (write : A → Data) (xs : List A) → items_of (map write xs) ≡ items write xs
one_by_one write [] = refl
one_by_one write (x ∷ xs) = ap (item (write x)) (one_by_one write xs)

pub all_items : {A : Type 0} (write : A → Data) (values : List Value) (xs : List A) → map view values ≡ map write xs → items_view values ≡ items write xs
all_items write values xs h = ap items_of h ∙ one_by_one write xs

drop_all : {A : Type 0} (i : ℕ) (xs : List A) → length xs ≤ i → drop i xs ≡ []
drop_all i [] h = drop_none i
  where
    drop_none : {A : Type 0} (i : ℕ) → drop {A = A} i [] ≡ []
    drop_none zero = refl
    drop_none (suc i) = refl
drop_all zero (x ∷ xs) h = absurd (omega (arith, h))
drop_all (suc i) (x ∷ xs) h = drop_all i xs (omega (arith, h))

append_none : {A : Type 0} (xs : List A) → xs ++ [] ≡ xs
append_none [] = refl
append_none (x ∷ xs) = ap (λ ys. x ∷ ys) (append_none xs)

-- the same where nothing is left
pub all_done : {A : Type 0} (write : A → Data) (values : List Value) (xs : List A) (i : ℕ) → length xs ≤ i → map view values ++ map write (drop i xs) ≡ map write xs → items_view values ≡ items write xs
all_done write values xs i past h =
    all_items write values xs (sym (append_none (map view values)) ∙ ap (λ ys. map view values ++ map write ys) (sym (drop_all i xs past)) ∙ h)

-- a list that isn't empty is put
pub some_list : (values : List Value) → (length values ≡ 0 → ⊥) → list (items_view values) ≡ Some (array (items_view values))
some_list [] h = absurd (h refl)
some_list (value ∷ values) h = refl

-- the same names are as many
same_length : (names others : List (List ℕ)) → are_same names others ≡ true → length names ≡ length others
same_length [] [] h = refl
same_length [] (other ∷ others) h = absurd (false≢true h)
same_length (name ∷ names) [] h = absurd (false≢true h)
same_length (name ∷ names) (other ∷ others) h = by_test (bytes_eq name other) h (same_length names others)
  where
    by_test : (b : Bool) → (if b then are_same names others else false) ≡ true → (are_same names others ≡ true → length names ≡ length others) → length (name ∷ names) ≡ length (other ∷ others)
    by_test true h later = ap suc (later h)
    by_test false h later = absurd (false≢true h)

pub not_same : (names others : List (List ℕ)) → (length names ≡ length others → ⊥) → false ≡ are_same names others
not_same names others differ = sym (false_from_ne_true (are_same names others) (λ same. differ (same_length names others same)))
