-- What is written of each item of a list reads as the list.
use Rattle.std.proofs.Common.{◌≡◌, ℕ, suc, ◌+◌, Bool, true, List, [], ◌∷◌, ◌++◌, length, Ok, refl, sym, ap}
use Rattle.std.specs.Prelude.{◌&&◌, Result}
use Rattle.std.specs.List.{list_all}
use Rattle.std.proofs.lemmas.Bool.{and_parts, and_from}
use Rattle.serde_json.specs.Data.{Data}
use Rattle.serde_json.specs.Events.{items_len}
use Rattle.sk_msg.specs.Each.{each_after}
use Rattle.sk_config.specs.Paths.{index_at}
use Rattle.sk_rules.specs.Fields.{items_read}
use Rattle.sk_rules.specs.declared.fault.ScenarioFault.{ScenarioFault}
use Rattle.sk_script_text.specs.Objects.{items}

module _ {A : Type 0} where
  append_one : (xs : List A) (y : A) (ys : List A) → (xs ++ y ∷ []) ++ ys ≡ xs ++ y ∷ ys
  append_one [] y ys = refl
  append_one (x ∷ xs) y ys = ap (λ (zs : List A). x ∷ zs) (append_one xs y ys)

  pub count_back : (write : A → Data) (xs : List A) → items_len (items write xs) ≡ length xs
  count_back write [] = refl
  count_back write (x ∷ xs) = ap suc (count_back write xs)

  pub items_back : (read : List ℕ → List A → Data → Result A ScenarioFault) (write : A → Data) (good : List A → A → Bool)
      → ((path : List ℕ) (earlier : List A) (x : A) → good earlier x ≡ true → read path earlier (write x) ≡ Ok x)
      → (path : List ℕ) (earlier : List A) (index : ℕ) (xs : List A) → each_after good earlier xs ≡ true → items_read read path earlier index (items write xs) ≡ Ok (earlier ++ xs)
  items_back read write good back path earlier index [] each = ap Ok (sym (append_none earlier))
    where
      append_none : (xs : List A) → xs ++ [] ≡ xs
      append_none [] = refl
      append_none (x ∷ xs) = ap (λ (zs : List A). x ∷ zs) (append_none xs)
  items_back read write good back path earlier index (x ∷ xs) each =
      let both = and_parts _ _ each in
      rw (back (index_at path index) earlier x both.0, items_back read write good back path (earlier ++ x ∷ []) (index + 1) xs both.1) (ap Ok (append_one earlier x xs))

  -- each passes two tests
  pub all_after : (one other : A → Bool) (before xs : List A) → list_all one xs ≡ true → list_all other xs ≡ true → each_after (λ earlier x. one x && other x) before xs ≡ true
  all_after one other before [] p q = refl
  all_after one other before (x ∷ xs) p q =
      let a = and_parts _ _ p in
      let b = and_parts _ _ q in
      and_from _ _ (and_from _ _ a.0 b.0) (all_after one other (before ++ x ∷ []) xs a.1 b.1)
