-- When labels are those of a service.
use Rattle.std.proofs.Common.{◌≡◌, ℕ, ◌+◌, ◌≤◌, Bool, true, false, cond, List, [], ◌∷◌, ◌++◌, length, ◌<◌, Option, Some, None, refl, sym, ap, ◌∙◌, append_assoc}
use Rattle.std.specs.Prelude.{IsTrue}
use Rattle.std.proofs.lemmas.Bool.{le-ltb, lt-ltb, le-leb, and_from, and_parts}
use Rattle.std.proofs.lemmas.List.{append-nil}
use Rattle.sk_msg.specs.Each.{each_after}
use Rattle.sk_msg.specs.declared.label.Label.{Label}
use Rattle.sk_msg.specs.declared.spec.SpecFault.TheVariants.{TooMany, DoubleKey}
use Rattle.sk_msg.specs.Specs.{is_newly_keyed, is_label_count, are_labels, double_key, spec_fault}

-- where no key is double, each is new
distinct : (before : List Label) (at : ℕ) (labels : List Label) → double_key before at labels ≡ None → each_after is_newly_keyed before labels ≡ true
distinct before at [] h = refl
distinct before at (label ∷ labels) h =
    let t = tested (is_newly_keyed before label) at (double_key (before ++ label ∷ []) (at + 1) labels) h in
    and_from _ _ t.0 (distinct (before ++ label ∷ []) (at + 1) labels t.1)
  where
    tested : (b : Bool) (at : ℕ) (deeper : Option ℕ) → cond b deeper (Some at) ≡ None → (b ≡ true) × (deeper ≡ None)
    tested true at deeper h = (refl, h)
    tested false at deeper h = absurd cc

pub no_fault : (labels : List Label) → length labels ≤ 16 → double_key [] 0 labels ≡ None → spec_fault labels ≡ None
no_fault labels few none = rw (le-ltb 16 (length labels) few, none) refl

pub are_fine : (labels : List Label) → length labels ≤ 16 → double_key [] 0 labels ≡ None → IsTrue (are_labels labels)
unfolding is_label_count
are_fine labels few none = and_from _ _ (le-leb (length labels) 16 few) (distinct [] 0 labels none)

pub double_fault : (labels : List Label) (at : ℕ) → length labels ≤ 16 → double_key [] 0 labels ≡ Some at → spec_fault labels ≡ Some (DoubleKey at)
double_fault labels at few some = rw (le-ltb 16 (length labels) few, some) refl

pub many_fault : (labels : List Label) → 16 < length labels → spec_fault labels ≡ Some (TooMany (length labels))
many_fault labels many = rw (lt-ltb 16 (length labels) many) refl

pub ruleset judged = (no_fault, are_fine, double_fault, many_fault)

-- one more at the end
pub each_after-snoc : {A : Type 0} (test : List A → A → Bool) (before xs : List A) (x : A) → each_after test before xs ≡ true → test (before ++ xs) x ≡ true → each_after test before (xs ++ x ∷ []) ≡ true
each_after-snoc {A = A} test before [] x h t = and_from _ _ (ap (λ (ys : List A). test ys x) (sym (append-nil before)) ∙ t) refl
each_after-snoc {A = A} test before (y ∷ ys) x h t =
    let both = and_parts _ _ h in
    and_from _ _ both.0 (each_after-snoc test (before ++ y ∷ []) ys x both.1 (ap (λ (zs : List A). test zs x) (append_assoc before (y ∷ []) ys) ∙ t))
