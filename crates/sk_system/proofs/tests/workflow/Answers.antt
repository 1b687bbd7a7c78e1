use Rattle.std.proofs.Common.{◌≡◌, refl, ℕ, ◌≤◌, List, [], ◌∷◌, ◌++◌, length, true, sym, subst, ap, ◌∙◌, arith, append_assoc}
use Rattle.std.proofs.lemmas.Bool.{and_from, and_parts, le-leb}
use Rattle.std.proofs.lemmas.Bool.Decides.{nat_tests}
use Rattle.std.proofs.lemmas.List.{append-nil}
use Rattle.sk_msg.specs.Each.{each_after}
use Rattle.sk_msg.specs.Rules.{is_new_name, is_required_count}
use Rattle.sk_system.proofs.tests.workflow.Goals as goal

one_more : (before names : List (List ℕ)) (name : List ℕ) → each_after is_new_name before names ≡ true → is_new_name (before ++ names) name ≡ true
    → each_after is_new_name before (names ++ name ∷ []) ≡ true
one_more before [] name each new = and_from _ _ (ap (λ (ns : List (List ℕ)). is_new_name ns name) (sym (append-nil before)) ∙ new) refl
one_more before (first ∷ names) name each new =
    let both = and_parts _ _ each in
    and_from _ _ both.0 (one_more (before ++ first ∷ []) names name both.1 (ap (λ (ns : List (List ℕ)). is_new_name ns name) (append_assoc before (first ∷ []) names) ∙ new))

counted : (n : ℕ) → 1 ≤ n → n ≤ 32 → is_required_count n ≡ true
unfolding is_required_count
counted n some few = and_from _ _ (le-leb 1 n some) (le-leb n 32 few)

pub loop-text-preserved : goal.loop-text-preserved
loop-text-preserved g c =
    let new : is_new_name c.loop-text.names.items c.in_ok-name.name ≡ true = cc in
    subst (λ (names : List (List ℕ)). each_after is_new_name [] names ≡ true) (sym c.in_ok-push.ensures.items)
    (one_more [] c.loop-text.names.items c.in_ok-name.name c.loop-text.invariant new)

pub workflow-requires-clause-count : goal.workflow-requires-clause-count
workflow-requires-clause-count g c =
    rw c.new-2.ensures (counted (length c.loop-text.names.items) (grind (arith, nat_tests)) (grind (arith, nat_tests)))
