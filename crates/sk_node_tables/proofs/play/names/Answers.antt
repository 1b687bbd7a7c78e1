use Rattle.std.proofs.Common.{◌≡◌, refl, List, [], ◌∷◌, ◌++◌, ℕ, true, sym, subst, ap, ◌∙◌, append_assoc}
use Rattle.std.proofs.lemmas.Bool.{and_from, and_parts}
use Rattle.std.proofs.lemmas.List.{append-nil}
use Rattle.sk_msg.specs.Each.{each_after}
use Rattle.sk_msg.specs.Rules.{is_new_name}
use Rattle.sk_node_tables.proofs.play.names.Goals as goal

one_more : (before names : List (List ℕ)) (name : List ℕ) → each_after is_new_name before names ≡ true → is_new_name (before ++ names) name ≡ true
    → each_after is_new_name before (names ++ name ∷ []) ≡ true
one_more before [] name each new = and_from _ _ (ap (λ (ns : List (List ℕ)). is_new_name ns name) (sym (append-nil before)) ∙ new) refl
one_more before (first ∷ names) name each new =
    let both = and_parts _ _ each in
    and_from _ _ both.0 (one_more (before ++ first ∷ []) names name both.1 (ap (λ (ns : List (List ℕ)). is_new_name ns name) (append_assoc before (first ∷ []) names) ∙ new))

pub loop-text-preserved : goal.loop-text-preserved
loop-text-preserved c =
    let new : is_new_name c.loop-text.names.items c.in_ok-name.name ≡ true = cc in
    subst (λ (names : List (List ℕ)). each_after is_new_name [] names ≡ true) (sym c.in_ok-push.ensures.items)
    (one_more [] c.loop-text.names.items c.in_ok-name.name c.loop-text.invariant new)
