-- What makes a message keep its rules.
use Rattle.std.proofs.Common.{◌≡◌, ℕ, true, List, [], ◌∷◌, ◌++◌, refl}
use Rattle.std.specs.Prelude.{All, IsTrue}
use Rattle.std.proofs.lemmas.Bool.{and_from, and_parts, lt-ltb}
use Rattle.std.proofs.lemmas.List.Elements.{All-head, All-tail}
use Rattle.sk_base.specs.Ranges.{is_name}
use Rattle.sk_msg.specs.Each.{each_after}
use Rattle.sk_msg.specs.declared.label.Label.{Label}
use Rattle.sk_msg.specs.Specs.{is_newly_keyed}
use Rattle.sk_msg.specs.Rules.{IsNamed, is_new_label, is_new_name, is_next_name}

pub ruleset rules = (and_from, lt-ltb)

pub each_label : (before labels : List Label) → each_after is_newly_keyed before labels ≡ true → All IsNamed labels
    → each_after is_new_label before labels ≡ true
each_label before [] new named = refl
each_label before (label ∷ labels) new named =
    let here = and_parts _ _ new in
    let own = All-head IsNamed label labels named in
    and_from _ _ (and_from _ _ (and_from _ _ own.0 here.0) (and_from _ _ own.1 refl))
    (each_label (before ++ label ∷ []) labels here.1 (All-tail IsNamed label labels named))

pub each_name : (before names : List (List ℕ)) → each_after is_new_name before names ≡ true → All (λ name. IsTrue (is_name name)) names
    → each_after is_next_name before names ≡ true
each_name before [] new named = refl
each_name before (name ∷ names) new named =
    let P : List ℕ → Type 0 = λ n. IsTrue (is_name n) in
    let here = and_parts _ _ new in
    and_from _ _ (and_from _ _ (All-head P name names named) here.0)
    (each_name (before ++ name ∷ []) names here.1 (All-tail P name names named))

pub ruleset services = (and_from, and_parts, each_label, each_name)
