-- Beginnings of lists.
use Rattle.std.proofs.Common.{List, ◌++◌, ◌∙◌, sym, ap, append_assoc}
use mathlib.Core.List.{IsPrefix}

pub IsPrefix-trans : {X : Type 0} (xs ys zs : List X) → IsPrefix xs ys → IsPrefix ys zs → IsPrefix xs zs
IsPrefix-trans xs ys zs p q = (p.0 ++ q.0, sym (append_assoc xs p.0 q.0) ∙ (ap (λ l. l ++ q.0) p.1 ∙ q.1))
