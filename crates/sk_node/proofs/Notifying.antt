-- What the app is notified of before memory is refused.
use Rattle.std.specs.Prelude.{◌≡◌, ◌⊎◌, refl, List, [], ◌∷◌, ◌++◌}
use Rattle.std.proofs.Common.{ap, sym, ◌∙◌, append_assoc, append-nil, inl, inr}
use Rattle.sk_law.specs.declared.made.Notice.{Notice}
use Rattle.sk_node.specs.Lists.{Lists}
use Rattle.sk_node.specs.Notified.{with_notices, NotifiedPart}

-- of nothing
pub notified_none : (was : Lists) → was ≡ with_notices [] was
notified_none was = ap (λ x. record was { notified = x }) (sym (append-nil was.notified))

-- of some, then of others
pub notified_both : (was middle now : Lists) (a b : List Notice) → middle ≡ with_notices a was → now ≡ with_notices b middle → now ≡ with_notices (a ++ b) was
notified_both was middle now a b e f = f ∙ ap (with_notices b) e ∙ ap (λ x. record was { notified = x }) (append_assoc was.notified a b)

-- within the first
pub part_before : (was now : Lists) (a b : List Notice) → NotifiedPart a was now → NotifiedPart (a ++ b) was now
part_before was now a b h =
    record { notes = h.notes; rest = h.rest ++ b; both = sym (append_assoc h.notes h.rest b) ∙ ap (λ x. x ++ b) h.both; lists = h.lists }

-- within the last
pub part_behind : (was middle now : Lists) (a b : List Notice) → middle ≡ with_notices a was → NotifiedPart b middle now → NotifiedPart (a ++ b) was now
part_behind was middle now a b e h = record {
  notes = a ++ h.notes;
  rest = h.rest;
  both = append_assoc a h.notes h.rest ∙ ap (λ x. a ++ x) h.both;
  lists = notified_both was middle now a h.notes e h.lists;
}

-- one call of the app, which kept all of it or nothing
pub part_one : (was now : Lists) (one : Notice) → ((now ≡ with_notices (one ∷ []) was) ⊎ (now ≡ was)) → NotifiedPart (one ∷ []) was now
part_one was now one (inl e) = record { notes = one ∷ []; rest = []; both = refl; lists = e }
part_one was now one (inr e) = record { notes = []; rest = one ∷ []; both = refl; lists = e ∙ notified_none was }
