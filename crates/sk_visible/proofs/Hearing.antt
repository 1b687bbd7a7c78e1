-- What may be seen of what was heard, with one thing more.
use Rattle.std.proofs.Common.{◌≡◌, List, [], ◌∷◌, ◌++◌, Option, Some, None, ap, ◌∙◌}
use Rattle.std.specs.List.{filter_map, cons_option}
use Rattle.std.proofs.lemmas.List.{append-nil}
use Rattle.std.proofs.lemmas.List.Elements.{filter_map-append}
use Rattle.sk_law.specs.declared.made.Heard.{Heard}
use Rattle.sk_law.specs.declared.visible.Visible.{Visible}
use Rattle.sk_law.specs.Visible.{shown}

pub nothing_more : (heard : List Heard) (one : Heard) → shown one ≡ None → filter_map shown (heard ++ one ∷ []) ≡ filter_map shown heard
nothing_more heard one e =
    filter_map-append shown heard (one ∷ [])
    ∙ ap (λ (o : Option Visible). filter_map shown heard ++ cons_option o []) e
    ∙ append-nil (filter_map shown heard)

pub one_more : (heard : List Heard) (one : Heard) (item : Visible) → shown one ≡ Some item → filter_map shown (heard ++ one ∷ []) ≡ filter_map shown heard ++ item ∷ []
one_more heard one item e =
    filter_map-append shown heard (one ∷ [])
    ∙ ap (λ (o : Option Visible). filter_map shown heard ++ cons_option o []) e
