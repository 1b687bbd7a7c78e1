-- What a service speaks of, and which labels it may have.
use Rattle.std.specs.Prelude.{ℕ, ◌+◌, Bool, not, ◌&&◌, List, [], ◌∷◌, ◌++◌, length, nat_lt, nat_le, Option, Some, None, if◌then◌else◌}
use Rattle.std.specs.List.{list_any}
use Rattle.std.specs.Option.{option_map}
use Rattle.std.specs.Str.{bytes_eq}
use Rattle.sk_msg.specs.Each.{each_after}
use Rattle.sk_msg.specs.declared.label.Label.{Label}
use Rattle.sk_msg.specs.declared.spec.SpecFault.{SpecFault}
use Rattle.sk_msg.specs.declared.spec.SpecFault.TheVariants.{TooMany, DoubleKey}

-- a specification as contracts see it
pub record SpecValue : Type 0 where
  pub topic : List ℕ
  pub media : List ℕ
  pub labels : List Label

-- a key that stands in none of these labels
unfoldable pub is_new_key : List Label → List ℕ → Bool
is_new_key labels key = not (list_any (λ label. bytes_eq label.key key) labels)

-- a label whose key is new behind these
abbrev pub is_newly_keyed : List Label → Label → Bool
is_newly_keyed before label = is_new_key before label.key

-- at most 16
unfoldable pub is_label_count : ℕ → Bool
is_label_count n = nat_le n 16

-- at most 16, of distinct keys
abbrev pub are_labels : List Label → Bool
are_labels labels = is_label_count (length labels) && each_after is_newly_keyed [] labels

-- behind so many others, which these are: the index of the first label whose key stands before it
abbrev pub double_key : List Label → ℕ → List Label → Option ℕ
double_key before at [] = None
double_key before at (label ∷ labels) =
    if is_newly_keyed before label then double_key (before ++ label ∷ []) (at + 1) labels else Some at

-- why these are no labels of a service: their number, then the first double key
abbrev pub spec_fault : List Label → Option SpecFault
spec_fault labels =
    if nat_lt 16 (length labels) then Some (TooMany (length labels))
    else option_map (λ at. DoubleKey at) (double_key [] 0 labels)
