-- The registry's table: who is joined, in order of joining.
use Rattle.std.specs.Prelude.{◌≡◌, ◌≤◌, ◌==◌, ℕ, Bool, not, List, ◌∷◌, ◌++◌, map, filter, length, Option, Some, None, if◌then◌else◌}
use Rattle.std.specs.List.{list_any, IsDistinct}
use Rattle.std.specs.Str.{bytes_eq}
use Rattle.sk_registry.specs.declared.joined.Joined.{Joined}
use Rattle.sk_registry.specs.declared.refused.JoinRefused.{JoinRefused}
use Rattle.sk_registry.specs.declared.refused.JoinRefused.TheVariants.{NameTaken, Full}

abbrev pub is_named : List ℕ → Joined → Bool
is_named name joined = bytes_eq name joined.name

abbrev pub names : List Joined → List (List ℕ)
names table = map (λ joined. joined.name) table

-- one of this name is joined
abbrev pub has_name : List Joined → List ℕ → Bool
has_name table name = list_any (is_named name) table

-- all but those of this name, in the same order
abbrev pub without : List ℕ → List Joined → List Joined
without name table = filter (λ joined. not (is_named name joined)) table

abbrev pub is_full : List Joined → Bool
is_full table = length table == 36

-- why nobody of this name can join: one of it is joined; else 36 are joined
abbrev pub refusal : List Joined → List ℕ → Option JoinRefused
refusal table name =
    if has_name table name then Some NameTaken else
    if is_full table then Some Full else
    None

-- what holds of the table at every moment
pub record IsTable (table : List Joined) : Type 0 where
  pub distinct : IsDistinct bytes_eq (names table)
  pub few : length table ≤ 36

-- the one stands before the other
pub record IsBefore (table : List Joined) (one other : Joined) : Type 0 where
  pub front : List Joined
  pub middle : List Joined
  pub back : List Joined
  pub order : table ≡ front ++ one ∷ (middle ++ other ∷ back)
