-- What the fields of `ResponseTable` stand for.
use Rattle.std.specs.Prelude.{◌≡◌, ℕ, suc, List, [], ◌∷◌, ◌++◌, ⊤}
use Rattle.std.specs.List.{AllByRecursion}
use Rattle.sk_lin.specs.declared.kept.Kept.{Kept}
use Rattle.sk_lin.specs.declared.table.ResponseTable.TheInside.{Inside}

-- these lists one after the other
abbrev pub joined : List (List Kept) → List Kept
joined [] = []
joined (one ∷ more) = one ++ joined more

-- the first list has responses of this identifier alone, the next one of the next identifier, and so on
abbrev pub AreByIdentifier : ℕ → List (List Kept) → Type 0
AreByIdentifier id [] = ⊤
AreByIdentifier id (one ∷ more) = AllByRecursion (λ kept. kept.response.id ≡ id) one × AreByIdentifier (suc id) more

-- all that is kept
abbrev pub kept_in : Inside → List Kept
kept_in table = joined table.by_id.items

-- at each identifier stand its responses
abbrev pub IsTable : Inside → Type 0
IsTable table = AreByIdentifier 0 table.by_id.items
