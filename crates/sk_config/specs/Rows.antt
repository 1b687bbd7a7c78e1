-- A row of the table of keys.
use Rattle.std.specs.Prelude.{ℕ, Bool, List}

-- the key of the list of one kind of services, that of what an entry's service speaks of, and whether an entry may tell of history
pub record Row : Type 0 where
  pub list : List ℕ
  pub target : List ℕ
  pub has_history : Bool
