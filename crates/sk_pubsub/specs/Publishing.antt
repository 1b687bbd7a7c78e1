-- What a publisher said last.
use Rattle.std.specs.Prelude.{ℕ, Bool, List, Option, Some, if◌then◌else◌}

-- what contracts see of a publisher
pub record Publishing : Type 0 where
  pub history : Bool
  -- its last publication, with history
  pub last : Option (List ℕ)

-- after a publication
abbrev pub published : List ℕ → Publishing → Publishing
published payload p = record p { last = if p.history then Some payload else p.last }
