-- Each lawful world is a safe one.
use Rattle.std.specs.Prelude.{ℕ, List}
use Rattle.sk_law.specs.Safe.{IsSafe}
use Rattle.sk_law.specs.World.{Member, IsWorld}

-- the law
abbrev pub WorldIsSafe : Type 0
WorldIsSafe = (names : List (List ℕ)) (members : List Member) → IsWorld names members → IsSafe members
