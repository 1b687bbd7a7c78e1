-- What an adapter does to a stream whose bytes are known.
use Rattle.std.specs.Prelude.{ℕ, List, [], take, Option}
use Rattle.std.specs.Io.KnownBytes.{Appends, Consumes, IsAtEnd}
use Rattle.sk_base.specs.declared.link.Took.{Took}
use Rattle.sk_base.specs.declared.link.Took.TheVariants as took
use Rattle.sk_base.specs.declared.link.Gave.{Gave}
use Rattle.sk_base.specs.declared.link.Gave.TheVariants as gave

-- a take hands over the next bytes of the stream, and answers End only where none is left; it never answers NotYet
abbrev pub TakesFrom : Option (List ℕ) → Option (List ℕ) → List ℕ → Took → Type 0
TakesFrom before now buffer (took.Bytes count) = Consumes before now (take count buffer)
TakesFrom before now buffer took.NotYet = ⊥
TakesFrom before now buffer took.End = Consumes before now [] × IsAtEnd now

-- a give appends what it says went through; it never answers NotYet
abbrev pub GivesTo : Option (List ℕ) → Option (List ℕ) → List ℕ → Gave → Type 0
GivesTo before now piece (gave.Bytes count) = Appends before now (take count piece)
GivesTo before now piece gave.NotYet = ⊥
