-- What has happened to a participant: its journal, and what its rules need to remember besides.
use Rattle.std.specs.Prelude.{ℕ, List, [], ◌∷◌, ◌++◌, map}
use Rattle.sk_msg.specs.declared.content.Content.{Content}
use Rattle.sk_msg.specs.declared.entry.Entry.{Entry}
use Rattle.sk_msg.specs.declared.entry.Entry.TheVariants.{Put}
use Rattle.sk_law.specs.declared.memory.Memory.{Memory}

-- all that has happened
pub record Past : Type 0 where
  pub journal : List Entry
  pub memory : Memory

-- one entry more
abbrev pub add : Entry → Past → Past
add entry past = record past { journal = past.journal ++ entry ∷ [] }

-- this message, put to each of these
abbrev pub put_each : List ℕ → Content → Past → Past
put_each numbers m past = record past { journal = past.journal ++ map (λ q. Put q m) numbers }
