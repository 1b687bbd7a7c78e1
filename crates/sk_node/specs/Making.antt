-- What is put when a participant is made.
use Rattle.std.specs.Prelude.{ℕ, List, ◌++◌, map}
use Rattle.std.specs.List.{flat_map}
use Rattle.sk_msg.specs.declared.content.Content.{Content}
use Rattle.sk_msg.specs.declared.entry.Entry.{Entry}
use Rattle.sk_msg.specs.declared.entry.Entry.TheVariants.{Put}
use Rattle.sk_law.specs.Past.{Past}

-- these messages, to one
abbrev pub greeting : List Content → ℕ → List Entry
greeting messages p = map (λ m. Put p m) messages

-- to each of these
abbrev pub introduced : List Content → List ℕ → Past → Past
introduced messages peers past = record past { journal = past.journal ++ flat_map (greeting messages) peers }

-- the one of them
abbrev pub greeted : List Content → ℕ → Past → Past
greeted messages p past = record past { journal = past.journal ++ greeting messages p }
