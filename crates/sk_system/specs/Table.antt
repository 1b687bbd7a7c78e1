-- What a tool has seen of each participant, by name.
use Rattle.std.specs.Prelude.{ℕ, Bool, List, [], ◌∷◌, Option, Some, None, is_some, if◌then◌else◌}
use Rattle.std.specs.Str.{bytes_eq}
use Rattle.std.specs.Option.{option_or}
use Rattle.sk_msg.specs.declared.state.State.{State}
use Rattle.sk_msg.specs.declared.state.State.TheVariants.{Error}
use Rattle.sk_system.specs.declared.table.Ending.{Ending}
use Rattle.sk_system.specs.declared.table.Ending.TheVariants.{Left, Lost}
use Rattle.sk_system.specs.declared.table.Seen.{Seen}
use Rattle.sk_system.specs.declared.table.TableEntry.{TableEntry}

-- ## Of one participant

-- of one that wasn't heard of
abbrev pub unseen : Seen
unseen = record { state = None; ending = None }

-- it told this state
abbrev pub with_state : State → Seen → Seen
with_state state seen = record seen { state = Some state }

-- it has left or is lost, whichever came first
abbrev pub with_ending : Ending → Seen → Seen
with_ending ending seen = record seen { ending = option_or seen.ending (Some ending) }

-- it has left or is lost
abbrev pub is_gone : Seen → Bool
is_gone seen = is_some seen.ending

-- its state, where that of a lost one is taken as Error
abbrev pub state_or_error : Seen → Option State
state_or_error seen = after seen.ending
  where
    after : Option Ending → Option State
    after (Some Lost) = Some Error
    after (Some Left) = seen.state
    after None = seen.state

-- ## By name

-- what was seen of this name
abbrev pub seen_of : List TableEntry → List ℕ → Seen
seen_of [] name = unseen
seen_of (entry ∷ table) name = if bytes_eq entry.name name then entry.seen else seen_of table name

-- this is what was seen of this name from now on
abbrev pub put : List ℕ → Seen → List TableEntry → List TableEntry
put name seen [] = record { name = name; seen = seen } ∷ []
put name seen (entry ∷ table) =
    if bytes_eq entry.name name then record entry { seen = seen } ∷ table else entry ∷ put name seen table
