-- What happens to the registry's table, and the table after it.
use Rattle.std.specs.Prelude.{◌≡◌, ℕ, Bool, false, List, [], ◌∷◌, ◌++◌, length, None, is_none, if◌then◌else◌}
use Rattle.std.specs.List.{list_any}
use Rattle.std.specs.Str.{bytes_eq}
use Rattle.sk_registry.specs.declared.joined.Joined.{Joined}
use Rattle.sk_registry.specs.Table.{refusal, without}

-- a join for which there was no memory is no event: it changes nothing
pub data RegistryEvent : Type 0 where
  Join : (who : Joined) → RegistryEvent
  Leave : (name : List ℕ) → RegistryEvent

-- a join that is refused changes nothing, another one goes last; whoever leaves is taken out
abbrev pub after : List Joined → RegistryEvent → List Joined
after table (Join who) = if is_none (refusal table who.name) then table ++ who ∷ [] else table
after table (Leave name) = without name table

abbrev pub after_events : List Joined → List RegistryEvent → List Joined
after_events table [] = table
after_events table (event ∷ events) = after_events (after table event) events

-- the table of these events, from nobody on
abbrev pub table_after : List RegistryEvent → List Joined
table_after events = after_events [] events

-- ## Joinings

abbrev pub is_leave_of : List ℕ → RegistryEvent → Bool
is_leave_of name (Join who) = false
is_leave_of name (Leave other) = bytes_eq other name

-- one of this name left, or was to leave
abbrev pub has_left : List RegistryEvent → List ℕ → Bool
has_left events name = list_any (is_leave_of name) events

-- an event by which one is in the table: it joined, wasn't refused, and nobody of its name has left since
pub record Joining (events : List RegistryEvent) : Type 0 where
  pub before : List RegistryEvent
  pub who : Joined
  pub since : List RegistryEvent
  pub among : events ≡ before ++ Join who ∷ since
  pub accepted : refusal (table_after before) who.name ≡ None
  pub stayed : has_left since who.name ≡ false

-- how many events were before it
abbrev pub index : {events : List RegistryEvent} → Joining events → ℕ
index joining = length joining.before

-- whom it was told of
abbrev pub told : {events : List RegistryEvent} → Joining events → List Joined
told joining = table_after joining.before

-- the one was told of the other: by the other's joining the other was in the table when the one joined
pub record IsToldOf {events : List RegistryEvent} (one other : Joining events) : Type 0 where
  pub row : Joining one.before
  pub same_index : index row ≡ index other
  pub same_one : row.who ≡ other.who
