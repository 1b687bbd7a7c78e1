-- What a report calls participants and their services.
use Rattle.std.specs.Prelude.{ℕ, List, [], map, unwrap_or, slice_get}
use Rattle.sk_msg.specs.declared.service.Service.{Service}

-- the names of a participant and of its services, in the order of their numbers
pub record PartNames : Type 0 where
  pub name : List ℕ
  pub services : List (List ℕ)

-- of a participant with this name and these services
abbrev pub part_names : List ℕ → List Service → PartNames
part_names name services = record { name = name; services = map (λ s. s.name) services }

-- of a participant of whom nothing is known
abbrev pub no_names : PartNames
no_names = record { name = []; services = [] }

-- of the participant of this number; a number out of range has no names
abbrev pub names_at : List PartNames → ℕ → PartNames
names_at parts number = unwrap_or (slice_get parts number) no_names

-- the name of the own service of this number; empty out of range
abbrev pub service_name : PartNames → ℕ → List ℕ
service_name names service = unwrap_or (slice_get names.services service) []
