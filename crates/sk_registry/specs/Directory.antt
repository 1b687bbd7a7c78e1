-- What the fields of `Directory` stand for.
use Rattle.std.specs.Prelude.{◌≡◌, List, string_bytes}
use Rattle.std.specs.List.{AllByRecursion}
use Rattle.std.specs.Map.{values_of}
use Rattle.sk_registry.specs.Table.{IsTable}
use Rattle.sk_registry.specs.declared.joined.Joined.{Joined}
use Rattle.sk_registry.specs.declared.directory.Directory.TheInside.{Inside}

abbrev pub table_of : Inside → List Joined
table_of directory = values_of directory.table.entries

pub record IsKept (directory : Inside) : Type 0 where
  -- each stands under its name
  pub keyed : AllByRecursion (λ entry. string_bytes entry.0 ≡ entry.1.name) directory.table.entries
  pub table : IsTable (table_of directory)
