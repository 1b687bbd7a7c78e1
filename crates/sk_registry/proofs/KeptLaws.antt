-- What a directory keeps, after a new name goes last and after a name is taken out.
use Rattle.std.proofs.Common.{◌≡◌, ◌∙◌, List, [], ◌∷◌, ◌++◌, None, string_bytes, ap}
use Rattle.std.specs.String.{string_eq}
use Rattle.std.specs.Map.{values_of, remove_entry}
use Rattle.std.specs.Prelude.{ℕ}
use Rattle.std.specs.declared.alloc.Global.{Global}
use Rattle.std.specs.declared.string.String.{String}
use Rattle.std.proofs.lemmas.List.{map-append}
use Rattle.indexmap.specs.IndexMap.{insert_entry}
use Rattle.sk_registry.specs.declared.joined.Joined.{Joined}
use Rattle.sk_registry.specs.declared.directory.Directory.TheInside.{Inside}
use Rattle.sk_registry.specs.Table.{without, refusal}
use Rattle.sk_registry.specs.Directory.{table_of, IsKept}
use Rattle.sk_registry.proofs.TableLaws.{free, table-push, table-without}
use Rattle.sk_registry.proofs.MapLaws.{has_text, put_last, keyed-push, removed_named, keyed-removed}

pub record Becomes (table : List Joined) (new : Inside) : Type 0 where
  pub shows : table_of new ≡ table
  pub kept : IsKept new

pub after_push : (old new : Inside) (key : String Global) (who : Joined) → IsKept old → refusal (table_of old) who.name ≡ None → string_bytes key ≡ who.name
    → new.table.entries ≡ insert_entry string_eq old.table.entries key who → Becomes (table_of old ++ who ∷ []) new
after_push old new key who kept accepted is inserted =
    let is_free = free (table_of old) who.name accepted in
    let entries = inserted ∙ put_last old.table.entries key who kept.keyed is is_free.fresh in
    let last : table_of new ≡ table_of old ++ who ∷ [] = ap values_of entries ∙ map-append _ old.table.entries ((key, who) ∷ []) in
    record {
      shows = last;
      kept = record { keyed = rw entries (keyed-push old.table.entries key who kept.keyed is); table = rw last (table-push (table_of old) who kept.table is_free) };
    }

pub after_removal : (old new : Inside) (name : List ℕ) → IsKept old → new.table.entries ≡ remove_entry (has_text name) old.table.entries → Becomes (without name (table_of old)) new
after_removal old new name kept removed =
    let others : table_of new ≡ without name (table_of old) = ap values_of removed ∙ removed_named name old.table.entries kept.keyed kept.table.distinct in
    record {
      shows = others;
      kept = record { keyed = rw removed (keyed-removed name old.table.entries kept.keyed); table = rw others (table-without name (table_of old) kept.table) };
    }
