-- The map that keeps the table, each under the text of its name.
use Rattle.std.proofs.Common.{◌≡◌, ◌∙◌, ℕ, Bool, true, false, cond, not, List, [], ◌∷◌, ◌++◌, string_bytes, Option, Some, None, refl, sym, ap, subst, is_some}
use Rattle.std.specs.List.{list_any, AllByRecursion, IsDistinct}
use Rattle.std.specs.Str.{bytes_eq}
use Rattle.std.specs.Map.{keys_of, values_of, remove_entry, lookup}
use Rattle.std.specs.String.{string_eq}
use Rattle.std.specs.declared.string.String.{String}
use Rattle.std.proofs.lemmas.Map.Made.{is_some-lookup}
use Rattle.std.proofs.lemmas.Map.Keys.{IsDistinct-head, IsDistinct-tail}
use Rattle.indexmap.specs.IndexMap.{insert_entry}
use Rattle.indexmap.proofs.MapLemmas.{insert_entry-absent, absent_from_lookup}
use Rattle.sk_registry.specs.declared.joined.Joined.{Joined}
use Rattle.sk_registry.specs.Table.{names, has_name, without}
use Rattle.sk_registry.proofs.TableLaws.{same_bytes, NobodyIs, without-absent, has_name-nobody}

none_of : (found : Option Joined) → is_some found ≡ false → found ≡ None
none_of None h = refl
none_of (Some who) h = absurd cc

module _ {Y : Type 0} where
  abbrev pub has_text : List ℕ → String Y → Bool
  has_text name key = bytes_eq name (string_bytes key)

  abbrev pub AreKeyed : List (String Y × Joined) → Type 0
  AreKeyed entries = AllByRecursion (λ entry. string_bytes entry.0 ≡ entry.1.name) entries

  keys_named : (name : List ℕ) (entries : List (String Y × Joined)) → AreKeyed entries → list_any (has_text name) (keys_of entries) ≡ has_name (values_of entries) name
  keys_named name [] keyed = refl
  keys_named name (entry ∷ entries) keyed = rw (keyed.0, keys_named name entries keyed.1) refl

  -- a look-up finds a name that the table has
  pub found_named : (name : List ℕ) (entries : List (String Y × Joined)) → AreKeyed entries → is_some (lookup (has_text name) entries) ≡ has_name (values_of entries) name
  found_named name entries keyed = is_some-lookup (has_text name) entries ∙ keys_named name entries keyed

  -- a removal takes the name out, and keeps the order of the others
  pub removed_named : (name : List ℕ) (entries : List (String Y × Joined)) → AreKeyed entries → IsDistinct bytes_eq (names (values_of entries))
      → values_of (remove_entry (has_text name) entries) ≡ without name (values_of entries)
  removed_named name [] keyed distinct = refl
  removed_named name (entry ∷ entries) keyed distinct =
      ap (λ b. values_of (cond b entries (entry ∷ remove_entry (has_text name) entries))) (ap (bytes_eq name) keyed.0)
      ∙ split (bytes_eq name entry.1.name) refl (removed_named name entries keyed.1 (IsDistinct-tail bytes_eq entry.1.name (names (values_of entries)) distinct))
    where
      split : (b : Bool) → bytes_eq name entry.1.name ≡ b → values_of (remove_entry (has_text name) entries) ≡ without name (values_of entries)
          → values_of (cond b entries (entry ∷ remove_entry (has_text name) entries)) ≡ cond (not b) (entry.1 ∷ without name (values_of entries)) (without name (values_of entries))
      split true is later =
          let others = IsDistinct-head bytes_eq entry.1.name (names (values_of entries)) distinct in
          let absent = subst (λ (n : List ℕ). NobodyIs n (values_of entries)) (sym (same_bytes name entry.1.name is)) others in
          sym (without-absent name (values_of entries) (has_name-nobody name (values_of entries) absent))
      split false is later = ap (λ (rest : List Joined). entry.1 ∷ rest) later

  pub keyed-removed : (name : List ℕ) (entries : List (String Y × Joined)) → AreKeyed entries → AreKeyed (remove_entry (has_text name) entries)
  keyed-removed name [] keyed = tt
  keyed-removed name (entry ∷ entries) keyed = split (has_text name entry.0) (keyed-removed name entries keyed.1)
    where
      split : (b : Bool) → AreKeyed (remove_entry (has_text name) entries) → AreKeyed (cond b entries (entry ∷ remove_entry (has_text name) entries))
      split true later = keyed.1
      split false later = (keyed.0, later)

  -- a new name goes last
  pub put_last : (entries : List (String Y × Joined)) (key : String Y) (who : Joined) → AreKeyed entries → string_bytes key ≡ who.name → has_name (values_of entries) who.name ≡ false
      → insert_entry string_eq entries key who ≡ entries ++ (key, who) ∷ []
  put_last entries key who keyed is fresh =
      let unseen : is_some (lookup (has_text (string_bytes key)) entries) ≡ false = found_named (string_bytes key) entries keyed ∙ ap (has_name (values_of entries)) is ∙ fresh in
      insert_entry-absent string_eq key who entries (absent_from_lookup (string_eq key) entries (none_of (lookup (has_text (string_bytes key)) entries) unseen))

  pub keyed-push : (entries : List (String Y × Joined)) (key : String Y) (who : Joined) → AreKeyed entries → string_bytes key ≡ who.name → AreKeyed (entries ++ (key, who) ∷ [])
  keyed-push [] key who keyed is = (is, tt)
  keyed-push (entry ∷ entries) key who keyed is = (keyed.0, keyed-push entries key who keyed.1 is)
