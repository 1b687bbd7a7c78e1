-- What readers of JSON find at a key and what is wrong there, over any type of fault.
use Rattle.std.specs.Prelude.{◌≡◌, ◌⊎◌, ℕ, Bool, ◌&&◌, List, [], ◌∷◌, nat_le, Option, Some, None, is_none, option_map, option_and_then, unwrap_or, if◌then◌else◌}
use Rattle.std.specs.Str.{is_utf8}
use Rattle.serde_json.specs.Data.{Data, Items, no_items, Members, no_members, member}
use Rattle.serde_json.specs.Events.{items_len}
use Rattle.serde_json.specs.Find.{get, as_object, as_array, as_str, as_number, as_u64}
use Rattle.serde_json.specs.Read.{read}
use Rattle.sk_config.specs.Paths.{key_at}

-- how a reader says that bytes are no JSON, and what is wrong at a path: no such key, a value of another type, a text that
-- isn't of its kind, a number or a count out of its range; and that memory ran out
pub record Faults (F : Type 0) : Type 0 where
  pub not_json : F
  pub missing : List ℕ → F
  pub wrong_type : List ℕ → F
  pub bad_text : List ℕ → F
  pub out_of_range : List ℕ → F
  pub no_memory : F

-- ---- what is found

-- the JSON value of bytes, where `serde_json` has one
unfoldable pub json_of : List ℕ → Option Data
json_of bytes = if is_utf8 bytes then read bytes else None

-- the text at a key
abbrev pub text_at : List ℕ → Data → Option (List ℕ)
text_at key d = option_and_then as_str (get key d)

-- the whole number of a value
abbrev pub whole : Data → Option ℕ
whole d = option_and_then as_u64 (as_number d)

-- the whole number at a key
abbrev pub number_at : List ℕ → Data → Option ℕ
number_at key d = option_and_then whole (get key d)

-- the list at a key
abbrev pub list_at : List ℕ → Data → Option Items
list_at key d = option_and_then as_array (get key d)

-- its items, or none
unfoldable pub items_at : List ℕ → Data → Items
items_at key d = unwrap_or (list_at key d) no_items

-- the paths of the members with keys that the test doesn't pass; members stand in the byte order of their keys
abbrev pub unknown_in : (List ℕ → Bool) → List ℕ → Members → List (List ℕ)
unknown_in is_known path no_members = []
unknown_in is_known path (member key d ms) =
    if is_known key then unknown_in is_known path ms
    else key_at path key ∷ unknown_in is_known path ms

-- those of an object
unfoldable pub unknown_keys : (List ℕ → Bool) → List ℕ → Data → List (List ℕ)
unknown_keys is_known path d = unwrap_or (option_map (unknown_in is_known path) (as_object d)) []

-- ---- what is wrong

-- the first of several, each of which may be none
abbrev pub first_of : {F : Type 0} → List (Option F) → Option F
first_of [] = None
first_of (Some fault ∷ later) = Some fault
first_of (None ∷ later) = first_of later

-- a value that has to be an object
unfoldable pub object_fault : {F : Type 0} → Faults F → List ℕ → Data → Option F
object_fault faults path d = if is_none (as_object d) then Some (faults.wrong_type path) else None

-- a value that has to be a text that passes this test
abbrev pub string_fault : {F : Type 0} → Faults F → (List ℕ → Bool) → List ℕ → Option (List ℕ) → Option F
string_fault faults is_fine path None = Some (faults.wrong_type path)
string_fault faults is_fine path (Some text) = if is_fine text then None else Some (faults.bad_text path)

-- such a text at a key that may be there
unfoldable pub text_fault : {F : Type 0} → Faults F → (List ℕ → Bool) → List ℕ → List ℕ → Data → Option F
text_fault faults is_fine path key d =
    option_and_then (λ v. string_fault faults is_fine (key_at path key) (as_str v)) (get key d)

-- a key that has to be there
unfoldable pub missing_fault : {F : Type 0} → Faults F → List ℕ → List ℕ → Data → Option F
missing_fault faults path key d = if is_none (get key d) then Some (faults.missing (key_at path key)) else None

-- a value that has to be a whole number from low to high
abbrev pub whole_fault : {F : Type 0} → Faults F → ℕ → ℕ → List ℕ → Option ℕ → Option F
whole_fault faults low high path None = Some (faults.wrong_type path)
whole_fault faults low high path (Some n) = if nat_le low n && nat_le n high then None else Some (faults.out_of_range path)

-- such a number at a key that may be there
unfoldable pub number_fault : {F : Type 0} → Faults F → ℕ → ℕ → List ℕ → List ℕ → Data → Option F
number_fault faults low high path key d =
    option_and_then (λ v. whole_fault faults low high (key_at path key) (whole v)) (get key d)

-- a value that has to be a list of least to most items
abbrev pub count_fault : {F : Type 0} → Faults F → ℕ → ℕ → List ℕ → Option Items → Option F
count_fault faults least most path None = Some (faults.wrong_type path)
count_fault faults least most path (Some ds) =
    if nat_le least (items_len ds) && nat_le (items_len ds) most then None else Some (faults.out_of_range path)

-- such a list at a key that may be there
unfoldable pub list_fault : {F : Type 0} → Faults F → ℕ → ℕ → List ℕ → List ℕ → Data → Option F
list_fault faults least most path key d =
    option_and_then (λ v. count_fault faults least most (key_at path key) (as_array v)) (get key d)

-- ---- what a reader answers of a part

-- nothing is wrong with it, and this is what it says
abbrev pub IsRead : {F A : Type 0} → Option F → A → A → Type 0
IsRead fault meant value = (fault ≡ None) × (value ≡ meant)

-- memory ran out, or this is its first fault
abbrev pub Refuses : {F : Type 0} → Faults F → Option F → F → Type 0
Refuses faults fault answered = (answered ≡ faults.no_memory) ⊎ (fault ≡ Some answered)
