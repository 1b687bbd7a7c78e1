-- What stands at a key of an object: its value, or what is wrong with it.
use Rattle.std.specs.Prelude.{ℕ, ◌+◌, Bool, List, [], ◌∷◌, ◌++◌, length, nat_le, Option, Some, None, is_some, Result, Ok, Err, ⊤}
use Rattle.serde_json.specs.Data.{Data, Items, no_items, item}
use Rattle.serde_json.specs.Find.{get, as_str, as_bool}
use Rattle.hex.specs.Hex.{decode_of}
use Rattle.hex.specs.declared.error.FromHexError.{FromHexError}
use Rattle.sk_base.specs.Ranges.{is_payload}
use Rattle.sk_config.specs.Paths.{key_at, index_at}
use Rattle.sk_config.specs.Json.{unknown_keys, object_fault, text_fault, text_at, number_fault, number_at, list_fault, list_at}
use Rattle.sk_rules.specs.Faults.{scenario_faults}
use Rattle.sk_rules.specs.Outcome.{◌>>=◌, ◌>>◌, checked, fine, must, found}
use Rattle.sk_rules.specs.declared.fault.Rule.TheVariants as rules
use Rattle.sk_rules.specs.declared.fault.ScenarioFault.{ScenarioFault}
use Rattle.sk_rules.specs.declared.fault.ScenarioFault.TheVariants.{Refused}

-- ---- objects

-- the object has the key
unfoldable pub has : List ℕ → Data → Bool
has key d = is_some (get key d)

-- the first of these paths, at which an unknown key stands
abbrev pub none_unknown : List (List ℕ) → Result ⊤ ScenarioFault
none_unknown [] = Ok tt
none_unknown (path ∷ paths) = Err (Refused path rules.UnknownKey)

-- an object, each of whose keys passes the test
unfoldable pub object_read : (List ℕ → Bool) → List ℕ → Data → Result ⊤ ScenarioFault
object_read is_known path d = do
  fine (object_fault scenario_faults path d)
  none_unknown (unknown_keys is_known path d)

-- ---- a key that has to be there, or has a default

abbrev pub needed : {A : Type 0} → List ℕ → List ℕ → Option A → Result A ScenarioFault
needed path key o = found (key_at path key) rules.Missing o

-- what is read of the value at a key, where there is one
abbrev pub where_given : {A : Type 0} → (Data → Result A ScenarioFault) → Option Data → Result (Option A) ScenarioFault
where_given read None = Ok None
where_given read (Some d) = do
  value ← read d
  Ok (Some value)

-- ---- values at a key that may be there

-- a text that passes this test
unfoldable pub text_read : (List ℕ → Bool) → List ℕ → List ℕ → Data → Result (Option (List ℕ)) ScenarioFault
text_read is_fine path key d = checked (text_fault scenario_faults is_fine path key d) (text_at key d)

-- such a text, which has to be there
unfoldable pub needed_text : (List ℕ → Bool) → List ℕ → List ℕ → Data → Result (List ℕ) ScenarioFault
needed_text is_fine path key d = do
  text ← text_read is_fine path key d
  needed path key text

-- a whole number in this range
unfoldable pub number_read : ℕ → ℕ → List ℕ → List ℕ → Data → Result (Option ℕ) ScenarioFault
number_read low high path key d = checked (number_fault scenario_faults low high path key d) (number_at key d)

-- such a number, which has to be there
unfoldable pub needed_number : ℕ → ℕ → List ℕ → List ℕ → Data → Result ℕ ScenarioFault
needed_number low high path key d = do
  number ← number_read low high path key d
  needed path key number

-- a list of so many items
unfoldable pub list_read : ℕ → ℕ → List ℕ → List ℕ → Data → Result (Option Items) ScenarioFault
list_read least most path key d = checked (list_fault scenario_faults least most path key d) (list_at key d)

-- true or false
abbrev pub bool_value : List ℕ → Data → Result Bool ScenarioFault
bool_value path d = found path rules.WrongType (as_bool d)

unfoldable pub bool_read : List ℕ → List ℕ → Data → Result (Option Bool) ScenarioFault
bool_read path key d = where_given (bool_value (key_at path key)) (get key d)

-- a word with a meaning
abbrev pub word_value : {A : Type 0} → (List ℕ → Option A) → List ℕ → Data → Result A ScenarioFault
word_value meaning path d = do
  word ← found path rules.WrongType (as_str d)
  found path rules.OutOfRange (meaning word)

unfoldable pub word_read : {A : Type 0} → (List ℕ → Option A) → List ℕ → List ℕ → Data → Result (Option A) ScenarioFault
word_read meaning path key d = where_given (word_value meaning (key_at path key)) (get key d)

-- such a word, which has to be there
unfoldable pub needed_word : {A : Type 0} → (List ℕ → Option A) → List ℕ → List ℕ → Data → Result A ScenarioFault
needed_word meaning path key d = do
  word ← word_read meaning path key d
  needed path key word

-- the bytes of hexadecimal digits
abbrev pub bytes_of : List ℕ → Result (List ℕ) FromHexError → Result (List ℕ) ScenarioFault
bytes_of path (Ok bytes) = Ok bytes
bytes_of path (Err fault) = Err (Refused path rules.BadHex)

-- those of this text: at most so many, and no more than a message carries
abbrev pub bytes_in : ℕ → List ℕ → List ℕ → Result (List ℕ) ScenarioFault
bytes_in most path text = do
  bytes ← bytes_of path (decode_of text)
  must path rules.OutOfRange (nat_le (length bytes) most)
  must path rules.OutOfRange (is_payload bytes)
  Ok bytes

-- bytes, at most so many, as hexadecimal digits
abbrev pub bytes_value : ℕ → List ℕ → Data → Result (List ℕ) ScenarioFault
bytes_value most path d = do
  text ← found path rules.WrongType (as_str d)
  bytes_in most path text

unfoldable pub bytes_read : ℕ → List ℕ → List ℕ → Data → Result (Option (List ℕ)) ScenarioFault
bytes_read most path key d = where_given (bytes_value most (key_at path key)) (get key d)

-- ---- the items of a list

-- these and then what the items say, the first of which has this index; each is read behind those before it
abbrev pub items_read : {A : Type 0} → (List ℕ → List A → Data → Result A ScenarioFault) → List ℕ → List A → ℕ → Items → Result (List A) ScenarioFault
items_read read path earlier index no_items = Ok earlier
items_read read path earlier index (item d ds) = do
  value ← read (index_at path index) earlier d
  items_read read path (earlier ++ value ∷ []) (index + 1) ds
