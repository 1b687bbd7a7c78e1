-- What is written at a key reads as it.
use Rattle.std.proofs.Common.{◌≡◌, ℕ, zero, suc, Bool, true, false, List, [], ◌∷◌, length, Option, Some, None, Ok, refl, arith}
use Rattle.std.specs.Prelude.{nat_le, unwrap_or}
use Rattle.std.specs.List.{list_all}
use Rattle.std.proofs.lemmas.Bool.{and_from, and_parts, le-leb, lt-ltb, ltb-true}
use Rattle.hex.specs.Hex.{IsBytes, decode_of, encode_lower}
use Rattle.hex.proofs.HexLemmas.{decode_of-encode_lower}
use Rattle.serde_json.specs.Data.{Data, unsigned, number, string, array, Items, no_items, item}
use Rattle.serde_json.specs.Events.{items_len}
use Rattle.serde_json.specs.Find.{get}
use Rattle.sk_base.specs.Ranges.{is_payload}
use Rattle.sk_config.specs.Json.{text_fault, number_fault, list_fault}
use Rattle.sk_rules.specs.Fields.{text_read, needed_text, number_read, needed_number, list_read, bool_read, word_read, needed_word, bytes_read}
use Rattle.sk_script_text.specs.Fitting.{is_byte, are_bytes}
use Rattle.sk_script_text.specs.Objects.{some_whole, flag, hex, list}

-- ---- bytes

bytes_are : (bytes : List ℕ) → list_all is_byte bytes ≡ true → IsBytes bytes
bytes_are [] h i = omega arith
bytes_are (byte ∷ bytes) h zero = ltb-true byte 256 (and_parts _ _ h).0
bytes_are (byte ∷ bytes) h (suc i) = bytes_are bytes (and_parts _ _ h).1 i

decoded : (bytes : List ℕ) → are_bytes bytes ≡ true → decode_of (encode_lower bytes) ≡ Ok bytes
unfolding are_bytes
decoded bytes h = decode_of-encode_lower bytes (bytes_are bytes h)

-- items of a byte's type are bytes
pub bytes_fine : (bytes : List ℕ) → IsBytes bytes → are_bytes bytes ≡ true
unfolding are_bytes
bytes_fine [] h = refl
bytes_fine (byte ∷ bytes) h = and_from _ _ (lt-ltb byte 256 (h zero)) (bytes_fine bytes (λ i. h (suc i)))

-- the bytes, unless there are none
abbrev pub some_bytes : List ℕ → Option (List ℕ)
some_bytes [] = None
some_bytes (byte ∷ bytes) = Some (byte ∷ bytes)

pub bytes_or : (bytes : List ℕ) → unwrap_or (some_bytes bytes) [] ≡ bytes
bytes_or [] = refl
bytes_or (byte ∷ bytes) = refl

abbrev pub some_flag : Bool → Option Bool
some_flag true = Some true
some_flag false = None

pub flag_or : (b : Bool) → unwrap_or (some_flag b) false ≡ b
flag_or true = refl
flag_or false = refl

abbrev pub some_number : ℕ → Option ℕ
some_number zero = None
some_number (suc n) = Some (suc n)

pub number_or : (n : ℕ) → unwrap_or (some_number n) 0 ≡ n
number_or zero = refl
number_or (suc n) = refl

abbrev pub some_list : Items → Option Items
some_list no_items = None
some_list (item d ds) = Some (item d ds)

pub list_or : (ds : Items) → unwrap_or (some_list ds) no_items ≡ ds
list_or no_items = refl
list_or (item d ds) = refl

-- ---- at a key of this value

module _ (path key : List ℕ) (d : Data) where
  pub text_back : (is_fine : List ℕ → Bool) (t : List ℕ) → get key d ≡ Some (string t) → is_fine t ≡ true → text_read is_fine path key d ≡ Ok (Some t)
  unfolding text_read text_fault
  text_back is_fine t there fine = rw (there, fine) refl

  pub no_text_back : (is_fine : List ℕ → Bool) → get key d ≡ None → text_read is_fine path key d ≡ Ok None
  unfolding text_read text_fault
  no_text_back is_fine there = rw there refl

  pub needed_text_back : (is_fine : List ℕ → Bool) (t : List ℕ) → get key d ≡ Some (string t) → is_fine t ≡ true → needed_text is_fine path key d ≡ Ok t
  unfolding needed_text
  needed_text_back is_fine t there fine = rw (text_back is_fine t there fine) refl

  pub number_back : (low high n : ℕ) → get key d ≡ Some (number (unsigned n)) → nat_le low n ≡ true → nat_le n high ≡ true → number_read low high path key d ≡ Ok (Some n)
  unfolding number_read number_fault
  number_back low high n there least most = rw (there, least, most) refl

  pub no_number_back : (low high : ℕ) → get key d ≡ None → number_read low high path key d ≡ Ok None
  unfolding number_read number_fault
  no_number_back low high there = rw there refl

  pub some_number_back : (high n : ℕ) → get key d ≡ some_whole n → nat_le n high ≡ true → number_read 0 high path key d ≡ Ok (some_number n)
  some_number_back high zero there most = no_number_back 0 high there
  some_number_back high (suc n) there most = number_back 0 high (suc n) there (le-leb 0 (suc n) (omega arith)) most

  pub needed_number_back : (low high n : ℕ) → get key d ≡ Some (number (unsigned n)) → nat_le low n ≡ true → nat_le n high ≡ true → needed_number low high path key d ≡ Ok n
  unfolding needed_number
  needed_number_back low high n there least most = rw (number_back low high n there least most) refl

  pub flag_back : (b : Bool) → get key d ≡ flag b → bool_read path key d ≡ Ok (some_flag b)
  unfolding bool_read
  flag_back true there = rw there refl
  flag_back false there = rw there refl

  pub word_back : {A : Type 0} (meaning : List ℕ → Option A) (word : List ℕ) (value : A) → get key d ≡ Some (string word) → meaning word ≡ Some value → word_read meaning path key d ≡ Ok (Some value)
  unfolding word_read
  word_back meaning word value there means = rw (there, means) refl

  pub no_word_back : {A : Type 0} (meaning : List ℕ → Option A) → get key d ≡ None → word_read meaning path key d ≡ Ok None
  unfolding word_read
  no_word_back meaning there = rw there refl

  pub needed_word_back : {A : Type 0} (meaning : List ℕ → Option A) (word : List ℕ) (value : A) → get key d ≡ Some (string word) → meaning word ≡ Some value → needed_word meaning path key d ≡ Ok value
  unfolding needed_word
  needed_word_back meaning word value there means = rw (word_back meaning word value there means) refl

  pub bytes_back : (most : ℕ) (bytes : List ℕ) → get key d ≡ hex bytes → are_bytes bytes ≡ true → nat_le (length bytes) most ≡ true → is_payload bytes ≡ true → bytes_read most path key d ≡ Ok (some_bytes bytes)
  unfolding bytes_read
  bytes_back most [] there are few fine = rw there refl
  bytes_back most (byte ∷ bytes) there are few fine = rw (there, decoded (byte ∷ bytes) are, few, fine) refl

  pub list_back : (least most : ℕ) (ds : Items) → get key d ≡ Some (array ds) → nat_le least (items_len ds) ≡ true → nat_le (items_len ds) most ≡ true → list_read least most path key d ≡ Ok (Some ds)
  unfolding list_read list_fault
  list_back least most ds there enough few = rw (there, enough, few) refl

  -- a list that is left out where it is empty
  pub some_list_back : (most : ℕ) (ds : Items) → get key d ≡ list ds → nat_le (items_len ds) most ≡ true → list_read 0 most path key d ≡ Ok (some_list ds)
  unfolding list_read list_fault
  some_list_back most no_items there few = rw there refl
  some_list_back most (item x xs) there few = list_back 0 most (item x xs) there (le-leb 0 (items_len (item x xs)) (omega arith)) few
