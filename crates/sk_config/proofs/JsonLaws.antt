-- How the parts of a reading of JSON make the whole, over any type of fault.
use Rattle.std.proofs.Common.{◌≡◌, ℕ, Bool, true, false, cond, List, [], ◌∷◌, ◌++◌, Option, Some, None, option_map, option_and_then, is_none, refl}
use Rattle.std.specs.Str.{IsUtf8, is_utf8}
use Rattle.std.proofs.lemmas.Str.{is_utf8-from_IsUtf8, IsUtf8-from_is_utf8}
use Rattle.serde_json.specs.Data.{Data, Members, member}
use Rattle.serde_json.specs.Find.{get, as_str}
use Rattle.serde_json.specs.Read.{read}
use Rattle.serde_json.proofs.Views.{items_len-items_view}
use Rattle.sk_config.specs.Paths.{key_at}
use Rattle.sk_config.specs.Configs.{is_none_or}
use Rattle.sk_config.specs.Json.{Faults, json_of, unknown_in, string_fault, text_fault, text_at}

pub json_of-text : (bytes : List ℕ) (d : Option Data) → IsUtf8 bytes → read bytes ≡ d → json_of bytes ≡ d
unfolding json_of
json_of-text bytes d utf8 e = rw (is_utf8-from_IsUtf8 bytes utf8) e

pub json_of-none : (bytes : List ℕ) → (IsUtf8 bytes → read bytes ≡ None) → json_of bytes ≡ None
unfolding json_of
json_of-none bytes h = by_test (is_utf8 bytes) refl
  where
    by_test : (b : Bool) → is_utf8 bytes ≡ b → cond b (read bytes) None ≡ None
    by_test true e = h (IsUtf8-from_is_utf8 bytes e)
    by_test false e = refl

pub ruleset json = (json_of-text, json_of-none)

-- one key of an object: it is known, or noted
pub key_passed : (is_known : List ℕ → Bool) (path key : List ℕ) (d : Data) (ms : Members) (noted whole : List (List ℕ)) → is_known key ≡ true
    → noted ++ unknown_in is_known path (member key d ms) ≡ whole → noted ++ unknown_in is_known path ms ≡ whole
key_passed is_known path key d ms noted whole known e = rw known at e

-- ---- a text at a key

-- where nothing is wrong with a text that isn't there, its key isn't there
absent : {F : Type 0} (faults : Faults F) (is_fine : List ℕ → Bool) (path : List ℕ) (v : Option Data)
    → option_and_then (λ d. string_fault faults is_fine path (as_str d)) v ≡ None → option_and_then as_str v ≡ None → is_none v ≡ true
absent faults is_fine path None none e = refl
absent faults is_fine path (Some d) none e = let wrong = rw e at none in absurd cc

present : (v : Option Data) (text : List ℕ) → option_and_then as_str v ≡ Some text → is_none v ≡ false
present None text e = absurd cc
present (Some d) text e = refl

pub absent_text : {F : Type 0} (faults : Faults F) (is_fine : List ℕ → Bool) (path key : List ℕ) (d : Data)
    → text_fault faults is_fine path key d ≡ None → text_at key d ≡ None → is_none (get key d) ≡ true
unfolding text_fault
absent_text faults is_fine path key d none e = absent faults is_fine (key_at path key) (get key d) none e

pub present_text : (key : List ℕ) (d : Data) (text : List ℕ) → text_at key d ≡ Some text → is_none (get key d) ≡ false
present_text key d text e = present (get key d) text e

-- nothing is wrong with a text that passes its test, or that isn't there
fine_string : {F : Type 0} (faults : Faults F) (is_fine : List ℕ → Bool) (path : List ℕ) (o : Option (List ℕ))
    → string_fault faults is_fine path o ≡ None → is_none_or is_fine o ≡ true
fine_string faults is_fine path None none = refl
fine_string faults is_fine path (Some text) none = by_test (is_fine text) none
  where
    by_test : (b : Bool) → cond b None (Some (faults.bad_text path)) ≡ None → b ≡ true
    by_test true e = refl
    by_test false e = absurd cc

fine_value : {F : Type 0} (faults : Faults F) (is_fine : List ℕ → Bool) (path : List ℕ) (v : Option Data)
    → option_and_then (λ d. string_fault faults is_fine path (as_str d)) v ≡ None → is_none_or is_fine (option_and_then as_str v) ≡ true
fine_value faults is_fine path None none = refl
fine_value faults is_fine path (Some d) none = fine_string faults is_fine path (as_str d) none

pub fine_text : {F : Type 0} (faults : Faults F) (is_fine : List ℕ → Bool) (path key : List ℕ) (d : Data)
    → text_fault faults is_fine path key d ≡ None → is_none_or is_fine (text_at key d) ≡ true
unfolding text_fault
fine_text faults is_fine path key d none = fine_value faults is_fine (key_at path key) (get key d) none

-- an option of values that are their own texts
pub same_option : {A : Type 0} (o : Option A) → option_map (λ x. x) o ≡ o
same_option None = refl
same_option (Some x) = refl

pub ruleset counts = items_len-items_view
