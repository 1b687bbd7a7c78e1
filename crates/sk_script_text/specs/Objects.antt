-- Objects as they are written: each key that has a value, in byte order.
use Rattle.std.specs.Prelude.{ℕ, zero, suc, Bool, true, false, List, [], ◌∷◌, Option, Some, None}
use Rattle.hex.specs.Hex.{encode_lower}
use Rattle.serde_json.specs.Data.{Data, unsigned, boolean, number, string, array, object, Items, no_items, item, Members, no_members, put}

-- a key, and its value if it has one
pub record Field : Type 0 where
  pub key : List ℕ
  pub value : Option Data

-- the members, with what is present at this key
unfoldable pub put_some : List ℕ → Option Data → Members → Members
put_some key None ms = ms
put_some key (Some d) ms = put key d ms

-- the members, with each of these
abbrev pub put_all : List Field → Members → Members
put_all [] ms = ms
put_all (field ∷ fields) ms = put_all fields (put_some field.key field.value ms)

-- an object of these
unfoldable pub with_fields : List Field → Data
with_fields fields = object (put_all fields no_members)

-- ---- values

abbrev pub text : List ℕ → Option Data
text bytes = Some (string bytes)

-- a text, unless it is empty
abbrev pub some_text : List ℕ → Option Data
some_text [] = None
some_text (byte ∷ bytes) = Some (string (byte ∷ bytes))

abbrev pub whole : ℕ → Option Data
whole n = Some (number (unsigned n))

-- a number other than 0
abbrev pub some_whole : ℕ → Option Data
some_whole zero = None
some_whole (suc n) = Some (number (unsigned (suc n)))

-- true, or nothing
abbrev pub flag : Bool → Option Data
flag true = Some (boolean true)
flag false = None

-- bytes as hexadecimal digits, unless there are none
abbrev pub hex : List ℕ → Option Data
hex [] = None
hex (byte ∷ bytes) = Some (string (encode_lower (byte ∷ bytes)))

-- a list, unless it is empty
abbrev pub list : Items → Option Data
list no_items = None
list (item d ds) = Some (array (item d ds))

-- what is written of each
abbrev pub items : {A : Type 0} → (A → Data) → List A → Items
items write [] = no_items
items write (x ∷ xs) = item (write x) (items write xs)
