-- JSON Pointers: where in a file a value stands.
use Rattle.std.specs.Prelude.{ℕ, List, [], ◌∷◌, ◌++◌, ◌==◌, codes, decimal, encode_utf8, if◌then◌else◌}
use Rattle.std.specs.List.{flat_map}

-- `~` is written `~0`, and `/` is written `~1`
abbrev pub escape_byte : ℕ → List ℕ
escape_byte byte = if byte == 126 then codes "~0" else (if byte == 47 then codes "~1" else byte ∷ [])

-- a character; for private clauses
abbrev pub escape_char : ℕ → List ℕ
escape_char c = if c == 126 then codes "~0" else (if c == 47 then codes "~1" else encode_utf8 c)

unfoldable pub escape : List ℕ → List ℕ
escape key = flat_map escape_byte key

-- the member of this key
unfoldable pub key_at : List ℕ → List ℕ → List ℕ
key_at path key = path ++ 47 ∷ escape key

-- the item of this index
unfoldable pub index_at : List ℕ → ℕ → List ℕ
index_at path index = path ++ 47 ∷ decimal index
