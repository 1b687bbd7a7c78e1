-- Which numbers are times, which bytes are texts and names, and why others aren't.
use Rattle.std.specs.Prelude.{ℕ, ◌^◌, Bool, ◌&&◌, ◌||◌, ◌==◌, List, length, position, nat_lt, nat_le, Option, Some, is_none, option_and_then, if◌then◌else◌}
use Rattle.std.specs.Str.{is_utf8}
use Rattle.sk_base.specs.declared.fault.NameFault.{NameFault}
use Rattle.sk_base.specs.declared.fault.NameFault.TheVariants.{Empty, TooLong, Control}

-- at most 2^62 nanoseconds
unfoldable pub is_time : ℕ → Bool
is_time ns = nat_le ns (2 ^ 62)

-- at most 4,096 bytes
unfoldable pub is_payload : List ℕ → Bool
is_payload bytes = nat_le (length bytes) 4096

-- U+0000 to U+001F and U+007F, each of which is one byte of UTF-8
abbrev pub is_control : ℕ → Bool
is_control byte = nat_lt byte 32 || byte == 127

-- at most 64 bytes of UTF-8 without control characters
unfoldable pub is_text : List ℕ → Bool
is_text bytes = is_utf8 bytes && (nat_le (length bytes) 64 && is_none (position is_control bytes))

-- a text that isn't empty
unfoldable pub is_name : List ℕ → Bool
is_name bytes = nat_lt 0 (length bytes) && is_text bytes

-- why UTF-8 is no text: its length, then the place of the first control character
unfoldable pub text_fault : List ℕ → Option NameFault
text_fault bytes =
    if nat_lt 64 (length bytes) then Some (TooLong (length bytes))
    else option_and_then (λ at. Some (Control at)) (position is_control bytes)

-- why UTF-8 is no name: that it is empty comes first
unfoldable pub name_fault : List ℕ → Option NameFault
name_fault bytes = if length bytes == 0 then Some Empty else text_fault bytes
