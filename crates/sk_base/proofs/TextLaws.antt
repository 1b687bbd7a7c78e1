-- What the checks of a text say together.
use Rattle.std.proofs.Common.{◌≡◌, ℕ, ◌≤◌, ◌<◌, true, false, List, length, Option, Some, None, refl, arith}
use Rattle.std.specs.Prelude.{position, is_none}
use Rattle.std.specs.Str.{IsUtf8}
use Rattle.std.proofs.lemmas.Str.{is_utf8-from_IsUtf8, IsUtf8-from_is_utf8}
use Rattle.std.proofs.lemmas.Bool.{le-ltb, lt-ltb, le-leb, leb-true, ltb-true, and_parts, ne_eqb, false_from_ne_true, and_left, and_right}
use Rattle.sk_base.specs.Ranges.{is_control, is_text, is_name, text_fault, name_fault}
use Rattle.sk_base.specs.declared.fault.NameFault.{NameFault}
use Rattle.sk_base.specs.declared.fault.NameFault.TheVariants.{TooLong, Control}

pub is_text_from : (bytes : List ℕ) → IsUtf8 bytes → length bytes ≤ 64 → position is_control bytes ≡ None → is_text bytes ≡ true
unfolding is_text
is_text_from bytes utf8 short none = rw (is_utf8-from_IsUtf8 bytes utf8, le-leb (length bytes) 64 short, none) refl

pub text_fault-none : (bytes : List ℕ) → length bytes ≤ 64 → position is_control bytes ≡ None → text_fault bytes ≡ None
unfolding text_fault
text_fault-none bytes short none = rw (le-ltb 64 (length bytes) short, none) refl

pub text_fault-control : (bytes : List ℕ) (at : ℕ) → length bytes ≤ 64 → position is_control bytes ≡ Some at → text_fault bytes ≡ Some (Control at)
unfolding text_fault
text_fault-control bytes at short some = rw (le-ltb 64 (length bytes) short, some) refl

pub text_fault-long : (bytes : List ℕ) → 64 < length bytes → text_fault bytes ≡ Some (TooLong (length bytes))
unfolding text_fault
text_fault-long bytes long = rw (lt-ltb 64 (length bytes) long) refl

-- what callers read off
pub is_text-short : (bytes : List ℕ) → is_text bytes ≡ true → length bytes ≤ 64
unfolding is_text
is_text-short bytes h = leb-true (length bytes) 64 (and_parts _ _ (and_parts _ _ h).1).0

pub is_name-short : (bytes : List ℕ) → is_name bytes ≡ true → (0 < length bytes) × (length bytes ≤ 64)
unfolding is_name
is_name-short bytes h = (ltb-true 0 (length bytes) (and_parts _ _ h).0, is_text-short bytes (and_parts _ _ h).1)

pub is_name_from : (bytes : List ℕ) → 0 < length bytes → is_text bytes ≡ true → is_name bytes ≡ true
unfolding is_name
is_name_from bytes some text = rw (lt-ltb 0 (length bytes) some, text) refl

is_none_is : (o : Option ℕ) → is_none o ≡ true → o ≡ None
is_none_is None h = refl
is_none_is (Some x) h = absurd cc

-- a text has no fault
is_text-no_fault : (bytes : List ℕ) → is_text bytes ≡ true → text_fault bytes ≡ None
unfolding is_text
is_text-no_fault bytes h =
    let both = and_parts _ _ (and_parts _ _ h).1 in
    text_fault-none bytes (leb-true (length bytes) 64 both.0) (is_none_is (position is_control bytes) both.1)

-- bytes that are no text: they have a fault, or are no UTF-8
pub no_text : (bytes : List ℕ) (fault : NameFault) → text_fault bytes ≡ Some fault → is_text bytes ≡ false
no_text bytes fault h = false_from_ne_true (is_text bytes) (λ t. let n = is_text-no_fault bytes t in absurd cc)

pub no_text-utf8 : (bytes : List ℕ) → ¬ (IsUtf8 bytes) → is_text bytes ≡ false
unfolding is_text
no_text-utf8 bytes h = false_from_ne_true (is_text bytes) (λ t. h (IsUtf8-from_is_utf8 bytes (and_parts _ _ t).0))

pub no_name : (bytes : List ℕ) → is_text bytes ≡ false → is_name bytes ≡ false
unfolding is_name
no_name bytes h = and_right _ _ h

pub no_name-empty : (bytes : List ℕ) → length bytes ≡ 0 → is_name bytes ≡ false
unfolding is_name
no_name-empty bytes h = and_left _ _ (le-ltb 0 (length bytes) (omega arith))

-- a text that isn't empty has the name's faults, and those are the text's
pub name_fault-text : (bytes : List ℕ) → 0 < length bytes → name_fault bytes ≡ text_fault bytes
unfolding name_fault
name_fault-text bytes some = rw (ne_eqb (length bytes) 0 (omega arith)) refl

pub ruleset from_bytes = (no_text, no_text-utf8)

pub ruleset short = (is_text-short, is_name-short)
