use Rattle.std.proofs.Common.{◌≡◌, ◌<◌, ◌≤◌, ◌^◌, ℕ, true, false, ◌&&◌, Bool, List, length, Ok, Err, refl, sym, rules, arith, ltb, leb}
use Rattle.std.specs.List.{list_all}
use Rattle.std.specs.Char.{is_ascii_digit}
use Rattle.std.specs.Str.Parse.{digits_value}
use Rattle.std.proofs.lemmas.Bool.{lt-ltb, le-leb, ltb-true, leb-true}
use Rattle.std.proofs.lemmas.Str.Parse.{IsNumeralModel, numerals_by_value, parse_digits}
use Rattle.std.specs.declared.num.ParseIntError.{ParseIntError}
use Rattle.sk_tools.specs.Words.{is_number}
use Rattle.sk_tools.proofs.words.number_between.Goals as goal

-- a list of digits is a numeral, and the number that it writes its value
own : IsNumeralModel (λ ds. list_all is_ascii_digit ds ≡ true) (digits_value 10)
own = numerals_by_value _ (search rules)

all_true : (low high : ℕ) (text : List ℕ) → 0 < length text → list_all is_ascii_digit text ≡ true → low ≤ digits_value 10 text → digits_value 10 text ≤ high → is_number low high text ≡ true
all_true low high text some digits least most = rw (lt-ltb 0 (length text) some, digits, le-leb low (digits_value 10 text) least, le-leb (digits_value 10 text) high most) refl

-- what doesn't parse is no number in range
too_large : (low high : ℕ) (text : List ℕ) → high < 2 ^ 64 → ((0 < length text) × (digits_value 10 text < 2 ^ 64) → ⊥) → is_number low high text ≡ false
too_large low high text fits none = by_case (ltb 0 (length text)) (leb (digits_value 10 text) high) refl refl
  where
    by_case : (a b : Bool) → ltb 0 (length text) ≡ a → leb (digits_value 10 text) high ≡ b → (a && list_all is_ascii_digit text && leb low (digits_value 10 text) && b) ≡ false
    by_case false b e f = refl
    by_case true false e f = last (list_all is_ascii_digit text && leb low (digits_value 10 text))
      where
        last : (x : Bool) → (x && false) ≡ false
        last true = refl
        last false = refl
    by_case true true e f = absurd (none (ltb-true 0 (length text) e, (let most = leb-true (digits_value 10 text) high f in omega (arith, most, fits))))

pub returns-then-number-high-clause-reads : goal.returns-then-number-high-clause-reads
returns-then-number-high-clause-reads c =
    let text = c.args.text.now in
    let digits : list_all is_ascii_digit text ≡ true = sym c.if-not-is_digits.ensures in
    let parsed = parse_digits own {E = ParseIntError} 64 text (Ok c.in-Ok.number) c.in-Ok.ensures.value.0 digits in
    (all_true c.args.low c.args.high text parsed.0.0 digits (omega (arith, parsed.1)) (omega (arith, parsed.1)), parsed.1)

pub returns-in-Err-clause-reads : goal.returns-in-Err-clause-reads
returns-in-Err-clause-reads c =
    let text = c.args.text.now in
    let digits : list_all is_ascii_digit text ≡ true = sym c.if-not-is_digits.ensures in
    let parsed = parse_digits own 64 text (Err c.in-Err.field-0) c.in-Err.ensures.value.0 digits in
    too_large c.args.low c.args.high text (omega arith) parsed
