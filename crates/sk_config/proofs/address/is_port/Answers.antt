use Rattle.std.proofs.Common.{◌≡◌, true, Err, sym, rules}
use Rattle.std.specs.List.{list_all}
use Rattle.std.specs.Char.{is_ascii_digit}
use Rattle.std.specs.Str.Parse.{digits_value}
use Rattle.std.proofs.lemmas.Str.Parse.{IsNumeralModel, numerals_by_value, parse_digits}
use Rattle.sk_config.proofs.AddressLaws.{too_large}
use Rattle.sk_config.proofs.address.is_port.Goals as goal

-- a list of digits is a numeral, and the number that it writes its value
own : IsNumeralModel (λ ds. list_all is_ascii_digit ds ≡ true) (digits_value 10)
own = numerals_by_value _ (search rules)

pub returns-in-Err : goal.returns-in-Err
returns-in-Err c =
    let text = c.args.port.now in
    let digits : list_all is_ascii_digit text ≡ true = sym c.if-not-is_digits.ensures in
    let parsed = parse_digits own 16 text (Err c.in-Err.field-0) c.in-Err.ensures.value.0 digits in
    sym (too_large text parsed)
