-- A line feed behind a JSON text changes nothing of what it says: no part of the lexer reads more or less for it.
use Rattle.std.proofs.Common.{◌≡◌, ℕ, zero, suc, ◌+◌, ◌-◌, Bool, true, false, cond, ◌&&◌, ◌||◌, ◌==◌, nat_lt, List, [], ◌∷◌, ◌++◌, length, take, drop, Option, Some, None, option_map, option_and_then, refl, sym, subst, ap, ap₂, ◌∙◌, arith, length-append}
use Rattle.std.proofs.lemmas.Bool.{false≢true}
use Rattle.std.proofs.lemmas.List.{take_at, take-append-le, drop-append-le}
use Rattle.std.proofs.lemmas.Str.{IsUtf8-append, IsUtf8-take, IsUtf8-from_ascii, IsCharBoundary-at_seam, is_utf8-from_IsUtf8, IsUtf8-from_is_utf8}
use Rattle.std.specs.Str.{IsUtf8, IsAscii, is_utf8}
use Rattle.std.proofs.lemmas.List.Sums.{prefix_len-le-length}
use Rattle.std.specs.Prelude.{nat_eq}
use Rattle.std.specs.List.{prefix_len, starts_with}
use Rattle.std.specs.Char.{is_digit, is_ascii_digit, encode_utf8}
use Rattle.json.specs.Token.{Token, number, boolean, null, bad}
use Rattle.json.specs.Ascii.{true_text, false_text, null_text}
use Rattle.json.specs.Text.{code_unit, short_escape, is_high_surrogate, is_low_surrogate, surrogate_pair, Within, plain, after_backslash, after_u, after_high, prepend, content}
use Rattle.json.specs.Word.{is_operator, is_space, head, ends_word, after_digits, after_minus, after_sign, after_whole, after_fraction, after_exponent, after_number, number_before, literal, word}
use Rattle.json.specs.Lex.{token, Class, quote, backslash, operator, space, other, class, operator_lexeme, string_token, Mode, between, in_word, in_string, in_escape, lex_byte, lex, fresh, punctuate, tokens}
use Rattle.json.specs.Json.{value, if_last}
use Rattle.serde_json.specs.Data.{Data}
use Rattle.serde_json.specs.Read.{of_json, max_depth, read}
use Rattle.sk_config.specs.Json.{json_of}

-- the text and a line feed
abbrev with_newline : List ℕ → List ℕ
with_newline t = t ++ 10 ∷ []

-- the same behind what follows a part, where there is such a part
abbrev then_newline : Option (List ℕ) → Option (List ℕ)
then_newline o = option_map with_newline o

-- ---- words

-- a test that takes the end of the text and a line feed for the same
same_test : (p : ℕ → Bool) → p 10 ≡ p 32 → (t : List ℕ) → p (head (with_newline t)) ≡ p (head t)
same_test p e [] = e
same_test p e (x ∷ xs) = refl

-- a word ends where it ended
same_end : (n : ℕ) (t : List ℕ) → ends_word (drop n (with_newline t)) ≡ ends_word (drop n t)
same_end zero t = same_test (λ x. is_operator x || is_space x) refl t
same_end (suc zero) [] = refl
same_end (suc (suc n)) [] = refl
same_end (suc n) (x ∷ xs) = same_end n xs

digit_count : (t : List ℕ) → prefix_len is_ascii_digit (with_newline t) ≡ prefix_len is_ascii_digit t
digit_count [] = refl
digit_count (x ∷ xs) = ap (λ n. cond (is_ascii_digit x) (1 + n) 0) (digit_count xs)

digits : (t : List ℕ) → after_digits (with_newline t) ≡ then_newline (after_digits t)
digits t =
    let n = prefix_len is_ascii_digit t in
    ap (λ m. cond (m == 0) None (Some (drop m (with_newline t)))) (digit_count t)
    ∙ ap (λ r. cond (n == 0) None (Some r)) (drop-append-le n t (10 ∷ []) (prefix_len-le-length is_ascii_digit t))
    ∙ none_or (n == 0)
  where
    none_or : (b : Bool) → cond b None (Some (with_newline (drop (prefix_len is_ascii_digit t) t))) ≡ then_newline (cond b None (Some (drop (prefix_len is_ascii_digit t) t)))
    none_or true = refl
    none_or false = refl

minus : (t : List ℕ) → after_minus (with_newline t) ≡ with_newline (after_minus t)
minus [] = refl
minus (x ∷ xs) = either (x == 45)
  where
    either : (b : Bool) → cond b (with_newline xs) (x ∷ with_newline xs) ≡ with_newline (cond b xs (x ∷ xs))
    either true = refl
    either false = refl

sign : (t : List ℕ) → after_sign (with_newline t) ≡ with_newline (after_sign t)
sign [] = refl
sign (x ∷ xs) = either ((x == 45) || (x == 43))
  where
    either : (b : Bool) → cond b (with_newline xs) (x ∷ with_newline xs) ≡ with_newline (cond b xs (x ∷ xs))
    either true = refl
    either false = refl

whole : (t : List ℕ) → after_whole (with_newline t) ≡ then_newline (after_whole t)
whole [] = refl
whole (x ∷ xs) = either (x == 48)
  where
    either : (b : Bool) → cond b (Some (with_newline xs)) (after_digits (with_newline (x ∷ xs))) ≡ then_newline (cond b (Some xs) (after_digits (x ∷ xs)))
    either true = refl
    either false = digits (x ∷ xs)

fraction : (t : List ℕ) → after_fraction (with_newline t) ≡ then_newline (after_fraction t)
fraction [] = refl
fraction (x ∷ xs) = either (x == 46)
  where
    either : (b : Bool) → cond b (after_digits (with_newline xs)) (Some (x ∷ with_newline xs)) ≡ then_newline (cond b (after_digits xs) (Some (x ∷ xs)))
    either true = digits xs
    either false = refl

exponent : (t : List ℕ) → after_exponent (with_newline t) ≡ then_newline (after_exponent t)
exponent [] = refl
exponent (x ∷ xs) = either ((x == 101) || (x == 69))
  where
    either : (b : Bool) → cond b (after_digits (after_sign (with_newline xs))) (Some (x ∷ with_newline xs)) ≡ then_newline (cond b (after_digits (after_sign xs)) (Some (x ∷ xs)))
    either true = ap after_digits (sign xs) ∙ digits (after_sign xs)
    either false = refl

then : (f : List ℕ → Option (List ℕ)) → ((t : List ℕ) → f (with_newline t) ≡ then_newline (f t)) → (o p : Option (List ℕ)) → p ≡ then_newline o
    → option_and_then f p ≡ then_newline (option_and_then f o)
then f same None p e = ap (option_and_then f) e
then f same (Some t) p e = ap (option_and_then f) e ∙ same t

number_end : (t : List ℕ) → after_number (with_newline t) ≡ then_newline (after_number t)
unfolding after_number
number_end t = then after_exponent exponent _ _ (then after_fraction fraction _ _ (ap after_whole (minus t) ∙ whole (after_minus t)))

same_number : (t : List ℕ) (o : Option (List ℕ)) → number_before (with_newline t) (then_newline o) ≡ number_before t o
same_number t None = refl
same_number t (Some rest) =
    let n = length t - length rest in
    let size : length (with_newline t) - length (with_newline rest) ≡ n = omega (arith, length-append t (10 ∷ []), length-append rest (10 ∷ [])) in
    ap₂ (λ b s. cond b (number s) bad) (same_end 0 rest) (ap (λ m. take m (with_newline t)) size ∙ take-append-le n t (10 ∷ []) (omega arith))

-- none of the bytes is a line feed
abbrev is_one_line : List ℕ → Bool
is_one_line [] = true
is_one_line (x ∷ xs) = cond (nat_eq x 10) false (is_one_line xs)

same_start : (t name : List ℕ) → is_one_line name ≡ true → starts_with nat_eq (with_newline t) name ≡ starts_with nat_eq t name
same_start t [] h = refl
same_start [] (c ∷ cs) h = other_byte (nat_eq c 10) h
  where
    other_byte : (b : Bool) → cond b false (is_one_line cs) ≡ true → b && starts_with nat_eq [] cs ≡ false
    other_byte true h = absurd (false≢true h)
    other_byte false h = refl
same_start (x ∷ xs) (c ∷ cs) h = ap (λ b. nat_eq c x && b) (same_start xs cs (rest (nat_eq c 10) h))
  where
    rest : (b : Bool) → cond b false (is_one_line cs) ≡ true → is_one_line cs ≡ true
    rest true h = absurd (false≢true h)
    rest false h = h

same_literal : (name : List ℕ) (k : Token) (t : List ℕ) → is_one_line name ≡ true → literal name k (with_newline t) ≡ literal name k t
same_literal name k t h = ap₂ (λ a b. cond (a && b) k bad) (same_start t name h) (same_end (length name) t)

same_word : (t : List ℕ) → word (with_newline t) ≡ word t
unfolding word after_number
same_word [] = refl
same_word (x ∷ xs) =
    let t = x ∷ xs in
    let n : number_before (with_newline t) (after_number (with_newline t)) ≡ number_before t (after_number t) = ap (number_before (with_newline t)) (number_end t) ∙ same_number t (after_number t) in
    λ i. cond (x == 116) (same_literal true_text (boolean true) t refl i)
    (cond (x == 102) (same_literal false_text (boolean false) t refl i) (cond (x == 110) (same_literal null_text null t refl i) (n i)))

-- ---- strings

never : (n : ℕ) (b : Bool) → cond (b && false) (Some n) None ≡ None
never n true = refl
never n false = refl

-- a line feed is no digit of an escape
no_unit : (a b c : ℕ) → code_unit a b c 10 ≡ None
unfolding code_unit
no_unit a b c = never _ (is_digit a 16 && is_digit b 16 && is_digit c 16)

nothing : (b : Bool) → cond {A = Option (List ℕ)} b None None ≡ None
nothing true = refl
nothing false = refl

same_content : (w : Within) (t : List ℕ) → content w (with_newline t) ≡ content w t
unfolding content short_escape
same_content plain [] = refl
same_content plain (x ∷ xs) = λ i. cond (x == 34) (Some []) (cond (x == 92) (same_content after_backslash xs i) (cond (nat_lt x 32) None (prepend (x ∷ []) (same_content plain xs i))))
same_content after_backslash [] = refl
same_content after_backslash (x ∷ xs) = λ i. cond (x == 117) (same_content after_u xs i) (option_and_then (λ c. prepend (c ∷ []) (same_content plain xs i)) (short_escape x))
same_content after_u [] = refl
same_content after_u (a ∷ []) = refl
same_content after_u (a ∷ b ∷ []) = refl
same_content after_u (a ∷ b ∷ c ∷ []) =
    ap (option_and_then (λ u. cond (is_high_surrogate u) (content (after_high u) []) (cond (is_low_surrogate u) None (prepend (encode_utf8 u) (content plain []))))) (no_unit a b c)
same_content after_u (a ∷ b ∷ c ∷ d ∷ xs) =
    λ i. option_and_then
    (λ u. cond (is_high_surrogate u) (same_content (after_high u) xs i) (cond (is_low_surrogate u) None (prepend (encode_utf8 u) (same_content plain xs i)))) (code_unit a b c d)
same_content (after_high h) [] = refl
same_content (after_high h) (s ∷ []) = refl
same_content (after_high h) (s ∷ u ∷ []) = refl
same_content (after_high h) (s ∷ u ∷ a ∷ []) = refl
same_content (after_high h) (s ∷ u ∷ a ∷ b ∷ []) = refl
same_content (after_high h) (s ∷ u ∷ a ∷ b ∷ c ∷ []) =
    ap (λ o. cond ((s == 92) && (u == 117)) (option_and_then (λ l. cond (is_low_surrogate l) (prepend (encode_utf8 (surrogate_pair h l)) (content plain [])) None) o) None) (no_unit a b c)
    ∙ nothing ((s == 92) && (u == 117))
same_content (after_high h) (s ∷ u ∷ a ∷ b ∷ c ∷ d ∷ xs) =
    λ i. cond ((s == 92) && (u == 117))
    (option_and_then (λ l. cond (is_low_surrogate l) (prepend (encode_utf8 (surrogate_pair h l)) (same_content plain xs i)) None) (code_unit a b c d)) None

-- ---- lexemes

same_byte : (m : Mode) (c : Class) (x : ℕ) (xs : List ℕ) → ((n : Mode) → lex n (with_newline xs) ≡ lex n xs)
    → lex_byte m c x (with_newline xs) (λ n. lex n (with_newline xs)) ≡ lex_byte m c x xs (λ n. lex n xs)
same_byte between quote x xs same = λ i. token (string_token (same_content plain xs i)) ∷ same in_string i
same_byte between backslash x xs same = λ i. token bad ∷ same in_word i
same_byte between operator x xs same = λ i. operator_lexeme x ∷ same between i
same_byte between space x xs same = same between
same_byte between other x xs same = λ i. token (same_word (x ∷ xs) i) ∷ same in_word i
same_byte in_word quote x xs same = same in_word
same_byte in_word backslash x xs same = same in_word
same_byte in_word operator x xs same = λ i. operator_lexeme x ∷ same between i
same_byte in_word space x xs same = same between
same_byte in_word other x xs same = same in_word
same_byte in_string quote x xs same = same between
same_byte in_string backslash x xs same = same in_escape
same_byte in_string operator x xs same = same in_string
same_byte in_string space x xs same = same in_string
same_byte in_string other x xs same = same in_string
same_byte in_escape c x xs same = same in_string

same_lexemes : (m : Mode) (t : List ℕ) → lex m (with_newline t) ≡ lex m t
unfolding lex
same_lexemes between [] = refl
same_lexemes in_word [] = refl
same_lexemes in_string [] = refl
same_lexemes in_escape [] = refl
same_lexemes m (x ∷ xs) = same_byte m (class x) x xs (λ n. same_lexemes n xs)

same_tokens : (text : List ℕ) → tokens (text ++ 10 ∷ []) ≡ tokens text
same_tokens text = ap (punctuate fresh) (same_lexemes between text)

-- ---- the value

same_value : (text : List ℕ) → read (text ++ 10 ∷ []) ≡ read text
same_value text = ap (λ ts. option_and_then of_json (option_and_then (λ p. if_last p.0 p.1) (value max_depth ts))) (same_tokens text)

newline_is_utf8 : IsUtf8 (10 ∷ [])
newline_is_utf8 = IsUtf8-from_ascii (10 ∷ []) small
  where
    small : IsAscii (10 ∷ [])
    small zero = omega arith
    small (suc i) = omega arith

same_utf8 : (text : List ℕ) → is_utf8 (with_newline text) ≡ is_utf8 text
same_utf8 text = both _ _ less more
  where
    more : is_utf8 text ≡ true → is_utf8 (with_newline text) ≡ true
    more e = is_utf8-from_IsUtf8 (with_newline text) (IsUtf8-append text (10 ∷ []) (IsUtf8-from_is_utf8 text e) newline_is_utf8)

    less : is_utf8 (with_newline text) ≡ true → is_utf8 text ≡ true
    less e =
        let all = with_newline text in
        let seam = IsCharBoundary-at_seam all text (10 ∷ []) refl newline_is_utf8 in
        is_utf8-from_IsUtf8 text (subst IsUtf8 (take_at text (10 ∷ []) (length text) refl) (IsUtf8-take all (length text) (IsUtf8-from_is_utf8 all e) seam))

    both : (a b : Bool) → (a ≡ true → b ≡ true) → (b ≡ true → a ≡ true) → a ≡ b
    both true b f g = sym (f refl)
    both false true f g = g refl
    both false false f g = refl

pub newline_changes_nothing : (text : List ℕ) → json_of (text ++ 10 ∷ []) ≡ json_of text
unfolding json_of
newline_changes_nothing text = ap₂ (λ b d. cond b d None) (same_utf8 text) (same_value text)

-- what a text reads as is the value of the text and a line feed
pub json_of-line : (text : List ℕ) (d : Option Data) → IsUtf8 text → read text ≡ d → json_of (text ++ 10 ∷ []) ≡ d
unfolding json_of
json_of-line text d utf8 e = newline_changes_nothing text ∙ rw (is_utf8-from_IsUtf8 text utf8) e
