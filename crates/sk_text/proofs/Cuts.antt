-- Where bytes are cut: behind the first that ends something. Lines are cut into words so, and texts into lines.
use Rattle.std.proofs.Common.{◌≡◌, ℕ, zero, suc, ◌+◌, ◌/◌, ◌%◌, ◌≤◌, Bool, true, false, eqb, List, [], ◌∷◌, ◌++◌, refl, sym, ap, ◌∙◌, append_assoc, arith}
use Rattle.std.specs.Prelude.{not, ◌&&◌, ◌||◌, decimal, nat_lt, slice_index}
use Rattle.std.specs.Fmt.{digits, digits_onto, digit_glyph}
use Rattle.std.proofs.lemmas.Bool.{and_parts, and_from, or_from, ne_eqb, not-true, not_from_false, both_ways, cond_both}
use Rattle.hex.specs.Hex.{encode_with, encode_lower, lower_digits}
use Rattle.sk_text.specs.Lines.{line}

-- none of these bytes passes the test
abbrev pub lacks : (ℕ → Bool) → List ℕ → Bool
lacks ends [] = true
lacks ends (x ∷ xs) = not (ends x) && lacks ends xs

-- the same in front of the first byte that passes, the same byte, and the same behind it
pub record AreCut (xs ys : List ℕ) (a b : ℕ) (r s : List ℕ) : Type 0 where
  pub front : xs ≡ ys
  pub end : a ≡ b
  pub behind : r ≡ s

-- a byte that passes is none of those that don't
apart : (ends : ℕ → Bool) (x y : ℕ) (ys : List ℕ) → ends x ≡ true → lacks ends (y ∷ ys) ≡ true → x ≡ y → ⊥
apart ends x y ys passes none same =
    let h = and_parts (not (ends y)) (lacks ends ys) none in
    both_ways (ends y) (not-true (ends y) h.0) (ap ends (sym same) ∙ passes)

pub cut : (ends : ℕ → Bool) (xs ys : List ℕ) (a b : ℕ) (r s : List ℕ) → lacks ends xs ≡ true → lacks ends ys ≡ true → ends a ≡ true → ends b ≡ true
    → xs ++ a ∷ r ≡ ys ++ b ∷ s → AreCut xs ys a b r s
cut ends [] [] a b r s hx hy ha hb e = record { front = refl; end = cc; behind = cc }
cut ends [] (y ∷ ys) a b r s hx hy ha hb e = let same : a ≡ y = cc in absurd (apart ends a y ys ha hy same)
cut ends (x ∷ xs) [] a b r s hx hy ha hb e = let same : b ≡ x = cc in absurd (apart ends b x xs hb hx same)
cut ends (x ∷ xs) (y ∷ ys) a b r s hx hy ha hb e =
    let head : x ≡ y = cc in
    let rest : xs ++ a ∷ r ≡ ys ++ b ∷ s = cc in
    let more = cut ends xs ys a b r s (and_parts (not (ends x)) (lacks ends xs) hx).1 (and_parts (not (ends y)) (lacks ends ys) hy).1 ha hb rest in
    let front : xs ≡ ys = more.front in
    record { front = cc; end = more.end; behind = more.behind }

-- ---- words

-- a space or a newline
abbrev pub is_end : ℕ → Bool
is_end c = eqb c 32 || eqb c 10

abbrev pub is_word : List ℕ → Bool
is_word word = lacks is_end word

abbrev pub are_words : List (List ℕ) → Bool
are_words [] = true
are_words (word ∷ words) = is_word word && are_words words

-- equal lines have equal words, and what stands behind them is equal
pub same_line : (w v : List ℕ) (ws vs : List (List ℕ)) (r s : List ℕ) → are_words (w ∷ ws) ≡ true → are_words (v ∷ vs) ≡ true
    → line (w ∷ ws) ++ r ≡ line (v ∷ vs) ++ s → (w ∷ ws ≡ v ∷ vs) × (r ≡ s)
same_line w v [] [] r s hw hv e =
    let a = (and_parts (is_word w) (are_words []) hw).0 in
    let b = (and_parts (is_word v) (are_words []) hv).0 in
    let c = cut is_end w v 10 10 r s a b refl refl (sym (append_assoc w (10 ∷ []) r) ∙ e ∙ append_assoc v (10 ∷ []) s) in
    (ap (λ (x : List ℕ). x ∷ []) c.front, c.behind)
same_line w v [] (next ∷ vs) r s hw hv e =
    let a = (and_parts (is_word w) (are_words []) hw).0 in
    let b = (and_parts (is_word v) (are_words (next ∷ vs)) hv).0 in
    let c = cut is_end w v 10 32 r (line (next ∷ vs) ++ s) a b refl refl (sym (append_assoc w (10 ∷ []) r) ∙ e ∙ append_assoc v (32 ∷ line (next ∷ vs)) s) in
    absurd (omega (arith, c.end))
same_line w v (next ∷ ws) [] r s hw hv e =
    let a = (and_parts (is_word w) (are_words (next ∷ ws)) hw).0 in
    let b = (and_parts (is_word v) (are_words []) hv).0 in
    let c = cut is_end w v 32 10 (line (next ∷ ws) ++ r) s a b refl refl (sym (append_assoc w (32 ∷ line (next ∷ ws)) r) ∙ e ∙ append_assoc v (10 ∷ []) s) in
    absurd (omega (arith, c.end))
same_line w v (x ∷ ws) (y ∷ vs) r s hw hv e =
    let a = and_parts (is_word w) (are_words (x ∷ ws)) hw in
    let b = and_parts (is_word v) (are_words (y ∷ vs)) hv in
    let c = cut is_end w v 32 32 (line (x ∷ ws) ++ r) (line (y ∷ vs) ++ s) a.0 b.0 refl refl
    (sym (append_assoc w (32 ∷ line (x ∷ ws)) r) ∙ e ∙ append_assoc v (32 ∷ line (y ∷ vs)) s) in
    let more = same_line x y ws vs r s a.1 b.1 c.behind in
    let front : w ≡ v = c.front in
    let rest : x ∷ ws ≡ y ∷ vs = more.0 in
    (cc, more.1)

-- ---- numbers are words

not_end : (c : ℕ) → 33 ≤ c → is_end c ≡ false
not_end c h = or_from (eqb c 32) (eqb c 10) (ne_eqb c 32 (λ e. omega arith)) (ne_eqb c 10 (λ e. omega arith))

digit_no_end : (d : ℕ) → not (is_end (digit_glyph false d)) ≡ true
digit_no_end d =
    let high : 33 ≤ digit_glyph false d = cond_both (nat_lt d 10) (48 + d) (87 + d) (λ c. 33 ≤ c) (λ e. omega arith) (λ e. omega arith) in
    not_from_false (is_end (digit_glyph false d)) (not_end (digit_glyph false d) high)

digits_word : (k n : ℕ) (behind : List ℕ) → is_word behind ≡ true → is_word (digits_onto k 10 false n behind) ≡ true
digits_word zero n behind h = h
digits_word (suc k) n behind h =
    let here : List ℕ = digit_glyph false (n % 10) ∷ behind in
    let more : is_word here ≡ true = and_from (not (is_end (digit_glyph false (n % 10)))) (is_word behind) (digit_no_end (n % 10)) h in
    cond_both (eqb (n / 10) 0) here (digits_onto k 10 false (n / 10) here) (λ w. is_word w ≡ true) (λ e. more) (λ e. digits_word k (n / 10) here more)

pub decimal_word : (n : ℕ) → is_word (decimal n) ≡ true
unfolding digits
decimal_word n = digits_word 64 n [] refl

-- ---- so is hexadecimal

glyph_no_end : (table : List ℕ) (k : ℕ) → is_word table ≡ true → not (is_end (slice_index table k)) ≡ true
glyph_no_end [] k h = refl
glyph_no_end (x ∷ xs) zero h = (and_parts (not (is_end x)) (is_word xs) h).0
glyph_no_end (x ∷ xs) (suc k) h = glyph_no_end xs k (and_parts (not (is_end x)) (is_word xs) h).1

pairs_word : (table bytes : List ℕ) → is_word table ≡ true → is_word (encode_with table bytes) ≡ true
unfolding encode_with
pairs_word table [] h = refl
pairs_word table (b ∷ bytes) h =
    and_from (not (is_end (slice_index table (b / 16)))) (is_word (slice_index table (b % 16) ∷ encode_with table bytes)) (glyph_no_end table (b / 16) h)
    (and_from (not (is_end (slice_index table (b % 16)))) (is_word (encode_with table bytes)) (glyph_no_end table (b % 16) h) (pairs_word table bytes h))

pub hex_word : (bytes : List ℕ) → is_word (encode_lower bytes) ≡ true
hex_word bytes = pairs_word lower_digits bytes refl
