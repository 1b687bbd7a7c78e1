-- How a key is written in a path, character by character.
use Rattle.std.proofs.Common.{◌≡◌, ◌≢◌, ℕ, suc, ◌<◌, List, [], ◌∷◌, ◌++◌, length, get_or, Bool, true, false, refl, sym, ap, subst, ◌∙◌, arith, append_assoc, append-nil, eqb}
use Rattle.std.specs.Prelude.{encode_utf8}
use Rattle.std.proofs.lemmas.Str.{inside_one, encode_ascii}
use Rattle.std.proofs.lemmas.Bool.{ne_eqb, eqb-true, eqb-false}
use Rattle.sk_config.specs.Paths.{escape_byte, escape, escape_char}

-- a byte that is neither `~` nor `/`
plain_byte : (b : ℕ) → b ≢ 126 → b ≢ 47 → escape_byte b ≡ b ∷ []
plain_byte b tilde slash = rw (ne_eqb b 126 tilde, ne_eqb b 47 slash) refl

escape-append : (xs ys : List ℕ) → escape (xs ++ ys) ≡ escape xs ++ escape ys
unfolding escape
escape-append [] ys = refl
escape-append (x ∷ xs) ys = ap (λ r. escape_byte x ++ r) (escape-append xs ys) ∙ sym (append_assoc (escape_byte x) (escape xs) (escape ys))

-- bytes of which none is `~` or `/` stay
plain : (xs : List ℕ) → ((k : ℕ) → k < length xs → get_or xs k 0 ≢ 126) → ((k : ℕ) → k < length xs → get_or xs k 0 ≢ 47) → escape xs ≡ xs
unfolding escape
plain [] tilde slash = refl
plain (x ∷ xs) tilde slash =
    let here = plain_byte x (tilde 0 (omega arith)) (slash 0 (omega arith)) in
    let later = plain xs (λ k h. tilde (suc k) (omega arith)) (λ k h. slash (suc k) (omega arith)) in
    rw (here, later) refl

plain_char : (c : ℕ) → c ≢ 126 → c ≢ 47 → escape (encode_utf8 c) ≡ encode_utf8 c
plain_char c tilde slash =
    plain (encode_utf8 c) (λ k h e. tilde (inside_one c [] (encode_utf8 c) k (sym (append-nil _)) h (omega arith) ∙ e)) (λ k h e. slash (inside_one c [] (encode_utf8 c) k (sym (append-nil _)) h (omega arith) ∙ e))

at_tilde : escape (encode_utf8 126) ≡ escape_char 126
unfolding escape
at_tilde = rw (encode_ascii 126 (omega arith)) refl

at_slash : escape (encode_utf8 47) ≡ escape_char 47
unfolding escape
at_slash = rw (encode_ascii 47 (omega arith)) refl

one_char : (c : ℕ) → escape (encode_utf8 c) ≡ escape_char c
one_char c = by_test (eqb c 126) (eqb c 47) refl refl
  where
    by_test : (a b : Bool) → eqb c 126 ≡ a → eqb c 47 ≡ b → escape (encode_utf8 c) ≡ escape_char c
    by_test true b e f = let P : ℕ → Type 0 = λ x. escape (encode_utf8 x) ≡ escape_char x in subst P (sym (eqb-true c 126 e)) at_tilde
    by_test false true e f = let P : ℕ → Type 0 = λ x. escape (encode_utf8 x) ≡ escape_char x in subst P (sym (eqb-true c 47 f)) at_slash
    by_test false false e f = plain_char c (eqb-false c 126 e) (eqb-false c 47 f) ∙ sym (rw (e, f) refl)

-- a character at the front
pub escape_step : (bs rest : List ℕ) (c : ℕ) → bs ≡ encode_utf8 c ++ rest → escape bs ≡ escape_char c ++ escape rest
escape_step bs rest c e = ap escape e ∙ escape-append (encode_utf8 c) rest ∙ ap (λ s. s ++ escape rest) (one_char c)

pub escape_empty : (bs : List ℕ) → length bs ≡ 0 → escape bs ≡ []
unfolding escape
escape_empty [] h = refl
escape_empty (b ∷ bs) h = absurd (omega arith)
