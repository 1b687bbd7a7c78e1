-- What the tests of an address say together.
use Rattle.std.proofs.Common.{◌≡◌, ◌<◌, ◌^◌, ℕ, true, false, cond, ◌&&◌, Bool, Some, None, List, [], ◌∷◌, length, drop, codes, refl, sym, ap, subst, ◌∙◌, arith, leb}
use Rattle.std.specs.List.{list_all}
use Rattle.std.specs.Char.{is_ascii_digit}
use Rattle.std.specs.Str.{IsCharBoundary}
use Rattle.std.specs.Str.Parse.{digits_value}
use Rattle.std.specs.Str.Pattern.{FindsTextPrefix, StripsPrefix}
use Rattle.std.proofs.lemmas.Bool.{leb-true}
use Rattle.std.proofs.lemmas.Str.Pattern.{starts_text}
use Rattle.sk_base.specs.Ranges.{is_text}
use Rattle.sk_config.specs.Configs.{is_port, is_host_and_port, is_address}

-- digits that no 16 bits hold, or none
pub too_large : (text : List ℕ) → ((0 < length text) × (digits_value 10 text < 2 ^ 16) → ⊥) → is_port text ≡ false
too_large [] none = refl
too_large (x ∷ xs) none = by_test (leb (digits_value 10 (x ∷ xs)) 65535) refl
  where
    last : (a b : Bool) → (a && (b && false)) ≡ false
    last true true = refl
    last true false = refl
    last false b = refl

    by_test : (b : Bool) → leb (digits_value 10 (x ∷ xs)) 65535 ≡ b → is_port (x ∷ xs) ≡ false
    by_test true e = absurd (none (omega arith, (let most = leb-true (digits_value 10 (x ∷ xs)) 65535 e in omega arith)))
    by_test false e = rw e (last (list_all is_ascii_digit (x ∷ xs)) (leb 1 (digits_value 10 (x ∷ xs))))

-- behind the scheme
pub with_scheme : (text rest : List ℕ) → is_text text ≡ true → StripsPrefix (FindsTextPrefix (codes "silkit://")) text rest → is_address text ≡ is_host_and_port rest
unfolding is_address
with_scheme text rest short strips =
    let boundary : IsCharBoundary text strips.0 = subst (IsCharBoundary text) (sym strips.1.0) strips.1.2 in
    let starts = starts_text true (codes "silkit://") text (strips.0, strips.1, boundary) in
    let behind : drop 9 text ≡ rest = sym (strips.2 ∙ ap (λ n. drop n text) strips.1.0) in
    rw (short, sym starts, behind) refl

pub without_scheme : (text : List ℕ) → FindsTextPrefix (codes "silkit://") text None → is_address text ≡ false
unfolding is_address
without_scheme text lacks =
    let starts = starts_text false (codes "silkit://") text lacks in
    rw (sym starts) (by_test (is_text text))
  where
    by_test : (a : Bool) → (a && false) ≡ false
    by_test true = refl
    by_test false = refl

-- a text that was made of bytes is them
pub made_of : (bytes text : List ℕ) → Some text ≡ cond (is_text bytes) (Some bytes) None → text ≡ bytes
made_of bytes text made = by_test (is_text bytes) made
  where
    by_test : (a : Bool) → Some text ≡ cond a (Some bytes) None → text ≡ bytes
    by_test true e = cc
    by_test false e = absurd cc

pub no_address : (bytes text : List ℕ) → Some text ≡ cond (is_text bytes) (Some bytes) None → is_address text ≡ false → is_address bytes ≡ false
no_address bytes text made wrong = ap is_address (sym (made_of bytes text made)) ∙ wrong
