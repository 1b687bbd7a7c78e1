-- The fault that reading meets is the one that the table names: a law for each field type.
use Rattle.std.proofs.Common.{◌≡◌, ℕ, zero, suc, ◌<◌, Bool, true, false, cond, List, [], ◌∷◌, ◌++◌, length, take, drop, Option, Some, None, Result, Ok, Err, refl, sym, ap, ◌∙◌, arith, inl, inr}
use Rattle.std.specs.Prelude.{◌⊎◌}
use Rattle.std.specs.Int.{Width, w8, byte_len, from_le_bytes, to_le_bytes}
use Rattle.std.proofs.lemmas.Bool.{le-ltb, lt-ltb, cases_lt}
use Rattle.std.proofs.lemmas.List.{take-append-drop, length-take}
use Rattle.sk_wire.specs.declared.fault.BodyFault.{BodyFault}
use Rattle.sk_wire.specs.Reading.{Reading, ◌>>=◌, cut, bad}
use Rattle.sk_wire.specs.Fields.{Field, Numbered, limit_of, IsCutBehind, number_at, number, counted_at, counted, nothing, ◌&◌, chosen, choice, held, such_that, items_at, items_faults, list, IsBad}
use Rattle.sk_wire.specs.Stream.{AreBytes}
use Rattle.sk_wire.proofs.FieldLaws.{AreBytes-rest, AreBytes-front, Lawful, IsWide, wide8, number_takes, number_again, counted_takes, counted_again}

pub record Judged (A : Type 0) (f : Field A) : Type 0 where
  pub fails : (bytes : List ℕ) (e : BodyFault) → AreBytes bytes → f.at bytes ≡ Err e → f.faults bytes e
  pub faulty : (bytes : List ℕ) (e : BodyFault) → f.faults bytes e → f.at bytes ≡ Err e

-- a step that failed, or the one after it
pub bind_err : {A B : Type 0} (r : Result A BodyFault) (f : A → Result B BodyFault) (e : BodyFault) → (r >>= f) ≡ Err e → (r ≡ Err e) ⊎ ((x : A) × (r ≡ Ok x) × (f x ≡ Err e))
bind_err (Ok x) f e h = inr (x, refl, h)
bind_err {A = A} {B = B} (Err d) f e h = inl (ap (λ x. Err x) (err_is {B = B} d e h))
  where
    err_or : {X : Type 0} → BodyFault → Result X BodyFault → BodyFault
    err_or d (Ok x) = d
    err_or d (Err x) = x

    err_is : {B : Type 0} (d e : BodyFault) → ◌≡◌ {A = Result B BodyFault} (Err d) (Err e) → d ≡ e
    err_is d e h = ap (λ r. err_or d r) h

pub test_err : {A : Type 0} (b : Bool) (x : A) (d e : BodyFault) → cond b (Ok x) (Err d) ≡ Err e → (b ≡ false) × (e ≡ d)
test_err true x d e h = absurd cc
test_err false x d e h = (refl, cc)

-- a number stands at the front, or the bytes are too few
number_cases : (w : Width) (wide : IsWide w (limit_of w)) (bytes : List ℕ) → AreBytes bytes
    → ((length bytes < byte_len w) × (number_at w bytes ≡ Err (cut bytes))) ⊎ ((n : ℕ) × (rest : List ℕ) × Numbered w bytes n rest × (number_at w bytes ≡ Ok (n, rest)))
number_cases w wide bytes fits =
    elim (cases_lt (length bytes) (byte_len w)) [
      | inl lt ↦ inl (lt, rw (lt-ltb (length bytes) (byte_len w) lt) refl)
      | inr le ↦
          let read : number_at w bytes ≡ Ok (from_le_bytes w (take (byte_len w) bytes), drop (byte_len w) bytes) = rw (le-ltb (length bytes) (byte_len w) le) refl in
          inr (from_le_bytes w (take (byte_len w) bytes), drop (byte_len w) bytes, (wide.below (take (byte_len w) bytes) (AreBytes-take bytes (byte_len w) fits), number_takes w (limit_of w) wide bytes (from_le_bytes w (take (byte_len w) bytes), drop (byte_len w) bytes) fits read), read)
    ]
  where
    AreBytes-take : (bytes : List ℕ) (n : ℕ) → AreBytes bytes → AreBytes (take n bytes)
    AreBytes-take bytes n fits = AreBytes-front bytes (take n bytes) (drop n bytes) fits (sym (take-append-drop n bytes))

number_read : (w : Width) (wide : IsWide w (limit_of w)) (bytes : List ℕ) (n : ℕ) (rest : List ℕ) → Numbered w bytes n rest → number_at w bytes ≡ Ok (n, rest)
number_read w wide bytes n rest h = ap (number_at w) h.1 ∙ number_again w (limit_of w) wide n rest h.0

number_cut : (w : Width) (bytes : List ℕ) → length bytes < byte_len w → number_at w bytes ≡ Err (cut bytes)
number_cut w bytes lt = rw (lt-ltb (length bytes) (byte_len w) lt) refl

pub number_judged : (w : Width) (rule : ℕ → Bool) → IsWide w (limit_of w) → Judged ℕ (number w rule)
number_judged w rule wide = record {
  fails = λ bytes e fits h.
      elim (number_cases w wide bytes fits) [
        | inl c ↦ let same : cut bytes ≡ e = is bytes e (sym (ap (λ (r : Reading ℕ). r >>= λ n. cond (rule n.0) (Ok n) (Err (bad bytes))) c.1) ∙ h) in inl (sym same, c.0)
        | inr c ↦
            let t = test_err (rule c.0) (c.0, c.1) (bad bytes) e (sym (ap (λ (r : Reading ℕ). r >>= λ n. cond (rule n.0) (Ok n) (Err (bad bytes))) c.3) ∙ h) in
            inr (t.1, (c.0, c.1, c.2, t.0))
      ];
  faulty = λ bytes e f.
      elim f [
        | inl c ↦ rw (number_cut w bytes c.1, c.0) refl
        | inr c ↦ rw (number_read w wide bytes c.1.0 c.1.1 c.1.2, c.1.3, c.0) refl
      ];
}
  where
    is : (bytes : List ℕ) (e : BodyFault) → ◌≡◌ {A = Reading ℕ} (Err (cut bytes)) (Err e) → cut bytes ≡ e
    is bytes e h = cc

pub nothing_judged : Judged (Unit {0}) nothing
nothing_judged = record { fails = λ bytes e fits h. absurd cc; faulty = λ bytes e f. absurd f }

pub then_judged : {A B : Type 0} (f : Field A) (g : A → Field B) (m : ℕ) → Lawful A f m → Judged A f → ((x : A) → Judged B (g x)) → Judged (A × B) (f & g)
then_judged {A = A} {B = B} f g m lawful first second = record {
  fails = λ bytes e fits h.
      elim (bind_err (f.at bytes) (λ x. (g x.0).at x.1 >>= λ y. Ok ((x.0, y.0), y.1)) e h) [
        | inl d ↦ inl (first.fails bytes e fits d)
        | inr d ↦
            let t = lawful.takes bytes d.0 fits d.1 in
            elim (bind_err ((g d.0.0).at d.0.1) (λ y. Ok ((d.0.0, y.0), y.1)) e d.2) [
              | inl s ↦ inr (d.0.0, d.0.1, (t.1, t.0), (second d.0.0).fails d.0.1 e (AreBytes-rest bytes (f.spelling d.0.0) d.0.1 fits t.0) s)
              | inr s ↦ let n = s.2 in absurd cc
            ]
      ];
  faulty = λ bytes e h.
      elim h [
        | inl d ↦ rw (first.faulty bytes e d) refl
        | inr d ↦
            let read : f.at bytes ≡ Ok (d.0, d.1) = ap f.at d.2.1 ∙ lawful.again d.0 d.1 d.2.0 in
            rw (read, (second d.0).faulty d.1 e d.3) refl
      ];
}

-- ---- a length and bytes

counted_cases : (w : Width) (wide : IsWide w (limit_of w)) (bytes : List ℕ) → AreBytes bytes
    → (((length bytes < byte_len w) ⊎ IsCutBehind w bytes) × (counted_at w bytes ≡ Err (cut bytes)))
    ⊎ ((text : List ℕ) × (rest : List ℕ) × (length text < limit_of w) × (bytes ≡ (to_le_bytes w (length text) ++ text) ++ rest) × (counted_at w bytes ≡ Ok (text, rest)))
counted_cases w wide bytes fits =
    elim (number_cases w wide bytes fits) [
      | inl c ↦ inl (inl c.0, rw c.1 refl)
      | inr c ↦ elim (cases_lt (length c.1) c.0) [
        | inl lt ↦ inl (inr (c.0, c.1, c.2, lt), rw (c.3, lt-ltb (length c.1) c.0 lt) refl)
        | inr le ↦
            let read : counted_at w bytes ≡ Ok (take c.0 c.1, drop c.0 c.1) = rw (c.3, le-ltb (length c.1) c.0 le) refl in
            inr (take c.0 c.1, drop c.0 c.1, omega (arith, c.2.0, length-take c.0 c.1), counted_takes w (limit_of w) wide bytes (take c.0 c.1, drop c.0 c.1) fits read, read)
      ]
    ]

pub counted_judged : (w : Width) (rule : List ℕ → Bool) → IsWide w (limit_of w) → Judged (List ℕ) (counted w rule)
counted_judged w rule wide = record {
  fails = λ bytes e fits h.
      elim (counted_cases w wide bytes fits) [
        | inl c ↦ let same : cut bytes ≡ e = is bytes e (sym (ap (λ (r : Reading (List ℕ)). r >>= λ t. cond (rule t.0) (Ok t) (Err (bad bytes))) c.1) ∙ h) in inl (sym same, c.0)
        | inr c ↦
            let t = test_err (rule c.0) (c.0, c.1) (bad bytes) e (sym (ap (λ (r : Reading (List ℕ)). r >>= λ t. cond (rule t.0) (Ok t) (Err (bad bytes))) c.4) ∙ h) in
            inr (t.1, (c.0, c.1, c.2, c.3, t.0))
      ];
  faulty = λ bytes e f.
      elim f [
        | inl c ↦ elim c.1 [
          | inl lt ↦ rw (number_cut w bytes lt, c.0) refl
          | inr a ↦ rw (number_read w wide bytes a.0 a.1 a.2, lt-ltb (length a.1) a.0 a.3, c.0) refl
        ]
        | inr c ↦
            let read : counted_at w bytes ≡ Ok (c.1.0, c.1.1) = ap (counted_at w) c.1.3 ∙ counted_again w (limit_of w) wide c.1.0 c.1.1 c.1.2 in
            rw (read, c.1.4, c.0) refl
      ];
}
  where
    is : (bytes : List ℕ) (e : BodyFault) → ◌≡◌ {A = Reading (List ℕ)} (Err (cut bytes)) (Err e) → cut bytes ≡ e
    is bytes e h = cc

-- ---- a choice by its number

chosen_err : {A : Type 0} (fault e : BodyFault) (rest : List ℕ) (o : Option A) → chosen fault rest o ≡ Err e → (o ≡ None) × (e ≡ fault)
chosen_err fault e rest (Some x) h = absurd cc
chosen_err fault e rest None h = (refl, cc)

pub choice_judged : {A : Type 0} (code : A → ℕ) (value : ℕ → Option A) → Judged A (choice code value)
choice_judged {A = A} code value = record {
  fails = λ bytes e fits h.
      elim (number_cases w8 wide8 bytes fits) [
        | inl c ↦ let same : cut bytes ≡ e = is bytes e (sym (ap (λ (r : Reading ℕ). r >>= λ n. chosen (bad bytes) n.1 (value n.0)) c.1) ∙ h) in inl (sym same, c.0)
        | inr c ↦
            let t = chosen_err (bad bytes) e c.1 (value c.0) (sym (ap (λ (r : Reading ℕ). r >>= λ n. chosen (bad bytes) n.1 (value n.0)) c.3) ∙ h) in
            inr (t.1, (c.0, c.1, c.2, t.0))
      ];
  faulty = λ bytes e f.
      elim f [
        | inl c ↦ rw (number_cut w8 bytes c.1, c.0) refl
        | inr c ↦ rw (number_read w8 wide8 bytes c.1.0 c.1.1 c.1.2, c.1.3, c.0) refl
      ];
}
  where
    is : (bytes : List ℕ) (e : BodyFault) → ◌≡◌ {A = Reading A} (Err (cut bytes)) (Err e) → cut bytes ≡ e
    is bytes e h = cc

-- ---- another form, and one more rule

pub such_that_judged : {A : Type 0} (rule : A → Bool) (f : Field A) (m : ℕ) → Lawful A f m → Judged A f → Judged A (such_that rule f)
such_that_judged {A = A} rule f m lawful judged = record {
  fails = λ bytes e fits h.
      elim (bind_err (f.at bytes) (λ x. cond (rule x.0) (Ok x) (Err (bad bytes))) e h) [
        | inl d ↦ inl (judged.fails bytes e fits d)
        | inr d ↦
            let t = lawful.takes bytes d.0 fits d.1 in
            let r = test_err (rule d.0.0) d.0 (bad bytes) e d.2 in
            inr (r.1, (d.0.0, d.0.1, (t.1, t.0), r.0))
      ];
  faulty = λ bytes e h.
      elim h [
        | inl d ↦ rw (judged.faulty bytes e d) refl
        | inr d ↦
            let read : f.at bytes ≡ Ok (d.1.0, d.1.1) = ap f.at d.1.2.1 ∙ lawful.again d.1.0 d.1.1 d.1.2.0 in
            rw (read, d.1.3, d.0) refl
      ];
}

pub held_judged : {A B : Type 0} (made : A → B) (parts : B → A) (f : Field A) → Judged A f → Judged B (held made parts f)
held_judged made parts f judged = record {
  fails = λ bytes e fits h.
      elim (bind_err (f.at bytes) (λ x. Ok (made x.0, x.1)) e h) [
        | inl d ↦ judged.fails bytes e fits d
        | inr d ↦ let n = d.2 in absurd cc
      ];
  faulty = λ bytes e h. rw (judged.faulty bytes e h) refl;
}

-- ---- lists

module _ {A : Type 0} (item : List A → Field A) (most : ℕ) (lawful : (before : List A) → Lawful A (item before) most) (judged : (before : List A) → Judged A (item before)) where
  items_fails : (n : ℕ) (before : List A) (bytes : List ℕ) (e : BodyFault) → AreBytes bytes → items_at item n before bytes ≡ Err e → items_faults item n before bytes e
  items_fails zero before bytes e fits h = absurd cc
  items_fails (suc n) before bytes e fits h =
      elim (bind_err ((item before).at bytes) (λ x. items_at item n (before ++ x.0 ∷ []) x.1 >>= λ xs. Ok (x.0 ∷ xs.0, xs.1)) e h) [
        | inl d ↦ inl ((judged before).fails bytes e fits d)
        | inr d ↦
            let t = (lawful before).takes bytes d.0 fits d.1 in
            elim (bind_err (items_at item n (before ++ d.0.0 ∷ []) d.0.1) (λ xs. Ok (d.0.0 ∷ xs.0, xs.1)) e d.2) [
              | inl s ↦ inr (d.0.0, d.0.1, (t.1, t.0), items_fails n (before ++ d.0.0 ∷ []) d.0.1 e (AreBytes-rest bytes ((item before).spelling d.0.0) d.0.1 fits t.0) s)
              | inr s ↦ let n = s.2 in absurd cc
            ]
      ]

  items_faulty : (n : ℕ) (before : List A) (bytes : List ℕ) (e : BodyFault) → items_faults item n before bytes e → items_at item n before bytes ≡ Err e
  items_faulty zero before bytes e h = absurd h
  items_faulty (suc n) before bytes e (inl d) = rw ((judged before).faulty bytes e d) refl
  items_faulty (suc n) before bytes e (inr d) =
      let read : (item before).at bytes ≡ Ok (d.0, d.1) = ap (item before).at d.2.1 ∙ (lawful before).again d.0 d.1 d.2.0 in
      rw (read, items_faulty n (before ++ d.0 ∷ []) d.1 e d.3) refl

  pub list_judged : (many : ℕ → Bool) → Judged (List A) (list many item)
  list_judged many = record {
    fails = λ bytes e fits h.
        elim (number_cases w8 wide8 bytes fits) [
          | inl c ↦ let same : cut bytes ≡ e = is bytes e (sym (ap (λ (r : Reading ℕ). r >>= λ n. cond (many n.0) (items_at item n.0 [] n.1) (Err (bad bytes))) c.1) ∙ h) in inl (sym same, c.0)
          | inr c ↦
              let after : cond (many c.0) (items_at item c.0 [] c.1) (Err (bad bytes)) ≡ Err e = sym (ap (λ (r : Reading ℕ). r >>= λ n. cond (many n.0) (items_at item n.0 [] n.1) (Err (bad bytes))) c.3) ∙ h in
              inr (c.0, c.1, c.2, counted_or (many c.0) (items_at item c.0 [] c.1) bytes e after (items_fails c.0 [] c.1 e (AreBytes-rest bytes (to_le_bytes w8 c.0) c.1 fits c.2.1)))
        ];
    faulty = λ bytes e f.
        elim f [
          | inl c ↦ rw (number_cut w8 bytes c.1, c.0) refl
          | inr c ↦
              let read = number_read w8 wide8 bytes c.0 c.1 c.2 in
              elim c.3 [
                | inl b ↦ rw (read, b.1, b.0) refl
                | inr b ↦ rw (read, b.0) (items_faulty c.0 [] c.1 e b.1)
              ]
        ];
  }
    where
      is : (bytes : List ℕ) (e : BodyFault) → ◌≡◌ {A = Reading (List A)} (Err (cut bytes)) (Err e) → cut bytes ≡ e
      is bytes e h = cc

      counted_or : {P : Type 0} (b : Bool) (r : Reading (List A)) (bytes : List ℕ) (e : BodyFault) → cond b r (Err (bad bytes)) ≡ Err e → (r ≡ Err e → P) → (IsBad bytes e × (b ≡ false)) ⊎ ((b ≡ true) × P)
      counted_or true r bytes e h f = inr (refl, f h)
      counted_or false r bytes e h f = inl (cc, refl)
