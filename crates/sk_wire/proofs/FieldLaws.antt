-- What is read is spelled so, what is spelled so is read, and a spelling has at most so many bytes: a law for each field type.
use Rattle.std.proofs.Common.{◌≡◌, ℕ, zero, suc, ◌+◌, ◌*◌, ◌^◌, ◌<◌, ◌≤◌, Bool, true, false, cond, List, [], ◌∷◌, ◌++◌, length, get_or, take, drop, Option, Some, None, Result, Ok, Err, refl, sym, ap, subst, ◌∙◌, append_assoc, arith, inl, inr}
use Rattle.std.specs.Prelude.{◌&&◌, nat_lt}
use Rattle.std.specs.Int.{Width, w8, w16, w32, w64, byte_len, from_le_bytes, to_le_bytes}
use Rattle.std.proofs.lemmas.Bool.{ltb-false, le-ltb, and_parts, and_from}
use Rattle.std.proofs.lemmas.List.{take_at, drop_at, take-append-drop, length-append, length-take, get_or-append-add, get_or_past, get_or_append_left}
use Rattle.std.proofs.lemmas.Bool.{cases_lt}
use Rattle.std.proofs.lemmas.Nat.{le_bytes_2, le_bytes_4, le_bytes_8, from_le_bytes-to_le_bytes_2, from_le_bytes-to_le_bytes_4, from_le_bytes-to_le_bytes_8}
use Rattle.sk_wire.specs.declared.fault.BodyFault.{BodyFault}
use Rattle.sk_wire.specs.Reading.{◌>>=◌, cut, bad}
use Rattle.std.specs.List.{flat_map}
use Rattle.std.proofs.lemmas.Nat.{mul-le}
use Rattle.sk_msg.specs.Each.{each_after}
use Rattle.sk_wire.specs.Fields.{Field, number_at, number, counted_at, counted, nothing, ◌&◌, chosen, choice, held, such_that, items_at, list}
use Rattle.sk_wire.specs.Stream.{AreBytes}

pub AreBytes-rest : (bytes front rest : List ℕ) → AreBytes bytes → bytes ≡ front ++ rest → AreBytes rest
AreBytes-rest bytes front rest h e i = subst (λ n. n < 256) (get_or-append-add front rest i 0) (subst (λ (xs : List ℕ). get_or xs (length front + i) 0 < 256) e (h (length front + i)))

pub AreBytes-front : (bytes front rest : List ℕ) → AreBytes bytes → bytes ≡ front ++ rest → AreBytes front
AreBytes-front bytes front rest h e i =
    elim (cases_lt i (length front)) [
      | inl lt ↦ subst (λ n. n < 256) (ap (λ (xs : List ℕ). get_or xs i 0) e ∙ get_or_append_left front rest 0 i lt) (h i)
      | inr le ↦ rw (get_or_past front i 0 le) (omega arith)
    ]

-- the value of a step that did not fail
pub bind_ok : {A B : Type 0} (r : Result A BodyFault) (f : A → Result B BodyFault) (y : B) → (r >>= f) ≡ Ok y → (x : A) × (r ≡ Ok x) × (f x ≡ Ok y)
bind_ok (Ok x) f y e = (x, refl, e)
bind_ok (Err d) f y e = absurd cc

-- a test that did not fail
pub guard_ok : {A : Type 0} (b : Bool) (d : BodyFault) (x y : A) → cond b (Err d) (Ok x) ≡ Ok y → (b ≡ false) × (x ≡ y)
guard_ok true d x y e = absurd cc
guard_ok false d x y e = (refl, cc)

pub guard_passed : {A : Type 0} (b : Bool) (d : BodyFault) (x y : A) → cond b (Ok x) (Err d) ≡ Ok y → (b ≡ true) × (x ≡ y)
guard_passed true d x y e = (refl, cc)
guard_passed false d x y e = absurd cc

abbrev done : {A : Type 0} → A → Result A BodyFault
done x = Ok x

pub ok_is : {A : Type 0} (x y : A) → done x ≡ done y → x ≡ y
ok_is x y e = cc

-- the answer where a test passed
pub guard_is : {A : Type 0} (d : BodyFault) (b : Bool) (r : Result A BodyFault) (y : A) → cond b r (Err d) ≡ Ok y → (b ≡ true) × (r ≡ Ok y)
guard_is d true r y e = (refl, e)
guard_is d false r y e = absurd cc

pub record Lawful (A : Type 0) (f : Field A) (most : ℕ) : Type 0 where
  pub takes : (bytes : List ℕ) (x : A × List ℕ) → AreBytes bytes → f.at bytes ≡ Ok x → (bytes ≡ f.spelling x.0 ++ x.1) × (f.fits x.0 ≡ true)
  pub again : (x : A) (rest : List ℕ) → f.fits x ≡ true → f.at (f.spelling x ++ rest) ≡ Ok (x, rest)
  pub bound : (x : A) → f.fits x ≡ true → length (f.spelling x) ≤ most

-- ---- numbers

pub record IsWide (w : Width) (limit : ℕ) : Type 0 where
  pub len : (n : ℕ) → length (to_le_bytes w n) ≡ byte_len w
  pub back : (bytes : List ℕ) → length bytes ≡ byte_len w → AreBytes bytes → to_le_bytes w (from_le_bytes w bytes) ≡ bytes
  pub again : (n : ℕ) → n < limit → from_le_bytes w (to_le_bytes w n) ≡ n
  pub below : (bytes : List ℕ) → AreBytes bytes → from_le_bytes w bytes < limit

one_byte : (bytes : List ℕ) → length bytes ≡ 1 → AreBytes bytes → to_le_bytes w8 (from_le_bytes w8 bytes) ≡ bytes
one_byte [] e h = absurd (omega arith)
one_byte (b ∷ []) e h = ap (λ n. n ∷ []) (omega (arith, h 0))
one_byte (b ∷ c ∷ bs) e h = absurd (omega arith)

pub wide8 : IsWide w8 (2 ^ 8)
wide8 = record { len = λ n. refl; back = one_byte; again = λ n lt. omega arith; below = λ bytes fits. omega (arith, fits 0) }

pub wide16 : IsWide w16 (2 ^ 16)
wide16 = record { len = λ n. refl; back = λ bytes len fits. le_bytes_2 bytes _ len fits refl; again = λ n lt. from_le_bytes-to_le_bytes_2 n lt; below = λ bytes fits. omega (arith, fits 0, fits 1) }

pub wide32 : IsWide w32 (2 ^ 32)
wide32 = record { len = λ n. refl; back = λ bytes len fits. le_bytes_4 bytes _ len fits refl; again = λ n lt. from_le_bytes-to_le_bytes_4 n lt; below = λ bytes fits. omega (arith, fits 0, fits 1, fits 2, fits 3) }

pub wide64 : IsWide w64 (2 ^ 64)
wide64 = record { len = λ n. refl; back = λ bytes len fits. le_bytes_8 bytes _ len fits refl; again = λ n lt. from_le_bytes-to_le_bytes_8 n lt; below = λ bytes fits. omega (arith, fits 0, fits 1, fits 2, fits 3, fits 4, fits 5, fits 6, fits 7) }

pub number_takes : (w : Width) (limit : ℕ) (wide : IsWide w limit) (bytes : List ℕ) (x : ℕ × List ℕ) → AreBytes bytes → number_at w bytes ≡ Ok x → bytes ≡ to_le_bytes w x.0 ++ x.1
number_takes w limit wide bytes x fits e =
    let g = guard_ok (nat_lt (length bytes) (byte_len w)) (cut bytes) (from_le_bytes w (take (byte_len w) bytes), drop (byte_len w) bytes) x e in
    let long : byte_len w ≤ length bytes = ltb-false _ _ g.0 in
    let split : bytes ≡ take (byte_len w) bytes ++ drop (byte_len w) bytes = sym (take-append-drop (byte_len w) bytes) in
    let front = wide.back (take (byte_len w) bytes) (omega (arith, length-take (byte_len w) bytes)) (AreBytes-front bytes (take (byte_len w) bytes) (drop (byte_len w) bytes) fits split) in
    subst (λ (y : ℕ × List ℕ). bytes ≡ to_le_bytes w y.0 ++ y.1) g.1 (split ∙ ap (λ (t : List ℕ). t ++ drop (byte_len w) bytes) (sym front))

pub number_again : (w : Width) (limit : ℕ) (wide : IsWide w limit) (n : ℕ) (rest : List ℕ) → n < limit → number_at w (to_le_bytes w n ++ rest) ≡ Ok (n, rest)
number_again w limit wide n rest lt =
    let len = wide.len n in
    let long : nat_lt (length (to_le_bytes w n ++ rest)) (byte_len w) ≡ false = le-ltb _ _ (omega (arith, length-append (to_le_bytes w n) rest)) in
    rw (long, take_at (to_le_bytes w n) rest (byte_len w) len, drop_at (to_le_bytes w n) rest (byte_len w) len, wide.again n lt) refl

pub number_lawful : (w : Width) (limit : ℕ) (rule : ℕ → Bool) → IsWide w limit → ((n : ℕ) → rule n ≡ true → n < limit) → Lawful ℕ (number w rule) (byte_len w)
number_lawful w limit rule wide range = record {
  takes = λ bytes x fits e.
      let b = bind_ok (number_at w bytes) (λ n. cond (rule n.0) (Ok n) (Err (bad bytes))) x e in
      let g = guard_passed (rule b.0.0) (bad bytes) b.0 x b.2 in
      let t = number_takes w limit wide bytes b.0 fits b.1 in
      subst (λ (y : ℕ × List ℕ). (bytes ≡ to_le_bytes w y.0 ++ y.1) × (rule y.0 ≡ true)) g.1 (t, g.0);
  again = λ n rest ok. rw (number_again w limit wide n rest (range n ok), ok) refl;
  bound = λ n ok. omega (arith, wide.len n);
}

-- ---- a length and bytes

pub counted_takes : (w : Width) (limit : ℕ) (wide : IsWide w limit) (bytes : List ℕ) (x : List ℕ × List ℕ) → AreBytes bytes → counted_at w bytes ≡ Ok x → bytes ≡ (to_le_bytes w (length x.0) ++ x.0) ++ x.1
counted_takes w limit wide bytes x fits e =
    let b = bind_ok (number_at w bytes) (λ n. cond (nat_lt (length n.1) n.0) (Err (cut bytes)) (Ok (take n.0 n.1, drop n.0 n.1))) x e in
    let n = b.0 in
    let t = number_takes w limit wide bytes n fits b.1 in
    let g = guard_ok (nat_lt (length n.1) n.0) (cut bytes) (take n.0 n.1, drop n.0 n.1) x b.2 in
    let long : n.0 ≤ length n.1 = ltb-false _ _ g.0 in
    let len : length (take n.0 n.1) ≡ n.0 = omega (arith, length-take n.0 n.1) in
    let joined : to_le_bytes w n.0 ++ n.1 ≡ (to_le_bytes w n.0 ++ take n.0 n.1) ++ drop n.0 n.1 = ap (λ (r : List ℕ). to_le_bytes w n.0 ++ r) (sym (take-append-drop n.0 n.1)) ∙ sym (append_assoc (to_le_bytes w n.0) (take n.0 n.1) (drop n.0 n.1)) in
    let made : bytes ≡ (to_le_bytes w (length (take n.0 n.1)) ++ take n.0 n.1) ++ drop n.0 n.1 = t ∙ joined ∙ ap (λ (k : ℕ). (to_le_bytes w k ++ take n.0 n.1) ++ drop n.0 n.1) (sym len) in
    subst (λ (y : List ℕ × List ℕ). bytes ≡ (to_le_bytes w (length y.0) ++ y.0) ++ y.1) g.1 made

pub counted_again : (w : Width) (limit : ℕ) (wide : IsWide w limit) (text rest : List ℕ) → length text < limit → counted_at w ((to_le_bytes w (length text) ++ text) ++ rest) ≡ Ok (text, rest)
counted_again w limit wide text rest lt =
    let long : nat_lt (length (text ++ rest)) (length text) ≡ false = le-ltb _ _ (omega (arith, length-append text rest)) in
    ap (counted_at w) (append_assoc (to_le_bytes w (length text)) text rest)
    ∙ rw (number_again w limit wide (length text) (text ++ rest) lt, long, take_at text rest (length text) refl, drop_at text rest (length text) refl) refl

pub counted_lawful : (w : Width) (limit most : ℕ) (rule : List ℕ → Bool) → IsWide w limit → ((text : List ℕ) → rule text ≡ true → (length text < limit) × (length text ≤ most)) → Lawful (List ℕ) (counted w rule) (byte_len w + most)
counted_lawful w limit most rule wide range = record {
  takes = λ bytes x fits e.
      let b = bind_ok (counted_at w bytes) (λ text. cond (rule text.0) (Ok text) (Err (bad bytes))) x e in
      let g = guard_passed (rule b.0.0) (bad bytes) b.0 x b.2 in
      let t = counted_takes w limit wide bytes b.0 fits b.1 in
      subst (λ (y : List ℕ × List ℕ). (bytes ≡ (to_le_bytes w (length y.0) ++ y.0) ++ y.1) × (rule y.0 ≡ true)) g.1 (t, g.0);
  again = λ text rest ok. rw (counted_again w limit wide text rest (range text ok).0, ok) refl;
  bound = λ text ok. omega (arith, wide.len (length text), range text ok, length-append (to_le_bytes w (length text)) text);
}

-- ---- no field, and one after another

pub nothing_lawful : Lawful (Unit {0}) nothing 0
nothing_lawful = record {
  takes = λ bytes x fits e. (ap (λ (y : Unit {0} × List ℕ). y.1) (ok_is (tt, bytes) x e), refl);
  again = λ x rest ok. refl;
  bound = λ x ok. omega arith;
}

pub then_lawful : {A B : Type 0} (f : Field A) (g : A → Field B) (m n : ℕ) → Lawful A f m → ((x : A) → Lawful B (g x) n) → Lawful (A × B) (f & g) (m + n)
then_lawful {A = A} {B = B} f g m n first second = record {
  takes = λ bytes x fits e.
      let b = bind_ok (f.at bytes) (λ x. (g x.0).at x.1 >>= λ y. Ok ((x.0, y.0), y.1)) x e in
      let c = bind_ok ((g b.0.0).at b.0.1) (λ y. Ok ((b.0.0, y.0), y.1)) x b.2 in
      let t = first.takes bytes b.0 fits b.1 in
      let u = (second b.0.0).takes b.0.1 c.0 (AreBytes-rest bytes (f.spelling b.0.0) b.0.1 fits t.0) c.1 in
      let parts : bytes ≡ (f.spelling b.0.0 ++ (g b.0.0).spelling c.0.0) ++ c.0.1 = t.0 ∙ ap (λ (r : List ℕ). f.spelling b.0.0 ++ r) u.0 ∙ sym (append_assoc (f.spelling b.0.0) ((g b.0.0).spelling c.0.0) c.0.1) in
      subst (λ (y : (A × B) × List ℕ). (bytes ≡ (f.spelling y.0.0 ++ (g y.0.0).spelling y.0.1) ++ y.1) × ((f.fits y.0.0 && (g y.0.0).fits y.0.1) ≡ true)) (ok_is ((b.0.0, c.0.0), c.0.1) x c.2) (parts, and_from _ _ t.1 u.1);
  again = λ x rest ok.
      let both = and_parts (f.fits x.0) ((g x.0).fits x.1) ok in
      ap (λ (bytes : List ℕ). f.at bytes >>= λ x. (g x.0).at x.1 >>= λ y. Ok ((x.0, y.0), y.1)) (append_assoc (f.spelling x.0) ((g x.0).spelling x.1) rest)
      ∙ rw (first.again x.0 ((g x.0).spelling x.1 ++ rest) both.0, (second x.0).again x.1 rest both.1) refl;
  bound = λ x ok.
      let both = and_parts (f.fits x.0) ((g x.0).fits x.1) ok in
      omega (arith, first.bound x.0 both.0, (second x.0).bound x.1 both.1, length-append (f.spelling x.0) ((g x.0).spelling x.1));
}

-- ---- a choice by its number

chosen_is : {A : Type 0} (fault : BodyFault) (rest : List ℕ) (o : Option A) (x : A × List ℕ) → chosen fault rest o ≡ Ok x → (o ≡ Some x.0) × (rest ≡ x.1)
chosen_is {A = A} fault rest (Some v) x e = (ap (λ (y : A × List ℕ). Some y.0) (ok_is (v, rest) x e), ap (λ (y : A × List ℕ). y.1) (ok_is (v, rest) x e))
chosen_is fault rest None x e = absurd cc

pub choice_lawful : {A : Type 0} (code : A → ℕ) (value : ℕ → Option A) → ((x : A) → value (code x) ≡ Some x) → ((n : ℕ) (x : A) → value n ≡ Some x → code x ≡ n) → ((x : A) → code x < 2 ^ 8) → Lawful A (choice code value) 1
choice_lawful {A = A} code value back forth small = record {
  takes = λ bytes x fits e.
      let b = bind_ok (number_at w8 bytes) (λ n. chosen (bad bytes) n.1 (value n.0)) x e in
      let t = number_takes w8 (2 ^ 8) wide8 bytes b.0 fits b.1 in
      let c = chosen_is (bad bytes) b.0.1 (value b.0.0) x b.2 in
      (t ∙ ap (λ (k : ℕ). to_le_bytes w8 k ++ b.0.1) (sym (forth b.0.0 x.0 c.0)) ∙ ap (λ (r : List ℕ). to_le_bytes w8 (code x.0) ++ r) c.1, refl);
  again = λ x rest ok. rw (number_again w8 (2 ^ 8) wide8 (code x) rest (small x), back x) refl;
  bound = λ x ok. omega arith;
}

pub held_lawful : {A B : Type 0} (made : A → B) (parts : B → A) (f : Field A) (most : ℕ) → ((y : B) → made (parts y) ≡ y) → ((x : A) → parts (made x) ≡ x) → Lawful A f most → Lawful B (held made parts f) most
held_lawful {A = A} {B = B} made parts f most there here lawful = record {
  takes = λ bytes y fits e.
      let b = bind_ok (f.at bytes) (λ x. Ok (made x.0, x.1)) y e in
      let t = lawful.takes bytes b.0 fits b.1 in
      let same : (bytes ≡ f.spelling (parts (made b.0.0)) ++ b.0.1) × (f.fits (parts (made b.0.0)) ≡ true) = subst (λ (x : A). (bytes ≡ f.spelling x ++ b.0.1) × (f.fits x ≡ true)) (sym (here b.0.0)) t in
      subst (λ (z : B × List ℕ). (bytes ≡ f.spelling (parts z.0) ++ z.1) × (f.fits (parts z.0) ≡ true)) (ok_is (made b.0.0, b.0.1) y b.2) same;
  again = λ y rest ok. rw (lawful.again (parts y) rest ok, there y) refl;
  bound = λ y ok. lawful.bound (parts y) ok;
}

-- ---- one more rule

pub such_that_lawful : {A : Type 0} (rule : A → Bool) (f : Field A) (most : ℕ) → Lawful A f most → Lawful A (such_that rule f) most
such_that_lawful {A = A} rule f most lawful = record {
  takes = λ bytes x fits e.
      let b = bind_ok (f.at bytes) (λ x. cond (rule x.0) (Ok x) (Err (bad bytes))) x e in
      let g = guard_passed (rule b.0.0) (bad bytes) b.0 x b.2 in
      let t = lawful.takes bytes b.0 fits b.1 in
      subst (λ (y : A × List ℕ). (bytes ≡ f.spelling y.0 ++ y.1) × ((f.fits y.0 && rule y.0) ≡ true)) g.1 (t.0, and_from _ _ t.1 g.0);
  again = λ x rest ok.
      let both = and_parts (f.fits x) (rule x) ok in
      rw (lawful.again x rest both.0, both.1) refl;
  bound = λ x ok. lawful.bound x (and_parts (f.fits x) (rule x) ok).0;
}

-- ---- lists

module _ {A : Type 0} (item : List A → Field A) (most : ℕ) (lawful : (before : List A) → Lawful A (item before) most) (same : (before : List A) (x : A) → (item before).spelling x ≡ (item []).spelling x) where
  abbrev spelled : A → List ℕ
  spelled = (item []).spelling

  abbrev fitting : List A → A → Bool
  fitting before x = (item before).fits x

  items_takes : (n : ℕ) (before : List A) (bytes : List ℕ) (x : List A × List ℕ) → AreBytes bytes → items_at item n before bytes ≡ Ok x
      → (bytes ≡ flat_map spelled x.0 ++ x.1) × (length x.0 ≡ n) × (each_after fitting before x.0 ≡ true)
  items_takes zero before bytes x fits e =
      subst (λ (y : List A × List ℕ). (bytes ≡ flat_map spelled y.0 ++ y.1) × (length y.0 ≡ 0) × (each_after fitting before y.0 ≡ true)) (ok_is ([], bytes) x e) (refl, refl, refl)
  items_takes (suc n) before bytes x fits e =
      let b = bind_ok ((item before).at bytes) (λ x. items_at item n (before ++ x.0 ∷ []) x.1 >>= λ xs. Ok (x.0 ∷ xs.0, xs.1)) x e in
      let c = bind_ok (items_at item n (before ++ b.0.0 ∷ []) b.0.1) (λ xs. Ok (b.0.0 ∷ xs.0, xs.1)) x b.2 in
      let t = (lawful before).takes bytes b.0 fits b.1 in
      let u = items_takes n (before ++ b.0.0 ∷ []) b.0.1 c.0 (AreBytes-rest bytes ((item before).spelling b.0.0) b.0.1 fits t.0) c.1 in
      let parts : bytes ≡ flat_map spelled (b.0.0 ∷ c.0.0) ++ c.0.1 =
      t.0 ∙ ap (λ (s : List ℕ). s ++ b.0.1) (same before b.0.0) ∙ ap (λ (r : List ℕ). spelled b.0.0 ++ r) u.0 ∙ sym (append_assoc (spelled b.0.0) (flat_map spelled c.0.0) c.0.1) in
      subst (λ (y : List A × List ℕ). (bytes ≡ flat_map spelled y.0 ++ y.1) × (length y.0 ≡ suc n) × (each_after fitting before y.0 ≡ true)) (ok_is (b.0.0 ∷ c.0.0, c.0.1) x c.2) (parts, ap suc u.1, and_from _ _ t.1 u.2)

  items_again : (xs before : List A) (rest : List ℕ) → each_after fitting before xs ≡ true → items_at item (length xs) before (flat_map spelled xs ++ rest) ≡ Ok (xs, rest)
  items_again [] before rest ok = refl
  items_again (x ∷ xs) before rest ok =
      let both = and_parts (fitting before x) (each_after fitting (before ++ x ∷ []) xs) ok in
      let split : flat_map spelled (x ∷ xs) ++ rest ≡ (item before).spelling x ++ (flat_map spelled xs ++ rest) =
      append_assoc (spelled x) (flat_map spelled xs) rest ∙ ap (λ (s : List ℕ). s ++ (flat_map spelled xs ++ rest)) (sym (same before x)) in
      ap (items_at item (suc (length xs)) before) split
      ∙ rw ((lawful before).again x (flat_map spelled xs ++ rest) both.0, items_again xs (before ++ x ∷ []) rest both.1) refl

  items_bound : (xs before : List A) → each_after fitting before xs ≡ true → length (flat_map spelled xs) ≤ length xs * most
  items_bound [] before ok = omega arith
  items_bound (x ∷ xs) before ok =
      let both = and_parts (fitting before x) (each_after fitting (before ++ x ∷ []) xs) ok in
      omega (arith, (lawful before).bound x both.0, ap (λ (s : List ℕ). length s) (same before x), items_bound xs (before ++ x ∷ []) both.1, length-append (spelled x) (flat_map spelled xs))

  pub list_lawful : (many : ℕ → Bool) (max : ℕ) → ((n : ℕ) → many n ≡ true → (n ≤ max) × (n < 2 ^ 8)) → Lawful (List A) (list many item) (1 + max * most)
  list_lawful many max range = record {
    takes = λ bytes x fits e.
        let b = bind_ok (number_at w8 bytes) (λ n. cond (many n.0) (items_at item n.0 [] n.1) (Err (bad bytes))) x e in
        let g = guard_is (bad bytes) (many b.0.0) (items_at item b.0.0 [] b.0.1) x b.2 in
        let t = number_takes w8 (2 ^ 8) wide8 bytes b.0 fits b.1 in
        let u = items_takes b.0.0 [] b.0.1 x (AreBytes-rest bytes (to_le_bytes w8 b.0.0) b.0.1 fits t) g.1 in (
          t ∙ ap (λ (k : ℕ). to_le_bytes w8 k ++ b.0.1) (sym u.1) ∙ ap (λ (r : List ℕ). to_le_bytes w8 (length x.0) ++ r) u.0 ∙ sym (append_assoc (to_le_bytes w8 (length x.0)) (flat_map spelled x.0) x.1),
          and_from _ _ (ap many u.1 ∙ g.0) u.2,
        );
    again = λ xs rest ok.
        let both = and_parts (many (length xs)) (each_after fitting [] xs) ok in
        ap (list many item).at (append_assoc (to_le_bytes w8 (length xs)) (flat_map spelled xs) rest)
        ∙ rw (number_again w8 (2 ^ 8) wide8 (length xs) (flat_map spelled xs ++ rest) (range (length xs) both.0).1, both.0) (items_again xs [] rest both.1);
    bound = λ xs ok.
        let both = and_parts (many (length xs)) (each_after fitting [] xs) ok in
        let m = mul-le (length xs) most max most (range (length xs) both.0).0 (omega arith) in
        omega (arith, m, items_bound xs [] both.1, length-append (to_le_bytes w8 (length xs)) (flat_map spelled xs));
  }
