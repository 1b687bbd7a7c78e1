-- What stands at the front of a stream, whatever follows.
use Rattle.std.proofs.Common.{◌≡◌, ℕ, ◌+◌, ◌-◌, ◌<◌, ◌≤◌, true, cond, List, ◌++◌, length, take, drop, Result, Ok, Err, refl, sym, ap, ◌∙◌, append_assoc, arith, inl, inr}
use Rattle.std.specs.Prelude.{◌&&◌, ◌⊎◌, nat_lt, nat_le}
use Rattle.std.specs.Int.{w32, to_le_bytes, from_le_bytes}
use Rattle.std.proofs.lemmas.Bool.{ltb-true, le-ltb, lt-ltb, le-leb, leb-true, and_parts, cases_lt}
use Rattle.std.proofs.lemmas.Nat.{le_bytes_4}
use Rattle.std.proofs.lemmas.List.{append-nil, length-append, length-take, length-drop, take_at, drop_at, take-append-drop, take-append-le, drop-append-le}
use Rattle.sk_msg.specs.declared.content.Content.{Content}
use Rattle.sk_msg.specs.Rules.{is_message}
use Rattle.sk_wire.specs.declared.fault.What.TheVariants.{Short, TooLong}
use Rattle.sk_wire.specs.declared.fault.BodyFault.{BodyFault}
use Rattle.sk_wire.specs.declared.fault.WireFault.{WireFault}
use Rattle.sk_wire.specs.Grammar.{body, spelling, body_at}
use Rattle.sk_wire.specs.Faults.{announced, FrameFaults}
use Rattle.sk_wire.specs.Stream.{AreBytes, Announces, is_open}
use Rattle.sk_wire.specs.Parts.{Open, Whole, Broken, front_by, front}
use Rattle.sk_wire.proofs.FieldLaws.{AreBytes-rest, AreBytes-front}
use Rattle.sk_wire.proofs.GrammarLaws.{body_again, body_takes, body_bound, announced_is, length_spelling}
use Rattle.sk_wire.proofs.KindFaultLaws.{body_fails, body_faulty}

-- ## The five cases

pub data Case (bytes : List ℕ) : Type 0 where
  short : length bytes < 4 → Case bytes
  low : 4 ≤ length bytes → announced bytes < 2 → Case bytes
  high : 4 ≤ length bytes → 8192 < announced bytes → Case bytes
  cut : Announces bytes → length bytes < 4 + announced bytes → Case bytes
  full : Announces bytes → 4 + announced bytes ≤ length bytes → Case bytes

pub case_of : (bytes : List ℕ) → Case bytes
case_of bytes =
    elim (cases_lt (length bytes) 4) [
      | inl lt ↦ short lt
      | inr head ↦ elim (cases_lt (announced bytes) 2) [
        | inl lt ↦ low head lt
        | inr least ↦ elim (cases_lt 8192 (announced bytes)) [
          | inl gt ↦ high head gt
          | inr most ↦
              let a : Announces bytes = record { head = head; least = least; most = most } in
              elim (cases_lt (length bytes) (4 + announced bytes)) [ inl lt ↦ cut a lt | inr le ↦ full a le ]
        ]
      ]
    ]

abbrev pub body_of : List ℕ → List ℕ
body_of bytes = take (announced bytes) (drop 4 bytes)

abbrev pub behind_of : List ℕ → List ℕ
behind_of bytes = drop (announced bytes) (drop 4 bytes)

pub front-short : (bytes : List ℕ) → length bytes < 4 → front bytes ≡ Open
unfolding front
front-short bytes lt = rw (lt-ltb (length bytes) 4 lt) refl

pub front-low : (bytes : List ℕ) → 4 ≤ length bytes → announced bytes < 2 → front bytes ≡ Broken (record { at = 0; what = Short })
unfolding front
front-low bytes head lt = rw (le-ltb (length bytes) 4 head, lt-ltb (announced bytes) 2 lt) refl

pub front-high : (bytes : List ℕ) → 4 ≤ length bytes → 8192 < announced bytes → front bytes ≡ Broken (record { at = 0; what = TooLong })
unfolding front
front-high bytes head gt =
    let more : 2 ≤ announced bytes = omega arith in
    rw (le-ltb (length bytes) 4 head, le-ltb (announced bytes) 2 more, lt-ltb 8192 (announced bytes) gt) refl

pub front-cut : (bytes : List ℕ) → Announces bytes → length bytes < 4 + announced bytes → front bytes ≡ Open
unfolding front
front-cut bytes a lt = rw (le-ltb (length bytes) 4 a.head, le-ltb (announced bytes) 2 a.least, le-ltb 8192 (announced bytes) a.most, lt-ltb (length bytes) (4 + announced bytes) lt) refl

-- a whole body is judged by itself
pub front-full : (bytes : List ℕ) → Announces bytes → 4 + announced bytes ≤ length bytes → front bytes ≡ front_by (announced bytes) (behind_of bytes) (body_at (body_of bytes))
unfolding front
front-full bytes a le = rw (le-ltb (length bytes) 4 a.head, le-ltb (announced bytes) 2 a.least, le-ltb 8192 (announced bytes) a.most, le-ltb (length bytes) (4 + announced bytes) le) refl

-- ## An open rest

open_short : (bytes : List ℕ) → length bytes < 4 → is_open bytes ≡ true
unfolding is_open
open_short bytes lt = rw (lt-ltb (length bytes) 4 lt) refl

open_cut : (bytes : List ℕ) → Announces bytes → length bytes < 4 + announced bytes → is_open bytes ≡ true
unfolding is_open
open_cut bytes a lt = rw (le-ltb (length bytes) 4 a.head, le-leb 2 (announced bytes) a.least, le-leb (announced bytes) 8192 a.most, lt-ltb (length bytes) (4 + announced bytes) lt) refl

-- what an open rest is
pub open_known : (bytes : List ℕ) → is_open bytes ≡ true → (length bytes < 4) ⊎ (Announces bytes × (length bytes < 4 + announced bytes))
unfolding is_open
open_known bytes e =
    elim (cases_lt (length bytes) 4) [
      | inl lt ↦ inl lt
      | inr head ↦
          let test = (nat_le 2 (announced bytes) && (nat_le (announced bytes) 8192 && nat_lt (length bytes) (4 + announced bytes))) in
          let at : test ≡ true = sym (ap (λ b. cond b true test) (le-ltb (length bytes) 4 head)) ∙ e in
          let p = and_parts (nat_le 2 (announced bytes)) (nat_le (announced bytes) 8192 && nat_lt (length bytes) (4 + announced bytes)) at in
          let q = and_parts (nat_le (announced bytes) 8192) (nat_lt (length bytes) (4 + announced bytes)) p.1 in
          inr (record { head = head; least = leb-true 2 (announced bytes) p.0; most = leb-true (announced bytes) 8192 q.0 }, ltb-true (length bytes) (4 + announced bytes) q.1)
    ]

pub front-open : (bytes : List ℕ) → is_open bytes ≡ true → front bytes ≡ Open
front-open bytes e = elim (open_known bytes e) [ inl lt ↦ front-short bytes lt | inr a ↦ front-cut bytes a.0 a.1 ]

not_whole_or_broken : (size : ℕ) (behind : List ℕ) (r : Result Content BodyFault) → front_by size behind r ≡ Open → ⊥
not_whole_or_broken size behind (Ok m) e = cc
not_whole_or_broken size behind (Err f) e = cc

pub open_front : (bytes : List ℕ) → front bytes ≡ Open → is_open bytes ≡ true
open_front bytes e =
    elim (case_of bytes) [
      | short lt ↦ open_short bytes lt
      | low head lt ↦ (let f = front-low bytes head lt in absurd cc)
      | high head gt ↦ (let f = front-high bytes head gt in absurd cc)
      | cut a lt ↦ open_cut bytes a lt
      | full a le ↦ absurd (not_whole_or_broken (announced bytes) (behind_of bytes) (body_at (body_of bytes)) (sym (front-full bytes a le) ∙ e))
    ]

-- ## A message

pub record IsWhole (bytes : List ℕ) (m : Content) (behind : List ℕ) : Type 0 where
  pub announces : Announces bytes
  pub enough : 4 + announced bytes ≤ length bytes
  pub behind_is : behind_of bytes ≡ behind
  pub reads : body_at (body_of bytes) ≡ Ok m

whole_by : (size : ℕ) (there : List ℕ) (r : Result Content BodyFault) (m : Content) (behind : List ℕ) → front_by size there r ≡ Whole m behind → (there ≡ behind) × (r ≡ Ok m)
whole_by size there (Ok n) m behind e = (cc, ap (λ x. Ok x) (let same : n ≡ m = cc in same))
whole_by size there (Err f) m behind e = absurd cc

pub whole_known : (bytes : List ℕ) (m : Content) (behind : List ℕ) → front bytes ≡ Whole m behind → IsWhole bytes m behind
whole_known bytes m behind e =
    elim (case_of bytes) [
      | short lt ↦ (let f = front-short bytes lt in absurd cc)
      | low head lt ↦ (let f = front-low bytes head lt in absurd cc)
      | high head gt ↦ (let f = front-high bytes head gt in absurd cc)
      | cut a lt ↦ (let f = front-cut bytes a lt in absurd cc)
      | full a le ↦
          let w = whole_by (announced bytes) (behind_of bytes) (body_at (body_of bytes)) m behind (sym (front-full bytes a le) ∙ e) in
          record { announces = a; enough = le; behind_is = w.0; reads = w.1 }
    ]

-- how many bytes are behind a message
pub length_behind : (bytes : List ℕ) (m : Content) (behind : List ℕ) → front bytes ≡ Whole m behind → length bytes ≡ 4 + announced bytes + length behind
length_behind bytes m behind e =
    let w = whole_known bytes m behind e in
    let le = w.enough in
    omega (arith, ap (λ (xs : List ℕ). length xs) w.behind_is, length-drop (announced bytes) (drop 4 bytes), length-drop 4 bytes)

pub whole_shorter : (bytes : List ℕ) (m : Content) (behind : List ℕ) → front bytes ≡ Whole m behind → length behind < length bytes
whole_shorter bytes m behind e = let l = length_behind bytes m behind e in omega arith

spelled_announces : (m : Content) (x : List ℕ) → is_message m ≡ true → Announces (spelling m ++ x)
spelled_announces m x ok =
    let b = body_bound m ok in
    let a = announced_is m x ok in
    record { head = omega (arith, length-append (spelling m) x, length_spelling m); least = omega arith; most = omega arith }

spelled_apart : (m : Content) (x : List ℕ) → drop 4 (spelling m ++ x) ≡ body m ++ x
unfolding spelling
spelled_apart m x =
    ap (drop 4) (append_assoc (to_le_bytes w32 (length (body m))) (body m) x)
    ∙ drop_at (to_le_bytes w32 (length (body m))) (body m ++ x) 4 refl

-- a spelled message stands at the front
pub front-spelled : (m : Content) (x : List ℕ) → is_message m ≡ true → front (spelling m ++ x) ≡ Whole m x
front-spelled m x ok =
    let bytes = spelling m ++ x in
    let a = announced_is m x ok in
    let split = spelled_apart m x in
    let there : body_of bytes ≡ body m = ap (λ n. take n (drop 4 bytes)) a ∙ ap (take (length (body m))) split ∙ take_at (body m) x (length (body m)) refl in
    let behind : behind_of bytes ≡ x = ap (λ n. drop n (drop 4 bytes)) a ∙ ap (drop (length (body m))) split ∙ drop_at (body m) x (length (body m)) refl in
    front-full bytes (spelled_announces m x ok) (omega (arith, a, length-append (spelling m) x, length_spelling m))
    ∙ ap (front_by (announced bytes) (behind_of bytes)) (ap body_at there ∙ body_again m ok)
    ∙ ap (λ (xs : List ℕ). Whole m xs) behind

-- the four bytes of a length are its spelling
head_is : (bytes : List ℕ) → AreBytes bytes → 4 ≤ length bytes → to_le_bytes w32 (announced bytes) ≡ take 4 bytes
unfolding announced
head_is bytes fits le = le_bytes_4 (take 4 bytes) (announced bytes) (omega (arith, length-take 4 bytes)) (AreBytes-front bytes (take 4 bytes) (drop 4 bytes) fits (sym (take-append-drop 4 bytes))) refl

-- what stands at the front of bytes is a message's spelling
pub whole_spelled : (bytes : List ℕ) (m : Content) (behind : List ℕ) → AreBytes bytes → front bytes ≡ Whole m behind → (is_message m ≡ true) × (bytes ≡ spelling m ++ behind)
unfolding spelling
whole_spelled bytes m behind fits e =
    let w = whole_known bytes m behind e in
    let n = announced bytes in
    let split : bytes ≡ take 4 bytes ++ drop 4 bytes = sym (take-append-drop 4 bytes) in
    let split2 : drop 4 bytes ≡ body_of bytes ++ behind_of bytes = sym (take-append-drop n (drop 4 bytes)) in
    let inside = AreBytes-front (drop 4 bytes) (body_of bytes) (behind_of bytes) (AreBytes-rest bytes (take 4 bytes) (drop 4 bytes) fits split) split2 in
    let t = body_takes (body_of bytes) m inside w.reads in
    let le = w.enough in
    let len : n ≡ length (body m) = omega (arith, length-take n (drop 4 bytes), length-drop 4 bytes, ap (λ (xs : List ℕ). length xs) t.0) in (
      t.1,
      split
          ∙ ap (λ (xs : List ℕ). take 4 bytes ++ xs) split2
          ∙ ap (λ (xs : List ℕ). xs ++ (body_of bytes ++ behind_of bytes)) (sym (head_is bytes fits w.announces.head))
          ∙ ap (λ (xs : List ℕ). to_le_bytes w32 n ++ (xs ++ behind_of bytes)) t.0
          ∙ ap (λ (xs : List ℕ). to_le_bytes w32 n ++ (body m ++ xs)) w.behind_is
          ∙ ap (λ (k : ℕ). to_le_bytes w32 k ++ (body m ++ behind)) len
          ∙ sym (append_assoc (to_le_bytes w32 (length (body m))) (body m) behind),
    )

-- ## A fault

broken_by : (size : ℕ) (there : List ℕ) (r : Result Content BodyFault) (f : WireFault) → front_by size there r ≡ Broken f → (e : BodyFault) × (r ≡ Err e) × (f ≡ record { at = 4 + size - e.left; what = e.what })
broken_by size there (Ok m) f h = absurd cc
broken_by size there (Err e) f h = (e, refl, cc)

-- the fault at the front is the one of the table
pub front_faults : (bytes : List ℕ) (f : WireFault) → AreBytes bytes → front bytes ≡ Broken f → FrameFaults bytes f
front_faults bytes f fits e =
    elim (case_of bytes) [
      | short lt ↦ (let o = front-short bytes lt in absurd cc)
      | low head lt ↦ (let b = front-low bytes head lt in (head, inl (lt, cc)))
      | high head gt ↦ (let b = front-high bytes head gt in (head, inr (inl (gt, cc))))
      | cut a lt ↦ (let o = front-cut bytes a lt in absurd cc)
      | full a le ↦
          let b = broken_by (announced bytes) (behind_of bytes) (body_at (body_of bytes)) f (sym (front-full bytes a le) ∙ e) in
          let behind = AreBytes-rest bytes (take 4 bytes) (drop 4 bytes) fits (sym (take-append-drop 4 bytes)) in
          let inside = AreBytes-front (drop 4 bytes) (body_of bytes) (behind_of bytes) behind (sym (take-append-drop (announced bytes) (drop 4 bytes))) in
          (a.head, inr (inr (a.least, a.most, le, (b.0, body_fails (body_of bytes) b.0 inside b.1, b.2))))
    ]

pub faults_front : (bytes : List ℕ) (f : WireFault) → FrameFaults bytes f → front bytes ≡ Broken f
faults_front bytes f h =
    elim h.1 [
      | inl c ↦ front-low bytes h.0 c.0 ∙ ap (λ (x : WireFault). Broken x) (sym c.1)
      | inr more ↦ elim more [
        | inl c ↦ front-high bytes h.0 c.0 ∙ ap (λ (x : WireFault). Broken x) (sym c.1)
        | inr c ↦
            let a : Announces bytes = record { head = h.0; least = c.0; most = c.1 } in
            front-full bytes a c.2 ∙ ap (front_by (announced bytes) (behind_of bytes)) (body_faulty (body_of bytes) c.3.0 c.3.1) ∙ ap (λ (x : WireFault). Broken x) (sym c.3.2)
      ]
    ]

-- a fault stands within what is there
pub broken_within : (bytes : List ℕ) (f : WireFault) → front bytes ≡ Broken f → f.at ≤ length bytes
broken_within bytes f e =
    elim (case_of bytes) [
      | short lt ↦ (let o = front-short bytes lt in absurd cc)
      | low head lt ↦ (let b = front-low bytes head lt in let s : record { at = 0; what = Short } ≡ f = cc in let z = ap (λ (x : WireFault). x.at) s in omega (arith, z))
      | high head gt ↦ (let b = front-high bytes head gt in let s : record { at = 0; what = TooLong } ≡ f = cc in let z = ap (λ (x : WireFault). x.at) s in omega (arith, z))
      | cut a lt ↦ (let o = front-cut bytes a lt in absurd cc)
      | full a le ↦
          let b = broken_by (announced bytes) (behind_of bytes) (body_at (body_of bytes)) f (sym (front-full bytes a le) ∙ e) in
          let place = ap (λ (x : WireFault). x.at) b.2 in
          omega (arith, place, le)
    ]

-- ## Whatever follows

announced-more : (xs ys : List ℕ) → 4 ≤ length xs → announced (xs ++ ys) ≡ announced xs
unfolding announced
announced-more xs ys le = ap (from_le_bytes w32) (take-append-le 4 xs ys le)

announces-more : (xs ys : List ℕ) → Announces xs → Announces (xs ++ ys)
announces-more xs ys a =
    let same = announced-more xs ys a.head in
    record { head = omega (arith, a.head, length-append xs ys); least = omega (arith, a.least); most = omega (arith, a.most) }

module _ (xs ys : List ℕ) (a : Announces xs) (le : 4 + announced xs ≤ length xs) where
  behind_4 : drop 4 (xs ++ ys) ≡ drop 4 xs ++ ys
  behind_4 = drop-append-le 4 xs ys a.head

  inside : announced xs ≤ length (drop 4 xs)
  inside = omega (arith, length-drop 4 xs)

  same_body : body_of (xs ++ ys) ≡ body_of xs
  same_body =
      ap (λ n. take n (drop 4 (xs ++ ys))) (announced-more xs ys a.head)
      ∙ ap (take (announced xs)) behind_4 ∙ take-append-le (announced xs) (drop 4 xs) ys inside

  more_behind : behind_of (xs ++ ys) ≡ behind_of xs ++ ys
  more_behind =
      ap (λ n. drop n (drop 4 (xs ++ ys))) (announced-more xs ys a.head)
      ∙ ap (drop (announced xs)) behind_4 ∙ drop-append-le (announced xs) (drop 4 xs) ys inside

  front-full-more : front (xs ++ ys) ≡ front_by (announced xs) (behind_of xs ++ ys) (body_at (body_of xs))
  front-full-more =
      front-full (xs ++ ys) (announces-more xs ys a) (omega (arith, announced-more xs ys a.head, length-append xs ys))
      ∙ ap (λ n. front_by n (behind_of (xs ++ ys)) (body_at (body_of (xs ++ ys)))) (announced-more xs ys a.head)
      ∙ ap (λ (l : List ℕ). front_by (announced xs) l (body_at (body_of (xs ++ ys)))) more_behind
      ∙ ap (λ (l : List ℕ). front_by (announced xs) (behind_of xs ++ ys) (body_at l)) same_body

pub front-whole-more : (xs ys : List ℕ) (m : Content) (behind : List ℕ) → front xs ≡ Whole m behind → front (xs ++ ys) ≡ Whole m (behind ++ ys)
front-whole-more xs ys m behind e =
    let w = whole_known xs m behind e in
    front-full-more xs ys w.announces w.enough
    ∙ ap (front_by (announced xs) (behind_of xs ++ ys)) w.reads
    ∙ ap (λ (l : List ℕ). Whole m (l ++ ys)) w.behind_is

pub front-broken-more : (xs ys : List ℕ) (f : WireFault) → front xs ≡ Broken f → front (xs ++ ys) ≡ Broken f
front-broken-more xs ys f e =
    elim (case_of xs) [
      | short lt ↦ (let o = front-short xs lt in absurd cc)
      | low head lt ↦ front-low (xs ++ ys) (omega (arith, length-append xs ys)) (omega (arith, announced-more xs ys head)) ∙ sym (front-low xs head lt) ∙ e
      | high head gt ↦ front-high (xs ++ ys) (omega (arith, length-append xs ys)) (omega (arith, announced-more xs ys head)) ∙ sym (front-high xs head gt) ∙ e
      | cut a lt ↦ (let o = front-cut xs a lt in absurd cc)
      | full a le ↦
          let b = broken_by (announced xs) (behind_of xs) (body_at (body_of xs)) f (sym (front-full xs a le) ∙ e) in
          front-full-more xs ys a le ∙ ap (front_by (announced xs) (behind_of xs ++ ys)) b.1 ∙ ap (λ (x : WireFault). Broken x) (sym b.2)
    ]

-- ## Filling up to the end of the first message

pub head_bound : (old mid x : List ℕ) (n : ℕ) → is_open old ≡ true → mid ≡ old ++ take n x → ((length mid ≤ 4) ⊎ (n ≡ 0)) → 4 ≤ length mid → length mid ≤ 4 + announced mid
head_bound old mid x n opened e (inl few) head = omega arith
head_bound old mid x n opened e (inr none) head =
    let same : mid ≡ old = e ∙ ap (λ k. old ++ take k x) none ∙ append-nil old in
    let len : length mid ≡ length old = ap (λ (xs : List ℕ). length xs) same in
    elim (open_known old opened) [
      | inl lt ↦ absurd (omega arith)
      | inr a ↦ let ann : announced mid ≡ announced old = ap announced same in omega (arith, a.1)
    ]

pub body_bound_of : (mid new x : List ℕ) (n len : ℕ) → new ≡ mid ++ take n x → ((length new ≤ 4 + len) ⊎ (n ≡ 0)) → 4 ≤ length mid → len ≡ announced mid → length mid ≤ 4 + announced mid → length new ≤ 4 + announced new
body_bound_of mid new x n len e cases head len_is bound =
    let ann : announced new ≡ announced mid = ap announced e ∙ announced-more mid (take n x) head in
    elim cases [
      | inl few ↦ omega arith
      | inr none ↦ let l : length new ≡ length mid = ap (λ (xs : List ℕ). length xs) (e ∙ ap (λ k. mid ++ take k x) none ∙ append-nil mid) in omega arith
    ]

pub open_below : (mid new x : List ℕ) (n : ℕ) → new ≡ mid ++ take n x → 4 ≤ length mid → is_open new ≡ true → length new < 4 + announced mid
open_below mid new x n e head opened =
    let ann : announced new ≡ announced mid = ap announced e ∙ announced-more mid (take n x) head in
    elim (open_known new opened) [
      | inl lt ↦ absurd (omega (arith, ap (λ (xs : List ℕ). length xs) e, length-append mid (take n x)))
      | inr a ↦ omega (arith, a.1)
    ]

-- ## What the code splits off

pub front-split : (bytes behind inside after : List ℕ) (n : ℕ) → 4 ≤ length bytes → 2 ≤ n → n ≤ 8192 → n ≡ announced bytes → behind ≡ drop 4 bytes → n ≤ length behind
    → inside ≡ take n behind → after ≡ drop n behind → front bytes ≡ front_by n after (body_at inside)
front-split bytes behind inside after n head least most is four le there rest =
    let a : Announces bytes = record { head = head; least = omega arith; most = omega arith } in
    front-full bytes a (omega (arith, ap (λ (xs : List ℕ). length xs) four, length-drop 4 bytes))
    ∙ ap (λ k. front_by k (drop k (drop 4 bytes)) (body_at (take k (drop 4 bytes)))) (sym is)
    ∙ ap (λ (xs : List ℕ). front_by n (drop n xs) (body_at (take n xs))) (sym four)
    ∙ ap (λ (xs : List ℕ). front_by n xs (body_at (take n behind))) (sym rest)
    ∙ ap (λ (xs : List ℕ). front_by n after (body_at xs)) (sym there)
