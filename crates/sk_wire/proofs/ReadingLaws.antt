-- The functions on streams answer the grammar's one reading.
use Rattle.std.proofs.Common.{◌≡◌, ℕ, zero, suc, ◌+◌, ◌-◌, ◌≤◌, List, [], ◌∷◌, ◌++◌, length, Option, Some, None, refl, sym, ap, subst, ◌∙◌, append_assoc, length-append, arith}
use Rattle.std.specs.Prelude.{IsTrue, ◌↔◌}
use Rattle.std.specs.List.{flat_map, AllByRecursion}
use Rattle.sk_msg.specs.declared.content.Content.{Content}
use Rattle.sk_msg.specs.Rules.{is_message}
use Rattle.sk_wire.specs.declared.fault.WireFault.{WireFault}
use Rattle.sk_wire.specs.Grammar.{spelling, Spells}
use Rattle.sk_wire.specs.Stream.{AreBytes, Parts, Ends, HasParts}
use Rattle.sk_wire.specs.Parts.{Front, Open, Whole, Broken, front, and_before, parts}
use Rattle.sk_wire.proofs.FieldLaws.{AreBytes-rest}
use Rattle.sk_wire.proofs.GrammarLaws.{same_spelling}
use Rattle.sk_wire.proofs.FrontLaws.{front-open, open_front, front-spelled, whole_spelled, whole_shorter, front_faults, faults_front}
use Rattle.sk_wire.proofs.StreamLaws.{parts-open, parts-broken, parts-whole}

pub one_spelling : (m n : Content) (x y r s : List ℕ) → Spells m x → Spells n y → x ++ r ≡ y ++ s → (m ≡ n) × (x ≡ y)
one_spelling m n x y r s p q e =
    let same = same_spelling m n r s p.0 q.0 (ap (λ (xs : List ℕ). xs ++ r) (sym p.1) ∙ e ∙ ap (λ (xs : List ℕ). xs ++ s) q.1) in
    (same.0, p.1 ∙ ap spelling same.0 ∙ sym q.1)

abbrev AreMessages : List Content → Type 0
AreMessages ms = AllByRecursion (λ m. IsTrue (is_message m)) ms

-- ## What the grammar reads, the functions answer

ends_are : (from : ℕ) (tail rest : List ℕ) (fault : Option WireFault) → Ends from tail rest fault → parts from tail ≡ record { messages = []; rest = rest; fault = fault }
ends_are from tail rest None e = rw (e.1) (parts-open from tail (front-open tail e.0))
ends_are from tail rest (Some f) e =
    parts-broken from tail e.1.0 (faults_front tail e.1.0 e.1.1)
    ∙ ap (λ (x : WireFault). record { messages = []; rest = []; fault = Some x }) (sym e.1.2)
    ∙ ap (λ (xs : List ℕ). record { messages = []; rest = xs; fault = Some f }) (sym e.0)

read_are : (ms : List Content) (from : ℕ) (tail rest : List ℕ) (fault : Option WireFault) → AreMessages ms → Ends (from + length (flat_map spelling ms)) tail rest fault
    → parts from (flat_map spelling ms ++ tail) ≡ record { messages = ms; rest = rest; fault = fault }
read_are [] from tail rest fault all e = ends_are from tail rest fault (subst (λ (n : ℕ). Ends n tail rest fault) (omega arith) e)
read_are (m ∷ ms) from tail rest fault all e =
    let behind = flat_map spelling ms ++ tail in
    let split : flat_map spelling (m ∷ ms) ++ tail ≡ spelling m ++ behind = append_assoc (spelling m) (flat_map spelling ms) tail in
    let place : from + (length (spelling m ++ behind) - length behind) + length (flat_map spelling ms) ≡ from + length (flat_map spelling (m ∷ ms)) =
    omega (arith, length-append (spelling m) behind, length-append (spelling m) (flat_map spelling ms)) in
    ap (parts from) split
    ∙ parts-whole from (spelling m ++ behind) m behind (front-spelled m behind all.0)
    ∙ ap (and_before m) (read_are ms (from + (length (spelling m ++ behind) - length behind)) tail rest fault all.1 (subst (λ (n : ℕ). Ends n tail rest fault) (sym place) e))

pub reading_is : (from : ℕ) (bytes : List ℕ) (p : Parts) → HasParts from bytes p → p ≡ parts from bytes
reading_is from bytes p r = sym (ap (parts from) r.whole ∙ read_are p.messages from r.tail p.rest p.fault r.each r.end)

-- ## What the functions answer, the grammar reads

reads_by : (from : ℕ) (bytes : List ℕ) (f : Front) → AreBytes bytes → front bytes ≡ f
    → ((i : ℕ) (m : Content) (behind : List ℕ) → front bytes ≡ Whole m behind → AreBytes behind → HasParts i behind (parts i behind))
    → HasParts from bytes (parts from bytes)
reads_by from bytes Open fits e again =
    rw (parts-open from bytes e) (record { tail = bytes; whole = refl; each = tt; end = (open_front bytes e, refl) })
reads_by from bytes (Broken f) fits e again =
    let place : from + f.at ≡ from + 0 + f.at = omega arith in
    rw (parts-broken from bytes f e) (record { tail = bytes; whole = refl; each = tt; end = (refl, (f, front_faults bytes f fits e, ap (λ (n : ℕ). record { at = n; what = f.what }) place)) })
reads_by from bytes (Whole m behind) fits e again =
    let w = whole_spelled bytes m behind fits e in
    let i = from + (length bytes - length behind) in
    let r = again i m behind e (AreBytes-rest bytes (spelling m) behind fits w.1) in
    let p = parts i behind in
    let place : i + length (flat_map spelling p.messages) ≡ from + length (flat_map spelling (m ∷ p.messages)) =
    omega (arith, ap (λ (xs : List ℕ). length xs) w.1, length-append (spelling m) behind, length-append (spelling m) (flat_map spelling p.messages)) in
    rw (parts-whole from bytes m behind e) (record {
      tail = r.tail;
      whole = w.1 ∙ ap (λ (xs : List ℕ). spelling m ++ xs) r.whole ∙ sym (append_assoc (spelling m) (flat_map spelling p.messages) r.tail);
      each = (w.0, r.each);
      end = subst (λ (n : ℕ). Ends n r.tail p.rest p.fault) place r.end;
    })

reads_up_to : (n from : ℕ) (bytes : List ℕ) → length bytes ≤ n → AreBytes bytes → HasParts from bytes (parts from bytes)
reads_up_to zero from bytes le fits = reads_by from bytes (front bytes) fits refl (λ i m behind e ok. let lt = whole_shorter bytes m behind e in absurd (omega arith))
reads_up_to (suc n) from bytes le fits = reads_by from bytes (front bytes) fits refl (λ i m behind e ok. let lt = whole_shorter bytes m behind e in reads_up_to n i behind (omega arith) ok)

pub parts_read : (from : ℕ) (bytes : List ℕ) → AreBytes bytes → HasParts from bytes (parts from bytes)
parts_read from bytes fits = reads_up_to (length bytes) from bytes (omega arith) fits
