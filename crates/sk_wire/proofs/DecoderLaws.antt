-- One piece behind an open rest.
use Rattle.std.proofs.Common.{◌≡◌, ℕ, zero, suc, ◌+◌, ◌-◌, ◌≤◌, true, List, [], ◌++◌, length, take, drop, Some, None, refl, sym, ap, ◌∙◌, append_assoc, length-append, subst, arith}
use Rattle.std.proofs.lemmas.List.{nil_from_length, length-drop, take-append-drop}
use Rattle.std.proofs.Math.Seq.{take-length}
use Rattle.sk_msg.specs.declared.content.Content.{Content}
use Rattle.sk_wire.specs.declared.fault.WireFault.{WireFault}
use Rattle.sk_wire.specs.Faults.{announced}
use Rattle.sk_wire.specs.Stream.{Announces, Parts, is_open}
use Rattle.sk_wire.specs.Parts.{Front, Open, Whole, Broken, front, and_before, parts}
use Rattle.sk_wire.specs.Feeding.{IsWaiting, RestsAt}
use Rattle.sk_wire.proofs.FrontLaws.{open_front, front-short, length_behind, whole_known, whole_shorter, front-whole-more, front-broken-more}
use Rattle.sk_wire.proofs.StreamLaws.{parts-open, parts-broken, parts-whole, rest_fits}

-- the parts of a piece behind the rest
rejoin : (old x : List ℕ) (n : ℕ) → (old ++ take n x) ++ drop n x ≡ old ++ x
rejoin old x n = append_assoc old (take n x) (drop n x) ∙ ap (λ (xs : List ℕ). old ++ xs) (take-append-drop n x)

-- the whole piece is needed, and more
pub piece_open : (from : ℕ) (old new x : List ℕ) (n : ℕ) → new ≡ old ++ take n x → (is_open new ≡ true → n ≡ length x) → front new ≡ Open
    → parts from (old ++ x) ≡ record { messages = []; rest = new; fault = None }
piece_open from old new x n e all here =
    let same : new ≡ old ++ x = e ∙ ap (λ (xs : List ℕ). old ++ xs) (ap (λ k. take k x) (all (open_front new here)) ∙ take-length x) in
    ap (parts from) (sym same) ∙ parts-open from new here

pub piece_broken : (from : ℕ) (old new x : List ℕ) (n : ℕ) (f : WireFault) → new ≡ old ++ take n x → front new ≡ Broken f
    → parts from (old ++ x) ≡ record { messages = []; rest = []; fault = Some (record { at = from + f.at; what = f.what }) }
piece_broken from old new x n f e broken =
    parts-broken from (old ++ x) f (ap front (sym (rejoin old x n)) ∙ front-broken-more (old ++ take n x) (drop n x) f (ap front (sym e) ∙ broken))

-- a buffer that was filled up to the end of its first message has nothing behind it
pub whole_exact : (bytes : List ℕ) (m : Content) (behind : List ℕ) → front bytes ≡ Whole m behind → (Announces bytes → length bytes ≤ 4 + announced bytes) → behind ≡ []
whole_exact bytes m behind e most =
    let few = most (whole_known bytes m behind e).announces in
    let len = length_behind bytes m behind e in
    nil_from_length behind (omega arith)

-- that message, and then the rest of the piece
pub piece_whole : (fed : ℕ) (old new x : List ℕ) (n : ℕ) (m : Content) (behind : List ℕ) → new ≡ old ++ take n x → n ≤ length x → length old ≤ fed
    → front new ≡ Whole m behind → (Announces new → length new ≤ 4 + announced new)
    → parts (fed - length old) (old ++ x) ≡ and_before m (parts (fed + n) (drop n x))
piece_whole fed old new x n m behind e few le whole most =
    let none : behind ≡ [] = whole_exact new m behind whole most in
    let first : front (old ++ take n x) ≡ Whole m [] = ap front (sym e) ∙ whole ∙ ap (λ (xs : List ℕ). Whole m xs) none in
    let here : front (old ++ x) ≡ Whole m (drop n x) = ap front (sym (rejoin old x n)) ∙ front-whole-more (old ++ take n x) (drop n x) m [] first in
    let place : fed - length old + (length (old ++ x) - length (drop n x)) ≡ fed + n = omega (arith, length-append old x, length-drop n x) in
    parts-whole (fed - length old) (old ++ x) m (drop n x) here ∙ ap (λ k. and_before m (parts k (drop n x))) place

-- ## What a decoder keeps

pub new_waits : (buffer : List ℕ) → buffer ≡ [] → IsWaiting (record { rest = buffer; fed = 0; fault = None })
new_waits buffer e = rw e (record { within = omega arith; rests = open_front [] (front-short [] (omega arith)) })

-- the rest of a stream is open, and there is none behind a fault
abbrev RestIs : Parts → Type 0
RestIs p = RestsAt p.fault p.rest

rest_is-by : (from : ℕ) (bytes : List ℕ) (f : Front) → front bytes ≡ f → ((i : ℕ) (m : Content) (behind : List ℕ) → front bytes ≡ Whole m behind → RestIs (parts i behind)) → RestIs (parts from bytes)
rest_is-by from bytes Open e again = rw (parts-open from bytes e) (open_front bytes e)
rest_is-by from bytes (Broken f) e again = rw (parts-broken from bytes f e) refl
rest_is-by from bytes (Whole m behind) e again = rw (parts-whole from bytes m behind e) (again (from + (length bytes - length behind)) m behind e)

rest_is-up_to : (n from : ℕ) (bytes : List ℕ) → length bytes ≤ n → RestIs (parts from bytes)
rest_is-up_to zero from bytes le = rest_is-by from bytes (front bytes) refl (λ i m behind e. let lt = whole_shorter bytes m behind e in absurd (omega arith))
rest_is-up_to (suc n) from bytes le = rest_is-by from bytes (front bytes) refl (λ i m behind e. let lt = whole_shorter bytes m behind e in rest_is-up_to n i behind (omega arith))

pub feeding_waits : (fed : ℕ) (old piece : List ℕ) (p : Parts) → parts (fed - length old) (old ++ piece) ≡ p → length old ≤ fed
    → IsWaiting (record { rest = p.rest; fed = fed + length piece; fault = p.fault })
feeding_waits fed old piece p e le =
    let fits = rest_fits (fed - length old) (old ++ piece) in
    record {
      within = omega (arith, fits, ap (λ (q : Parts). length q.rest) e, length-append old piece);
      rests = subst (λ (q : Parts). RestIs q) e (rest_is-up_to (length (old ++ piece)) (fed - length old) (old ++ piece) (omega arith));
    }
