-- The parts of a stream, and of a stream that goes on.
use Rattle.std.proofs.Common.{◌≡◌, ℕ, zero, suc, ◌+◌, ◌-◌, ◌<◌, ◌≤◌, List, [], ◌∷◌, ◌++◌, length, Option, Some, None, refl, sym, ap, ◌∙◌, append_assoc, append-nil, length-append, subst, arith}
use Rattle.sk_msg.specs.declared.content.Content.{Content}
use Rattle.sk_wire.specs.declared.fault.WireFault.{WireFault}
use Rattle.sk_wire.specs.Stream.{Parts}
use Rattle.sk_wire.specs.Parts.{Front, Open, Whole, Broken, front, and_before, parts_by, parts_within, parts}
use Rattle.sk_wire.specs.Seen.{following}
use Rattle.sk_wire.specs.Cutting.{after_piece, after_pieces, joined}
use Rattle.sk_wire.proofs.FrontLaws.{front-short, whole_shorter, front-whole-more, front-broken-more}

-- ## By what stands at the front

-- any number of messages that is large enough will do
within_same : (n k from : ℕ) (bytes : List ℕ) → length bytes ≤ n → length bytes ≤ k → parts_within n from bytes ≡ parts_within k from bytes
within_same zero zero from bytes p q = refl
within_same zero (suc k) from bytes p q = sym (ap (λ f. parts_by from bytes f (parts_within k)) (front-short bytes (omega arith)))
within_same (suc n) zero from bytes p q = ap (λ f. parts_by from bytes f (parts_within n)) (front-short bytes (omega arith))
within_same (suc n) (suc k) from bytes p q = at (front bytes) refl (λ i behind h j. within_same n k i behind h j)
  where
    at : (f : Front) → front bytes ≡ f → ((i : ℕ) (behind : List ℕ) → length behind ≤ n → length behind ≤ k → parts_within n i behind ≡ parts_within k i behind)
        → parts_by from bytes f (parts_within n) ≡ parts_by from bytes f (parts_within k)
    at Open e again = refl
    at (Broken f) e again = refl
    at (Whole m behind) e again =
        let lt = whole_shorter bytes m behind e in
        ap (and_before m) (again (from + (length bytes - length behind)) behind (omega arith) (omega arith))

-- the parts by one look at the front
parts-step : (from : ℕ) (bytes : List ℕ) → parts from bytes ≡ parts_by from bytes (front bytes) parts
unfolding parts
parts-step from [] = sym (ap (λ f. parts_by from [] f (λ i b. parts_within (length b) i b)) (front-short [] (omega arith)))
parts-step from (x ∷ xs) = at (front (x ∷ xs)) refl
  where
    at : (f : Front) → front (x ∷ xs) ≡ f → parts_by from (x ∷ xs) f (parts_within (length xs)) ≡ parts_by from (x ∷ xs) f (λ i b. parts_within (length b) i b)
    at Open e = refl
    at (Broken f) e = refl
    at (Whole m behind) e =
        let lt = whole_shorter (x ∷ xs) m behind e in
        ap (and_before m) (within_same (length xs) (length behind) (from + (length (x ∷ xs) - length behind)) behind (omega arith) (omega arith))

pub parts-open : (from : ℕ) (bytes : List ℕ) → front bytes ≡ Open → parts from bytes ≡ record { messages = []; rest = bytes; fault = None }
parts-open from bytes e = parts-step from bytes ∙ ap (λ f. parts_by from bytes f parts) e

pub parts-broken : (from : ℕ) (bytes : List ℕ) (f : WireFault) → front bytes ≡ Broken f
    → parts from bytes ≡ record { messages = []; rest = []; fault = Some (record { at = from + f.at; what = f.what }) }
parts-broken from bytes f e = parts-step from bytes ∙ ap (λ f. parts_by from bytes f parts) e

pub parts-whole : (from : ℕ) (bytes : List ℕ) (m : Content) (behind : List ℕ) → front bytes ≡ Whole m behind
    → parts from bytes ≡ and_before m (parts (from + (length bytes - length behind)) behind)
parts-whole from bytes m behind e = parts-step from bytes ∙ ap (λ f. parts_by from bytes f parts) e

-- ## A stream that goes on

-- the open rest is of the stream
abbrev RestFits : ℕ → List ℕ → Type 0
RestFits from bytes = length (parts from bytes).rest ≤ length bytes

abbrev GoesOn : ℕ → List ℕ → List ℕ → Option WireFault → Parts → Type 0
GoesOn from a b None p = parts from (a ++ b) ≡ following p.messages (parts (from + length a - length p.rest) (p.rest ++ b))
GoesOn from a b (Some f) p = parts from (a ++ b) ≡ p

rest_by : (from : ℕ) (bytes : List ℕ) (f : Front) → front bytes ≡ f
    → ((i : ℕ) (m : Content) (behind : List ℕ) → front bytes ≡ Whole m behind → RestFits i behind) → RestFits from bytes
rest_by from bytes Open e again = omega (arith, ap (λ (p : Parts). length p.rest) (parts-open from bytes e))
rest_by from bytes (Broken f) e again = omega (arith, ap (λ (p : Parts). length p.rest) (parts-broken from bytes f e))
rest_by from bytes (Whole m behind) e again =
    let lt = whole_shorter bytes m behind e in
    let less = again (from + (length bytes - length behind)) m behind e in
    omega (arith, less, ap (λ (p : Parts). length p.rest) (parts-whole from bytes m behind e))

rest_up_to : (n from : ℕ) (bytes : List ℕ) → length bytes ≤ n → RestFits from bytes
rest_up_to zero from bytes le = rest_by from bytes (front bytes) refl (λ i m behind e. let lt = whole_shorter bytes m behind e in absurd (omega arith))
rest_up_to (suc n) from bytes le = rest_by from bytes (front bytes) refl (λ i m behind e. let lt = whole_shorter bytes m behind e in rest_up_to n i behind (omega arith))

pub rest_fits : (from : ℕ) (bytes : List ℕ) → length (parts from bytes).rest ≤ length bytes
rest_fits from bytes = rest_up_to (length bytes) from bytes (omega arith)

-- one message more in front of a stream that goes on
goes_on-whole : (from : ℕ) (a b behind : List ℕ) (m : Content) (o : Option WireFault) (p : Parts) → length behind < length a → length p.rest ≤ length behind
    → parts from (a ++ b) ≡ and_before m (parts (from + (length a - length behind)) (behind ++ b))
    → GoesOn (from + (length a - length behind)) behind b o p → GoesOn from a b o (and_before m p)
goes_on-whole from a b behind m None p lt fits whole h =
    let place : from + (length a - length behind) + length behind - length p.rest ≡ from + length a - length p.rest = omega arith in
    whole ∙ ap (and_before m) (h ∙ ap (λ n. following p.messages (parts n (p.rest ++ b))) place)
goes_on-whole from a b behind m (Some f) p lt fits whole h = whole ∙ ap (and_before m) h

goes_on-by : (from : ℕ) (a b : List ℕ) (f : Front) → front a ≡ f
    → ((i : ℕ) (m : Content) (behind : List ℕ) → front a ≡ Whole m behind → GoesOn i behind b (parts i behind).fault (parts i behind))
    → GoesOn from a b (parts from a).fault (parts from a)
goes_on-by from a b Open e again =
    let place : from + length a - length a ≡ from = omega arith in
    rw (parts-open from a e, place) refl
goes_on-by from a b (Broken f) e again =
    rw (parts-broken from a f e) (parts-broken from (a ++ b) f (front-broken-more a b f e))
goes_on-by from a b (Whole m behind) e again =
    let lt = whole_shorter a m behind e in
    let i = from + (length a - length behind) in
    let place : from + (length (a ++ b) - length (behind ++ b)) ≡ i = omega (arith, length-append a b, length-append behind b) in
    let whole : parts from (a ++ b) ≡ and_before m (parts i (behind ++ b)) =
    parts-whole from (a ++ b) m (behind ++ b) (front-whole-more a b m behind e) ∙ ap (λ n. and_before m (parts n (behind ++ b))) place in
    rw (parts-whole from a m behind e) (goes_on-whole from a b behind m (parts i behind).fault (parts i behind) lt (rest_fits i behind) whole (again i m behind e))

goes_on-up_to : (n from : ℕ) (a b : List ℕ) → length a ≤ n → GoesOn from a b (parts from a).fault (parts from a)
goes_on-up_to zero from a b le = goes_on-by from a b (front a) refl (λ i m behind e. let lt = whole_shorter a m behind e in absurd (omega arith))
goes_on-up_to (suc n) from a b le = goes_on-by from a b (front a) refl (λ i m behind e. let lt = whole_shorter a m behind e in goes_on-up_to n i behind b (omega arith))

goes_on : (from : ℕ) (a b : List ℕ) → GoesOn from a b (parts from a).fault (parts from a)
goes_on from a b = goes_on-up_to (length a) from a b (omega arith)

-- a stream without a fault goes on behind its open rest
pub parts-more : (from : ℕ) (a b : List ℕ) → (parts from a).fault ≡ None
    → parts from (a ++ b) ≡ following (parts from a).messages (parts (from + length a - length (parts from a).rest) ((parts from a).rest ++ b))
parts-more from a b none = subst (λ (o : Option WireFault). GoesOn from a b o (parts from a)) none (goes_on from a b)

-- behind a fault nothing changes
pub parts-faulty : (from : ℕ) (a b : List ℕ) (f : WireFault) → (parts from a).fault ≡ Some f → parts from (a ++ b) ≡ parts from a
parts-faulty from a b f some = subst (λ (o : Option WireFault). GoesOn from a b o (parts from a)) some (goes_on from a b)

-- ## Pieces

piece-by : (a piece : List ℕ) (o : Option WireFault) → (parts 0 a).fault ≡ o → after_piece o (length a) (parts 0 a) piece ≡ parts 0 (a ++ piece)
piece-by a piece None e =
    let place : 0 + length a - length (parts 0 a).rest ≡ length a - length (parts 0 a).rest = omega arith in
    sym (parts-more 0 a piece e ∙ ap (λ n. following (parts 0 a).messages (parts n ((parts 0 a).rest ++ piece))) place)
piece-by a piece (Some f) e = sym (parts-faulty 0 a piece f e)

pub pieces-from : (a : List ℕ) (pieces : List (List ℕ)) → after_pieces (length a) (parts 0 a) pieces ≡ parts 0 (a ++ joined pieces)
pieces-from a [] = ap (parts 0) (sym (append-nil a))
pieces-from a (piece ∷ pieces) =
    ap (λ p. after_pieces (length a + length piece) p pieces) (piece-by a piece (parts 0 a).fault refl)
    ∙ ap (λ n. after_pieces n (parts 0 (a ++ piece)) pieces) (sym (length-append a piece))
    ∙ pieces-from (a ++ piece) pieces
    ∙ ap (parts 0) (append_assoc a piece (joined pieces))

pub cutting : (pieces : List (List ℕ)) → after_pieces 0 (parts 0 []) pieces ≡ parts 0 (joined pieces)
cutting pieces = pieces-from [] pieces

-- ## Messages read one after another

pub following-open : (before : List Content) (from : ℕ) (bytes : List ℕ) → front bytes ≡ Open
    → following before (parts from bytes) ≡ record { messages = before; rest = bytes; fault = None }
following-open before from bytes e = rw (parts-open from bytes e, append-nil before) refl

pub following-broken : (before : List Content) (from : ℕ) (bytes : List ℕ) (f : WireFault) → front bytes ≡ Broken f
    → following before (parts from bytes) ≡ record { messages = before; rest = []; fault = Some (record { at = from + f.at; what = f.what }) }
following-broken before from bytes f e = rw (parts-broken from bytes f e, append-nil before) refl

pub following-whole : (before : List Content) (from next : ℕ) (bytes : List ℕ) (m : Content) (behind : List ℕ) → front bytes ≡ Whole m behind → from + (length bytes - length behind) ≡ next
    → following before (parts from bytes) ≡ following (before ++ m ∷ []) (parts next behind)
following-whole before from next bytes m behind e place =
    let p = parts next behind in
    ap (following before) (parts-whole from bytes m behind e ∙ ap (λ n. and_before m (parts n behind)) place)
    ∙ ap (λ (ms : List Content). record { messages = ms; rest = p.rest; fault = p.fault }) (sym (append_assoc before (m ∷ []) p.messages))
