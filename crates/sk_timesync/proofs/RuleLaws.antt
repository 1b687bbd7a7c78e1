-- Which answer the rule gives.
use Rattle.std.proofs.Common.{◌≡◌, ◌<◌, ◌≤◌, ◌∙◌, ℕ, Bool, true, false, List, length, get_or, take, Option, Some, None, refl, sym, ap, subst, arith, inl, inr}
use Rattle.std.specs.Prelude.{slice_get, ◌⊎◌, ◌↔◌, All, Contains, IfSome, IsSomeAnd}
use Rattle.std.specs.List.Sorted.{IsStrictlyIncreasing}
use Rattle.std.proofs.lemmas.Bool.{cases_lt}
use Rattle.std.proofs.lemmas.List.{length-map, length-take-le, get_or-map, get_or-take, get_or_default}
use Rattle.std.proofs.lemmas.Option.{slice_get_within, get_or_from_slice_get}
use Rattle.std.proofs.lemmas.List.Elements.{All-contains, All-contains_itself, All-weaker}
use Rattle.std.proofs.lemmas.List.Kept.{AllPairs-from_increasing}
use Rattle.sk_timesync.specs.Notes.{PeerNotes, Notes, numbers}
use Rattle.sk_timesync.specs.Rule.{HoldsUp, IsReady, FirstHoldsUp, Answers}
use Rattle.sk_timesync.specs.declared.answer.MayBegin.{MayBegin}
use Rattle.sk_timesync.specs.declared.answer.MayBegin.TheVariants.{Yes, Waits, Open}
use Rattle.sk_timesync.proofs.PeerLaws.{numbers_of}

-- in a list in rising number a peer of a lower number stands before one of a higher
stands_before : (peers : List PeerNotes) (i k : ℕ) (d e : PeerNotes) → IsStrictlyIncreasing (numbers_of peers) → i < length peers → k < length peers →
    (get_or peers k d).number < (get_or peers i e).number → k < i
stands_before peers i k d e rising in' within lower =
    let long : length (numbers_of peers) ≡ length peers = rw length-map refl in
    let at_i : get_or (numbers_of peers) i 0 ≡ (get_or peers i e).number = get_or-map (λ (peer : PeerNotes). peer.number) peers i e 0 in' in
    let at_k : get_or (numbers_of peers) k 0 ≡ (get_or peers k d).number = get_or-map (λ (peer : PeerNotes). peer.number) peers k d 0 within in
    elim (cases_lt k i) [
      | inl before ↦ before
      | inr after ↦ elim (cases_lt i k) [
        | inl above ↦ omega (arith, AllPairs-from_increasing (numbers_of peers) rising i k 0 above (omega arith))
        | inr same ↦ let one : k ≡ i = omega arith in let e : get_or (numbers_of peers) k 0 ≡ get_or (numbers_of peers) i 0 = rw one refl in omega arith
      ]
    ]

-- two entries of one number are one
same_entry : (peers : List PeerNotes) (x y : PeerNotes) → IsStrictlyIncreasing (numbers_of peers) → Contains peers x → Contains peers y → x.number ≡ y.number → x ≡ y
same_entry peers x y rising at_x at_y same =
    let long : length (numbers_of peers) ≡ length peers = rw length-map refl in
    let number_x : get_or (numbers_of peers) at_x.0 0 ≡ x.number = get_or-map (λ (peer : PeerNotes). peer.number) peers at_x.0 x 0 at_x.1 ∙ ap (λ (peer : PeerNotes). peer.number) at_x.2 in
    let number_y : get_or (numbers_of peers) at_y.0 0 ≡ y.number = get_or-map (λ (peer : PeerNotes). peer.number) peers at_y.0 y 0 at_y.1 ∙ ap (λ (peer : PeerNotes). peer.number) at_y.2 in
    let rises = AllPairs-from_increasing (numbers_of peers) rising in
    elim (cases_lt at_x.0 at_y.0) [
      | inl before ↦ absurd (omega (arith, rises at_x.0 at_y.0 0 before (omega (arith, at_y.1)), number_x, number_y))
      | inr not_before ↦ elim (cases_lt at_y.0 at_x.0) [
        | inl after ↦ absurd (omega (arith, rises at_y.0 at_x.0 0 after (omega (arith, at_x.1)), number_x, number_y))
        | inr not_after ↦
            let one : at_x.0 ≡ at_y.0 = omega arith in
            let here : get_or peers at_x.0 x ≡ get_or peers at_y.0 x = rw one refl in
            sym at_x.2 ∙ here ∙ get_or_default peers at_y.0 x y at_y.1 ∙ at_y.2
      ]
    ]

-- the first of the list that holds up is the one of the lowest number
pub first_by_number : (at : ℕ) (peers : List PeerNotes) (x : PeerNotes) (i : ℕ) → IsStrictlyIncreasing (numbers_of peers) →
    slice_get peers i ≡ Some x → All (IsReady at) (take i peers) → HoldsUp at x → FirstHoldsUp at peers x.number x.announced
first_by_number at peers x i rising here before holds =
    let in' : i < length peers = slice_get_within peers i x here in
    record {
      peer = x;
      added = (i, in', get_or_from_slice_get peers i x x here);
      is_number = refl;
      is_announced = refl;
      holds = holds;
      lower = λ k d within lower.
          let earlier : k < i = stands_before peers i k d d rising in' within (rw (get_or_from_slice_get peers i x d here) lower) in
          let ready = before k d (omega (arith, length-take-le i peers (omega arith))) in
          rw get_or-take at ready;
    }

ready_or_holding : (at : ℕ) (number : ℕ) (synchronised : Option Bool) (left : Bool) (announced : Option ℕ) →
    let peer : PeerNotes = record { number = number; synchronised = synchronised; left = left; announced = announced } in IsReady at peer ⊎ HoldsUp at peer
ready_or_holding at number None left announced = inr (inl refl)
ready_or_holding at number (Some false) left announced = inl (record { known = refl; announced = λ e. absurd cc })
ready_or_holding at number (Some true) true announced = inl (record { known = refl; announced = λ e l. absurd cc })
ready_or_holding at number (Some true) false None = inr (inr (refl, refl, tt))
ready_or_holding at number (Some true) false (Some time) =
    elim (cases_lt time at) [
      | inl below ↦ inr (inr (refl, refl, below))
      | inr reached ↦ inl (record { known = refl; announced = λ e l. reached })
    ]

-- a peer is ready for a step or holds it up
pub ready_or_holds : (at : ℕ) (peer : PeerNotes) → IsReady at peer ⊎ HoldsUp at peer
ready_or_holds at peer = ready_or_holding at peer.number peer.synchronised peer.left peer.announced

not_reached : (at : ℕ) (announced : Option ℕ) → IsSomeAnd announced (λ time. at ≤ time) → IfSome announced (λ time. time < at) → ⊥
not_reached at None reached below = reached
not_reached at (Some time) reached below = omega (arith, reached, below)

-- and never both
pub not_both : (at : ℕ) (peer : PeerNotes) → IsReady at peer → HoldsUp at peer → ⊥
not_both at peer ready holds =
    elim holds [
      | inl unknown ↦ let known = rw unknown at ready.known in absurd (cc)
      | inr behind ↦ not_reached at peer.announced (ready.announced behind.0 behind.1) behind.2
    ]

-- a peer that holds up has no number below that of the first
no_lower : (at : ℕ) (peers : List PeerNotes) (number : ℕ) (announced : Option ℕ) (peer : PeerNotes) →
    FirstHoldsUp at peers number announced → Contains peers peer → HoldsUp at peer → number ≤ peer.number
no_lower at peers number announced peer first here holds =
    elim (cases_lt peer.number number) [
      | inl lower ↦ absurd (not_both at peer (All-contains (λ other. other.number < number → IsReady at other) peers peer first.lower here lower) holds)
      | inr above ↦ above
    ]

one_first : (at : ℕ) (peers : List PeerNotes) (n m : ℕ) (a b : Option ℕ) → IsStrictlyIncreasing (numbers_of peers) →
    FirstHoldsUp at peers n a → FirstHoldsUp at peers m b → (n ≡ m) × (a ≡ b)
one_first at peers n m a b rising one other =
    let below = no_lower at peers n a other.peer one other.added other.holds in
    let above = no_lower at peers m b one.peer other one.added one.holds in
    let same : one.peer.number ≡ other.peer.number = omega (arith, one.is_number, other.is_number, below, above) in
    let entry = same_entry peers one.peer other.peer rising one.added other.added same in
    (omega (arith, one.is_number, other.is_number, same), one.is_announced ∙ ap (λ (peer : PeerNotes). peer.announced) entry ∙ sym other.is_announced)

not_clear : (at : ℕ) (peers : List PeerNotes) (number : ℕ) (announced : Option ℕ) → All (IsReady at) peers → FirstHoldsUp at peers number announced → ⊥
not_clear at peers number announced ready first =
    not_both at first.peer (All-contains (IsReady at) peers first.peer ready first.added) first.holds

pub one_answer : (notes : Notes) (one other : MayBegin) → IsStrictlyIncreasing (numbers notes) → Answers notes one → Answers notes other → one ≡ other
one_answer notes (Open n) (Open m) rising a b = ap Open (a.1 ∙ sym b.1)
one_answer notes (Open n) (Waits m announced) rising a b = absurd (cc (a.0, b.0))
one_answer notes (Open n) (Yes at) rising a b = absurd (cc (a.0, b.0.closed))
one_answer notes (Waits n announced) (Open m) rising a b = absurd (cc (a.0, b.0))
one_answer notes (Waits n announced) (Waits m told) rising a b =
    let same = one_first notes.next notes.peers n m announced told rising a.1 b.1 in
    rw (same.0, same.1) refl
one_answer notes (Waits n announced) (Yes at) rising a b = absurd (not_clear notes.next notes.peers n announced b.0.ready a.1)
one_answer notes (Yes at) (Open m) rising a b = absurd (cc (a.0.closed, b.0))
one_answer notes (Yes at) (Waits m announced) rising a b = absurd (not_clear notes.next notes.peers m announced a.0.ready b.1)
one_answer notes (Yes at) (Yes time) rising a b = ap Yes (a.1 ∙ sym b.1)

-- a fact of each element
pub each : (P : PeerNotes → Type 0) (peers : List PeerNotes) → ((peer : PeerNotes) → Contains peers peer → P peer) → All P peers
each P peers of_each = All-weaker (Contains peers) P of_each peers (All-contains_itself peers)

none_is_ready : (notes : Notes) → ((peer : PeerNotes) → Contains notes.peers peer → HoldsUp notes.next peer → ⊥) → All (IsReady notes.next) notes.peers
none_is_ready notes none =
    each (IsReady notes.next) notes.peers (λ peer here.
    elim (ready_or_holds notes.next peer) [ inl ready ↦ ready | inr holds ↦ absurd (none peer here holds) ])

pub yes_exactly : (notes : Notes) (answer : MayBegin) → IsStrictlyIncreasing (numbers notes) → Answers notes answer →
    (answer ≡ Yes notes.next) ↔ ((notes.is_open ≡ false) × ((peer : PeerNotes) → Contains notes.peers peer → HoldsUp notes.next peer → ⊥))
yes_exactly notes answer rising a = (
  λ e. let yes = subst (λ (said : MayBegin). Answers notes said) e a in
      (yes.0.closed, λ peer here holds. not_both notes.next peer (All-contains (IsReady notes.next) notes.peers peer yes.0.ready here) holds),
  λ none. one_answer notes answer (Yes notes.next) rising a (record { closed = none.0; ready = none_is_ready notes none.1 }, refl),
)
