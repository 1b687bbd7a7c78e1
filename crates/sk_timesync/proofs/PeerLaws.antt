-- The one entry of a peer in a list in rising number.
use Rattle.std.proofs.Common.{◌≡◌, ◌≢◌, ◌<◌, ◌∙◌, ℕ, zero, suc, true, false, List, [], ◌∷◌, length, get_or, set, map, Option, Some, None, refl, sym, ap, arith, eqb, eq-eqb, inl, inr}
use Rattle.std.specs.Prelude.{if◌then◌else◌, find, option_and_then, Contains, MatchOption, IsSome}
use Rattle.std.specs.List.{AllWithin}
use Rattle.std.specs.List.Sorted.{IsStrictlyIncreasing}
use Rattle.std.proofs.lemmas.Bool.{ne_eqb, cases_lt}
use Rattle.std.proofs.lemmas.List.{length-map, get_or-map}
use Rattle.std.proofs.Math.Seq.{map-set_same}
use Rattle.std.proofs.lemmas.List.Kept.{AllPairs-from_increasing}
use Rattle.sk_timesync.specs.Notes.{PeerNotes, Notes, IsKept}

abbrev pub numbers_of : List PeerNotes → List ℕ
numbers_of peers = map (λ peer. peer.number) peers

abbrev pub at_number : ℕ → (PeerNotes → PeerNotes) → PeerNotes → PeerNotes
at_number n change peer = if eqb peer.number n then change peer else peer

-- no peer has this number
abbrev Lacks : ℕ → List PeerNotes → Type 0
Lacks n peers = (k : ℕ) → k < length peers → get_or (numbers_of peers) k 0 ≢ n

-- a list without this number stays as it is
map-lacking : (n : ℕ) (change : PeerNotes → PeerNotes) (peers : List PeerNotes) → Lacks n peers → map (at_number n change) peers ≡ peers
map-lacking n change [] h = refl
map-lacking n change (x ∷ xs) h =
    let head : eqb x.number n ≡ false = ne_eqb x.number n (h 0 (omega arith)) in
    rw (head, map-lacking n change xs (λ k l. h (suc k) (omega arith))) refl

-- at each index but i stands another number
abbrev IsOnlyAt : ℕ → List PeerNotes → ℕ → Type 0
IsOnlyAt n peers i = (k : ℕ) → k < length peers → k ≢ i → get_or (numbers_of peers) k 0 ≢ n

set-only : (n : ℕ) (change : PeerNotes → PeerNotes) (peers : List PeerNotes) (i : ℕ) (old new : PeerNotes) → IsOnlyAt n peers i → i < length peers →
    get_or (numbers_of peers) i 0 ≡ n → old ≡ get_or peers i old → new ≡ change old → set peers i new ≡ map (at_number n change) peers
set-only n change [] i old new only in' here is_old is_new = absurd (omega arith)
set-only n change (x ∷ xs) zero old new only in' here is_old is_new =
    let head : eqb x.number n ≡ true = eq-eqb x.number n here in
    rw (head, map-lacking n change xs (λ k l. only (suc k) (omega arith) (omega arith)), is_new, is_old) refl
set-only n change (x ∷ xs) (suc i) old new only in' here is_old is_new =
    let head : eqb x.number n ≡ false = ne_eqb x.number n (only 0 (omega arith) (omega arith)) in
    rw (head, ← set-only n change xs i old new (λ k l ne. only (suc k) (omega arith) (omega arith)) (omega arith) here is_old is_new) refl

-- numbers that rise are distinct
only_at : (n : ℕ) (peers : List PeerNotes) (i : ℕ) → IsStrictlyIncreasing (numbers_of peers) → i < length peers → get_or (numbers_of peers) i 0 ≡ n → IsOnlyAt n peers i
only_at n peers i rising in' here k l ne e =
    let rises = AllPairs-from_increasing (numbers_of peers) rising in
    let long : length (numbers_of peers) ≡ length peers = rw length-map refl in
    elim (cases_lt k i) [
      | inl below ↦ omega (arith, rises k i 0 below (omega arith))
      | inr above ↦ omega (arith, rises i k 0 (omega arith) (omega arith))
    ]

-- the entry at the index i is this one, and has this number
pub record Stands (peers : List PeerNotes) (n i : ℕ) (peer : PeerNotes) : Type 0 where
  pub rising : IsStrictlyIncreasing (numbers_of peers)
  pub within : i < length peers
  pub found : get_or (numbers_of peers) i 0 ≡ n
  pub is : peer ≡ get_or peers i peer

pub stands : {slice peers : List PeerNotes} {n i : ℕ} {peer : PeerNotes} → slice ≡ peers → IsStrictlyIncreasing (numbers_of peers) →
    i < length slice → get_or (numbers_of slice) i 0 ≡ n → peer ≡ get_or peers i peer → Stands peers n i peer
stands same rising within found is =
    record { rising = rising; within = rw (← same) within; found = rw (← same) found; is = is }

-- a change at the index is the change at the number
pub set-stands : {peers : List PeerNotes} {n i : ℕ} {old : PeerNotes} (change : PeerNotes → PeerNotes) (new : PeerNotes) → Stands peers n i old → new ≡ change old →
    set peers i new ≡ map (at_number n change) peers
set-stands {peers} {n} {i} {old} change new s is_new =
    set-only n change peers i old new (only_at n peers i s.rising s.within s.found) s.within s.found s.is is_new

-- it keeps the numbers
pub numbers-set : {peers : List PeerNotes} {n i : ℕ} {old : PeerNotes} (new : PeerNotes) → Stands peers n i old → new.number ≡ old.number →
    numbers_of (set peers i new) ≡ numbers_of peers
numbers-set {peers} {n} {i} {old} new s same =
    map-set_same (λ (peer : PeerNotes). peer.number) peers i new old (same ∙ ap (λ (peer : PeerNotes). peer.number) s.is)

pub kept-set : (notes : Notes) {n i : ℕ} {old : PeerNotes} (new : PeerNotes) → IsKept notes → Stands notes.peers n i old → new.number ≡ old.number →
    IsKept (record notes { peers = set notes.peers i new })
kept-set notes new kept s same = record {
  least = kept.least;
  most = kept.most;
  rising = rw (numbers-set new s same) kept.rising;
  timed = kept.timed;
  counted = kept.counted;
  latest = kept.latest;
}

find-only : (n : ℕ) (peers : List PeerNotes) (i : ℕ) (d : PeerNotes) → IsOnlyAt n peers i → i < length peers → get_or (numbers_of peers) i 0 ≡ n →
    find (λ peer. eqb peer.number n) peers ≡ Some (get_or peers i d)
find-only n [] i d only in' here = absurd (omega arith)
find-only n (x ∷ xs) zero d only in' here =
    let head : eqb x.number n ≡ true = eq-eqb x.number n here in
    rw head refl
find-only n (x ∷ xs) (suc i) d only in' here =
    let head : eqb x.number n ≡ false = ne_eqb x.number n (only 0 (omega arith) (omega arith)) in
    rw (head, find-only n xs i d (λ k l ne. only (suc k) (omega arith) (omega arith)) (omega arith) here) refl

-- a look-up by the number finds the entry at the index
pub announced-stands : {peers : List PeerNotes} {n i : ℕ} {peer : PeerNotes} → Stands peers n i peer →
    option_and_then (λ other. other.announced) (find (λ other. eqb other.number n) peers) ≡ peer.announced
announced-stands {peers} {n} {i} {peer} s =
    rw (find-only n peers i peer (only_at n peers i s.rising s.within s.found) s.within s.found, ← s.is) refl

-- a search for a number that is there finds it
pub is_found : (peers : List PeerNotes) (n : ℕ) (index : Option ℕ) (P : ℕ → Type 0) → Contains (numbers_of peers) n →
    MatchOption index (AllWithin (λ peer. peer.number ≢ n) peers 0 (length peers)) P → IsSome index
is_found [] n None P has none = absurd (omega (arith, has.1))
is_found (x ∷ xs) n None P has none =
    let long : length (numbers_of (x ∷ xs)) ≡ length (x ∷ xs) = rw length-map refl in
    let within : has.0 < length (x ∷ xs) = omega (arith, has.1) in
    let here : get_or (numbers_of (x ∷ xs)) has.0 n ≡ (get_or (x ∷ xs) has.0 x).number = get_or-map (λ (peer : PeerNotes). peer.number) (x ∷ xs) has.0 x n within in
    absurd (none has.0 x (omega arith) within (sym here ∙ has.2))
is_found peers n (Some i) P has found = refl
