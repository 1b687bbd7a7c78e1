-- What is looked up of a peer after a note.
use Rattle.std.proofs.Common.{◌≡◌, ◌≢◌, ◌<◌, ◌∙◌, ℕ, zero, suc, Bool, true, false, List, [], ◌∷◌, length, get_or, map, Option, Some, refl, sym, arith, eqb}
use Rattle.std.specs.Prelude.{if◌then◌else◌, find, option_and_then, Contains}
use Rattle.std.proofs.lemmas.Bool.{eq-eqb, eqb-true, ne_eqb}
use Rattle.sk_timesync.specs.Notes.{PeerNotes, with_announced}
use Rattle.sk_timesync.proofs.PeerLaws.{numbers_of, at_number}

abbrev pub look : ℕ → List PeerNotes → Option ℕ
look n peers = option_and_then (λ peer. peer.announced) (find (λ peer. eqb peer.number n) peers)

look_by : (n : ℕ) (f : PeerNotes → PeerNotes) (x : PeerNotes) (xs : List PeerNotes) (is_it : Bool) → eqb x.number n ≡ is_it → (f x).number ≡ x.number →
    (is_it ≡ true → (f x).announced ≡ x.announced) → look n (map f xs) ≡ look n xs → look n (map f (x ∷ xs)) ≡ look n (x ∷ xs)
look_by n f x xs true e same told rest = rw (same, e) (told refl)
look_by n f x xs false e same told rest = rw (same, e) rest

-- changes that keep the numbers, and what this number announced, keep what is looked up
look_kept : (n : ℕ) (f : PeerNotes → PeerNotes) → ((x : PeerNotes) → (f x).number ≡ x.number) → ((x : PeerNotes) → x.number ≡ n → (f x).announced ≡ x.announced) →
    (peers : List PeerNotes) → look n (map f peers) ≡ look n peers
look_kept n f same told [] = refl
look_kept n f same told (x ∷ xs) =
    look_by n f x xs (eqb x.number n) refl (same x) (λ e. told x (eqb-true x.number n e)) (look_kept n f same told xs)

-- a fact that the change keeps is kept whether or not the change is made
either_keeps : {A : Type 0} (read : PeerNotes → A) (change : PeerNotes → PeerNotes) (x : PeerNotes) (is_it : Bool) → read (change x) ≡ read x →
    read (if is_it then change x else x) ≡ read x
either_keeps read change x true keeps = keeps
either_keeps read change x false keeps = refl

-- a change that keeps numbers and announcements
pub look_unchanged : (number other : ℕ) (change : PeerNotes → PeerNotes) → ((x : PeerNotes) → (change x).number ≡ x.number) → ((x : PeerNotes) → (change x).announced ≡ x.announced) →
    (peers : List PeerNotes) → look other (map (at_number number change) peers) ≡ look other peers
look_unchanged number other change same told peers =
    look_kept other (at_number number change)
    (λ x. either_keeps (λ (p : PeerNotes). p.number) change x (eqb x.number number) (same x))
    (λ x e. either_keeps (λ (p : PeerNotes). p.announced) change x (eqb x.number number) (told x))
    peers

-- a change at another number
pub look_other : (number other : ℕ) (change : PeerNotes → PeerNotes) → ((x : PeerNotes) → (change x).number ≡ x.number) → other ≢ number →
    (peers : List PeerNotes) → look other (map (at_number number change) peers) ≡ look other peers
look_other number other change same differs peers =
    look_kept other (at_number number change)
    (λ x. either_keeps (λ (p : PeerNotes). p.number) change x (eqb x.number number) (same x))
    (λ x e. let apart : eqb x.number number ≡ false = ne_eqb x.number number (λ is_it. differs (sym e ∙ is_it)) in rw apart refl)
    peers

announced_by_cases : (number at : ℕ) (x : PeerNotes) (xs : List PeerNotes) (is_it : Bool) → eqb x.number number ≡ is_it →
    (is_it ≡ false → look number (map (at_number number (with_announced at)) xs) ≡ Some at) →
    look number (map (at_number number (with_announced at)) (x ∷ xs)) ≡ Some at
announced_by_cases number at x xs true e rest = rw (e, e) refl
announced_by_cases number at x xs false e rest = rw (e, e) (rest refl)

further : (number : ℕ) (x : PeerNotes) (xs : List PeerNotes) (k : ℕ) → k < length (numbers_of (x ∷ xs)) → get_or (numbers_of (x ∷ xs)) k number ≡ number →
    eqb x.number number ≡ false → Contains (numbers_of xs) number
further number x xs zero within here apart = let e = eq-eqb x.number number here in absurd (cc)
further number x xs (suc k) within here apart = (k, omega arith, here)

-- an announcement of a peer that was added
pub look_announced : (number at : ℕ) (peers : List PeerNotes) → Contains (numbers_of peers) number →
    look number (map (at_number number (with_announced at)) peers) ≡ Some at
look_announced number at [] has = absurd (omega (arith, has.1))
look_announced number at (x ∷ xs) has =
    announced_by_cases number at x xs (eqb x.number number) refl
    (λ apart. look_announced number at xs (further number x xs has.0 has.1 has.2 apart))
