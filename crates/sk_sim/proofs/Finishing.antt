-- All are finished, as cards say it and as the laws do.
use Rattle.std.proofs.Common.{◌≡◌, ◌≢◌, ℕ, zero, suc, ◌+◌, ◌<◌, ◌≤◌, ◌==◌, nat_le, nat_lt, Bool, true, false, not, ◌&&◌, ◌||◌, List, [], ◌∷◌, ◌++◌, length, drop, Some, refl, sym, ◌∙◌, ap, subst, arith, length-append, inl, inr}
use Rattle.std.specs.List.{slice_get, list_all, filter, range_with_len}
use Rattle.std.proofs.lemmas.Bool.{cases_Bool, cases_eq, and_parts, and_from, and_left, and_right, or_from, cond-true, cond-false, eq-eqb, ne_eqb, lt-ltb, lt-leb}
use Rattle.std.proofs.lemmas.Option.{same_Some, slice_get_within}
use Rattle.sk_msg.specs.declared.state.State.{State}
use Rattle.sk_msg.specs.declared.state.State.TheVariants.{Invalid, ServicesCreated, CommunicationInitializing, CommunicationInitialized, ReadyToRun, Running, Paused, Stopping, Stopped, Error, ShuttingDown, Shutdown, Aborting}
use Rattle.sk_msg.specs.States.{is_state}
use Rattle.sk_law.specs.Readings.{got, put, state_of}
use Rattle.sk_law.specs.Links.{is_peer, is_tool, is_here, peers}
use Rattle.sk_law.specs.World.{Member, is_finished, AreFinished}
use Rattle.sk_sim.specs.Cards.{Card, waits_at, count_at, IsFinished}
use Rattle.sk_sim.specs.Rounds.{AllFinished}
use Rattle.sk_sim.proofs.Lists.{slice_get-some}
use Rattle.sk_sim.proofs.Worlds.{Stands, card}

-- ## Each of a list

each_of : {X : Type 0} (test : X → Bool) (xs : List X) → ((i : ℕ) (x : X) → slice_get xs i ≡ Some x → test x ≡ true) → list_all test xs ≡ true
each_of test [] h = refl
each_of test (x ∷ xs) h = and_from (test x) (list_all test xs) (h 0 x refl) (each_of test xs (λ i. h (suc i)))

each_at : {X : Type 0} (test : X → Bool) (xs : List X) (i : ℕ) (x : X) → list_all test xs ≡ true → slice_get xs i ≡ Some x → test x ≡ true
each_at test [] i x all at = absurd (cc)
each_at test (y ∷ ys) zero x all at = ap test (sym (same_Some y x at)) ∙ (and_parts (test y) (list_all test ys) all).0
each_at test (y ∷ ys) (suc i) x all at = each_at test ys i x (and_parts (test y) (list_all test ys) all).1 at

-- of the numbers from a on those that are wanted
range_of : (test wanted : ℕ → Bool) (a n : ℕ) → ((p : ℕ) → p < a + n → wanted p ≡ true → test p ≡ true) → list_all test (filter wanted (range_with_len a n)) ≡ true
range_of test wanted a zero h = refl
range_of test wanted a (suc n) h =
    let rest = range_of test wanted (a + 1) n (λ p low. h p (omega arith)) in
    let more = filter wanted (range_with_len (a + 1) n) in
    elim (cases_Bool (wanted a)) [
      | inl want ↦ ap (list_all test) (cond-true (wanted a) (a ∷ more) more want) ∙ and_from (test a) (list_all test more) (h a (omega arith) want) rest
      | inr other ↦ ap (list_all test) (cond-false (wanted a) (a ∷ more) more other) ∙ rest
    ]

range_at : (test wanted : ℕ → Bool) (a n p : ℕ) → list_all test (filter wanted (range_with_len a n)) ≡ true → a ≤ p → p < a + n → wanted p ≡ true → test p ≡ true
range_at test wanted a zero p all low high want = absurd (omega arith)
range_at test wanted a (suc n) p all low high want =
    let more = filter wanted (range_with_len (a + 1) n) in
    elim (cases_eq p a) [
      | inl e ↦ let w : wanted a ≡ true = ap wanted (sym e) ∙ want in
          ap test e ∙ (and_parts (test a) (list_all test more) (ap (list_all test) (sym (cond-true (wanted a) (a ∷ more) more w)) ∙ all)).0
      | inr other ↦ range_at test wanted (a + 1) n p (elim (cases_Bool (wanted a)) [
        | inl w ↦ (and_parts (test a) (list_all test more) (ap (list_all test) (sym (cond-true (wanted a) (a ∷ more) more w)) ∙ all)).1
        | inr none ↦ ap (list_all test) (sym (cond-false (wanted a) (a ∷ more) more none)) ∙ all
      ]) (omega arith) (omega arith) want
    ]

-- ## By the cards

shutdown_is : (s : State) → is_state Shutdown s ≡ true → s ≡ Shutdown
unfolding is_state
shutdown_is Invalid e = absurd (cc)
shutdown_is ServicesCreated e = absurd (cc)
shutdown_is CommunicationInitializing e = absurd (cc)
shutdown_is CommunicationInitialized e = absurd (cc)
shutdown_is ReadyToRun e = absurd (cc)
shutdown_is Running e = absurd (cc)
shutdown_is Paused e = absurd (cc)
shutdown_is Stopping e = absurd (cc)
shutdown_is Stopped e = absurd (cc)
shutdown_is Error e = absurd (cc)
shutdown_is ShuttingDown e = absurd (cc)
shutdown_is Shutdown e = refl
shutdown_is Aborting e = absurd (cc)

is_shutdown : (s : State) → s ≡ Shutdown → is_state Shutdown s ≡ true
unfolding is_state
is_shutdown s e = ap (λ x. is_state Shutdown x) e

away_from : (peer tool here : Bool) → ((peer || tool) && here) ≡ false → peer ≡ true → not here ≡ true
away_from true tool here e f = ap not e
away_from false tool here e f = absurd (cc)

pub finished_of : {names : List (List ℕ)} {cs : List Card} {members : List Member} → Stands names cs members → AllFinished cs → AreFinished members
finished_of {names} {cs} {members} h all = each_of is_finished members (λ i m at.
    let s = h.each i m at in
    let f : IsFinished (card s.place s.counts m) = all i (card s.place s.counts m) s.at in
    let n : length m.setup.names ≡ length names = ap length s.named in
    let w = s.ways in
    and_from (is_state Shutdown (state_of m.past.journal)) (list_all (λ p. not (is_here m.setup m.past p)) (peers m.setup)) (is_shutdown (state_of m.past.journal) f.state_is)
    (range_of (λ p. not (is_here m.setup m.past p)) (λ p. not (p == m.setup.number)) 0 (length m.setup.names) (λ p low want.
    away_from (is_peer m.setup p) (is_tool m.setup m.past p) (is_here m.setup m.past p) (f.away p (omega arith)) (and_from (nat_lt p (length m.setup.names)) (not (p == m.setup.number)) (lt-ltb p (length m.setup.names) (omega arith)) want))))

empty_is : {X : Type 0} (xs : List X) → length xs ≡ 0 → xs ≡ []
empty_is [] e = refl
empty_is (x ∷ xs) e = absurd (omega arith)

none_dropped : {X : Type 0} (n : ℕ) (xs : List X) → xs ≡ [] → drop n xs ≡ []
none_dropped zero xs e = e
none_dropped (suc n) [] e = refl
none_dropped (suc n) (x ∷ xs) e = absurd (cc)

none_waits : {X : Type 0} (got ring waits put : List X) → (got ++ ring) ++ waits ≡ put → got ≡ put → waits ≡ []
none_waits got ring waits put e all =
    let a = length-append (got ++ ring) waits in let b = length-append got ring in
    let c : length ((got ++ ring) ++ waits) ≡ length put = ap length e in let d : length got ≡ length put = ap length all in
    empty_is waits (omega arith)

shut_here : (other here : Bool) → not here ≡ true → (other && here) ≡ false
shut_here other here e = and_right other here (by here e)
  where
    by : (b : Bool) → not b ≡ true → b ≡ false
    by true f = absurd (cc)
    by false f = refl

shut_own : (peer tool here : Bool) → peer ≡ false → tool ≡ false → ((peer || tool) && here) ≡ false
shut_own peer tool here e f = and_left (peer || tool) here (or_from peer tool e f)

-- nothing waits for another one, and nothing is put for the own number
pub all_finished : {names : List (List ℕ)} {cs : List Card} {members : List Member} → Stands names cs members
    → ((p q : ℕ) (sender receiver : Member) → slice_get members p ≡ Some sender → slice_get members q ≡ Some receiver → p ≢ q → got receiver.past.journal p ≡ put sender.past.journal q)
    → AreFinished members → AllFinished cs
all_finished {names} {cs} {members} h got_all all k c at =
    let low = slice_get_within cs k c at in let n = h.count in let l = h.cards in
    let o = slice_get-some members k (omega arith) in
    let m = o.0 in
    let s = h.each k m o.1 in
    let own = card s.place s.counts m in
    let w = s.ways in let named : length m.setup.names ≡ length names = ap length s.named in
    let done = and_parts (is_state Shutdown (state_of m.past.journal)) (list_all (λ p. not (is_here m.setup m.past p)) (peers m.setup)) (each_at is_finished members k m all o.1) in
    subst IsFinished (same_Some own c (sym s.at ∙ at)) (record {
      state_is = shutdown_is (state_of m.past.journal) done.0;
      away = λ p low_p. elim (cases_eq p k) [
        | inl e ↦ shut_own (is_peer m.setup p) (is_tool m.setup m.past p) (is_here m.setup m.past p)
            (and_right (nat_lt p (length m.setup.names)) (not (p == m.setup.number)) (ap not (eq-eqb p m.setup.number (e ∙ sym s.number))))
            (and_left (nat_le (length m.setup.names) p) _ (lt-leb (length m.setup.names) p (omega arith)))
        | inr d ↦ shut_here (is_peer m.setup p || is_tool m.setup m.past p) (is_here m.setup m.past p)
            (range_at (λ r. not (is_here m.setup m.past r)) (λ r. not (r == m.setup.number)) 0 (length m.setup.names) p done.1 (omega arith) (omega arith) (ap not (ne_eqb p m.setup.number (λ e. d (e ∙ s.number)))))
      ];
      empty = λ q low_q. elim (cases_eq q k) [
        | inl e ↦ none_dropped (count_at own q) (put m.past.journal q) (ap (put m.past.journal) e ∙ s.alone)
        | inr d ↦
            let i = slice_get-some members q (omega arith) in
            let t = h.each q i.0 i.1 in
            let link = (h.still q (card t.place t.counts i.0) t.at).linked k own (λ e. d (sym e)) s.at in
            none_waits (got i.0.past.journal k) link.ring (waits_at own q) (put m.past.journal q) link.is (got_all k q m i.0 o.1 i.1 (λ e. d (sym e)))
      ];
    })
