-- Who has lost a peer never runs again.
use Rattle.std.specs.Prelude.{◌≡◌, ◌⊎◌, refl, ℕ, ◌+◌, ◌==◌, Bool, true, false, not, ◌||◌, List, [], ◌∷◌, ◌++◌, length, unwrap_or, if◌then◌else◌}
use Rattle.std.specs.List.{AllByRecursion}
use Rattle.std.proofs.lemmas.Bool.{eqb-true}
use Rattle.std.proofs.lemmas.List.Folds.{list_any-append}
use Rattle.std.proofs.Common.{ap, sym, ◌∙◌, subst, append_assoc, inl, inr, ⊎_elim}
use Rattle.sk_msg.specs.declared.content.Content.{Content}
use Rattle.sk_msg.specs.declared.command.Command.TheVariants.{Abort}
use Rattle.sk_msg.specs.declared.state.State.{State}
use Rattle.sk_msg.specs.declared.state.State.TheVariants.{Invalid, Running, Error, ShuttingDown, Shutdown, Aborting}
use Rattle.sk_msg.specs.States.{is_state}
use Rattle.sk_msg.specs.Edges.{has_edge}
use Rattle.sk_law_world.proofs.StateLaws.{each_state, each_pair}
use Rattle.sk_msg.specs.declared.entry.Entry.{Entry}
use Rattle.sk_msg.specs.declared.entry.Entry.TheVariants.{Got, Put, Hand, State as Entered, System as Judged, Begin, Done, End, Ask, Gone, Stray, Did, Fault}
use Rattle.sk_law.specs.declared.made.Made.{Made}
use Rattle.sk_law.specs.declared.setup.Setup.{Setup}
use Rattle.sk_law.specs.declared.memory.Memory.{Memory}
use Rattle.sk_law.specs.Past.{Past, add}
use Rattle.sk_law.specs.Readings.{got, state_of, is_gone, is_gone_entry, next_number, next_time}
use Rattle.sk_law.specs.Links.{is_peer, comes_in_order}
use Rattle.sk_law.specs.Receivers.{receivers}
use Rattle.sk_law.specs.Blocks.{called, callback, take_step, making, get, heed, lose, enter, enter_if, judge_limits, with_completed}
use Rattle.sk_law_world.specs.Meets.{Meets, EachMeets}
use Rattle.sk_law.specs.Lawful.{is_loss, Lawful, Happens, note_asked, starts, goes_on, gets, loses, completes, asks, adds, moves, readies, begins, counts, gives_up}
use Rattle.sk_law_world.proofs.Built.{state_of-add, state-enter}
use Rattle.sk_law_world.proofs.BlocksBuilt.{IsMessage, are_messages}
use Rattle.sk_law_world.proofs.Meetings.{lawful_meets}
use Rattle.sk_law_world.proofs.WalkLaws.{making_state}
use Rattle.sk_law_world.proofs.Floors.{along}
use Rattle.sk_law_world.proofs.Growth as growth
use Rattle.sk_law_world.proofs.Growth.{Adds, Calm, both}
use Rattle.sk_law_world.proofs.Lists.{finds_none}
use Rattle.sk_law_world.proofs.Cuts.{any, all_kinds, as_any, making_all, ready_adds}

-- ## Tables

-- from these a participant only comes to its end
abbrev pub is_doomed : State → Bool
is_doomed Error = true
is_doomed ShuttingDown = true
is_doomed Shutdown = true
is_doomed Aborting = true
is_doomed _ = false

abbrev implies : Bool → Bool → Bool
implies a b = not a || b

implied : (a b : Bool) → implies a b ≡ true → a ≡ true → b ≡ true
implied true b h i = h
implied false b h i = absurd cc

doomed_on : (from to : State) → implies (has_edge from to) (implies (is_doomed from) (is_doomed to)) ≡ true
unfolding is_state has_edge
doomed_on from to = each_pair (λ a b. implies (has_edge a b) (implies (is_doomed a) (is_doomed b))) refl from to

no_way_back : (from to : State) → implies (has_edge from to) (not (is_state Invalid to)) ≡ true
unfolding is_state has_edge
no_way_back from to = each_pair (λ a b. implies (has_edge a b) (not (is_state Invalid b))) refl from to

no_error : (from : State) → (is_state Invalid from || (has_edge from Error || is_doomed from)) ≡ true
unfolding is_state has_edge
no_error from = each_state (λ a. is_state Invalid a || (has_edge a Error || is_doomed a)) refl from

runs_on : (s : State) → implies (is_state Running s) (not (is_doomed s)) ≡ true
unfolding is_state
runs_on s = each_state (λ a. implies (is_state Running a) (not (is_doomed a))) refl s

-- ## Tests of the state along a journal

-- what edges keep is kept along a journal
pub state_along : (S : Setup) (test : State → Bool) → ((from to : State) → has_edge from to ≡ true → test from ≡ true → test to ≡ true) →
    (es rest : List Entry) → EachMeets S (es ++ rest) → test (state_of es) ≡ true → test (state_of (es ++ rest)) ≡ true
state_along S test edge es rest meets h = along S (λ x. test (state_of x) ≡ true) keep es rest meets h
  where
    same : (x : List Entry) (e : Entry) → state_of (x ++ e ∷ []) ≡ state_of x → test (state_of x) ≡ true → test (state_of (x ++ e ∷ [])) ≡ true
    same x e s h = ap test s ∙ h

    keep : (x : List Entry) (memory : Memory) (e : Entry) → Meets S (record { journal = x; memory = memory }) e → test (state_of x) ≡ true → test (state_of (x ++ e ∷ [])) ≡ true
    keep x memory (Entered to) m h = ap test (state_of-add x (Entered to)) ∙ edge (state_of x) to m.edge h
    keep x memory (Got p m) _ h = same x (Got p m) (state_of-add x (Got p m)) h
    keep x memory (Put p m) _ h = same x (Put p m) (state_of-add x (Put p m)) h
    keep x memory (Hand p k r) _ h = same x (Hand p k r) (state_of-add x (Hand p k r)) h
    keep x memory (Judged s) _ h = same x (Judged s) (state_of-add x (Judged s)) h
    keep x memory (Begin n t) _ h = same x (Begin n t) (state_of-add x (Begin n t)) h
    keep x memory (Done n) _ h = same x (Done n) (state_of-add x (Done n)) h
    keep x memory (End n) _ h = same x (End n) (state_of-add x (End n)) h
    keep x memory (Ask c v) _ h = same x (Ask c v) (state_of-add x (Ask c v)) h
    keep x memory (Gone p r) _ h = same x (Gone p r) (state_of-add x (Gone p r)) h
    keep x memory (Stray n) _ h = same x (Stray n) (state_of-add x (Stray n)) h
    keep x memory (Did s c m) _ h = same x (Did s c m) (state_of-add x (Did s c m)) h
    keep x memory (Fault n) _ h = same x (Fault n) (state_of-add x (Fault n)) h

doomed_edge : (from to : State) → has_edge from to ≡ true → is_doomed from ≡ true → is_doomed to ≡ true
doomed_edge from to e d = implied (is_doomed from) (is_doomed to) (implied (has_edge from to) _ (doomed_on from to) e) d

valid_edge : (from to : State) → has_edge from to ≡ true → not (is_state Invalid from) ≡ true → not (is_state Invalid to) ≡ true
valid_edge from to e d = implied (has_edge from to) (not (is_state Invalid to)) (no_way_back from to) e

-- a front of a journal that meets the rules does
pub front_meets : (S : Setup) (es rest : List Entry) → EachMeets S (es ++ rest) → EachMeets S es
front_meets S es rest meets = λ before e after is. meets before e (after ++ rest) (ap (λ x. x ++ rest) is ∙ append_assoc before (e ∷ after) rest)

-- ## What loses no peer

abbrev pub is_no_gone : Entry → Bool
is_no_gone (Gone p r) = false
is_no_gone _ = true

pub no_gone : Calm is_no_gone
no_gone = record { put = λ q m. refl; entered = λ s. refl; judged = λ s. refl; done = λ n. refl; end = λ n. refl; ask = λ c v. refl; stray = λ n. refl; did = λ s c m. refl; fault = λ n. refl }

not_gone_entry : (p : ℕ) (e : Entry) → is_no_gone e ≡ true → is_gone_entry p e ≡ false
not_gone_entry p (Gone q r) h = absurd cc
not_gone_entry p (Got q m) h = refl
not_gone_entry p (Put q m) h = refl
not_gone_entry p (Hand q k r) h = refl
not_gone_entry p (Entered s) h = refl
not_gone_entry p (Judged s) h = refl
not_gone_entry p (Begin n t) h = refl
not_gone_entry p (Done n) h = refl
not_gone_entry p (End n) h = refl
not_gone_entry p (Ask c v) h = refl
not_gone_entry p (Stray n) h = refl
not_gone_entry p (Did s c m) h = refl
not_gone_entry p (Fault n) h = refl

or_false : (b : Bool) → (b || false) ≡ b
or_false true = refl
or_false false = refl

same_gone : {was now : Past} → Adds is_no_gone was now → (p : ℕ) → is_gone now.journal p ≡ is_gone was.journal p
same_gone {was} {now} a p =
    ap (λ es. is_gone es p) a.is ∙ list_any-append (is_gone_entry p) was.journal a.new
    ∙ ap (λ b. is_gone was.journal p || b) (finds_none is_no_gone (is_gone_entry p) (not_gone_entry p) a.new a.all) ∙ or_false (is_gone was.journal p)

-- a peer or tool was lost, behind at most its Got
pub record HasLost (S : Setup) (was now : Past) : Type 0 where
  pub p : ℕ
  pub reason : ℕ
  pub mid : Past
  pub first : Adds is_no_gone was mid
  pub is : now ≡ lose S p reason mid
  -- either the link, or a message out of order
  pub cause : (is_loss reason ≡ true) ⊎ ((m : Content) × (reason ≡ 8) × (mid ≡ add (Got p m) was) × (comes_in_order S was p m ≡ false))

pub lost_cases : (S : Setup) (past : Past) (made : List Made) (now : Past) → Happens S past made now → HasLost S past now ⊎ Adds is_no_gone past now
unfolding get take_step
lost_cases S past made now (gets p m made' linked are filled) = on (comes_in_order S past p m) refl
  where
    h : AllByRecursion (λ one. IsMessage one.call) made'
    h = are_messages p (length (got past.journal p) + 1) m made' (receivers S past p m) are

    on : (c : Bool) → comes_in_order S past p m ≡ c → HasLost S past (if c then heed S p m made' (add (Got p m) past) else lose S p 8 (add (Got p m) past))
        ⊎ Adds is_no_gone past (if c then heed S p m made' (add (Got p m) past) else lose S p 8 (add (Got p m) past))
    on true e = inr (both (growth.one is_no_gone past (Got p m) refl) (growth.heeds no_gone (λ p k r. refl) S p m made' (add (Got p m) past) h))
    on false e = inl (record { p = p; reason = 8; mid = add (Got p m) past; first = growth.one is_no_gone past (Got p m) refl; is = refl; cause = inr (m, refl, refl, e) })
lost_cases S past made now (loses p reason linked loss) = inl (record { p = p; reason = reason; mid = past; first = growth.none is_no_gone past past.memory refl; is = refl; cause = inl loss })
lost_cases S past made now (completes number) = inr (both (growth.none is_no_gone past (with_completed number past).memory refl) (growth.completes no_gone S number (with_completed number past)))
lost_cases S past made now (asks command) = inr (both (growth.none is_no_gone past (note_asked past).memory refl) (growth.asks no_gone S command (note_asked past)))
lost_cases S past made now (adds name few) = inr (growth.tools_add no_gone S name past)
lost_cases S past made now (moves to e) = inr (growth.enters no_gone S to 0 past)
lost_cases S past made now (readies one e call filled) = inr (both (ready_adds S past one.call call) (growth.rest_of_call no_gone S one past))
lost_cases S past made now (begins one e call filled) =
    inr (both (subst (λ c. Adds is_no_gone past (called c past)) (sym call) (growth.one is_no_gone past (Begin (next_number past.journal) (next_time (unwrap_or S.step 0) past.journal)) refl))
    (both (growth.rest_of_call no_gone S one past) (growth.blocking no_gone S (callback S past one))))
lost_cases S past made now (counts count e) = inr (growth.counts no_gone S count past)
lost_cases S past made now (gives_up e) = inr (growth.asks no_gone S Abort past)

-- ## Fates

-- where a peer is gone the participant is doomed, and it has entered a state
record Fate (S : Setup) (past : Past) : Type 0 where
  doomed : (p : ℕ) → is_peer S p ≡ true → is_gone past.journal p ≡ true → is_doomed (state_of past.journal) ≡ true
  valid : not (is_state Invalid (state_of past.journal)) ≡ true

lost_doomed : (S : Setup) (p reason : ℕ) (mid : Past) → is_peer S p ≡ true → not (is_state Invalid (state_of mid.journal)) ≡ true → is_doomed (state_of (lose S p reason mid).journal) ≡ true
unfolding lose enter_if
lost_doomed S p reason mid peer valid = on (is_peer S p) peer (has_edge (state_of gone.journal) Error) refl
  where
    gone : Past
    gone = add (Gone p reason) mid

    same : state_of gone.journal ≡ state_of mid.journal
    same = state_of-add mid.journal (Gone p reason)

    last : (i e d : Bool) → (i || (e || d)) ≡ true → not i ≡ true → e ≡ false → d ≡ true
    last true e d h v f = absurd cc
    last false true d h v f = absurd cc
    last false false d h v f = h

    on : (b : Bool) → b ≡ true → (c : Bool) → has_edge (state_of gone.journal) Error ≡ c →
        is_doomed (state_of (if b then (if c then enter S Error gone else gone) else gone).journal) ≡ true
    on false f c e = absurd cc
    on true f true e = ap is_doomed (state-enter S Error 0 gone)
    on true f false e = last (is_state Invalid (state_of gone.journal)) (has_edge (state_of gone.journal) Error) (is_doomed (state_of gone.journal))
        (no_error (state_of gone.journal)) (ap (λ s. not (is_state Invalid s)) same ∙ valid) e

peer_lost : (S : Setup) (was now : Past) (g : HasLost S was now) (p : ℕ) → is_gone was.journal p ≡ false → is_gone now.journal p ≡ true → g.p ≡ p
peer_lost S was now g p kept lost = on (g.p == p) refl
  where
    rest : Adds is_no_gone (add (Gone g.p g.reason) g.mid) (lose S g.p g.reason g.mid)
    rest = growth.rest_of_lost no_gone S g.p g.reason g.mid

    is : (false || ((g.p == p) || false)) ≡ true
    is = ap (λ b. b || ((g.p == p) || false)) (sym (same_gone g.first p ∙ kept)) ∙ sym (list_any-append (is_gone_entry p) g.mid.journal (Gone g.p g.reason ∷ []))
        ∙ sym (same_gone rest p) ∙ sym (ap (λ (x : Past). is_gone x.journal p) g.is) ∙ lost

    on : (b : Bool) → (g.p == p) ≡ b → g.p ≡ p
    on true e = eqb-true g.p p e
    on false e = let h = ap (λ b. b || false) e ∙ refl in absurd (let i = sym is ∙ ap (λ b. b || false) e in cc)

rest_lost : (S : Setup) (was now : Past) (g : HasLost S was now) → Adds any g.mid now
rest_lost S was now g = subst (λ (x : Past). Adds any g.mid x) (sym g.is) (growth.loses all_kinds (λ p r. refl) S g.p g.reason g.mid)

pub happens_add : (S : Setup) (was : Past) (more : List Made) (now : Past) → Happens S was more now → Adds any was now
happens_add S was more now h = ⊎_elim
    (λ (g : HasLost S was now). let r : Adds any was now = both (as_any g.first) (rest_lost S was now g) in r)
    (λ (a : Adds is_no_gone was now). let r : Adds any was now = as_any a in r)
    (lost_cases S was more now h)

-- what edges keep is kept by what is added
pub stays : (S : Setup) (test : State → Bool) → ((from to : State) → has_edge from to ≡ true → test from ≡ true → test to ≡ true) →
    {was now : Past} → Adds any was now → EachMeets S now.journal → test (state_of was.journal) ≡ true → test (state_of now.journal) ≡ true
stays S test edge {was} {now} a meets h =
    subst (λ es. test (state_of es) ≡ true) (sym a.is) (state_along S test edge was.journal a.new (subst (EachMeets S) a.is meets) h)

pub meets_before : (S : Setup) {was now : Past} → Adds any was now → EachMeets S now.journal → EachMeets S was.journal
meets_before S {was} {now} a meets = front_meets S was.journal a.new (subst (EachMeets S) a.is meets)

is_valid : State → Bool
is_valid s = not (is_state Invalid s)

doomed_all : (S : Setup) (was now : Past) (more : List Made) → Happens S was more now → Fate S was → EachMeets S (judge_limits S now).journal →
    (p : ℕ) → is_peer S p ≡ true → is_gone (judge_limits S now).journal p ≡ true → is_doomed (state_of (judge_limits S now).journal) ≡ true
unfolding is_valid
doomed_all S was now more h f meets p peer gone = on (is_gone was.journal p) refl
  where
    last : Past
    last = judge_limits S now

    lim : Adds is_no_gone now last
    lim = growth.limits no_gone S now

    lost : is_gone was.journal p ≡ false → HasLost S was now → is_doomed (state_of last.journal) ≡ true
    lost kept g =
        let same : g.p ≡ p = peer_lost S was now g p kept (sym (same_gone lim p) ∙ gone) in
        let later : Adds any g.mid last = both (rest_lost S was now g) (as_any lim) in
        let valid : is_valid (state_of g.mid.journal) ≡ true = stays S is_valid valid_edge (as_any g.first) (meets_before S later meets) f.valid in
        let doomed : is_doomed (state_of now.journal) ≡ true =
        ap (λ (x : Past). is_doomed (state_of x.journal)) g.is ∙ lost_doomed S g.p g.reason g.mid (ap (is_peer S) same ∙ peer) valid in
        stays S is_doomed doomed_edge (as_any lim) meets doomed

    on : (b : Bool) → is_gone was.journal p ≡ b → is_doomed (state_of last.journal) ≡ true
    on true e = stays S is_doomed doomed_edge (both (happens_add S was more now h) (as_any lim)) meets (f.doomed p peer e)
    on false e = ⊎_elim (lost e)
        (λ (a : Adds is_no_gone was now). let k = sym gone ∙ same_gone lim p ∙ same_gone a p ∙ e in let r : is_doomed (state_of last.journal) ≡ true = absurd cc in r)
        (lost_cases S was more now h)

fate : (S : Setup) (past : Past) (made : List Made) → Lawful S past made → Fate S past
unfolding is_state is_valid
fate S past made starts = record {
  doomed = λ p peer gone. let h = sym gone ∙ finds_none is_no_gone (is_gone_entry p) (not_gone_entry p) (making S).journal (making_all no_gone S) in absurd cc;
  valid = ap (λ s. not (is_state Invalid s)) (making_state S);
}
fate S past made (goes_on was now before more law h) =
    let f : Fate S was = fate S was before law in
    let meets : EachMeets S (judge_limits S now).journal = lawful_meets S (judge_limits S now) (before ++ more) (goes_on was now before more law h) in
    record {
      doomed = doomed_all S was now more h f meets;
      valid = stays S is_valid valid_edge (both (happens_add S was more now h) (as_any (growth.limits no_gone S now))) meets f.valid;
    }

-- who is Running has lost no peer
pub running_linked : (S : Setup) (past : Past) (made : List Made) → Lawful S past made → is_state Running (state_of past.journal) ≡ true → (p : ℕ) → is_peer S p ≡ true → is_gone past.journal p ≡ false
running_linked S past made law running p peer = on (is_gone past.journal p) refl
  where
    on : (b : Bool) → is_gone past.journal p ≡ b → b ≡ false
    on false e = refl
    on true e =
        let d = (fate S past made law).doomed p peer e in
        let n = implied (is_state Running (state_of past.journal)) (not (is_doomed (state_of past.journal))) (runs_on (state_of past.journal)) running in
        let k = ap not d in absurd cc
