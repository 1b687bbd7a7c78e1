-- Each message is handed once to each of its receivers.
use Rattle.std.specs.Prelude.{◌≡◌, ◌<◌, ◌≤◌, ◌⊎◌, refl, ℕ, ◌+◌, Bool, true, false, not, ◌||◌, List, [], ◌∷◌, ◌++◌, map, length, Some, None, unwrap_or, if◌then◌else◌}
use Rattle.std.specs.List.{list_all, cons_option, flat_map, AllByRecursion}
use Rattle.std.proofs.lemmas.List.Folds.{list_all-append}
use Rattle.std.proofs.lemmas.List.Elements.{filter_map-append}
use Rattle.std.proofs.lemmas.Bool.{and_from}
use Rattle.std.proofs.lemmas.Bool.Decides.{nat_tests}
use Rattle.std.proofs.Common.{ap, sym, ◌∙◌, subst, append_assoc, append-nil, length-append, arith, inl, inr, ⊎_elim}
use Rattle.sk_msg.specs.declared.command.Command.TheVariants.{Abort}
use Rattle.sk_msg.specs.declared.content.Content.{Content}
use Rattle.sk_msg.specs.declared.content.Content.TheVariants as contents
use Rattle.sk_msg.specs.declared.state.State.TheVariants.{ServicesCreated, Aborting}
use Rattle.sk_msg.specs.declared.entry.Entry.{Entry}
use Rattle.sk_msg.specs.declared.entry.Entry.TheVariants.{Got, Put, Hand, State as Entered, System as Judged, Begin, Done, End, Ask, Gone, Stray, Did, Fault}
use Rattle.sk_law.specs.declared.made.Call.{Call}
use Rattle.sk_law.specs.declared.made.Call.TheVariants as calls
use Rattle.sk_law.specs.declared.made.Made.{Made}
use Rattle.sk_law.specs.declared.setup.Setup.{Setup}
use Rattle.sk_law.specs.Past.{Past, add}
use Rattle.sk_law.specs.Readings.{got, got_from, state_of, next_number, next_time}
use Rattle.sk_law.specs.Links.{comes_in_order, is_open, peers}
use Rattle.sk_law.specs.Receivers.{receivers, is_over, handed_to}
use Rattle.sk_law.specs.Safe.{hands, hand_of}
use mathlib.Core.List.{IsPrefix}
use Rattle.sk_law_world.specs.Once.{IsHanded, HandedOnce}
use Rattle.sk_law.specs.Services.{new_states}
use Rattle.sk_law.specs.Blocks.{called, callback, callbacks, heed, get, lose, enter, making, introduction, judge_limits, take_step, with_completed}
use Rattle.sk_law.specs.Lawful.{Lawful, Happens, Leads, here, further, note_asked, starts, goes_on, gets, loses, completes, asks, adds, moves, readies, begins, counts, gives_up}
use Rattle.sk_law_world.proofs.BlocksBuilt.{IsMessage, are_messages}
use Rattle.sk_law_world.proofs.Meetings.{last_or_before}
use Rattle.sk_law_world.proofs.Growth as growth
use Rattle.sk_law_world.proofs.Growth.{Adds, Calm, both}

-- neither got nor handed
abbrev pub is_quiet : Entry → Bool
is_quiet (Got p m) = false
is_quiet (Hand p k r) = false
is_quiet _ = true

pub quiet : Calm is_quiet
quiet = record { put = λ q m. refl; entered = λ s. refl; judged = λ s. refl; done = λ n. refl; end = λ n. refl; ask = λ c v. refl; stray = λ n. refl; did = λ s c m. refl; fault = λ n. refl }

-- not got
abbrev pub is_no_got : Entry → Bool
is_no_got (Got p m) = false
is_no_got _ = true

pub no_got_calm : Calm is_no_got
no_got_calm = record { put = λ q m. refl; entered = λ s. refl; judged = λ s. refl; done = λ n. refl; end = λ n. refl; ask = λ c v. refl; stray = λ n. refl; did = λ s c m. refl; fault = λ n. refl }

pub no_hands : (es : List Entry) (p k : ℕ) → list_all is_quiet es ≡ true → hands es p k ≡ []
no_hands [] p k h = refl
no_hands (Got q m ∷ es) p k h = absurd cc
no_hands (Put q m ∷ es) p k h = no_hands es p k h
no_hands (Hand q j r ∷ es) p k h = absurd cc
no_hands (Entered s ∷ es) p k h = no_hands es p k h
no_hands (Judged s ∷ es) p k h = no_hands es p k h
no_hands (Begin n t ∷ es) p k h = no_hands es p k h
no_hands (Done n ∷ es) p k h = no_hands es p k h
no_hands (End n ∷ es) p k h = no_hands es p k h
no_hands (Ask c v ∷ es) p k h = no_hands es p k h
no_hands (Gone q r ∷ es) p k h = no_hands es p k h
no_hands (Stray n ∷ es) p k h = no_hands es p k h
no_hands (Did s c m ∷ es) p k h = no_hands es p k h
no_hands (Fault n ∷ es) p k h = no_hands es p k h

pub no_got : (es : List Entry) (p : ℕ) → list_all is_no_got es ≡ true → got es p ≡ []
no_got [] p h = refl
no_got (Got q m ∷ es) p h = absurd cc
no_got (Put q m ∷ es) p h = no_got es p h
no_got (Hand q k r ∷ es) p h = no_got es p h
no_got (Entered s ∷ es) p h = no_got es p h
no_got (Judged s ∷ es) p h = no_got es p h
no_got (Begin n t ∷ es) p h = no_got es p h
no_got (Done n ∷ es) p h = no_got es p h
no_got (End n ∷ es) p h = no_got es p h
no_got (Ask c v ∷ es) p h = no_got es p h
no_got (Gone q r ∷ es) p h = no_got es p h
no_got (Stray n ∷ es) p h = no_got es p h
no_got (Did s c m ∷ es) p h = no_got es p h
no_got (Fault n ∷ es) p h = no_got es p h

pub quiet_no_got : (es : List Entry) → list_all is_quiet es ≡ true → list_all is_no_got es ≡ true
quiet_no_got [] h = refl
quiet_no_got (Got p m ∷ es) h = absurd cc
quiet_no_got (Put p m ∷ es) h = quiet_no_got es h
quiet_no_got (Hand p k r ∷ es) h = absurd cc
quiet_no_got (Entered s ∷ es) h = quiet_no_got es h
quiet_no_got (Judged s ∷ es) h = quiet_no_got es h
quiet_no_got (Begin n t ∷ es) h = quiet_no_got es h
quiet_no_got (Done n ∷ es) h = quiet_no_got es h
quiet_no_got (End n ∷ es) h = quiet_no_got es h
quiet_no_got (Ask c v ∷ es) h = quiet_no_got es h
quiet_no_got (Gone p r ∷ es) h = quiet_no_got es h
quiet_no_got (Stray n ∷ es) h = quiet_no_got es h
quiet_no_got (Did s c m ∷ es) h = quiet_no_got es h
quiet_no_got (Fault n ∷ es) h = quiet_no_got es h

pub hands-append : (xs ys : List Entry) (p k : ℕ) → hands (xs ++ ys) p k ≡ hands xs p k ++ hands ys p k
hands-append xs ys p k = filter_map-append (hand_of p k) xs ys

pub got-append : (xs ys : List Entry) (p : ℕ) → got (xs ++ ys) p ≡ got xs p ++ got ys p
got-append xs ys p = filter_map-append (got_from p) xs ys

-- a quiet block changes neither
pub same_hands : {past now : Past} → Adds is_quiet past now → (p k : ℕ) → hands now.journal p k ≡ hands past.journal p k
same_hands {past} {now} a p k = ap (λ es. hands es p k) a.is ∙ hands-append past.journal a.new p k ∙ ap (λ x. hands past.journal p k ++ x) (no_hands a.new p k a.all) ∙ append-nil (hands past.journal p k)

pub same_got : {past now : Past} → Adds is_no_got past now → (p : ℕ) → got now.journal p ≡ got past.journal p
same_got {past} {now} a p = ap (λ es. got es p) a.is ∙ got-append past.journal a.new p ∙ ap (λ x. got past.journal p ++ x) (no_got a.new p a.all) ∙ append-nil (got past.journal p)

pub quietly : {past now : Past} → Adds is_quiet past now → Adds is_no_got past now
quietly a = record { new = a.new; is = a.is; all = quiet_no_got a.new a.all; tools = a.tools }

-- ## One call with a message

pub self_hand : (p k r : ℕ) → hand_of p k (Hand p k r) ≡ Some r
self_hand p k r = grind (arith, nat_tests)

other_hand : (p k q j r : ℕ) → (q ≡ p → j ≡ k → ⊥) → hand_of p k (Hand q j r) ≡ None
other_hand p k q j r h = grind (arith, nat_tests)

call_hands : (S : Setup) (past : Past) (one : Made) (q j r : ℕ) (m : Content) → calls.Message q j r m ≡ one.call → (p k : ℕ) →
    hands (callback S past one).journal p k ≡ hands past.journal p k ++ cons_option (hand_of p k (Hand q j r)) []
call_hands S past one q j r m e p k =
    same_hands (growth.rest_of_call quiet S one past) p k
    ∙ ap (λ c. hands (called c past).journal p k) (sym e)
    ∙ hands-append past.journal (Hand q j r ∷ []) p k

calls_hands : (S : Setup) (made : List Made) (past : Past) (p k : ℕ) (m : Content) (rs : List ℕ) →
    map (λ one. one.call) made ≡ map (λ r. calls.Message p k r m) rs → hands (callbacks S made past).journal p k ≡ hands past.journal p k ++ rs
calls_hands S [] past p k m [] e = sym (append-nil (hands past.journal p k))
calls_hands S [] past p k m (r ∷ rs) e = absurd cc
calls_hands S (one ∷ more) past p k m [] e = absurd cc
calls_hands S (one ∷ more) past p k m (r ∷ rs) e =
    let first : calls.Message p k r m ≡ one.call = cc in let rest : map (λ one. one.call) more ≡ map (λ r. calls.Message p k r m) rs = cc in
    calls_hands S more (callback S past one) p k m rs rest
    ∙ ap (λ x. x ++ rs) (call_hands S past one p k r m first p k ∙ ap (λ o. hands past.journal p k ++ cons_option o []) (self_hand p k r))
    ∙ append_assoc (hands past.journal p k) (r ∷ []) rs

calls_other : (S : Setup) (made : List Made) (past : Past) (q j : ℕ) (m : Content) (rs : List ℕ) →
    map (λ one. one.call) made ≡ map (λ r. calls.Message q j r m) rs → (p k : ℕ) → (q ≡ p → j ≡ k → ⊥) → hands (callbacks S made past).journal p k ≡ hands past.journal p k
calls_other S [] past q j m rs e p k differ = refl
calls_other S (one ∷ more) past q j m [] e p k differ = absurd cc
calls_other S (one ∷ more) past q j m (r ∷ rs) e p k differ =
    let first : calls.Message q j r m ≡ one.call = cc in let rest : map (λ one. one.call) more ≡ map (λ r. calls.Message q j r m) rs = cc in
    calls_other S more (callback S past one) q j m rs rest p k differ
    ∙ call_hands S past one q j r m first p k ∙ ap (λ o. hands past.journal p k ++ cons_option o []) (other_hand p k q j r differ) ∙ append-nil (hands past.journal p k)

-- ## A Got

-- what a message in order leads to
heed_hands : (S : Setup) (p : ℕ) (m : Content) (made : List Made) (was past : Past) (k : ℕ) →
    map (λ one. one.call) made ≡ map (λ r. calls.Message p k r m) (handed_to S was p m) → hands (heed S p m made past).journal p k ≡ hands past.journal p k ++ handed_to S was p m
unfolding heed
heed_hands S p (contents.Status state until) made was past k e = same_hands (growth.systems quiet S past) p k ∙ sym (append-nil (hands past.journal p k))
heed_hands S p (contents.Workflow required) made was past k e = same_hands (growth.systems quiet S past) p k ∙ sym (append-nil (hands past.journal p k))
heed_hands S p contents.Abort made was past k e = same_hands (growth.enters_if quiet S Aborting past) p k ∙ sym (append-nil (hands past.journal p k))
heed_hands S p (contents.LinResponse head' response) made was past k e = sym (append-nil (hands past.journal p k))
heed_hands S p (contents.Hello name role address) made was past k e = calls_hands S made past p k (contents.Hello name role address) (handed_to S was p (contents.Hello name role address)) e
heed_hands S p (contents.NextStep at size) made was past k e = calls_hands S made past p k (contents.NextStep at size) (handed_to S was p (contents.NextStep at size)) e
heed_hands S p (contents.ServiceAdd service) made was past k e = calls_hands S made past p k (contents.ServiceAdd service) (handed_to S was p (contents.ServiceAdd service)) e
heed_hands S p (contents.Can head' frame) made was past k e = calls_hands S made past p k (contents.Can head' frame) (handed_to S was p (contents.Can head' frame)) e
heed_hands S p (contents.Eth head' payload) made was past k e = calls_hands S made past p k (contents.Eth head' payload) (handed_to S was p (contents.Eth head' payload)) e
heed_hands S p (contents.Lin head' frame) made was past k e = calls_hands S made past p k (contents.Lin head' frame) (handed_to S was p (contents.Lin head' frame)) e
heed_hands S p (contents.Publish head' payload) made was past k e = calls_hands S made past p k (contents.Publish head' payload) (handed_to S was p (contents.Publish head' payload)) e
heed_hands S p (contents.Call head' call payload) made was past k e = calls_hands S made past p k (contents.Call head' call payload) (handed_to S was p (contents.Call head' call payload)) e
heed_hands S p (contents.Reply head' client call payload) made was past k e = calls_hands S made past p k (contents.Reply head' client call payload) (handed_to S was p (contents.Reply head' client call payload)) e
heed_hands S p (contents.Refuse reason) made was past k e = calls_hands S made past p k (contents.Refuse reason) (handed_to S was p (contents.Refuse reason)) e
heed_hands S p contents.Leave made was past k e = calls_hands S made past p k contents.Leave (handed_to S was p contents.Leave) e
heed_hands S p contents.ServicesEnd made was past k e = calls_hands S made past p k contents.ServicesEnd (handed_to S was p contents.ServicesEnd) e

heed_other : (S : Setup) (q : ℕ) (m : Content) (made : List Made) (past : Past) (j : ℕ) (rs : List ℕ) →
    map (λ one. one.call) made ≡ map (λ r. calls.Message q j r m) rs → (p k : ℕ) → (q ≡ p → j ≡ k → ⊥) → hands (heed S q m made past).journal p k ≡ hands past.journal p k
unfolding heed
heed_other S q (contents.Status state until) made past j rs e p k differ = same_hands (growth.systems quiet S past) p k
heed_other S q (contents.Workflow required) made past j rs e p k differ = same_hands (growth.systems quiet S past) p k
heed_other S q contents.Abort made past j rs e p k differ = same_hands (growth.enters_if quiet S Aborting past) p k
heed_other S q (contents.LinResponse head' response) made past j rs e p k differ = refl
heed_other S q (contents.Hello name role address) made past j rs e p k differ = calls_other S made past q j (contents.Hello name role address) rs e p k differ
heed_other S q (contents.NextStep at size) made past j rs e p k differ = calls_other S made past q j (contents.NextStep at size) rs e p k differ
heed_other S q (contents.ServiceAdd service) made past j rs e p k differ = calls_other S made past q j (contents.ServiceAdd service) rs e p k differ
heed_other S q (contents.Can head' frame) made past j rs e p k differ = calls_other S made past q j (contents.Can head' frame) rs e p k differ
heed_other S q (contents.Eth head' payload) made past j rs e p k differ = calls_other S made past q j (contents.Eth head' payload) rs e p k differ
heed_other S q (contents.Lin head' frame) made past j rs e p k differ = calls_other S made past q j (contents.Lin head' frame) rs e p k differ
heed_other S q (contents.Publish head' payload) made past j rs e p k differ = calls_other S made past q j (contents.Publish head' payload) rs e p k differ
heed_other S q (contents.Call head' call payload) made past j rs e p k differ = calls_other S made past q j (contents.Call head' call payload) rs e p k differ
heed_other S q (contents.Reply head' client call payload) made past j rs e p k differ = calls_other S made past q j (contents.Reply head' client call payload) rs e p k differ
heed_other S q (contents.Refuse reason) made past j rs e p k differ = calls_other S made past q j (contents.Refuse reason) rs e p k differ
heed_other S q contents.Leave made past j rs e p k differ = calls_other S made past q j contents.Leave rs e p k differ
heed_other S q contents.ServicesEnd made past j rs e p k differ = calls_other S made past q j contents.ServicesEnd rs e p k differ

add_got : (past : Past) (q : ℕ) (m : Content) (p k : ℕ) → hands (past.journal ++ Got q m ∷ []) p k ≡ hands past.journal p k
add_got past q m p k = hands-append past.journal (Got q m ∷ []) p k ∙ append-nil (hands past.journal p k)

pub made_none : (made : List Made) → map (λ one. one.call) made ≡ [] → made ≡ []
made_none [] e = refl
made_none (one ∷ more) e = absurd cc

heed_none : (S : Setup) (p : ℕ) (m : Content) (now : Past) (k : ℕ) → hands (heed S p m [] now).journal p k ≡ hands now.journal p k
heed_none S p m now k = heed_other S p m [] now (k + 1) [] refl p k (λ f g. omega arith)

or_true : (b : Bool) → (b || true) ≡ true
or_true true = refl
or_true false = refl

rs_of : Setup → Past → ℕ → Content → Bool → Bool → List ℕ
rs_of S past p m order over = if over || not order then [] else handed_to S past p m

get_hands_by : (S : Setup) (p : ℕ) (m : Content) (made : List Made) (past : Past) (k : ℕ) (order over : Bool) →
    map (λ one. one.call) made ≡ map (λ r. calls.Message p k r m) (rs_of S past p m order over) →
    hands (if order then heed S p m made (add (Got p m) past) else lose S p 8 (add (Got p m) past)).journal p k ≡ hands past.journal p k ++ rs_of S past p m order over
unfolding rs_of
get_hands_by S p m made past k true false e = heed_hands S p m made past (add (Got p m) past) k e ∙ ap (λ x. x ++ handed_to S past p m) (add_got past p m p k)
get_hands_by S p m made past k true true e =
    ap (λ x. hands (heed S p m x (add (Got p m) past)).journal p k) (made_none made e) ∙ heed_none S p m (add (Got p m) past) k ∙ add_got past p m p k ∙ sym (append-nil (hands past.journal p k))
get_hands_by S p m made past k false true e = same_hands (growth.loses quiet (λ p r. refl) S p 8 (add (Got p m) past)) p k ∙ add_got past p m p k ∙ sym (append-nil (hands past.journal p k))
get_hands_by S p m made past k false false e = same_hands (growth.loses quiet (λ p r. refl) S p 8 (add (Got p m) past)) p k ∙ add_got past p m p k ∙ sym (append-nil (hands past.journal p k))

get_hands : (S : Setup) (p : ℕ) (m : Content) (made : List Made) (past : Past) (k : ℕ) →
    map (λ one. one.call) made ≡ map (λ r. calls.Message p k r m) (receivers S past p m) →
    hands (get S p m made past).journal p k ≡ hands past.journal p k ++ receivers S past p m
unfolding get receivers rs_of
get_hands S p m made past k e = get_hands_by S p m made past k (comes_in_order S past p m) (is_over (state_of past.journal)) e

pub get_other : (S : Setup) (q : ℕ) (m : Content) (made : List Made) (past : Past) (j : ℕ) (rs : List ℕ) →
    map (λ one. one.call) made ≡ map (λ r. calls.Message q j r m) rs → (p k : ℕ) → (q ≡ p → j ≡ k → ⊥) → hands (get S q m made past).journal p k ≡ hands past.journal p k
unfolding get
get_other S q m made past j rs e p k differ = on (comes_in_order S past q m)
  where
    on : (c : Bool) → hands (if c then heed S q m made (add (Got q m) past) else lose S q 8 (add (Got q m) past)).journal p k ≡ hands past.journal p k
    on true = heed_other S q m made (add (Got q m) past) j rs e p k differ ∙ add_got past q m p k
    on false = same_hands (growth.loses quiet (λ p r. refl) S q 8 (add (Got q m) past)) p k ∙ add_got past q m p k

pub get_got : (S : Setup) (q : ℕ) (m : Content) (made : List Made) (past : Past) → AllByRecursion (λ one. IsMessage one.call) made → (p : ℕ) →
    got (get S q m made past).journal p ≡ got past.journal p ++ cons_option (got_from p (Got q m)) []
get_got S q m made past h p = same_got (growth.rest_of_got no_got_calm (λ p k r. refl) (λ p r. refl) S q m made past h) p ∙ got-append past.journal (Got q m ∷ []) p

pub self_got : (p : ℕ) (m : Content) → got_from p (Got p m) ≡ Some m
self_got p m = grind (arith, nat_tests)

get_one_more : (S : Setup) (q : ℕ) (m : Content) (made : List Made) (past : Past) → AllByRecursion (λ one. IsMessage one.call) made →
    length (got (get S q m made past).journal q) ≡ length (got past.journal q) + 1
get_one_more S q m made past h =
    ap length (get_got S q m made past h q ∙ ap (λ o. got past.journal q ++ cons_option o []) (self_got q m)) ∙ length-append (got past.journal q) (m ∷ [])

pub get_longer : (S : Setup) (q : ℕ) (m : Content) (made : List Made) (past : Past) → AllByRecursion (λ one. IsMessage one.call) made → (p : ℕ) →
    length (got past.journal p) ≤ length (got (get S q m made past).journal p)
get_longer S q m made past h p =
    let e = ap length (get_got S q m made past h p) in let l = length-append (got past.journal p) (cons_option (got_from p (Got q m)) []) in omega arith

-- ## All that happens

quiet_call : (S : Setup) (past : Past) (one : Made) (call : Call) → call ≡ one.call → (IsMessage call → ⊥) → Adds is_quiet past (callback S past one)
quiet_call S past one call e other = both (first call e other) (growth.rest_of_call quiet S one past)
  where
    begun : (call : Call) → (IsMessage call → ⊥) → Adds is_quiet past (called call past)
    begun calls.Ready g = growth.none is_quiet past (called calls.Ready past).memory refl
    begun (calls.Step n t) g = growth.one is_quiet past (Begin n t) refl
    begun (calls.Message p k r m) g = absurd (g tt)

    first : (call : Call) → call ≡ one.call → (IsMessage call → ⊥) → Adds is_quiet past (called one.call past)
    first call e g = subst (λ c. Adds is_quiet past (called c past)) e (begun call g)

-- a message was got
pub record HasGot (S : Setup) (past : Past) (made : List Made) (now : Past) : Type 0 where
  pub p : ℕ
  pub m : Content
  pub linked : is_open S past p ≡ true
  pub are : map (λ one. one.call) made ≡ map (λ r. calls.Message p (length (got past.journal p) + 1) r m) (receivers S past p m)
  pub is : now ≡ get S p m made past

-- either a message was got, or what happened is quiet
pub cases : (S : Setup) (past : Past) (made : List Made) (now : Past) → Happens S past made now → HasGot S past made now ⊎ Adds is_quiet past now
unfolding take_step
cases S past made now (gets p m made' linked are filled) = inl (record { p = p; m = m; linked = linked; are = are; is = refl })
cases S past made now (loses p reason linked loss) = inr (growth.loses quiet (λ p r. refl) S p reason past)
cases S past made now (completes number) = inr (both (growth.none is_quiet past (with_completed number past).memory refl) (growth.completes quiet S number (with_completed number past)))
cases S past made now (asks command) = inr (both (growth.none is_quiet past (note_asked past).memory refl) (growth.asks quiet S command (note_asked past)))
cases S past made now (adds name few) = inr (growth.tools_add quiet S name past)
cases S past made now (moves to e) = inr (growth.enters quiet S to 0 past)
cases S past made now (readies one e call filled) = inr (quiet_call S past one calls.Ready (sym call) (λ g. g))
cases S past made now (begins one e call filled) =
    inr (both (quiet_call S past one (calls.Step (next_number past.journal) (next_time (unwrap_or S.step 0) past.journal)) (sym call) (λ g. g)) (growth.blocking quiet S (callback S past one)))
cases S past made now (counts count e) = inr (growth.counts quiet S count past)
cases S past made now (gives_up e) = inr (growth.asks quiet S Abort past)

pub messages_of : (S : Setup) (past : Past) (made : List Made) (now : Past) (g : HasGot S past made now) → AllByRecursion (λ one. IsMessage one.call) made
messages_of S past made now g = are_messages g.p (length (got past.journal g.p) + 1) g.m made (receivers S past g.p g.m) g.are

puts_quiet : (ps : List ℕ) (ms : List Content) → list_all is_quiet (flat_map (λ p. map (λ m. Put p m) ms) ps) ≡ true
puts_quiet [] ms = refl
puts_quiet (p ∷ ps) ms = list_all-append is_quiet (map (λ m. Put p m) ms) (flat_map (λ p. map (λ m. Put p m) ms) ps) ∙ and_from _ _ (some ms) (puts_quiet ps ms)
  where
    some : (ms : List Content) → list_all is_quiet (map (λ m. Put p m) ms) ≡ true
    some [] = refl
    some (m ∷ ms) = some ms

-- nothing is got or handed at the start
pub making_quiet : (S : Setup) → list_all is_quiet (making S).journal ≡ true
unfolding making
making_quiet S = ap (list_all is_quiet) a.is ∙ list_all-append is_quiet before.journal a.new ∙ and_from _ _ (puts_quiet (peers S) (introduction S)) a.all
  where
    before : Past
    before = record {
      journal = flat_map (λ p. map (λ m. Put p m) (introduction S)) (peers S);
      memory = record { called = false; asked = false; pause = None; tools = []; services = new_states S.services; ready_awaited = false };
    }

    a : Adds is_quiet before (enter S ServicesCreated before)
    a = growth.enters quiet S ServicesCreated 0 before

-- no Hand names a place above the number of messages got
pub bounded : (S : Setup) (past : Past) (made : List Made) → Lawful S past made → (p k : ℕ) → length (got past.journal p) < k → hands past.journal p k ≡ []
bounded S past made starts p k lt = no_hands (making S).journal p k (making_quiet S)
bounded S past made (goes_on was now before more law h) p k lt =
    same_hands (growth.limits quiet S now) p k ∙ ⊎_elim
    (λ (g : HasGot S was more now).
    let at : ℕ = length (got was.journal g.p) + 1 in
    let all = messages_of S was more now g in
    let longer = get_longer S g.p g.m more was all p in
    let same = ap (λ (x : Past). length (got x.journal p)) g.is in
    let kept = ap length (same_got (quietly (growth.limits quiet S now)) p) in
    let r : hands now.journal p k ≡ [] =
    ap (λ (x : Past). hands x.journal p k) g.is
    ∙ get_other S g.p g.m more was at (receivers S was g.p g.m) g.are p k
    (λ (q : g.p ≡ p) (j : at ≡ k). let one = get_one_more S g.p g.m more was all in let f = ap (λ x. length (got (get S g.p g.m more was).journal x)) q in omega arith)
    ∙ bounded S was before law p k (omega arith) in r)
    (λ (a : Adds is_quiet was now).
    let kept = ap length (same_got (quietly (growth.limits quiet S now)) p) in
    let stays = ap length (same_got (quietly a) p) in
    let r : hands now.journal p k ≡ [] = same_hands a p k ∙ bounded S was before law p k (omega arith) in r)
    (cases S was more now h)

-- ## Once

pub got_here : (es before : List Entry) (p : ℕ) (m : Content) (after : List Entry) → got es p ≡ [] → es ≡ before ++ Got p m ∷ after → ⊥
got_here es before p m after none e =
    let a : got before p ++ cons_option (got_from p (Got p m)) (got after p) ≡ [] = sym (got-append before (Got p m ∷ after) p) ∙ sym (ap (λ x. got x p) e) ∙ none in
    let b : got before p ++ m ∷ got after p ≡ [] = ap (λ o. got before p ++ cons_option o (got after p)) (sym (self_got p m)) ∙ a in
    let n = ap length b in let l = length-append (got before p) (m ∷ got after p) in omega arith

-- a Got stands in the first of two lists where the second has none
in_first : (xs ys before : List Entry) (p : ℕ) (m : Content) (after : List Entry) → got ys p ≡ [] → xs ++ ys ≡ before ++ Got p m ∷ after →
    (rest : List Entry) × (xs ≡ before ++ Got p m ∷ rest)
in_first [] ys before p m after none e = absurd (got_here ys before p m after none e)
in_first (x ∷ xs) ys [] p m after none e = let h : x ≡ Got p m = cc in (xs, ap (λ z. z ∷ xs) h)
in_first (x ∷ xs) ys (z ∷ before) p m after none e =
    let h : x ≡ z = cc in let t : xs ++ ys ≡ before ++ Got p m ∷ after = cc in
    let r = in_first xs ys before p m after none t in
    (r.0, ap (λ w. w ∷ xs) h ∙ ap (λ w. z ∷ w) r.1)

pub front_more : {X : Type 0} (a b c : List X) → IsPrefix a b → IsPrefix a (b ++ c)
front_more a b c h = (h.0 ++ c, sym (append_assoc a h.0 c) ∙ ap (λ x. x ++ c) h.1)

-- what was so stays so
stays : (S : Setup) (was now : Past) (before more : List Made) (front : List Entry) (p : ℕ) (m : Content) → Happens S was more now →
    hands now.journal p (length (got front p) + 1) ≡ hands was.journal p (length (got front p) + 1) →
    IsHanded S was before front p m → IsHanded S (judge_limits S now) (before ++ more) front p m
stays S was now before more front p m next same h = record {
  at = h.at;
  calls = h.calls;
  lawful = h.lawful;
  meanwhile = h.meanwhile;
  happens = h.happens;
  rest = h.rest ++ more;
  leads = further was now h.rest more h.leads next;
  called = ap (λ x. h.calls ++ x) (sym (append_assoc h.meanwhile h.rest more)) ∙ sym (append_assoc h.calls (h.meanwhile ++ h.rest) more) ∙ ap (λ x. x ++ more) h.called;
  is = h.is;
  once = same_hands (growth.limits quiet S now) p (length (got front p) + 1) ∙ same ∙ h.once;
}

got_place : (es before : List Entry) (p : ℕ) (m : Content) (rest : List Entry) → es ≡ before ++ Got p m ∷ rest → length (got before p) < length (got es p)
got_place es before p m rest e =
    let f = ap (λ x. length (got x p)) e in let g = ap length (got-append before (Got p m ∷ rest) p) in
    let h = length-append (got before p) (got (Got p m ∷ rest) p) in
    let i = ap (λ o. length (cons_option o (got rest p))) (self_got p m) in omega arith

once_got : (S : Setup) (was now : Past) (before more : List Made) → Lawful S was before → Happens S was more now → (g : HasGot S was more now) →
    ((front : List Entry) (p : ℕ) (m : Content) (after : List Entry) → was.journal ≡ front ++ Got p m ∷ after → IsHanded S was before front p m) →
    (front : List Entry) (p : ℕ) (m : Content) (after : List Entry) → now.journal ≡ front ++ Got p m ∷ after → IsHanded S (judge_limits S now) (before ++ more) front p m
once_got S was now before more law h g ih front p m after e = ⊎_elim new old (last_or_before was.journal (Got g.p g.m) front (Got p m) place.0 place.1)
  where
    at : ℕ
    at = length (got was.journal g.p) + 1

    rest : Adds is_no_got (add (Got g.p g.m) was) (get S g.p g.m more was)
    rest = growth.rest_of_got no_got_calm (λ p k r. refl) (λ p r. refl) S g.p g.m more was (messages_of S was more now g)

    place : (rest : List Entry) × (was.journal ++ Got g.p g.m ∷ [] ≡ front ++ Got p m ∷ rest)
    place = in_first (was.journal ++ Got g.p g.m ∷ []) rest.new front p m after (no_got rest.new p rest.all) (sym rest.is ∙ ap (λ (x : Past). x.journal) (sym g.is) ∙ e)

    new : (was.journal ≡ front) × (Got g.p g.m ≡ Got p m) → IsHanded S (judge_limits S now) (before ++ more) front p m
    new a =
        let peer : g.p ≡ p = (let f = a.1 in cc) in let message : g.m ≡ m = (let f = a.1 in cc) in
        let now_is : now ≡ get S p m more was = g.is ∙ ap (λ x. get S x g.m more was) peer ∙ ap (λ y. get S p y more was) message in
        record {
          at = was;
          calls = before;
          lawful = law;
          meanwhile = more;
          happens = subst (λ (x : Past). Happens S was more x) now_is h;
          rest = [];
          leads = subst (λ (x : Past). Leads S (judge_limits S x) [] (judge_limits S now)) now_is here;
          called = ap (λ x. before ++ x) (append-nil more);
          is = a.0;
          once = same_hands (growth.limits quiet S now) p (length (got front p) + 1)
              ∙ ap (λ x. hands now.journal p (length (got x p) + 1)) (sym a.0)
              ∙ ap (λ x. hands now.journal x (length (got was.journal x) + 1)) (sym peer)
              ∙ ap (λ (x : Past). hands x.journal g.p at) g.is
              ∙ get_hands S g.p g.m more was at g.are
              ∙ ap (λ x. x ++ receivers S was g.p g.m) (bounded S was before law g.p at (omega arith))
              ∙ ap (λ x. receivers S was x g.m) peer ∙ ap (receivers S was p) message;
        }

    old : (rest : List Entry) × (was.journal ≡ front ++ Got p m ∷ rest) → IsHanded S (judge_limits S now) (before ++ more) front p m
    old a = stays S was now before more front p m h
        (ap (λ (x : Past). hands x.journal p (length (got front p) + 1)) g.is
        ∙ get_other S g.p g.m more was at (receivers S was g.p g.m) g.are p (length (got front p) + 1)
        (λ (q : g.p ≡ p) (j : at ≡ length (got front p) + 1).
        let lt = got_place was.journal front p m a.0 a.1 in let f = ap (λ x. length (got was.journal x)) q in omega arith))
        (ih front p m a.0 a.1)

once_quiet : (S : Setup) (was now : Past) (before more : List Made) → Happens S was more now → Adds is_quiet was now →
    ((front : List Entry) (p : ℕ) (m : Content) (after : List Entry) → was.journal ≡ front ++ Got p m ∷ after → IsHanded S was before front p m) →
    (front : List Entry) (p : ℕ) (m : Content) (after : List Entry) → now.journal ≡ front ++ Got p m ∷ after → IsHanded S (judge_limits S now) (before ++ more) front p m
once_quiet S was now before more h a ih front p m after e =
    let r = in_first was.journal a.new front p m after (no_got a.new p (quiet_no_got a.new a.all)) (sym a.is ∙ e) in
    stays S was now before more front p m h (same_hands a p (length (got front p) + 1)) (ih front p m r.0 r.1)

pub once : HandedOnce
once S past made starts front p m after e = absurd (got_here (making S).journal front p m after (no_got (making S).journal p (quiet_no_got (making S).journal (making_quiet S))) e)
once S past made (goes_on was now before more law h) front p m after e =
    let lim : Adds is_quiet now (judge_limits S now) = growth.limits quiet S now in
    let r = in_first now.journal lim.new front p m after (no_got lim.new p (quiet_no_got lim.new lim.all)) (sym lim.is ∙ e) in
    ⊎_elim
    (λ (x : HasGot S was more now). let g : IsHanded S (judge_limits S now) (before ++ more) front p m = once_got S was now before more law h x (once S was before law) front p m r.0 r.1 in g)
    (λ (x : Adds is_quiet was now). let g : IsHanded S (judge_limits S now) (before ++ more) front p m = once_quiet S was now before more h x (once S was before law) front p m r.0 r.1 in g)
    (cases S was more now h)
