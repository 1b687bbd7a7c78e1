-- What each block puts to one number.
use Rattle.std.specs.Prelude.{◌≡◌, ◌<◌, ◌≤◌, refl, ℕ, zero, suc, ◌+◌, ◌-◌, ◌*◌, ◌==◌, nat_le, max, Bool, true, false, not, ◌&&◌, ◌||◌, IsTrue, List, [], ◌∷◌, ◌++◌, map, filter, length, Option, Some, None, slice_get, slice_index_or, unwrap_or, if◌then◌else◌}
use Rattle.std.specs.List.{cons_option, range_with_len, list_all}
use Rattle.std.proofs.lemmas.Bool.{and_parts}
use Rattle.std.proofs.lemmas.Bool.Decides.{nat_tests}
use Rattle.std.proofs.lemmas.List.{length-map}
use Rattle.std.proofs.lemmas.List.Elements.{filter_map-append}
use Rattle.std.proofs.Common.{ap, ◌∙◌, length-append, arith}
use Rattle.sk_msg.specs.declared.action.Action.{Action}
use Rattle.sk_msg.specs.declared.action.Action.TheVariants as actions
use Rattle.sk_msg.specs.declared.command.Command.{Command}
use Rattle.sk_msg.specs.declared.command.Command.TheVariants.{Pause, Continue, Abort}
use Rattle.sk_msg.specs.declared.command.Verdict.TheVariants.{Accepted, Refused}
use Rattle.sk_msg.specs.declared.content.Content.{Content}
use Rattle.sk_msg.specs.declared.content.Content.TheVariants as contents
use Rattle.sk_msg.specs.declared.entry.Entry.{Entry}
use Rattle.sk_msg.specs.declared.entry.Entry.TheVariants.{Got, Put, Hand, State as Entered, System as Judged, Begin, Done, End, Ask, Gone, Stray, Did, Fault}
use Rattle.sk_msg.specs.declared.service.Service.{Service}
use Rattle.sk_msg.specs.declared.service.ServiceKind.TheVariants as kinds
use Rattle.sk_msg.specs.declared.state.State.{State}
use Rattle.sk_msg.specs.declared.state.State.TheVariants.{Running, Error, Shutdown, Aborting}
use Rattle.sk_msg.specs.Edges.{has_edge, led_to, is_command}
use Rattle.sk_msg.specs.Heads.{head_of}
use Rattle.sk_msg.specs.Matching.{match_services, matching}
use Rattle.sk_msg.specs.States.{is_state}
use Rattle.sk_law.specs.declared.made.Call.{Call}
use Rattle.sk_law.specs.declared.made.Call.TheVariants as calls
use Rattle.sk_law.specs.declared.made.Made.{Made}
use Rattle.sk_law.specs.declared.memory.Begun.{Begun}
use Rattle.sk_law.specs.declared.memory.ServiceState.TheVariants as states
use Rattle.sk_law.specs.declared.setup.Setup.{Setup}
use Rattle.sk_law.specs.Past.{Past, add, put_each}
use Rattle.sk_law.specs.Readings.{state_of, system_told, open_step, payload, put, put_to, got, is_gone}
use Rattle.sk_law.specs.Links.{others_below, reached, told, system, is_peer, comes_in_order}
use Rattle.sk_law.specs.Order.{has_kind}
use Rattle.sk_law.specs.Outbox.{are_filled}
use Rattle.sk_can.specs.Can.{Can}
use Rattle.sk_can.specs.declared.state.CanState.{CanState}
use Rattle.sk_lin.specs.Lin.{Lin}
use Rattle.sk_pubsub.specs.Publishing.{Publishing}
use Rattle.sk_rpc.specs.declared.open_call.OpenCall.{OpenCall}
use Rattle.sk_law.specs.declared.memory.ServiceState.{ServiceState}
use Rattle.sk_law.specs.Outcomes.{Outcome, outcome_at, outcome, outcome_of, named, refused, done, sends, on_can, turned, on_ethernet, on_lin, on_publisher, on_server, on_client, caller}
use Rattle.sk_law.specs.Receivers.{changed, with_services, admits, takers, sender, handed_to, is_over, receivers}
use Rattle.sk_law.specs.Blocks.{judge_system, announce_step, announce, enter_only, is_first_run, behind, enter_until, enter_if, accepted, tell_abort, asked, ask, until_of, with_pause, pause_for, count_down, put_some, did, answer, answers, fault, called, over_after, callback, callbacks, may_end, end_open, end_step, end_blocking, take_step, completes_ready, completes_step, with_completed, complete, lose, heed, get, with_tool, greet, tool_number, add_tool, judge_limits}
use Rattle.sk_law.specs.Lawful.{Happens, gets, loses, completes, asks, adds, moves, readies, begins, counts, gives_up, note_asked, AreCalls, is_filled}
use Rattle.sk_law.specs.Bounded.{puts_at_once}

-- ## How many

-- how many messages these entries put to p
abbrev many : ℕ → List Entry → ℕ
many p es = length (put es p)

many-append : (p : ℕ) (xs ys : List Entry) → many p (xs ++ ys) ≡ many p xs + many p ys
many-append p xs ys = ap length (filter_map-append (put_to p) xs ys) ∙ length-append (put xs p) (put ys p)

if_one : (c : Bool) (m : Content) (more : List Content) → length (cons_option (if c then Some m else None) more) ≤ 1 + length more
if_one true m more = omega arith
if_one false m more = omega arith

-- a message that is put to q
put_one : (p q : ℕ) (m : Content) (es : List Entry) → many p (Put q m ∷ es) ≤ 1 + many p es
put_one p q m es = if_one (q == p) m (put es p)

other_one : (p q : ℕ) (m : Content) (es : List Entry) → (q == p) ≡ false → many p (Put q m ∷ es) ≤ many p es
other_one p q m es h = on (q == p) h
  where
    on : (c : Bool) → c ≡ false → length (cons_option (if c then Some m else None) (put es p)) ≤ many p es
    on true e = absurd cc
    on false e = omega arith

pub differs : (p q : ℕ) → p < q → (q == p) ≡ false
differs p q h = on (q == p) refl
  where
    on : (b : Bool) → (q == p) ≡ b → b ≡ false
    on true e = absurd (let k : p < p = grind (arith, nat_tests) in omega arith)
    on false e = refl

equals : (p q : ℕ) → (q == p) ≡ true → q ≡ p
equals p q e = grind (arith, nat_tests)

-- ## To each of some numbers

-- the same message to those from a on that fit
abbrev each_of : Content → (ℕ → Bool) → ℕ → ℕ → List Entry
each_of m f a n = map (λ q. Put q m) (filter f (range_with_len a n))

none_before : (p : ℕ) (m : Content) (f : ℕ → Bool) (a n : ℕ) → p < a → many p (each_of m f a n) ≤ 0
none_before p m f a zero h = omega arith
none_before p m f a (suc n) h = on (none_before p m f (a + 1) n (omega arith)) (f a)
  where
    on : many p (each_of m f (a + 1) n) ≤ 0 → (c : Bool) → many p (map (λ q. Put q m) (if c then a ∷ filter f (range_with_len (a + 1) n) else filter f (range_with_len (a + 1) n))) ≤ 0
    on rest true = let o = other_one p a m (each_of m f (a + 1) n) (differs p a h) in omega arith
    on rest false = rest

one_of_each : (p : ℕ) (m : Content) (f : ℕ → Bool) (a n : ℕ) → many p (each_of m f a n) ≤ 1
one_of_each p m f a zero = omega arith
one_of_each p m f a (suc n) = on (one_of_each p m f (a + 1) n) (f a) (a == p) refl
  where
    on : many p (each_of m f (a + 1) n) ≤ 1 → (c b : Bool) → (a == p) ≡ b → many p (map (λ q. Put q m) (if c then a ∷ filter f (range_with_len (a + 1) n) else filter f (range_with_len (a + 1) n))) ≤ 1
    on rest true true e =
        let same = equals p a e in
        let r = none_before p m f (a + 1) n (omega arith) in
        let o = put_one p a m (each_of m f (a + 1) n) in omega arith
    on rest true false e = let o = other_one p a m (each_of m f (a + 1) n) e in omega arith
    on rest false b e = rest

-- ## What happens, by what is put to p

-- at most so many messages more
record Few (p count : ℕ) (past now : Past) : Type 0 where
  few : many p now.journal ≤ many p past.journal + count

same : {p : ℕ} (past now : Past) → now.journal ≡ past.journal → Few p 0 past now
same {p} past now e = let l = ap (λ es. many p es) e in record { few = omega arith }

stays : {p count : ℕ} (past : Past) → Few p count past past
stays past = record { few = omega arith }

both : {p i j : ℕ} {a b c : Past} → Few p i a b → Few p j b c → Few p (i + j) a c
both {p} {i} {j} {a} {b} {c} f g =
    let k = f.few in let l = g.few in record { few = omega arith }

at_least : {p i : ℕ} {a b : Past} (j : ℕ) → i ≤ j → Few p i a b → Few p j a b
at_least j h f = let k = f.few in record { few = omega arith }

if_few : {p k : ℕ} {past x y : Past} (c : Bool) → Few p k past x → Few p k past y → Few p k past (if c then x else y)
if_few true f g = f
if_few false f g = g

-- an entry that puts nothing
one : {p : ℕ} (e : Entry) (past : Past) → put_to p e ≡ None → Few p 0 past (add e past)
one {p} e past h =
    let k = many-append p past.journal (e ∷ []) in
    let z : many p (e ∷ []) ≡ 0 = ap (λ o. length (cons_option o [])) h in
    record { few = omega arith }

put_here : {p : ℕ} (q : ℕ) (m : Content) (past : Past) → Few p 1 past (add (Put q m) past)
put_here {p} q m past =
    let k = many-append p past.journal (Put q m ∷ []) in
    let z : many p (Put q m ∷ []) ≤ 1 + 0 = put_one p q m [] in
    record { few = omega arith }

-- a message to each of the others
puts : {p : ℕ} (S : Setup) (es : List Entry) (n : ℕ) (m : Content) (past : Past) → Few p 1 past (put_each (others_below S es n) m past)
puts {p} S es n m past =
    let k = many-append p past.journal (map (λ q. Put q m) (others_below S es n)) in
    let z : many p (map (λ q. Put q m) (others_below S es n)) ≤ 1 = one_of_each p m _ 0 n in
    record { few = omega arith }

judges : {p : ℕ} (S : Setup) (past : Past) → Few p 0 past (judge_system S past)
unfolding judge_system
judges S past = if_few (is_state (system S past) (system_told past.journal)) (stays past) (one (Judged (system S past)) past refl)

announces_by : {p : ℕ} (S : Setup) (step : Option ℕ) (at : ℕ) (past : Past) → Few p 1 past (announce_step S step at past)
announces_by S None at past = stays past
announces_by S (Some size) at past = puts S past.journal (length S.names) (contents.NextStep at size) past

announces : {p : ℕ} (S : Setup) (at : ℕ) (past : Past) → Few p 1 past (announce S at past)
announces S at past = announces_by S S.step at past

enters : {p : ℕ} (S : Setup) (to : State) (until : ℕ) (past : Past) → Few p 2 past (enter_until S to until past)
unfolding enter_until
enters {p} S to until past =
    at_least 2 (omega arith) (both (both (both (one (Entered to) past refl) (puts S past.journal numbers (contents.Status to until) past')) (judges S (put_each (told S past) (contents.Status to until) past'))) behind_it)
  where
    past' : Past
    past' = add (Entered to) past

    numbers : ℕ
    numbers = length S.names + length past.memory.tools

    entered : Past
    entered = enter_only S to until past

    behind_it : Few p 1 entered (behind S to (is_first_run to past.journal) (told S past) entered)
    behind_it = if_few (is_state Shutdown to) (puts S past.journal numbers contents.Leave entered)
        (if_few (is_first_run to past.journal) (announces S 0 entered) (stays entered))

enters_if : {p : ℕ} (S : Setup) (to : State) (past : Past) → Few p 2 past (enter_if S to past)
unfolding enter_if
enters_if S to past = if_few (has_edge (state_of past.journal) to) (enters S to 0 past) (stays past)

-- ## Commands

tells : {p : ℕ} (S : Setup) (command : Command) (past : Past) → Few p 1 past (tell_abort S command past)
tells S command past = if_few (is_command Abort command) (puts S past.journal (length S.names) contents.Abort past) (stays past)

accepts : {p : ℕ} (command : Command) (past : Past) → Few p 0 past (accepted command past)
accepts command past = at_least 0 (omega arith) (both (same past (with_pause None past) refl) (one (Ask command Accepted) (with_pause None past) refl))

asked_few : {p : ℕ} (S : Setup) (command : Command) (to : Option State) (past : Past) → Few p 3 past (asked S command to past)
asked_few S command None past = at_least 3 (omega arith) (one (Ask command (Refused (state_of past.journal))) past refl)
asked_few S command (Some to) past =
    at_least 3 (omega arith) (both (both (accepts command past) (enters S to (until_of S command past) (accepted command past)))
    (tells S command (enter_until S to (until_of S command past) (accepted command past))))

asks_few : {p : ℕ} (S : Setup) (command : Command) (past : Past) → Few p 3 past (ask S command past)
unfolding ask
asks_few S command past = asked_few S command (led_to (state_of past.journal) command) past

pauses : {p : ℕ} (S : Setup) (count : ℕ) (past : Past) → Few p 3 past (pause_for S count past)
unfolding pause_for
pauses S count past =
    if_few (is_state Running (state_of past.journal))
    (at_least 3 (omega arith) (both (asks_few S Pause past) (same (ask S Pause past) (with_pause (Some (max count 1)) (ask S Pause past)) refl)))
    (asks_few S Pause past)

counts_few : {p : ℕ} (S : Setup) (count : ℕ) (past : Past) → Few p 3 past (count_down S count past)
unfolding count_down
counts_few S count past =
    if_few (nat_le count 1) (asks_few S Continue past) (at_least 3 (omega arith) (same past (with_pause (Some (count - 1)) past) refl))

-- ## Actions

-- what one action sends goes to each number at most once
record IsOnce (o : Outcome) : Type 0 where
  once : (p : ℕ) (m : Content) → many p (map (λ q. Put q m) o.to) ≤ 1

is_refused : (code : ℕ) (at : ServiceState) → IsOnce (refused code at)
is_refused code at = record { once = λ p m. omega arith }

is_done : (at : ServiceState) → IsOnce (done at)
is_done at = record { once = λ p m. omega arith }

to_all : (S : Setup) (past : Past) (m : Content) (at : ServiceState) → IsOnce (sends (reached S past) m at)
to_all S past m at = record { once = λ p x. one_of_each p x _ 0 (length S.names) }

to_caller : (past : Past) (q : ℕ) (m : Content) (at : ServiceState) → IsOnce (sends (caller past q) m at)
to_caller past q m at = record { once = λ p x. on p x (is_gone past.journal q) }
  where
    on : (p : ℕ) (x : Content) (c : Bool) → many p (map (λ r. Put r x) (if c then [] else q ∷ [])) ≤ 1
    on p x true = omega arith
    on p x false = let o = put_one p q x [] in omega arith

if_once : {a b : Outcome} (c : Bool) → IsOnce a → IsOnce b → IsOnce (if c then a else b)
if_once true f g = f
if_once false f g = g

of_can : (at : ServiceState) (act : Can → Outcome) → ((can : Can) → IsOnce (act can)) → IsOnce (on_can at act)
of_can (states.Can can) act h = h can
of_can at act h = is_refused 1 at

of_table : (at : ServiceState) (to : Option CanState) (after : Can) → IsOnce (turned at to after)
of_table at None after = is_refused 1 at
of_table at (Some to) after = is_done (states.Can after)

of_ethernet : (at : ServiceState) (act : Bool → Outcome) → ((active : Bool) → IsOnce (act active)) → IsOnce (on_ethernet at act)
of_ethernet (states.Ethernet active) act h = h active
of_ethernet at act h = is_refused 1 at

of_lin : (at : ServiceState) (act : Lin → Outcome) → ((lin : Lin) → IsOnce (act lin)) → IsOnce (on_lin at act)
of_lin (states.Lin lin) act h = h lin
of_lin at act h = is_refused 1 at

of_publisher : (at : ServiceState) (act : Publishing → Outcome) → ((publisher : Publishing) → IsOnce (act publisher)) → IsOnce (on_publisher at act)
of_publisher (states.Publisher publisher) act h = h publisher
of_publisher at act h = is_refused 1 at

of_server : (at : ServiceState) (act : List OpenCall → Outcome) → ((calls : List OpenCall) → IsOnce (act calls)) → IsOnce (on_server at act)
of_server (states.Server calls) act h = h calls
of_server at act h = is_refused 1 at

of_client : (at : ServiceState) (act : ℕ → Outcome) → ((made : ℕ) → IsOnce (act made)) → IsOnce (on_client at act)
of_client (states.Client made) act h = h made
of_client at act h = is_refused 1 at

once_at : (S : Setup) (past : Past) (a : Action) (own : Service) (at : ServiceState) → IsOnce (outcome_at S past a own at)
unfolding outcome_at
once_at S past (actions.CanBaud s rate) own at = of_can at _ (λ can. of_table at _ _)
once_at S past (actions.CanStart s) own at = of_can at _ (λ can. of_table at _ _)
once_at S past (actions.CanStop s) own at = of_can at _ (λ can. of_table at _ _)
once_at S past (actions.CanReset s) own at = of_can at _ (λ can. of_table at _ _)
once_at S past (actions.CanSleep s) own at = of_can at _ (λ can. of_table at _ _)
once_at S past (actions.CanSend s frame) own at = of_can at _ (λ can. if_once _ (is_refused 1 at) (if_once _ (is_refused 2 at) (to_all S past _ at)))
once_at S past (actions.EthActivate s) own at = of_ethernet at _ (λ active. is_done _)
once_at S past (actions.EthDeactivate s) own at = of_ethernet at _ (λ active. is_done _)
once_at S past (actions.EthSend s frame) own at = of_ethernet at _ (λ active. if_once _ (is_refused 1 at) (if_once _ (is_refused 2 at) (to_all S past _ at)))
once_at S past (actions.LinInit s role) own at = of_lin at _ (λ lin. if_once _ (is_done _) (is_refused 1 at))
once_at S past (actions.LinSetResponse s response) own at = of_lin at _ (λ lin. if_once _ (is_refused 1 at) (if_once _ (is_refused 2 at) (to_all S past _ _)))
once_at S past (actions.LinHeader s id) own at = of_lin at _ (λ lin. if_once _ (is_refused 1 at) (if_once _ (is_refused 2 at) (to_all S past _ at)))
once_at S past (actions.LinSendFrame s response) own at = of_lin at _ (λ lin. if_once _ (is_refused 1 at) (if_once _ (is_refused 2 at) (to_all S past _ _)))
once_at S past (actions.LinSleep s) own at = of_lin at _ (λ lin. if_once _ (is_refused 1 at) (to_all S past _ _))
once_at S past (actions.LinWakeup s) own at = of_lin at _ (λ lin. if_once _ (is_refused 1 at) (to_all S past _ _))
once_at S past (actions.Publish s payload) own at = of_publisher at _ (λ publisher. to_all S past _ _)
once_at S past (actions.Call s payload) own at = of_client at _ (λ made. if_once _ (is_refused 3 at) (to_all S past _ _))
once_at S past (actions.Submit s peer client call payload) own at = of_server at _ (λ calls. if_once _ (is_refused 4 at) (to_caller past peer _ _))
once_at S past (actions.Ask command) own at = is_refused 1 at
once_at S past (actions.PauseFor count) own at = is_refused 1 at

once : (S : Setup) (past : Past) (a : Action) → IsOnce (outcome S past a)
once S past a = on (slice_get S.services (named a)) (slice_get past.memory.services (named a))
  where
    on : (own : Option Service) (at : Option ServiceState) → IsOnce (outcome_of S past a own at)
    on None at = is_refused 1 states.Subscriber
    on (Some own) None = is_refused 1 states.Subscriber
    on (Some own) (Some at) = once_at S past a own at

puts_once : {p : ℕ} (to : List ℕ) (m : Content) (past : Past) → many p (map (λ q. Put q m) to) ≤ 1 → Few p 1 past (put_each to m past)
puts_once {p} to m past h = let k = many-append p past.journal (map (λ q. Put q m) to) in record { few = omega arith }

does : {p : ℕ} (s : ℕ) (o : Outcome) (past : Past) → IsOnce o → Few p 3 past (did s o past)
does {p} s o past h = at_least 3 (omega arith) (both (both (same past at_it refl) (one (Did s o.code o.message) at_it refl)) (on o.message))
  where
    at_it : Past
    at_it = with_services (changed (λ at. o.state) s past.memory.services) past

    first : Past
    first = add (Did s o.code o.message) at_it

    on : (m : Option Content) → Few p 1 first (put_some o.to m first)
    on None = stays first
    on (Some m) = puts_once o.to m first (h.once p m)

answers_one : {p : ℕ} (S : Setup) (past : Past) (a : Action) → Few p 3 past (answer S past a)
unfolding answer
answers_one S past (actions.Ask command) = asks_few S command past
answers_one S past (actions.PauseFor count) = pauses S count past
answers_one S past (actions.CanBaud s rate) = does s (outcome S past (actions.CanBaud s rate)) past (once S past (actions.CanBaud s rate))
answers_one S past (actions.CanStart s) = does s (outcome S past (actions.CanStart s)) past (once S past (actions.CanStart s))
answers_one S past (actions.CanStop s) = does s (outcome S past (actions.CanStop s)) past (once S past (actions.CanStop s))
answers_one S past (actions.CanReset s) = does s (outcome S past (actions.CanReset s)) past (once S past (actions.CanReset s))
answers_one S past (actions.CanSleep s) = does s (outcome S past (actions.CanSleep s)) past (once S past (actions.CanSleep s))
answers_one S past (actions.CanSend s frame) = does s (outcome S past (actions.CanSend s frame)) past (once S past (actions.CanSend s frame))
answers_one S past (actions.EthActivate s) = does s (outcome S past (actions.EthActivate s)) past (once S past (actions.EthActivate s))
answers_one S past (actions.EthDeactivate s) = does s (outcome S past (actions.EthDeactivate s)) past (once S past (actions.EthDeactivate s))
answers_one S past (actions.EthSend s frame) = does s (outcome S past (actions.EthSend s frame)) past (once S past (actions.EthSend s frame))
answers_one S past (actions.LinInit s role) = does s (outcome S past (actions.LinInit s role)) past (once S past (actions.LinInit s role))
answers_one S past (actions.LinSetResponse s response) = does s (outcome S past (actions.LinSetResponse s response)) past (once S past (actions.LinSetResponse s response))
answers_one S past (actions.LinHeader s id) = does s (outcome S past (actions.LinHeader s id)) past (once S past (actions.LinHeader s id))
answers_one S past (actions.LinSendFrame s response) = does s (outcome S past (actions.LinSendFrame s response)) past (once S past (actions.LinSendFrame s response))
answers_one S past (actions.LinSleep s) = does s (outcome S past (actions.LinSleep s)) past (once S past (actions.LinSleep s))
answers_one S past (actions.LinWakeup s) = does s (outcome S past (actions.LinWakeup s)) past (once S past (actions.LinWakeup s))
answers_one S past (actions.Publish s payload) = does s (outcome S past (actions.Publish s payload)) past (once S past (actions.Publish s payload))
answers_one S past (actions.Call s payload) = does s (outcome S past (actions.Call s payload)) past (once S past (actions.Call s payload))
answers_one S past (actions.Submit s peer client call payload) = does s (outcome S past (actions.Submit s peer client call payload)) past (once S past (actions.Submit s peer client call payload))

answers_all : {p : ℕ} (S : Setup) (more : List Action) (past : Past) → Few p (3 * length more) past (answers S more past)
answers_all S [] past = stays past
answers_all S (a ∷ more) past =
    at_least (3 * suc (length more)) (omega arith) (both (answers_one S past a) (answers_all S more (answer S past a)))

fails : {p : ℕ} (S : Setup) (number : ℕ) (past : Past) → Few p 2 past (fault S number past)
fails S number past = at_least 2 (omega arith) (both (one (Fault number) past refl) (enters_if S Error (add (Fault number) past)))

-- ## Callbacks

shows : {p : ℕ} (call : Call) (past : Past) → Few p 0 past (called call past)
shows calls.Ready past = same past (called calls.Ready past) refl
shows (calls.Step number at) past = one (Begin number at) past refl
shows (calls.Message q place r m) past =
    at_least 0 (omega arith) (both (one (Hand q place r) past refl) (same (add (Hand q place r) past) (called (calls.Message q place r m) past) refl))

goes_over : {p : ℕ} (S : Setup) (over : Bool) (past : Past) → Few p 2 past (over_after S over past)
goes_over S over past = if_few over (fails S 2 past) (stays past)

few_actions : (made : Made) → IsTrue (is_filled made) → length made.actions ≤ 256
unfolding are_filled
few_actions made h =
    let le : nat_le (length made.actions) 256 ≡ true = (and_parts (nat_le (length made.actions) 256) (not made.over || length made.actions == 256) h).0 in
    grind (arith, nat_tests)

calls_back : {p : ℕ} (S : Setup) (past : Past) (made : Made) → IsTrue (is_filled made) → Few p 770 past (callback S past made)
unfolding callback
calls_back S past made filled =
    let k = few_actions made filled in
    at_least 770 (omega arith) (both (shows made.call past) (both (answers_all S made.actions (called made.call past)) (goes_over S made.over (answers S made.actions (called made.call past)))))

calls_all : {p : ℕ} (S : Setup) (made : List Made) (past : Past) → IsTrue (list_all is_filled made) → Few p (770 * length made) past (callbacks S made past)
calls_all S [] past filled = stays past
calls_all S (first ∷ more) past filled =
    let h = and_parts (is_filled first) (list_all is_filled more) filled in
    at_least (770 * suc (length more)) (omega arith) (both (calls_back S past first h.0) (calls_all S more (callback S past first) h.1))

-- ## Steps

ends_open : {p : ℕ} (S : Setup) (step : Option Begun) (past : Past) → Few p 1 past (end_open S step past)
ends_open S None past = stays past
ends_open S (Some step) past =
    at_least 1 (omega arith) (both (one (End step.number) past refl) (announces S (step.time + unwrap_or S.step 0) (add (End step.number) past)))

ends : {p : ℕ} (S : Setup) (past : Past) → Few p 1 past (end_step S past)
unfolding end_step
ends S past = ends_open S (open_step past.journal) past

ends_blocking : {p : ℕ} (S : Setup) (past : Past) → Few p 1 past (end_blocking S past)
ends_blocking S past = if_few (not S.is_async && may_end (state_of past.journal)) (ends S past) (stays past)

takes : {p : ℕ} (S : Setup) (made : Made) (past : Past) → IsTrue (is_filled made) → Few p 771 past (take_step S made past)
unfolding take_step
takes S made past filled = at_least 771 (omega arith) (both (calls_back S past made filled) (ends_blocking S (callback S past made)))

completes_one : {p : ℕ} (S : Setup) (n : ℕ) (past : Past) → Few p 1 past (complete S n past)
unfolding complete
completes_one S n past =
    if_few (completes_ready n past) (at_least 1 (omega arith) (one (Done n) past refl))
    (if_few (completes_step S n past) (at_least 1 (omega arith) (both (one (Done n) past refl) (ends S (add (Done n) past)))) (at_least 1 (omega arith) (one (Stray n) past refl)))

-- ## Links

loses_one : {p : ℕ} (S : Setup) (q reason : ℕ) (past : Past) → Few p 2 past (lose S q reason past)
unfolding lose
loses_one S q reason past =
    if_few (is_peer S q) (at_least 2 (omega arith) (both (one (Gone q reason) past refl) (enters_if S Error (add (Gone q reason) past)))) (at_least 2 (omega arith) (one (Gone q reason) past refl))

-- several calls, or at most two messages
abbrev of_calls : List Made → ℕ
of_calls made = 770 * length made + 2

heeds : {p : ℕ} (S : Setup) (q : ℕ) (m : Content) (made : List Made) (past : Past) → IsTrue (list_all is_filled made) → Few p (of_calls made) past (heed S q m made past)
unfolding heed
heeds S q (contents.Status state until) made past filled = at_least (of_calls made) (omega arith) (judges S past)
heeds S q (contents.Workflow required) made past filled = at_least (of_calls made) (omega arith) (judges S past)
heeds S q contents.Abort made past filled = at_least (of_calls made) (omega arith) (enters_if S Aborting past)
heeds S q (contents.LinResponse head response) made past filled = at_least (of_calls made) (omega arith) (same past _ refl)
heeds S q (contents.Hello name role address) made past filled = at_least (of_calls made) (omega arith) (calls_all S made past filled)
heeds S q contents.Leave made past filled = at_least (of_calls made) (omega arith) (calls_all S made past filled)
heeds S q (contents.NextStep at size) made past filled = at_least (of_calls made) (omega arith) (calls_all S made past filled)
heeds S q (contents.ServiceAdd service) made past filled = at_least (of_calls made) (omega arith) (calls_all S made past filled)
heeds S q contents.ServicesEnd made past filled = at_least (of_calls made) (omega arith) (calls_all S made past filled)
heeds S q (contents.Can head frame) made past filled = at_least (of_calls made) (omega arith) (calls_all S made past filled)
heeds S q (contents.Eth head payload) made past filled = at_least (of_calls made) (omega arith) (calls_all S made past filled)
heeds S q (contents.Lin head frame) made past filled = at_least (of_calls made) (omega arith) (calls_all S made past filled)
heeds S q (contents.Publish head payload) made past filled = at_least (of_calls made) (omega arith) (calls_all S made past filled)
heeds S q (contents.Call head call payload) made past filled = at_least (of_calls made) (omega arith) (calls_all S made past filled)
heeds S q (contents.Reply head client call payload) made past filled = at_least (of_calls made) (omega arith) (calls_all S made past filled)
heeds S q (contents.Refuse reason) made past filled = at_least (of_calls made) (omega arith) (calls_all S made past filled)

gets_one : {p : ℕ} (S : Setup) (q : ℕ) (m : Content) (made : List Made) (past : Past) → IsTrue (list_all is_filled made) → Few p (of_calls made) past (get S q m made past)
unfolding get
gets_one S q m made past filled =
    let first = one (Got q m) past refl in
    if_few (comes_in_order S past q m) (at_least (of_calls made) (omega arith) (both first (heeds S q m made (add (Got q m) past) filled)))
    (at_least (of_calls made) (omega arith) (both first (loses_one S q 8 (add (Got q m) past))))

greets : {p : ℕ} (S : Setup) (t : ℕ) (past : Past) → Few p 3 past (greet S t past)
greets S t past = at_least 3 (omega arith) (both (both (put_here t _ _) (put_here t _ _)) (put_here t _ _))

adds_tool : {p : ℕ} (S : Setup) (name : List ℕ) (past : Past) → Few p 3 past (add_tool S name past)
unfolding add_tool
adds_tool {p} S name past =
    if_few (is_state Shutdown (state_of past.journal)) (at_least 3 (omega arith) first) (at_least 3 (omega arith) (both first (greets S (tool_number S past) (with_tool name past))))
  where
    first : Few p 0 past (with_tool name past)
    first = same past (with_tool name past) refl

judges_limits : {p : ℕ} (S : Setup) (past : Past) → Few p 2 past (judge_limits S past)
unfolding judge_limits
judges_limits S past =
    if_few (not (has_edge (state_of past.journal) Error)) (stays past)
    (if_few (nat_le 500000 (length past.journal)) (fails S 3 past)
    (if_few (nat_le 33554432 (payload past.journal)) (fails S 4 past) (stays past)))

-- a message is handed to each service at most

filter_shorter : {X : Type 0} (f : X → Bool) (xs : List X) → length (filter f xs) ≤ length xs
filter_shorter f [] = omega arith
filter_shorter {X} f (x ∷ xs) = on (f x) (filter_shorter f xs)
  where
    on : (c : Bool) → length (filter f xs) ≤ length xs → length (if c then x ∷ filter f xs else filter f xs) ≤ suc (length xs)
    on true h = omega arith
    on false h = omega arith

few_takers : (S : Setup) (past : Past) (m : Content) (o : Option Service) → length (takers S past m o) ≤ length S.services
few_takers S past m None = omega arith
few_takers S past m (Some other) =
    let l = length-map (filter (λ s. admits m (slice_index_or past.memory.services s.id states.Subscriber)) (matching S.services other)) (λ (s : Service). s.id) in
    let k = filter_shorter (λ s. admits m (slice_index_or past.memory.services s.id states.Subscriber)) (matching S.services other) in
    let n = filter_shorter (λ s. match_services s other) S.services in omega arith

few_clients : (services : List Service) (client : ℕ) → length (if has_kind kinds.Client (slice_get services client) then client ∷ [] else []) ≤ length services
few_clients [] client = omega arith
few_clients (s ∷ services) client = on (has_kind kinds.Client (slice_get (s ∷ services) client))
  where
    on : (c : Bool) → length (if c then client ∷ [] else []) ≤ suc (length services)
    on true = omega arith
    on false = omega arith

few_handed : (S : Setup) (past : Past) (q : ℕ) (m : Content) → length (handed_to S past q m) ≤ length S.services
few_handed S past q (contents.Reply head client call payload) = few_clients S.services client
few_handed S past q (contents.LinResponse head response) = omega arith
few_handed S past q (contents.Hello name role address) = few_takers S past (contents.Hello name role address) (sender S past q (head_of (contents.Hello name role address)))
few_handed S past q contents.Leave = few_takers S past contents.Leave (sender S past q (head_of contents.Leave))
few_handed S past q (contents.NextStep at size) = few_takers S past (contents.NextStep at size) (sender S past q (head_of (contents.NextStep at size)))
few_handed S past q (contents.ServiceAdd service) = few_takers S past (contents.ServiceAdd service) (sender S past q (head_of (contents.ServiceAdd service)))
few_handed S past q contents.ServicesEnd = few_takers S past contents.ServicesEnd (sender S past q (head_of contents.ServicesEnd))
few_handed S past q (contents.Can head frame) = few_takers S past (contents.Can head frame) (sender S past q (head_of (contents.Can head frame)))
few_handed S past q (contents.Eth head payload) = few_takers S past (contents.Eth head payload) (sender S past q (head_of (contents.Eth head payload)))
few_handed S past q (contents.Lin head frame) = few_takers S past (contents.Lin head frame) (sender S past q (head_of (contents.Lin head frame)))
few_handed S past q (contents.Publish head payload) = few_takers S past (contents.Publish head payload) (sender S past q (head_of (contents.Publish head payload)))
few_handed S past q (contents.Call head call payload) = few_takers S past (contents.Call head call payload) (sender S past q (head_of (contents.Call head call payload)))
few_handed S past q (contents.Refuse reason) = few_takers S past (contents.Refuse reason) (sender S past q (head_of (contents.Refuse reason)))
few_handed S past q (contents.Status state until) = few_takers S past (contents.Status state until) (sender S past q (head_of (contents.Status state until)))
few_handed S past q (contents.Workflow required) = few_takers S past (contents.Workflow required) (sender S past q (head_of (contents.Workflow required)))
few_handed S past q contents.Abort = few_takers S past contents.Abort (sender S past q (head_of contents.Abort))

few_receivers : (S : Setup) (past : Past) (q : ℕ) (m : Content) → length (receivers S past q m) ≤ length S.services
unfolding receivers
few_receivers S past q m = on (is_over (state_of past.journal) || not (comes_in_order S past q m))
  where
    on : (c : Bool) → length (if c then [] else handed_to S past q m) ≤ length S.services
    on true = omega arith
    on false = few_handed S past q m

pub few_calls : (S : Setup) (past : Past) (q : ℕ) (m : Content) (made : List Made) → AreCalls S past q m made → length made ≤ length S.services
few_calls S past q m made are =
    let l = length-map made (λ (x : Made). x.call) in
    let k = length-map (receivers S past q m) (λ r. calls.Message q (length (got past.journal q) + 1) r m) in
    let e = ap length are in let r = few_receivers S past q m in omega arith

-- ## All that happens

-- what one thing that happens puts to one number
abbrev of_one : Setup → ℕ
of_one S = 770 * length S.services + 771

happens_few : (S : Setup) (past : Past) (made : List Made) (now : Past) (p : ℕ) → Happens S past made now → Few p (of_one S) past now
happens_few S past made now p (gets q m more linked are filled) =
    let k = few_calls S past q m more are in at_least (of_one S) (omega arith) (gets_one S q m more past filled)
happens_few S past made now p (loses q reason linked loss) = at_least (of_one S) (omega arith) (loses_one S q reason past)
happens_few S past made now p (completes number) =
    at_least (of_one S) (omega arith) (both (same past (with_completed number past) refl) (completes_one S number (with_completed number past)))
happens_few S past made now p (asks command) =
    at_least (of_one S) (omega arith) (both (same past (note_asked past) refl) (asks_few S command (note_asked past)))
happens_few S past made now p (adds name few) = at_least (of_one S) (omega arith) (adds_tool S name past)
happens_few S past made now p (moves to e) = at_least (of_one S) (omega arith) (enters S to 0 past)
happens_few S past made now p (readies first e call filled) = at_least (of_one S) (omega arith) (calls_back S past first filled)
happens_few S past made now p (begins first e call filled) = at_least (of_one S) (omega arith) (takes S first past filled)
happens_few S past made now p (counts count e) = at_least (of_one S) (omega arith) (counts_few S count past)
happens_few S past made now p (gives_up e) = at_least (of_one S) (omega arith) (asks_few S Abort past)

-- and with the limits behind it
pub puts_few : (S : Setup) (past now : Past) (made : List Made) (p : ℕ) → Happens S past made now → many p (judge_limits S now).journal ≤ many p past.journal + puts_at_once S
puts_few S past now made p h =
    let f : Few p (of_one S) past now = happens_few S past made now p h in
    let g : Few p 2 now (judge_limits S now) = judges_limits S now in
    let k = f.few in let l = g.few in omega arith
