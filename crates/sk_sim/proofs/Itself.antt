-- Nothing is put to oneself.
use Rattle.std.specs.Prelude.{◌≡◌, refl, ℕ, ◌+◌, ◌-◌, ◌<◌, ◌==◌, nat_lt, nat_le, max, Bool, true, false, not, ◌&&◌, ◌||◌, List, [], ◌∷◌, ◌++◌, map, length, drop, get_or, Option, Some, None, unwrap_or, slice_get, if◌then◌else◌}
use Rattle.std.specs.List.{flat_map, list_all, cons_option, range_with_len}
use Rattle.std.proofs.Common.{ap, ◌∙◌, arith}
use Rattle.std.proofs.lemmas.Bool.{and_parts, and_from, leb-true, ne_eqb}
use Rattle.std.proofs.lemmas.List.Elements.{filter_map-append}
use Rattle.sk_msg.specs.declared.action.Action.{Action}
use Rattle.sk_msg.specs.declared.action.Action.TheVariants as actions
use Rattle.sk_msg.specs.declared.command.Command.{Command}
use Rattle.sk_msg.specs.declared.command.Command.TheVariants.{Pause, Continue, Abort}
use Rattle.sk_msg.specs.declared.command.Verdict.TheVariants.{Accepted, Refused}
use Rattle.sk_msg.specs.declared.content.Content.{Content}
use Rattle.sk_msg.specs.declared.content.Content.TheVariants as contents
use Rattle.sk_msg.specs.declared.entry.Entry.{Entry}
use Rattle.sk_msg.specs.declared.entry.Entry.TheVariants.{Got, Put, Hand, State as Entered, System as Judged, Begin, Done, End, Ask, Gone, Stray, Did, Fault}
use Rattle.sk_msg.specs.declared.state.State.{State}
use Rattle.sk_msg.specs.declared.state.State.TheVariants.{ServicesCreated, Running, Error, Shutdown, Aborting}
use Rattle.sk_msg.specs.Edges.{has_edge, led_to, is_command}
use Rattle.sk_msg.specs.States.{is_state}
use Rattle.sk_msg.specs.declared.bus.LinResponse.{LinResponse}
use Rattle.sk_law.specs.declared.made.Call.{Call}
use Rattle.sk_law.specs.declared.made.Call.TheVariants as calls
use Rattle.sk_law.specs.declared.made.Made.{Made}
use Rattle.sk_law.specs.declared.memory.Begun.{Begun}
use Rattle.sk_law.specs.declared.setup.Setup.{Setup}
use Rattle.sk_law.specs.Setups.{IsSetup}
use Rattle.sk_law.specs.Order.{services_of}
use Rattle.sk_law.specs.Past.{Past, add, put_each}
use Rattle.sk_law.specs.Readings.{got, put, put_to, state_of, system_told, open_step, payload}
use Rattle.sk_law.specs.Links.{reached, told, peers, system, is_peer, is_tool, is_here, is_open, from, comes_in_order, own_name}
use Rattle.sk_law.specs.Outcomes.{Outcome, outcome, named}
use Rattle.sk_law.specs.Receivers.{changed, received, receivers, note, with_services}
use Rattle.sk_law.specs.Blocks.{judge_system, announce_step, announce, enter_only, is_first_run, behind, enter_until, enter_if, until_of, accepted, tell_abort, asked, ask, with_pause, pause_for, count_down, put_some, did, answer, answers, fault, called, over_after, callback, callbacks, end_open, end_step, may_end, end_blocking, take_step, completes_ready, completes_step, with_completed, complete, lose, heed, get, hello, introduction, making, tool_number, with_tool, greet, add_tool, judge_limits}
use Rattle.sk_law.specs.Lawful.{Lawful, starts, goes_on, Happens, gets, loses, completes, asks, adds, moves, readies, begins, counts, gives_up, note_asked}
use Rattle.sk_sim.proofs.Answered.{are_others, is_free, filtered, others_are, IsFine, fine, free_changed, received_free, noted_free, all_new_free}

-- nothing was put to it, and no call of itself waits for an answer
pub record IsClear (S : Setup) (past : Past) : Type 0 where
  pub puts : put past.journal S.number ≡ []
  pub free : list_all (is_free S.number) past.memory.services ≡ true

either : {S : Setup} (b : Bool) (x y : Past) → IsClear S x → IsClear S y → IsClear S (if b then x else y)
either true x y h i = h
either false x y h i = i

both_none : (n : ℕ) (es fs : List Entry) → put es n ≡ [] → put fs n ≡ [] → put (es ++ fs) n ≡ []
both_none n es fs h i = filter_map-append (put_to n) es fs ∙ (ap (λ l. l ++ put fs n) h ∙ i)

-- one entry more that is no such Put
adding : {S : Setup} (e : Entry) (past : Past) → put_to S.number e ≡ None → IsClear S past → IsClear S (add e past)
adding {S} e past none h = record { puts = both_none S.number past.journal (e ∷ []) h.puts (ap (λ o. cons_option o []) none); free = h.free }

is_other : (b : Bool) → not b ≡ true → b ≡ false
is_other true e = absurd (cc)
is_other false e = refl

put_other : (n q : ℕ) (m : Content) → not (q == n) ≡ true → put_to n (Put q m) ≡ None
put_other n q m other = ap (λ b. if b then Some m else None) (is_other (q == n) other)

each_none : (n : ℕ) (numbers : List ℕ) (m : Content) → are_others n numbers ≡ true → put (map (λ q. Put q m) numbers) n ≡ []
each_none n [] m h = refl
each_none n (q ∷ numbers) m h =
    let b = and_parts (not (q == n)) (are_others n numbers) h in
    ap (λ o. cons_option o (put (map (λ r. Put r m) numbers) n)) (put_other n q m b.0) ∙ each_none n numbers m b.1

-- a message to others
putting : {S : Setup} (numbers : List ℕ) (m : Content) (past : Past) → are_others S.number numbers ≡ true → IsClear S past → IsClear S (put_each numbers m past)
putting {S} numbers m past others h = record { puts = both_none S.number past.journal (map (λ q. Put q m) numbers) h.puts (each_none S.number numbers m others); free = h.free }

-- ## States and commands

judging : (S : Setup) (past : Past) → IsClear S past → IsClear S (judge_system S past)
unfolding judge_system
judging S past h = either (is_state (system S past) (system_told past.journal)) past (add (Judged (system S past)) past) h (adding (Judged (system S past)) past refl h)

announcing : (S : Setup) (size : Option ℕ) (at : ℕ) (past : Past) → IsClear S past → IsClear S (announce_step S size at past)
announcing S None at past h = h
announcing S (Some size) at past h = putting (reached S past) (contents.NextStep at size) past (others_are S past _) h

going_behind : (S : Setup) (to : State) (is_first : Bool) (numbers : List ℕ) (past : Past) → are_others S.number numbers ≡ true → IsClear S past → IsClear S (behind S to is_first numbers past)
going_behind S to is_first numbers past others h =
    either (is_state Shutdown to) (put_each numbers contents.Leave past) (if is_first then announce S 0 past else past) (putting numbers contents.Leave past others h)
    (either is_first (announce S 0 past) past (announcing S S.step 0 past h) h)

entering : (S : Setup) (to : State) (until : ℕ) (past : Past) → IsClear S past → IsClear S (enter_until S to until past)
unfolding enter_until
entering S to until past h =
    going_behind S to (is_first_run to past.journal) (told S past) (enter_only S to until past) (others_are S past _)
    (judging S (put_each (told S past) (contents.Status to until) (add (Entered to) past))
    (putting (told S past) (contents.Status to until) (add (Entered to) past) (others_are S past _) (adding (Entered to) past refl h)))

entering_where : (S : Setup) (to : State) (past : Past) → IsClear S past → IsClear S (enter_if S to past)
unfolding enter_if
entering_where S to past h = either (has_edge (state_of past.journal) to) (enter_until S to 0 past) past (entering S to 0 past h) h

telling : (S : Setup) (command : Command) (past : Past) → IsClear S past → IsClear S (tell_abort S command past)
telling S command past h = either (is_command Abort command) (put_each (reached S past) contents.Abort past) past (putting (reached S past) contents.Abort past (others_are S past _) h) h

-- the same with a pause count, or with another memory that has the same services
pausing : {S : Setup} (count : Option ℕ) (past : Past) → IsClear S past → IsClear S (with_pause count past)
pausing count past h = record { puts = h.puts; free = h.free }

obeying : (S : Setup) (command : Command) (to : Option State) (past : Past) → IsClear S past → IsClear S (asked S command to past)
obeying S command None past h = adding (Ask command (Refused (state_of past.journal))) past refl h
obeying S command (Some to) past h =
    telling S command (enter_until S to (until_of S command past) (accepted command past))
    (entering S to (until_of S command past) (accepted command past) (adding (Ask command Accepted) (with_pause None past) refl (pausing None past h)))

asking : (S : Setup) (command : Command) (past : Past) → IsClear S past → IsClear S (ask S command past)
unfolding ask
asking S command past h = obeying S command (led_to (state_of past.journal) command) past h

pausing_for : (S : Setup) (count : ℕ) (past : Past) → IsClear S past → IsClear S (pause_for S count past)
unfolding pause_for
pausing_for S count past h =
    either (is_state Running (state_of past.journal)) (with_pause (Some (max count 1)) (ask S Pause past)) (ask S Pause past) (pausing (Some (max count 1)) (ask S Pause past) (asking S Pause past h)) (asking S Pause past h)

counting : (S : Setup) (count : ℕ) (past : Past) → IsClear S past → IsClear S (count_down S count past)
unfolding count_down
counting S count past h = either (nat_le count 1) (ask S Continue past) (with_pause (Some (count - 1)) past) (asking S Continue past h) (pausing (Some (count - 1)) past h)

-- ## Actions and callbacks

some_put : {S : Setup} (to : List ℕ) (o : Option Content) (past : Past) → are_others S.number to ≡ true → IsClear S past → IsClear S (put_some to o past)
some_put to None past others h = h
some_put to (Some m) past others h = putting to m past others h

doing : {S : Setup} (s : ℕ) (o : Outcome) (past : Past) → IsFine S.number o → IsClear S past → IsClear S (did s o past)
doing {S} s o past f h =
    some_put o.to o.message (add (Did s o.code o.message) (with_services (changed (λ at. o.state) s past.memory.services) past)) f.to
    (adding (Did s o.code o.message) (with_services (changed (λ at. o.state) s past.memory.services) past) refl
    (record { puts = h.puts; free = free_changed S.number (λ at. o.state) s past.memory.services (λ at e. f.state) h.free }))

answering : (S : Setup) (past : Past) (a : Action) → IsClear S past → IsClear S (answer S past a)
unfolding answer
answering S past (actions.Ask command) h = asking S command past h
answering S past (actions.PauseFor count) h = pausing_for S count past h
answering S past a h = doing (named a) (outcome S past a) past (fine S past a h.free) h

faulting : (S : Setup) (number : ℕ) (past : Past) → IsClear S past → IsClear S (fault S number past)
faulting S number past h = entering_where S Error (add (Fault number) past) (adding (Fault number) past refl h)

exceeding : (S : Setup) (over : Bool) (past : Past) → IsClear S past → IsClear S (over_after S over past)
exceeding S over past h = either over (fault S 2 past) past (faulting S 2 past h) h

all_answered : (S : Setup) (more : List Action) (past : Past) → IsClear S past → IsClear S (answers S more past)
all_answered S [] past h = h
all_answered S (a ∷ more) past h = all_answered S more (answer S past a) (answering S past a h)

-- a call with a message is with one of another one
abbrev is_foreign : ℕ → Call → Bool
is_foreign n (calls.Message p place r m) = not (p == n)
is_foreign n _ = true

calling : {S : Setup} (call : Call) (past : Past) → is_foreign S.number call ≡ true → IsClear S past → IsClear S (called call past)
calling calls.Ready past foreign h = record { puts = h.puts; free = h.free }
calling (calls.Step number at) past foreign h = adding (Begin number at) past refl h
calling {S} (calls.Message p place r m) past foreign h =
    let shown = adding (Hand p place r) past refl h in
    record { puts = shown.puts; free = free_changed S.number (received p m) r past.memory.services (λ at e. received_free S.number p m at foreign e) h.free }

calling_back : (S : Setup) (made : Made) (past : Past) → is_foreign S.number made.call ≡ true → IsClear S past → IsClear S (callback S past made)
unfolding callback
calling_back S made past foreign h =
    exceeding S made.over (answers S made.actions (called made.call past)) (all_answered S made.actions (called made.call past) (calling made.call past foreign h))

all_called : (S : Setup) (made : List Made) (past : Past) → list_all (λ (one : Made). is_foreign S.number one.call) made ≡ true → IsClear S past → IsClear S (callbacks S made past)
all_called S [] past foreign h = h
all_called S (one ∷ made) past foreign h =
    let b = and_parts (is_foreign S.number one.call) (list_all (λ (o : Made). is_foreign S.number o.call) made) foreign in
    all_called S made (callback S past one) b.1 (calling_back S one past b.0 h)

-- ## Steps

ending_open : (S : Setup) (step : Option Begun) (past : Past) → IsClear S past → IsClear S (end_open S step past)
ending_open S None past h = h
ending_open S (Some step) past h = announcing S S.step (step.time + unwrap_or S.step 0) (add (End step.number) past) (adding (End step.number) past refl h)

ending : (S : Setup) (past : Past) → IsClear S past → IsClear S (end_step S past)
unfolding end_step
ending S past h = ending_open S (open_step past.journal) past h

blocking : (S : Setup) (past : Past) → IsClear S past → IsClear S (end_blocking S past)
blocking S past h = either (not S.is_async && may_end (state_of past.journal)) (end_step S past) past (ending S past h) h

stepping : (S : Setup) (made : Made) (past : Past) → is_foreign S.number made.call ≡ true → IsClear S past → IsClear S (take_step S made past)
unfolding take_step
stepping S made past foreign h = blocking S (callback S past made) (calling_back S made past foreign h)

completing : (S : Setup) (n : ℕ) (past : Past) → IsClear S past → IsClear S (complete S n past)
unfolding complete
completing S n past h =
    either (completes_ready n past) (add (Done n) past) (if completes_step S n past then end_step S (add (Done n) past) else add (Stray n) past) (adding (Done n) past refl h)
    (either (completes_step S n past) (end_step S (add (Done n) past)) (add (Stray n) past) (ending S (add (Done n) past) (adding (Done n) past refl h)) (adding (Stray n) past refl h))

-- ## Links

losing : (S : Setup) (p reason : ℕ) (past : Past) → IsClear S past → IsClear S (lose S p reason past)
unfolding lose
losing S p reason past h =
    let gone = adding (Gone p reason) past refl h in
    either (is_peer S p) (enter_if S Error (add (Gone p reason) past)) (add (Gone p reason) past) (entering_where S Error (add (Gone p reason) past) gone) gone

noting : (S : Setup) (p service : ℕ) (response : LinResponse) (past : Past) → IsClear S past → IsClear S (note S p service response past)
noting S p service response past h = record { puts = h.puts; free = noted_free S.number (slice_get (services_of (from S past p)) service) p service response S.services past.memory.services h.free }

heeding : (S : Setup) (p : ℕ) (m : Content) (made : List Made) (past : Past) → list_all (λ (one : Made). is_foreign S.number one.call) made ≡ true → IsClear S past → IsClear S (heed S p m made past)
unfolding heed
heeding S p (contents.Status state until) made past foreign h = judging S past h
heeding S p (contents.Workflow required) made past foreign h = judging S past h
heeding S p contents.Abort made past foreign h = entering_where S Aborting past h
heeding S p (contents.LinResponse head response) made past foreign h = noting S p head.service response past h
heeding S p m made past foreign h = all_called S made past foreign h

getting : (S : Setup) (p : ℕ) (m : Content) (made : List Made) (past : Past) → list_all (λ (one : Made). is_foreign S.number one.call) made ≡ true → IsClear S past → IsClear S (get S p m made past)
unfolding get
getting S p m made past foreign h =
    let got = adding (Got p m) past refl h in
    either (comes_in_order S past p m) (heed S p m made (add (Got p m) past)) (lose S p 8 (add (Got p m) past)) (heeding S p m made (add (Got p m) past) foreign got) (losing S p 8 (add (Got p m) past) got)

adding_tool : (S : Setup) (name : List ℕ) (past : Past) → S.number < length S.names → IsClear S past → IsClear S (add_tool S name past)
unfolding add_tool
adding_tool S name past within h =
    let t = tool_number S past in
    let other : not (t == S.number) ≡ true = ap not (ne_eqb t S.number (λ e. absurd (omega arith))) in
    let named : IsClear S (with_tool name past) = record { puts = h.puts; free = h.free } in
    either (is_state Shutdown (state_of past.journal)) (with_tool name past) (greet S t (with_tool name past)) named
    (adding (Put t (contents.Status (state_of past.journal) 0)) _ (put_other S.number t _ other)
    (adding (Put t contents.ServicesEnd) _ (put_other S.number t _ other)
    (adding (Put t (hello S (own_name S))) (with_tool name past) (put_other S.number t _ other) named)))

limiting : (S : Setup) (past : Past) → IsClear S past → IsClear S (judge_limits S past)
unfolding judge_limits
limiting S past h =
    either (not (has_edge (state_of past.journal) Error)) past _ h
    (either (nat_le 500000 (length past.journal)) (fault S 3 past) _ (faulting S 3 past h)
    (either (nat_le 33554432 (payload past.journal)) (fault S 4 past) past (faulting S 4 past h) h))

-- ## All that happens

-- who is open is another one
open_foreign : (S : Setup) (past : Past) (p : ℕ) → S.number < length S.names → is_open S past p ≡ true → not (p == S.number) ≡ true
open_foreign S past p within linked = by (is_peer S p) (is_tool S past p) (is_here S past p) refl refl linked
  where
    by : (peer tool here : Bool) → is_peer S p ≡ peer → is_tool S past p ≡ tool → ((peer || tool) && here) ≡ true → not (p == S.number) ≡ true
    by true tool here e f g = (and_parts (nat_lt p (length S.names)) (not (p == S.number)) e).1
    by false true here e f g =
        let far = leb-true (length S.names) p (and_parts (nat_le (length S.names) p) _ f).0 in
        ap not (ne_eqb p S.number (λ same. absurd (omega arith)))
    by false false here e f g = absurd (cc)

calls_foreign : (n p k : ℕ) (m : Content) → not (p == n) ≡ true → (rs : List ℕ) (made : List Made) → map (λ (one : Made). one.call) made ≡ map (λ r. calls.Message p k r m) rs → list_all (λ (one : Made). is_foreign n one.call) made ≡ true
calls_foreign n p k m other rs [] e = refl
calls_foreign n p k m other [] (one ∷ made) e = absurd (cc)
calls_foreign n p k m other (r ∷ rs) (one ∷ made) e =
    let first : one.call ≡ calls.Message p k r m = ap (λ l. get_or l 0 one.call) e in
    let rest : map (λ (o : Made). o.call) made ≡ map (λ q. calls.Message p k q m) rs = ap (drop 1) e in
    and_from (is_foreign n one.call) _ (ap (is_foreign n) first ∙ other) (calls_foreign n p k m other rs made rest)

happening : (S : Setup) (past : Past) (all : List Made) (now : Past) → S.number < length S.names → IsClear S past → Happens S past all now → IsClear S now
happening S past all now within h (gets p m made linked calls filled) =
    getting S p m made past (calls_foreign S.number p (length (got past.journal p) + 1) m (open_foreign S past p within linked) (receivers S past p m) made calls) h
happening S past all now within h (loses p reason linked loss) = losing S p reason past h
happening S past all now within h (completes number) = completing S number (with_completed number past) (record { puts = h.puts; free = h.free })
happening S past all now within h (asks command) = asking S command (note_asked past) (record { puts = h.puts; free = h.free })
happening S past all now within h (adds name few) = adding_tool S name past within h
happening S past all now within h (moves to r) = entering S to 0 past h
happening S past all now within h (readies one r is filled) = calling_back S one past (ap (is_foreign S.number) is) h
happening S past all now within h (begins one r is filled) = stepping S one past (ap (is_foreign S.number) is) h
happening S past all now within h (counts count r) = counting S count past h
happening S past all now within h (gives_up r) = asking S Abort past h

introduced : (n : ℕ) (ms : List Content) (ps : List ℕ) → are_others n ps ≡ true → put (flat_map (λ p. map (λ m. Put p m) ms) ps) n ≡ []
introduced n ms [] others = refl
introduced n ms (p ∷ ps) others =
    let b = and_parts (not (p == n)) (are_others n ps) others in
    both_none n (map (λ m. Put p m) ms) (flat_map (λ q. map (λ m. Put q m) ms) ps) (to_one p b.0 ms) (introduced n ms ps b.1)
  where
    to_one : (q : ℕ) → not (q == n) ≡ true → (xs : List Content) → put (map (λ m. Put q m) xs) n ≡ []
    to_one q other [] = refl
    to_one q other (m ∷ xs) = ap (λ o. cons_option o (put (map (λ x. Put q x) xs) n)) (put_other n q m other) ∙ to_one q other xs

starting : (S : Setup) → IsClear S (making S)
unfolding making
starting S = entering S ServicesCreated 0 _ (record {
  puts = introduced S.number (introduction S) (peers S) (filtered (λ q. not (q == S.number)) (λ p. not (p == S.number)) (range_with_len 0 (length S.names)) (λ p e. e));
  free = all_new_free S.number S.services;
})

clear : (S : Setup) (past : Past) (made : List Made) → S.number < length S.names → Lawful S past made → IsClear S past
clear S past made within starts = starting S
clear S past made within (goes_on was now before more law happens) = limiting S now (happening S was more now within (clear S was before within law) happens)

-- nothing is put to oneself
pub none_to_itself : (S : Setup) (past : Past) (made : List Made) → Lawful S past made → IsSetup S → put past.journal S.number ≡ []
none_to_itself S past made law setup = (clear S past made setup.within law).puts
