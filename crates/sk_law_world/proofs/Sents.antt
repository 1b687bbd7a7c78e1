-- Behind a Did with a message stand its Puts.
use Rattle.std.specs.Prelude.{IfSome, flat_map, ◌≡◌, refl, ℕ, ◌+◌, ◌-◌, max, nat_le, Bool, true, false, not, ◌&&◌, List, [], ◌∷◌, ◌++◌, map, length, Option, Some, None, unwrap_or, if◌then◌else◌}
use Rattle.std.proofs.Common.{subst, ap, sym, ◌∙◌, append_assoc, append-nil}
use Rattle.sk_msg.specs.declared.action.Action.{Action}
use Rattle.sk_msg.specs.declared.action.Action.TheVariants as actions
use Rattle.sk_msg.specs.declared.command.Command.{Command}
use Rattle.sk_msg.specs.declared.command.Command.TheVariants.{Pause, Continue, Abort}
use Rattle.sk_msg.specs.declared.command.Verdict.TheVariants.{Accepted, Refused}
use Rattle.sk_msg.specs.declared.content.Content.{Content}
use Rattle.sk_msg.specs.declared.content.Content.TheVariants as contents
use Rattle.sk_msg.specs.declared.entry.Entry.{Entry}
use Rattle.sk_msg.specs.declared.entry.Entry.TheVariants.{Got, Put, Hand, State as Entered, System as Judged, Begin, Done, End, Ask, Gone, Stray, Did, Fault}
use Rattle.sk_msg.specs.declared.state.State.{State}
use Rattle.sk_msg.specs.declared.state.State.TheVariants.{ServicesCreated, Running, Error, Shutdown, Aborting}
use Rattle.sk_msg.specs.Edges.{has_edge, led_to, is_command}
use Rattle.sk_msg.specs.States.{is_state}
use Rattle.sk_law.specs.declared.made.Call.{Call}
use Rattle.sk_law.specs.declared.made.Call.TheVariants as calls
use Rattle.sk_law.specs.declared.made.Made.{Made}
use Rattle.sk_law.specs.declared.memory.Begun.{Begun}
use Rattle.sk_law.specs.declared.setup.Setup.{Setup}
use Rattle.sk_law.specs.Past.{Past, add, put_each}
use Rattle.sk_law.specs.Readings.{state_of, system_told, open_step, payload}
use Rattle.sk_law.specs.Links.{reached, told, system, is_peer, comes_in_order}
use Rattle.sk_law.specs.Outcomes.{Outcome, outcome}
use Rattle.sk_law.specs.Receivers.{note}
use Rattle.sk_law.specs.Blocks.{judge_system, announce_step, announce, enter_only, is_first_run, behind, enter_until, enter_if, accepted, tell_abort, asked, ask, until_of, with_pause, pause_for, count_down, did, answer, answers, fault, called, over_after, answered, callback, callbacks, may_end, end_open, end_step, end_blocking, take_step, completes_ready, completes_step, complete, lose, heed, get, greet, tool_number, with_tool, add_tool, judge_limits}
use Rattle.sk_law.specs.Links.{peers}
use Rattle.sk_law.specs.Blocks.{making, introduction, with_completed}
use Rattle.sk_law.specs.Services.{new_states}
use Rattle.sk_law.specs.Lawful.{Lawful, starts, goes_on, Happens, gets, loses, completes, asks, adds, moves, readies, begins, counts, gives_up, note_asked}
use Rattle.sk_law_world.specs.Sent.{IsSent, DoneIsSent}
use Rattle.sk_law_world.proofs.Stamps.{IsAddressed, outcome_goes}

-- ## Entries

-- behind those before it, each Did with a message is followed by its Puts
abbrev pub AllSent : Setup → List Entry → List Entry → Type 0
AllSent S before [] = Unit {0}
AllSent S before (Did s code (Some m) ∷ es) = IsSent S before es m × AllSent S (before ++ Did s code (Some m) ∷ []) es
AllSent S before (e ∷ es) = AllSent S (before ++ e ∷ []) es

-- it says no message that is sent
abbrev is_silent : Entry → Bool
is_silent (Did s code (Some m)) = false
is_silent _ = true

sent_on : (S : Setup) (before es ys : List Entry) (m : Content) → IsSent S before es m → IsSent S before (es ++ ys) m
sent_on S before es ys m h = record {
  to = h.to;
  rest = h.rest ++ ys;
  is = ap (λ xs. xs ++ ys) h.is ∙ append_assoc (map (λ q. Put q m) h.to) h.rest ys;
  all = h.all;
  few = h.few;
}

-- what stands further on
moved_on : (S : Setup) (before : List Entry) (e : Entry) (es ys : List Entry) → AllSent S (before ++ e ∷ es) ys → AllSent S ((before ++ e ∷ []) ++ es) ys
moved_on S before e es ys h = subst (λ xs. AllSent S xs ys) (sym (append_assoc before (e ∷ []) es)) h

joined : (S : Setup) (before xs ys : List Entry) → AllSent S before xs → AllSent S (before ++ xs) ys → AllSent S before (xs ++ ys)
joined S before [] ys h i = subst (λ es. AllSent S es ys) (append-nil before) i
joined S before (Did s code (Some m) ∷ xs) ys h i = (sent_on S before xs ys m h.0, joined S (before ++ Did s code (Some m) ∷ []) xs ys h.1 (moved_on S before (Did s code (Some m)) xs ys i))
joined S before (Got p m ∷ xs) ys h i = joined S (before ++ Got p m ∷ []) xs ys h (moved_on S before (Got p m) xs ys i)
joined S before (Put q m ∷ xs) ys h i = joined S (before ++ Put q m ∷ []) xs ys h (moved_on S before (Put q m) xs ys i)
joined S before (Hand p k r ∷ xs) ys h i = joined S (before ++ Hand p k r ∷ []) xs ys h (moved_on S before (Hand p k r) xs ys i)
joined S before (Entered to ∷ xs) ys h i = joined S (before ++ Entered to ∷ []) xs ys h (moved_on S before (Entered to) xs ys i)
joined S before (Judged x ∷ xs) ys h i = joined S (before ++ Judged x ∷ []) xs ys h (moved_on S before (Judged x) xs ys i)
joined S before (Begin n t ∷ xs) ys h i = joined S (before ++ Begin n t ∷ []) xs ys h (moved_on S before (Begin n t) xs ys i)
joined S before (Done n ∷ xs) ys h i = joined S (before ++ Done n ∷ []) xs ys h (moved_on S before (Done n) xs ys i)
joined S before (End n ∷ xs) ys h i = joined S (before ++ End n ∷ []) xs ys h (moved_on S before (End n) xs ys i)
joined S before (Ask c v ∷ xs) ys h i = joined S (before ++ Ask c v ∷ []) xs ys h (moved_on S before (Ask c v) xs ys i)
joined S before (Gone q r ∷ xs) ys h i = joined S (before ++ Gone q r ∷ []) xs ys h (moved_on S before (Gone q r) xs ys i)
joined S before (Stray n ∷ xs) ys h i = joined S (before ++ Stray n ∷ []) xs ys h (moved_on S before (Stray n) xs ys i)
joined S before (Did s code None ∷ xs) ys h i = joined S (before ++ Did s code None ∷ []) xs ys h (moved_on S before (Did s code None) xs ys i)
joined S before (Fault n ∷ xs) ys h i = joined S (before ++ Fault n ∷ []) xs ys h (moved_on S before (Fault n) xs ys i)

-- one that says no message
quiet_one : (S : Setup) (before : List Entry) (e : Entry) → is_silent e ≡ true → AllSent S before (e ∷ [])
quiet_one S before (Did s code (Some m)) h = absurd cc
quiet_one S before (Got p m) h = tt
quiet_one S before (Put q m) h = tt
quiet_one S before (Hand p k r) h = tt
quiet_one S before (Entered to) h = tt
quiet_one S before (Judged x) h = tt
quiet_one S before (Begin n t) h = tt
quiet_one S before (Done n) h = tt
quiet_one S before (End n) h = tt
quiet_one S before (Ask c v) h = tt
quiet_one S before (Gone q r) h = tt
quiet_one S before (Stray n) h = tt
quiet_one S before (Did s code None) h = tt
quiet_one S before (Fault n) h = tt

quiet_puts : (S : Setup) (before : List Entry) (numbers : List ℕ) (m : Content) → AllSent S before (map (λ q. Put q m) numbers)
quiet_puts S before [] m = tt
quiet_puts S before (q ∷ more) m = quiet_puts S (before ++ Put q m ∷ []) more m

-- ## Blocks

-- what is added is such
record Sends (S : Setup) (past now : Past) : Type 0 where
  pub new : List Entry
  pub is : now.journal ≡ past.journal ++ new
  pub sent : AllSent S past.journal new

same : {S : Setup} (past now : Past) → now.journal ≡ past.journal → Sends S past now
same past now e = record { new = []; is = e ∙ sym (append-nil past.journal); sent = tt }

both : {S : Setup} {a b c : Past} → Sends S a b → Sends S b c → Sends S a c
both {S} {a} {b} {c} f g = record {
  new = f.new ++ g.new;
  is = g.is ∙ ap (λ es. es ++ g.new) f.is ∙ append_assoc a.journal f.new g.new;
  sent = joined S a.journal f.new g.new f.sent (subst (λ es. AllSent S es g.new) f.is g.sent);
}

one : {S : Setup} (e : Entry) (past : Past) → is_silent e ≡ true → Sends S past (add e past)
one {S} e past h = record { new = e ∷ []; is = refl; sent = quiet_one S past.journal e h }

puts : {S : Setup} (numbers : List ℕ) (m : Content) (past : Past) → Sends S past (put_each numbers m past)
puts {S} numbers m past = record { new = map (λ q. Put q m) numbers; is = refl; sent = quiet_puts S past.journal numbers m }

if_sends : {S : Setup} {past x y : Past} (c : Bool) → Sends S past x → Sends S past y → Sends S past (if c then x else y)
if_sends true f g = f
if_sends false f g = g

judges : (S : Setup) (past : Past) → Sends S past (judge_system S past)
unfolding judge_system
judges S past = if_sends (is_state (system S past) (system_told past.journal)) (same past past refl) (one (Judged (system S past)) past refl)

announces_by : (S : Setup) (step : Option ℕ) (at : ℕ) (past : Past) → Sends S past (announce_step S step at past)
announces_by S None at past = same past past refl
announces_by S (Some size) at past = puts (reached S past) (contents.NextStep at size) past

announces : (S : Setup) (at : ℕ) (past : Past) → Sends S past (announce S at past)
announces S at past = announces_by S S.step at past

enters_only : (S : Setup) (to : State) (until : ℕ) (past : Past) → Sends S past (enter_only S to until past)
enters_only S to until past =
    both (one (Entered to) past refl) (both (puts (told S past) (contents.Status to until) (add (Entered to) past)) (judges S (put_each (told S past) (contents.Status to until) (add (Entered to) past))))

goes_behind : (S : Setup) (to : State) (is_first : Bool) (numbers : List ℕ) (past : Past) → Sends S past (behind S to is_first numbers past)
goes_behind S to is_first numbers past =
    if_sends (is_state Shutdown to) (puts numbers contents.Leave past) (if_sends is_first (announces S 0 past) (same past past refl))

enters : (S : Setup) (to : State) (until : ℕ) (past : Past) → Sends S past (enter_until S to until past)
unfolding enter_until
enters S to until past = both (enters_only S to until past) (goes_behind S to (is_first_run to past.journal) (told S past) (enter_only S to until past))

enters_if : (S : Setup) (to : State) (past : Past) → Sends S past (enter_if S to past)
unfolding enter_if
enters_if S to past = if_sends (has_edge (state_of past.journal) to) (enters S to 0 past) (same past past refl)

tells : (S : Setup) (command : Command) (past : Past) → Sends S past (tell_abort S command past)
tells S command past = if_sends (is_command Abort command) (puts (reached S past) contents.Abort past) (same past past refl)

answers_ask : (S : Setup) (command : Command) (to : Option State) (past : Past) → Sends S past (asked S command to past)
answers_ask S command None past = one (Ask command (Refused (state_of past.journal))) past refl
answers_ask S command (Some to) past =
    let first : Sends S past (accepted command past) = record { new = Ask command Accepted ∷ []; is = refl; sent = tt } in
    both first (both (enters S to (until_of S command past) (accepted command past)) (tells S command (enter_until S to (until_of S command past) (accepted command past))))

asks_one : (S : Setup) (command : Command) (past : Past) → Sends S past (ask S command past)
unfolding ask
asks_one S command past = answers_ask S command (led_to (state_of past.journal) command) past

pauses : (S : Setup) (count : ℕ) (past : Past) → Sends S past (pause_for S count past)
unfolding pause_for
pauses S count past =
    let counted : Sends S (ask S Pause past) (with_pause (Some (max count 1)) (ask S Pause past)) = same (ask S Pause past) (with_pause (Some (max count 1)) (ask S Pause past)) refl in
    if_sends (is_state Running (state_of past.journal)) (both (asks_one S Pause past) counted) (asks_one S Pause past)

counts_one : (S : Setup) (count : ℕ) (past : Past) → Sends S past (count_down S count past)
unfolding count_down
counts_one S count past = if_sends (nat_le count 1) (asks_one S Continue past) (same past (with_pause (Some (count - 1)) past) refl)

does : {S : Setup} (s : ℕ) (o : Outcome) (past : Past) → IfSome o.message (IsAddressed S past o.to) → Sends S past (did s o past)
does {S} s o past h = by o.message h
  where
    by : (m : Option Content) → IfSome m (IsAddressed S past o.to) → Sends S past (did s (record o { message = m }) past)
    by None h = record { new = Did s o.code None ∷ []; is = refl; sent = tt }
    by (Some m) h = record {
      new = Did s o.code (Some m) ∷ map (λ q. Put q m) o.to;
      is = append_assoc past.journal (Did s o.code (Some m) ∷ []) (map (λ q. Put q m) o.to);
      sent = (
        record { to = o.to; rest = []; is = sym (append-nil (map (λ q. Put q m) o.to)); all = h.0; few = h.1 },
        quiet_puts S (past.journal ++ Did s o.code (Some m) ∷ []) o.to m,
      );
    }

answers_one : (S : Setup) (past : Past) (a : Action) → Sends S past (answer S past a)
unfolding answer
answers_one S past (actions.Ask command) = asks_one S command past
answers_one S past (actions.PauseFor count) = pauses S count past
answers_one S past (actions.CanBaud s rate) = does s (outcome S past (actions.CanBaud s rate)) past (outcome_goes S past (actions.CanBaud s rate))
answers_one S past (actions.CanStart s) = does s (outcome S past (actions.CanStart s)) past (outcome_goes S past (actions.CanStart s))
answers_one S past (actions.CanStop s) = does s (outcome S past (actions.CanStop s)) past (outcome_goes S past (actions.CanStop s))
answers_one S past (actions.CanReset s) = does s (outcome S past (actions.CanReset s)) past (outcome_goes S past (actions.CanReset s))
answers_one S past (actions.CanSleep s) = does s (outcome S past (actions.CanSleep s)) past (outcome_goes S past (actions.CanSleep s))
answers_one S past (actions.CanSend s frame) = does s (outcome S past (actions.CanSend s frame)) past (outcome_goes S past (actions.CanSend s frame))
answers_one S past (actions.EthActivate s) = does s (outcome S past (actions.EthActivate s)) past (outcome_goes S past (actions.EthActivate s))
answers_one S past (actions.EthDeactivate s) = does s (outcome S past (actions.EthDeactivate s)) past (outcome_goes S past (actions.EthDeactivate s))
answers_one S past (actions.EthSend s frame) = does s (outcome S past (actions.EthSend s frame)) past (outcome_goes S past (actions.EthSend s frame))
answers_one S past (actions.LinInit s role) = does s (outcome S past (actions.LinInit s role)) past (outcome_goes S past (actions.LinInit s role))
answers_one S past (actions.LinSetResponse s response) = does s (outcome S past (actions.LinSetResponse s response)) past (outcome_goes S past (actions.LinSetResponse s response))
answers_one S past (actions.LinHeader s id) = does s (outcome S past (actions.LinHeader s id)) past (outcome_goes S past (actions.LinHeader s id))
answers_one S past (actions.LinSendFrame s response) = does s (outcome S past (actions.LinSendFrame s response)) past (outcome_goes S past (actions.LinSendFrame s response))
answers_one S past (actions.LinSleep s) = does s (outcome S past (actions.LinSleep s)) past (outcome_goes S past (actions.LinSleep s))
answers_one S past (actions.LinWakeup s) = does s (outcome S past (actions.LinWakeup s)) past (outcome_goes S past (actions.LinWakeup s))
answers_one S past (actions.Publish s payload) = does s (outcome S past (actions.Publish s payload)) past (outcome_goes S past (actions.Publish s payload))
answers_one S past (actions.Call s payload) = does s (outcome S past (actions.Call s payload)) past (outcome_goes S past (actions.Call s payload))
answers_one S past (actions.Submit s peer client call payload) = does s (outcome S past (actions.Submit s peer client call payload)) past (outcome_goes S past (actions.Submit s peer client call payload))

answers_all : (S : Setup) (more : List Action) (past : Past) → Sends S past (answers S more past)
answers_all S [] past = same past past refl
answers_all S (a ∷ more) past = both (answers_one S past a) (answers_all S more (answer S past a))

fails : (S : Setup) (number : ℕ) (past : Past) → Sends S past (fault S number past)
fails S number past = both (one (Fault number) past refl) (enters_if S Error (add (Fault number) past))

calls_app : {S : Setup} (call : Call) (past : Past) → Sends S past (called call past)
calls_app calls.Ready past = same past (called calls.Ready past) refl
calls_app (calls.Step number at) past = one (Begin number at) past refl
calls_app (calls.Message p place r m) past = record { new = Hand p place r ∷ []; is = refl; sent = tt }

goes_over : (S : Setup) (over : Bool) (past : Past) → Sends S past (over_after S over past)
goes_over S over past = if_sends over (fails S 2 past) (same past past refl)

answers_call : (S : Setup) (more : List Action) (over : Bool) (past : Past) → Sends S past (answered S more over past)
answers_call S more over past = both (answers_all S more past) (goes_over S over (answers S more past))

calls_back : (S : Setup) (past : Past) (made : Made) → Sends S past (callback S past made)
unfolding callback
calls_back S past made = both (calls_app made.call past) (answers_call S made.actions made.over (called made.call past))

calls_all : (S : Setup) (made : List Made) (past : Past) → Sends S past (callbacks S made past)
calls_all S [] past = same past past refl
calls_all S (first ∷ more) past = both (calls_back S past first) (calls_all S more (callback S past first))

ends_open : (S : Setup) (step : Option Begun) (past : Past) → Sends S past (end_open S step past)
ends_open S None past = same past past refl
ends_open S (Some step) past = both (one (End step.number) past refl) (announces S (step.time + unwrap_or S.step 0) (add (End step.number) past))

ends : (S : Setup) (past : Past) → Sends S past (end_step S past)
unfolding end_step
ends S past = ends_open S (open_step past.journal) past

ends_blocking : (S : Setup) (past : Past) → Sends S past (end_blocking S past)
ends_blocking S past = if_sends (not S.is_async && may_end (state_of past.journal)) (ends S past) (same past past refl)

steps : (S : Setup) (made : Made) (past : Past) → Sends S past (take_step S made past)
unfolding take_step
steps S made past = both (calls_back S past made) (ends_blocking S (callback S past made))

completes_one : (S : Setup) (n : ℕ) (past : Past) → Sends S past (complete S n past)
unfolding complete
completes_one S n past =
    if_sends (completes_ready n past) (one (Done n) past refl) (if_sends (completes_step S n past) (both (one (Done n) past refl) (ends S (add (Done n) past))) (one (Stray n) past refl))

loses_one : (S : Setup) (p reason : ℕ) (past : Past) → Sends S past (lose S p reason past)
unfolding lose
loses_one S p reason past =
    if_sends (is_peer S p) (both (one (Gone p reason) past refl) (enters_if S Error (add (Gone p reason) past))) (one (Gone p reason) past refl)

heeds : (S : Setup) (p : ℕ) (m : Content) (made : List Made) (past : Past) → Sends S past (heed S p m made past)
unfolding heed
heeds S p (contents.Status state until) made past = judges S past
heeds S p (contents.Workflow required) made past = judges S past
heeds S p contents.Abort made past = enters_if S Aborting past
heeds S p (contents.LinResponse head response) made past = same past (note S p head.service response past) refl
heeds S p (contents.Hello name role address) made past = calls_all S made past
heeds S p contents.Leave made past = calls_all S made past
heeds S p (contents.NextStep at size) made past = calls_all S made past
heeds S p (contents.ServiceAdd service) made past = calls_all S made past
heeds S p contents.ServicesEnd made past = calls_all S made past
heeds S p (contents.Can head frame) made past = calls_all S made past
heeds S p (contents.Eth head payload) made past = calls_all S made past
heeds S p (contents.Lin head frame) made past = calls_all S made past
heeds S p (contents.Publish head payload) made past = calls_all S made past
heeds S p (contents.Call head call payload) made past = calls_all S made past
heeds S p (contents.Reply head client call payload) made past = calls_all S made past
heeds S p (contents.Refuse reason) made past = calls_all S made past

gets_one : (S : Setup) (p : ℕ) (m : Content) (made : List Made) (past : Past) → Sends S past (get S p m made past)
unfolding get
gets_one S p m made past =
    if_sends (comes_in_order S past p m) (both (one (Got p m) past refl) (heeds S p m made (add (Got p m) past))) (both (one (Got p m) past refl) (loses_one S p 8 (add (Got p m) past)))

greets : (S : Setup) (t : ℕ) (past : Past) → Sends S past (greet S t past)
greets S t past = both (one _ _ refl) (both (one _ _ refl) (one _ _ refl))

adds_tool : (S : Setup) (name : List ℕ) (past : Past) → Sends S past (add_tool S name past)
unfolding add_tool
adds_tool S name past =
    let first : Sends S past (with_tool name past) = same past (with_tool name past) refl in
    if_sends (is_state Shutdown (state_of past.journal)) first (both first (greets S (tool_number S past) (with_tool name past)))

limits : (S : Setup) (past : Past) → Sends S past (judge_limits S past)
unfolding judge_limits
limits S past =
    if_sends (not (has_edge (state_of past.journal) Error)) (same past past refl)
    (if_sends (nat_le 500000 (length past.journal)) (fails S 3 past) (if_sends (nat_le 33554432 (payload past.journal)) (fails S 4 past) (same past past refl)))

-- ## All that happens

happens : (S : Setup) (past : Past) (made : List Made) (now : Past) → Happens S past made now → Sends S past now
happens S past made now (gets p m more linked are filled) = gets_one S p m made past
happens S past made now (loses p reason linked loss) = loses_one S p reason past
happens S past made now (completes number) = both (same past (with_completed number past) refl) (completes_one S number (with_completed number past))
happens S past made now (asks command) = both (same past (note_asked past) refl) (asks_one S command (note_asked past))
happens S past made now (adds name few) = adds_tool S name past
happens S past made now (moves to e) = enters S to 0 past
happens S past made now (readies first e call filled) = calls_back S past first
happens S past made now (begins first e call filled) = steps S first past
happens S past made now (counts count e) = counts_one S count past
happens S past made now (gives_up e) = asks_one S Abort past

introduced : (S : Setup) (before : List Entry) (ps : List ℕ) (ms : List Content) → AllSent S before (flat_map (λ p. map (λ m. Put p m) ms) ps)
introduced S before [] ms = tt
introduced S before (p ∷ ps) ms =
    joined S before (map (λ m. Put p m) ms) (flat_map (λ p. map (λ m. Put p m) ms) ps) (to_one before ms) (introduced S (before ++ map (λ m. Put p m) ms) ps ms)
  where
    to_one : (es : List Entry) (some : List Content) → AllSent S es (map (λ m. Put p m) some)
    to_one es [] = tt
    to_one es (m ∷ some) = to_one (es ++ Put p m ∷ []) some

making_sent : (S : Setup) → AllSent S [] (making S).journal
unfolding making
making_sent S = let h = enters S ServicesCreated 0 before in
    subst (AllSent S []) (sym h.is) (joined S [] before.journal h.new (introduced S [] (peers S) (introduction S)) h.sent)
  where
    before : Past
    before = record {
      journal = flat_map (λ p. map (λ m. Put p m) (introduction S)) (peers S);
      memory = record { called = false; asked = false; pause = None; tools = []; services = new_states S.services; ready_awaited = false };
    }

all_sent : (S : Setup) (past : Past) (made : List Made) → Lawful S past made → AllSent S [] past.journal
all_sent S past made starts = making_sent S
all_sent S past made (goes_on was now before more law h) =
    let new = both (happens S was more now h) (limits S now) in
    subst (AllSent S []) (sym new.is) (joined S [] was.journal new.new (all_sent S was before law) new.sent)

further : (S : Setup) (front : List Entry) (e : Entry) (before : List Entry) (s code : ℕ) (m : Content) (after : List Entry) → IsSent S ((front ++ e ∷ []) ++ before) after m → IsSent S (front ++ e ∷ before) after m
further S front e before s code m after h = subst (λ es. IsSent S es after m) (append_assoc front (e ∷ []) before) h

-- the one at this place
found : (S : Setup) (front before : List Entry) (s code : ℕ) (m : Content) (after : List Entry) → AllSent S front (before ++ Did s code (Some m) ∷ after) → IsSent S (front ++ before) after m
found S front [] s code m after h = subst (λ es. IsSent S es after m) (sym (append-nil front)) h.0
found S front (Did s' code' (Some m') ∷ before) s code m after h = further S front (Did s' code' (Some m')) before s code m after (found S (front ++ Did s' code' (Some m') ∷ []) before s code m after h.1)
found S front (Got p x ∷ before) s code m after h = further S front (Got p x) before s code m after (found S (front ++ Got p x ∷ []) before s code m after h)
found S front (Put q x ∷ before) s code m after h = further S front (Put q x) before s code m after (found S (front ++ Put q x ∷ []) before s code m after h)
found S front (Hand p k r ∷ before) s code m after h = further S front (Hand p k r) before s code m after (found S (front ++ Hand p k r ∷ []) before s code m after h)
found S front (Entered to ∷ before) s code m after h = further S front (Entered to) before s code m after (found S (front ++ Entered to ∷ []) before s code m after h)
found S front (Judged x ∷ before) s code m after h = further S front (Judged x) before s code m after (found S (front ++ Judged x ∷ []) before s code m after h)
found S front (Begin n t ∷ before) s code m after h = further S front (Begin n t) before s code m after (found S (front ++ Begin n t ∷ []) before s code m after h)
found S front (Done n ∷ before) s code m after h = further S front (Done n) before s code m after (found S (front ++ Done n ∷ []) before s code m after h)
found S front (End n ∷ before) s code m after h = further S front (End n) before s code m after (found S (front ++ End n ∷ []) before s code m after h)
found S front (Ask c v ∷ before) s code m after h = further S front (Ask c v) before s code m after (found S (front ++ Ask c v ∷ []) before s code m after h)
found S front (Gone q r ∷ before) s code m after h = further S front (Gone q r) before s code m after (found S (front ++ Gone q r ∷ []) before s code m after h)
found S front (Stray n ∷ before) s code m after h = further S front (Stray n) before s code m after (found S (front ++ Stray n ∷ []) before s code m after h)
found S front (Did s' c' None ∷ before) s code m after h = further S front (Did s' c' None) before s code m after (found S (front ++ Did s' c' None ∷ []) before s code m after h)
found S front (Fault n ∷ before) s code m after h = further S front (Fault n) before s code m after (found S (front ++ Fault n ∷ []) before s code m after h)

pub done_is_sent : DoneIsSent
done_is_sent S past made law before s code m after e = found S [] before s code m after (subst (AllSent S []) e (all_sent S past made law))
