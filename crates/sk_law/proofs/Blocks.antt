-- What follows what only adds entries.
use Rattle.std.specs.Prelude.{◌≡◌, refl, ℕ, ◌+◌, ◌-◌, max, nat_le, Bool, true, false, not, ◌&&◌, List, [], ◌∷◌, ◌++◌, map, length, Option, Some, None, unwrap_or, if◌then◌else◌}
use Rattle.std.proofs.Common.{ap, sym, ◌∙◌, append_assoc, append-nil}
use Rattle.sk_msg.specs.declared.action.Action.{Action}
use Rattle.sk_msg.specs.declared.action.Action.TheVariants as actions
use Rattle.sk_msg.specs.declared.command.Command.{Command}
use Rattle.sk_msg.specs.declared.command.Command.TheVariants.{Pause, Continue, Abort}
use Rattle.sk_msg.specs.declared.command.Verdict.TheVariants.{Accepted, Refused}
use Rattle.sk_msg.specs.declared.content.Content.{Content}
use Rattle.sk_msg.specs.declared.content.Content.TheVariants as contents
use Rattle.sk_msg.specs.declared.entry.Entry.{Entry}
use Rattle.sk_msg.specs.declared.entry.Entry.TheVariants.{Got, Put, Hand, State as Entered, System as Judged, Begin, Done, End, Ask, Gone, Stray, Did, Fault}
use Rattle.sk_msg.specs.declared.state.State.{State}
use Rattle.sk_msg.specs.declared.state.State.TheVariants.{Running, Error, Shutdown, Aborting}
use Rattle.sk_msg.specs.Edges.{has_edge, led_to, is_command}
use Rattle.sk_msg.specs.States.{is_state}
use Rattle.sk_law.specs.declared.made.Call.{Call}
use Rattle.sk_law.specs.declared.made.Call.TheVariants as calls
use Rattle.sk_law.specs.declared.made.Made.{Made}
use Rattle.sk_law.specs.declared.memory.Begun.{Begun}
use Rattle.sk_law.specs.declared.setup.Setup.{Setup}
use Rattle.sk_law.specs.Past.{Past, add, put_each}
use Rattle.sk_law.specs.Readings.{state_of, system_told, open_step, payload}
use Rattle.sk_law.specs.Links.{reached, told, system, is_peer, comes_in_order}
use Rattle.sk_law.specs.Outcomes.{Outcome, outcome}
use Rattle.sk_law.specs.Receivers.{note}
use Rattle.sk_law.specs.Blocks.{judge_system, announce_step, announce, enter_only, is_first_run, behind, enter_until, enter_if, accepted, tell_abort, asked, ask, until_of, with_pause, pause_for, count_down, put_some, did, answer, answers, fault, called, over_after, answered, callback, callbacks, may_end, end_open, end_step, end_blocking, take_step, completes_ready, completes_step, complete, lose, heed, get, greet, tool_number, with_tool, add_tool, judge_limits}
use Rattle.sk_law.specs.Growing.{Adds, BlocksAdd}

same : (past now : Past) → now.journal ≡ past.journal → Adds past now
same past now e = record { front = ([], append-nil past.journal ∙ sym e) }

both : {a b c : Past} → Adds a b → Adds b c → Adds a c
both {a} {b} {c} f g = record { front = (f.front.0 ++ g.front.0, sym (append_assoc a.journal f.front.0 g.front.0) ∙ ap (λ es. es ++ g.front.0) f.front.1 ∙ g.front.1) }

one : (e : Entry) (past : Past) → Adds past (add e past)
one e past = record { front = (e ∷ [], refl) }

puts : (numbers : List ℕ) (m : Content) (past : Past) → Adds past (put_each numbers m past)
puts numbers m past = record { front = (map (λ q. Put q m) numbers, refl) }

if_adds : {past x y : Past} (c : Bool) → Adds past x → Adds past y → Adds past (if c then x else y)
if_adds true f g = f
if_adds false f g = g

judges : (S : Setup) (past : Past) → Adds past (judge_system S past)
unfolding judge_system
judges S past = if_adds (is_state (system S past) (system_told past.journal)) (same past past refl) (one (Judged (system S past)) past)

announces_by : (S : Setup) (step : Option ℕ) (at : ℕ) (past : Past) → Adds past (announce_step S step at past)
announces_by S None at past = same past past refl
announces_by S (Some size) at past = puts (reached S past) (contents.NextStep at size) past

announces : (S : Setup) (at : ℕ) (past : Past) → Adds past (announce S at past)
announces S at past = announces_by S S.step at past

enters_only : (S : Setup) (to : State) (until : ℕ) (past : Past) → Adds past (enter_only S to until past)
enters_only S to until past =
    both (one (Entered to) past) (both (puts (told S past) (contents.Status to until) (add (Entered to) past)) (judges S (put_each (told S past) (contents.Status to until) (add (Entered to) past))))

goes_behind : (S : Setup) (to : State) (is_first : Bool) (numbers : List ℕ) (past : Past) → Adds past (behind S to is_first numbers past)
goes_behind S to is_first numbers past =
    if_adds (is_state Shutdown to) (puts numbers contents.Leave past) (if_adds is_first (announces S 0 past) (same past past refl))

enters : (S : Setup) (to : State) (until : ℕ) (past : Past) → Adds past (enter_until S to until past)
unfolding enter_until
enters S to until past = both (enters_only S to until past) (goes_behind S to (is_first_run to past.journal) (told S past) (enter_only S to until past))

enters_if : (S : Setup) (to : State) (past : Past) → Adds past (enter_if S to past)
unfolding enter_if
enters_if S to past = if_adds (has_edge (state_of past.journal) to) (enters S to 0 past) (same past past refl)

tells : (S : Setup) (command : Command) (past : Past) → Adds past (tell_abort S command past)
tells S command past = if_adds (is_command Abort command) (puts (reached S past) contents.Abort past) (same past past refl)

answers_ask : (S : Setup) (command : Command) (to : Option State) (past : Past) → Adds past (asked S command to past)
answers_ask S command None past = one (Ask command (Refused (state_of past.journal))) past
answers_ask S command (Some to) past =
    let first : Adds past (accepted command past) = record { front = (Ask command Accepted ∷ [], refl) } in
    both first (both (enters S to (until_of S command past) (accepted command past)) (tells S command (enter_until S to (until_of S command past) (accepted command past))))

asks : (S : Setup) (command : Command) (past : Past) → Adds past (ask S command past)
unfolding ask
asks S command past = answers_ask S command (led_to (state_of past.journal) command) past

pauses : (S : Setup) (count : ℕ) (past : Past) → Adds past (pause_for S count past)
unfolding pause_for
pauses S count past =
    let counted : Adds (ask S Pause past) (with_pause (Some (max count 1)) (ask S Pause past)) = same (ask S Pause past) (with_pause (Some (max count 1)) (ask S Pause past)) refl in
    if_adds (is_state Running (state_of past.journal)) (both (asks S Pause past) counted) (asks S Pause past)

counts : (S : Setup) (count : ℕ) (past : Past) → Adds past (count_down S count past)
unfolding count_down
counts S count past = if_adds (nat_le count 1) (asks S Continue past) (same past (with_pause (Some (count - 1)) past) refl)

puts_some : (to : List ℕ) (o : Option Content) (past : Past) → Adds past (put_some to o past)
puts_some to None past = same past past refl
puts_some to (Some m) past = puts to m past

does : (s : ℕ) (o : Outcome) (past : Past) → Adds past (did s o past)
does s o past =
    by o.message
  where
    by : (m : Option Content) → Adds past (did s (record o { message = m }) past)
    by None = record { front = (Did s o.code None ∷ [], refl) }
    by (Some m) = record { front = (Did s o.code (Some m) ∷ map (λ q. Put q m) o.to, sym (append_assoc past.journal (Did s o.code (Some m) ∷ []) (map (λ q. Put q m) o.to))) }

answers_one : (S : Setup) (past : Past) (a : Action) → Adds past (answer S past a)
unfolding answer
answers_one S past (actions.Ask command) = asks S command past
answers_one S past (actions.PauseFor count) = pauses S count past
answers_one S past (actions.CanBaud s rate) = does s (outcome S past (actions.CanBaud s rate)) past
answers_one S past (actions.CanStart s) = does s (outcome S past (actions.CanStart s)) past
answers_one S past (actions.CanStop s) = does s (outcome S past (actions.CanStop s)) past
answers_one S past (actions.CanReset s) = does s (outcome S past (actions.CanReset s)) past
answers_one S past (actions.CanSleep s) = does s (outcome S past (actions.CanSleep s)) past
answers_one S past (actions.CanSend s frame) = does s (outcome S past (actions.CanSend s frame)) past
answers_one S past (actions.EthActivate s) = does s (outcome S past (actions.EthActivate s)) past
answers_one S past (actions.EthDeactivate s) = does s (outcome S past (actions.EthDeactivate s)) past
answers_one S past (actions.EthSend s frame) = does s (outcome S past (actions.EthSend s frame)) past
answers_one S past (actions.LinInit s role) = does s (outcome S past (actions.LinInit s role)) past
answers_one S past (actions.LinSetResponse s response) = does s (outcome S past (actions.LinSetResponse s response)) past
answers_one S past (actions.LinHeader s id) = does s (outcome S past (actions.LinHeader s id)) past
answers_one S past (actions.LinSendFrame s response) = does s (outcome S past (actions.LinSendFrame s response)) past
answers_one S past (actions.LinSleep s) = does s (outcome S past (actions.LinSleep s)) past
answers_one S past (actions.LinWakeup s) = does s (outcome S past (actions.LinWakeup s)) past
answers_one S past (actions.Publish s payload) = does s (outcome S past (actions.Publish s payload)) past
answers_one S past (actions.Call s payload) = does s (outcome S past (actions.Call s payload)) past
answers_one S past (actions.Submit s peer client call payload) = does s (outcome S past (actions.Submit s peer client call payload)) past

answers_all : (S : Setup) (more : List Action) (past : Past) → Adds past (answers S more past)
answers_all S [] past = same past past refl
answers_all S (a ∷ more) past = both (answers_one S past a) (answers_all S more (answer S past a))

fails : (S : Setup) (number : ℕ) (past : Past) → Adds past (fault S number past)
fails S number past = both (one (Fault number) past) (enters_if S Error (add (Fault number) past))

calls_app : (call : Call) (past : Past) → Adds past (called call past)
calls_app calls.Ready past = same past (called calls.Ready past) refl
calls_app (calls.Step number at) past = one (Begin number at) past
calls_app (calls.Message p place r m) past = record { front = (Hand p place r ∷ [], refl) }

goes_over : (S : Setup) (over : Bool) (past : Past) → Adds past (over_after S over past)
goes_over S over past = if_adds over (fails S 2 past) (same past past refl)

answers_call : (S : Setup) (more : List Action) (over : Bool) (past : Past) → Adds past (answered S more over past)
answers_call S more over past = both (answers_all S more past) (goes_over S over (answers S more past))

calls_back : (S : Setup) (past : Past) (made : Made) → Adds past (callback S past made)
unfolding callback
calls_back S past made = both (calls_app made.call past) (answers_call S made.actions made.over (called made.call past))

calls_all : (S : Setup) (made : List Made) (past : Past) → Adds past (callbacks S made past)
calls_all S [] past = same past past refl
calls_all S (first ∷ more) past = both (calls_back S past first) (calls_all S more (callback S past first))

ends_open : (S : Setup) (step : Option Begun) (past : Past) → Adds past (end_open S step past)
ends_open S None past = same past past refl
ends_open S (Some step) past = both (one (End step.number) past) (announces S (step.time + unwrap_or S.step 0) (add (End step.number) past))

ends : (S : Setup) (past : Past) → Adds past (end_step S past)
unfolding end_step
ends S past = ends_open S (open_step past.journal) past

ends_blocking : (S : Setup) (past : Past) → Adds past (end_blocking S past)
ends_blocking S past = if_adds (not S.is_async && may_end (state_of past.journal)) (ends S past) (same past past refl)

steps : (S : Setup) (made : Made) (past : Past) → Adds past (take_step S made past)
unfolding take_step
steps S made past = both (calls_back S past made) (ends_blocking S (callback S past made))

completes : (S : Setup) (n : ℕ) (past : Past) → Adds past (complete S n past)
unfolding complete
completes S n past =
    if_adds (completes_ready n past) (one (Done n) past) (if_adds (completes_step S n past) (both (one (Done n) past) (ends S (add (Done n) past))) (one (Stray n) past))

loses : (S : Setup) (p reason : ℕ) (past : Past) → Adds past (lose S p reason past)
unfolding lose
loses S p reason past =
    if_adds (is_peer S p) (both (one (Gone p reason) past) (enters_if S Error (add (Gone p reason) past))) (one (Gone p reason) past)

heeds : (S : Setup) (p : ℕ) (m : Content) (made : List Made) (past : Past) → Adds past (heed S p m made past)
unfolding heed
heeds S p (contents.Status state until) made past = judges S past
heeds S p (contents.Workflow required) made past = judges S past
heeds S p contents.Abort made past = enters_if S Aborting past
heeds S p (contents.LinResponse head response) made past = same past (note S p head.service response past) refl
heeds S p (contents.Hello name role address) made past = calls_all S made past
heeds S p contents.Leave made past = calls_all S made past
heeds S p (contents.NextStep at size) made past = calls_all S made past
heeds S p (contents.ServiceAdd service) made past = calls_all S made past
heeds S p contents.ServicesEnd made past = calls_all S made past
heeds S p (contents.Can head frame) made past = calls_all S made past
heeds S p (contents.Eth head payload) made past = calls_all S made past
heeds S p (contents.Lin head frame) made past = calls_all S made past
heeds S p (contents.Publish head payload) made past = calls_all S made past
heeds S p (contents.Call head call payload) made past = calls_all S made past
heeds S p (contents.Reply head client call payload) made past = calls_all S made past
heeds S p (contents.Refuse reason) made past = calls_all S made past

gets : (S : Setup) (p : ℕ) (m : Content) (made : List Made) (past : Past) → Adds past (get S p m made past)
unfolding get
gets S p m made past =
    if_adds (comes_in_order S past p m) (both (one (Got p m) past) (heeds S p m made (add (Got p m) past))) (both (one (Got p m) past) (loses S p 8 (add (Got p m) past)))

greets : (S : Setup) (t : ℕ) (past : Past) → Adds past (greet S t past)
greets S t past = both (one _ _) (both (one _ _) (one _ _))

adds_tool : (S : Setup) (name : List ℕ) (past : Past) → Adds past (add_tool S name past)
unfolding add_tool
adds_tool S name past =
    let first : Adds past (with_tool name past) = same past (with_tool name past) refl in
    if_adds (is_state Shutdown (state_of past.journal)) first (both first (greets S (tool_number S past) (with_tool name past)))

limits : (S : Setup) (past : Past) → Adds past (judge_limits S past)
unfolding judge_limits
limits S past =
    if_adds (not (has_edge (state_of past.journal) Error)) (same past past refl)
    (if_adds (nat_le 500000 (length past.journal)) (fails S 3 past) (if_adds (nat_le 33554432 (payload past.journal)) (fails S 4 past) (same past past refl)))

pub blocks_add : BlocksAdd
blocks_add = record {
  judges = judges;
  announces = announces;
  enters_only = enters_only;
  goes_behind = goes_behind;
  enters = enters;
  enters_if = enters_if;
  tells = tells;
  answers_ask = answers_ask;
  asks = asks;
  pauses = pauses;
  counts = counts;
  does = does;
  answers_one = answers_one;
  answers_all = answers_all;
  fails = fails;
  calls = calls_app;
  goes_over = goes_over;
  answers_call = answers_call;
  calls_back = calls_back;
  calls_all = calls_all;
  ends = ends;
  ends_blocking = ends_blocking;
  steps = steps;
  completes = completes;
  loses = loses;
  heeds = heeds;
  gets = gets;
  greets = greets;
  adds_tool = adds_tool;
  limits = limits;
}
