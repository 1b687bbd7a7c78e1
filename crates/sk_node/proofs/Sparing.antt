-- What follows what neither hears of a link nor loses one, and keeps the tools.
use Rattle.std.specs.Prelude.{◌≡◌, refl, ℕ, ◌+◌, ◌-◌, max, nat_le, Bool, true, false, not, ◌&&◌, List, [], ◌∷◌, ◌++◌, map, length, Option, Some, None, unwrap_or, if◌then◌else◌}
use Rattle.std.specs.List.{list_all}
use Rattle.std.proofs.Common.{ap, sym, ◌∙◌, append_assoc, append-nil}
use Rattle.sk_msg.specs.declared.action.Action.{Action}
use Rattle.sk_msg.specs.declared.action.Action.TheVariants as actions
use Rattle.sk_msg.specs.declared.command.Command.{Command}
use Rattle.sk_msg.specs.declared.command.Command.TheVariants.{Pause, Continue, Abort}
use Rattle.sk_msg.specs.declared.command.Verdict.TheVariants.{Accepted, Refused}
use Rattle.sk_msg.specs.declared.content.Content.{Content}
use Rattle.sk_msg.specs.declared.content.Content.TheVariants as contents
use Rattle.sk_msg.specs.declared.entry.Entry.{Entry}
use Rattle.sk_msg.specs.declared.entry.Entry.TheVariants.{Got, Put, Hand, State as Entered, System as Judged, Begin, Done, End, Ask, Gone, Stray, Did, Fault}
use Rattle.sk_msg.specs.declared.state.State.{State}
use Rattle.sk_msg.specs.declared.state.State.TheVariants.{Running, Error, Shutdown}
use Rattle.sk_msg.specs.Edges.{has_edge, led_to, is_command}
use Rattle.sk_msg.specs.States.{is_state}
use Rattle.sk_law.specs.declared.made.Made.{Made}
use Rattle.sk_law.specs.declared.memory.Begun.{Begun}
use Rattle.sk_law.specs.declared.setup.Setup.{Setup}
use Rattle.sk_law.specs.Past.{Past, add, put_each}
use Rattle.sk_law.specs.Readings.{state_of, system_told, open_step, payload}
use Rattle.sk_law.specs.Links.{reached, told, system}
use Rattle.sk_law.specs.Outcomes.{Outcome, outcome}
use Rattle.sk_law.specs.Blocks.{judge_system, announce_step, announce, enter_only, is_first_run, behind, enter_until, enter_if, accepted, tell_abort, asked, ask, until_of, with_pause, pause_for, count_down, put_some, did, answer, answers, fault, called, over_after, answered, callback, may_end, end_open, end_step, end_blocking, take_step, judge_limits}

-- neither a message got nor a link lost
abbrev pub is_calm : Entry → Bool
is_calm (Got p m) = false
is_calm (Gone p reason) = false
is_calm _ = true

-- only such entries came, the tools are the same, and the ready handler wasn't called
pub record Spares (past now : Past) : Type 0 where
  pub new : List Entry
  pub is : now.journal ≡ past.journal ++ new
  pub calm : list_all is_calm new ≡ true
  pub tools : now.memory.tools ≡ past.memory.tools
  pub called : now.memory.called ≡ past.memory.called

pub same : (past now : Past) → now.journal ≡ past.journal → now.memory.tools ≡ past.memory.tools → now.memory.called ≡ past.memory.called → Spares past now
same past now e t c = record { new = []; is = e ∙ sym (append-nil past.journal); calm = refl; tools = t; called = c }

and_then : (b c d : Bool) → (b && c) ≡ true → (c ≡ true → d ≡ true) → (b && d) ≡ true
and_then true c d e f = f e
and_then false c d e f = e

calm_both : (xs ys : List Entry) → list_all is_calm xs ≡ true → list_all is_calm ys ≡ true → list_all is_calm (xs ++ ys) ≡ true
calm_both [] ys f g = g
calm_both (x ∷ xs) ys f g = and_then (is_calm x) (list_all is_calm xs) (list_all is_calm (xs ++ ys)) f (λ h. calm_both xs ys h g)

pub both : {a b c : Past} → Spares a b → Spares b c → Spares a c
both {a} {b} {c} f g = record {
  new = f.new ++ g.new;
  is = g.is ∙ ap (λ es. es ++ g.new) f.is ∙ append_assoc a.journal f.new g.new;
  calm = calm_both f.new g.new f.calm g.calm;
  tools = g.tools ∙ f.tools;
  called = g.called ∙ f.called;
}

pub one : (e : Entry) (past : Past) → is_calm e ≡ true → Spares past (add e past)
one e past calm = record { new = e ∷ []; is = refl; calm = ap (λ b. b && true) calm; tools = refl; called = refl }

calm_puts : (numbers : List ℕ) (m : Content) → list_all is_calm (map (λ q. Put q m) numbers) ≡ true
calm_puts [] m = refl
calm_puts (q ∷ numbers) m = calm_puts numbers m

puts : (numbers : List ℕ) (m : Content) (past : Past) → Spares past (put_each numbers m past)
puts numbers m past = record { new = map (λ q. Put q m) numbers; is = refl; calm = calm_puts numbers m; tools = refl; called = refl }

if_adds : {past x y : Past} (c : Bool) → Spares past x → Spares past y → Spares past (if c then x else y)
if_adds true f g = f
if_adds false f g = g

pub judges : (S : Setup) (past : Past) → Spares past (judge_system S past)
unfolding judge_system
judges S past = if_adds (is_state (system S past) (system_told past.journal)) (same past past refl refl refl) (one (Judged (system S past)) past refl)

announces_by : (S : Setup) (step : Option ℕ) (at : ℕ) (past : Past) → Spares past (announce_step S step at past)
announces_by S None at past = same past past refl refl refl
announces_by S (Some size) at past = puts (reached S past) (contents.NextStep at size) past

announces : (S : Setup) (at : ℕ) (past : Past) → Spares past (announce S at past)
announces S at past = announces_by S S.step at past

enters_only : (S : Setup) (to : State) (until : ℕ) (past : Past) → Spares past (enter_only S to until past)
enters_only S to until past =
    both (one (Entered to) past refl) (both (puts (told S past) (contents.Status to until) (add (Entered to) past)) (judges S (put_each (told S past) (contents.Status to until) (add (Entered to) past))))

goes_behind : (S : Setup) (to : State) (is_first : Bool) (numbers : List ℕ) (past : Past) → Spares past (behind S to is_first numbers past)
goes_behind S to is_first numbers past =
    if_adds (is_state Shutdown to) (puts numbers contents.Leave past) (if_adds is_first (announces S 0 past) (same past past refl refl refl))

pub enters : (S : Setup) (to : State) (until : ℕ) (past : Past) → Spares past (enter_until S to until past)
unfolding enter_until
enters S to until past = both (enters_only S to until past) (goes_behind S to (is_first_run to past.journal) (told S past) (enter_only S to until past))

pub enters_if : (S : Setup) (to : State) (past : Past) → Spares past (enter_if S to past)
unfolding enter_if
enters_if S to past = if_adds (has_edge (state_of past.journal) to) (enters S to 0 past) (same past past refl refl refl)

tells : (S : Setup) (command : Command) (past : Past) → Spares past (tell_abort S command past)
tells S command past = if_adds (is_command Abort command) (puts (reached S past) contents.Abort past) (same past past refl refl refl)

pub accepts : (command : Command) (past : Past) → Spares past (accepted command past)
accepts command past = record { new = Ask command Accepted ∷ []; is = refl; calm = refl; tools = refl; called = refl }

pub answers_ask : (S : Setup) (command : Command) (to : Option State) (past : Past) → Spares past (asked S command to past)
answers_ask S command None past = one (Ask command (Refused (state_of past.journal))) past refl
answers_ask S command (Some to) past =
    let first : Spares past (accepted command past) = accepts command past in
    both first (both (enters S to (until_of S command past) (accepted command past)) (tells S command (enter_until S to (until_of S command past) (accepted command past))))

pub asks : (S : Setup) (command : Command) (past : Past) → Spares past (ask S command past)
unfolding ask
asks S command past = answers_ask S command (led_to (state_of past.journal) command) past

pauses : (S : Setup) (count : ℕ) (past : Past) → Spares past (pause_for S count past)
unfolding pause_for
pauses S count past =
    let counted : Spares (ask S Pause past) (with_pause (Some (max count 1)) (ask S Pause past)) = same (ask S Pause past) (with_pause (Some (max count 1)) (ask S Pause past)) refl refl refl in
    if_adds (is_state Running (state_of past.journal)) (both (asks S Pause past) counted) (asks S Pause past)

pub counts : (S : Setup) (count : ℕ) (past : Past) → Spares past (count_down S count past)
unfolding count_down
counts S count past = if_adds (nat_le count 1) (asks S Continue past) (same past (with_pause (Some (count - 1)) past) refl refl refl)

puts_some : (to : List ℕ) (o : Option Content) (past : Past) → Spares past (put_some to o past)
puts_some to None past = same past past refl refl refl
puts_some to (Some m) past = puts to m past

does : (s : ℕ) (o : Outcome) (past : Past) → Spares past (did s o past)
does s o past =
    by o.message
  where
    by : (m : Option Content) → Spares past (did s (record o { message = m }) past)
    by None = record { new = Did s o.code None ∷ []; is = refl; calm = refl; tools = refl; called = refl }
    by (Some m) = record { new = Did s o.code (Some m) ∷ map (λ q. Put q m) o.to; is = append_assoc past.journal (Did s o.code (Some m) ∷ []) (map (λ q. Put q m) o.to); calm = calm_puts o.to m; tools = refl; called = refl }

answers_one : (S : Setup) (past : Past) (a : Action) → Spares past (answer S past a)
unfolding answer
answers_one S past (actions.Ask command) = asks S command past
answers_one S past (actions.PauseFor count) = pauses S count past
answers_one S past (actions.CanBaud s rate) = does s (outcome S past (actions.CanBaud s rate)) past
answers_one S past (actions.CanStart s) = does s (outcome S past (actions.CanStart s)) past
answers_one S past (actions.CanStop s) = does s (outcome S past (actions.CanStop s)) past
answers_one S past (actions.CanReset s) = does s (outcome S past (actions.CanReset s)) past
answers_one S past (actions.CanSleep s) = does s (outcome S past (actions.CanSleep s)) past
answers_one S past (actions.CanSend s frame) = does s (outcome S past (actions.CanSend s frame)) past
answers_one S past (actions.EthActivate s) = does s (outcome S past (actions.EthActivate s)) past
answers_one S past (actions.EthDeactivate s) = does s (outcome S past (actions.EthDeactivate s)) past
answers_one S past (actions.EthSend s frame) = does s (outcome S past (actions.EthSend s frame)) past
answers_one S past (actions.LinInit s role) = does s (outcome S past (actions.LinInit s role)) past
answers_one S past (actions.LinSetResponse s response) = does s (outcome S past (actions.LinSetResponse s response)) past
answers_one S past (actions.LinHeader s id) = does s (outcome S past (actions.LinHeader s id)) past
answers_one S past (actions.LinSendFrame s response) = does s (outcome S past (actions.LinSendFrame s response)) past
answers_one S past (actions.LinSleep s) = does s (outcome S past (actions.LinSleep s)) past
answers_one S past (actions.LinWakeup s) = does s (outcome S past (actions.LinWakeup s)) past
answers_one S past (actions.Publish s payload) = does s (outcome S past (actions.Publish s payload)) past
answers_one S past (actions.Call s payload) = does s (outcome S past (actions.Call s payload)) past
answers_one S past (actions.Submit s peer client call payload) = does s (outcome S past (actions.Submit s peer client call payload)) past

answers_all : (S : Setup) (more : List Action) (past : Past) → Spares past (answers S more past)
answers_all S [] past = same past past refl refl refl
answers_all S (a ∷ more) past = both (answers_one S past a) (answers_all S more (answer S past a))

pub fails : (S : Setup) (number : ℕ) (past : Past) → Spares past (fault S number past)
fails S number past = both (one (Fault number) past refl) (enters_if S Error (add (Fault number) past))

goes_over : (S : Setup) (over : Bool) (past : Past) → Spares past (over_after S over past)
goes_over S over past = if_adds over (fails S 2 past) (same past past refl refl refl)

answers_call : (S : Setup) (more : List Action) (over : Bool) (past : Past) → Spares past (answered S more over past)
answers_call S more over past = both (answers_all S more past) (goes_over S over (answers S more past))

-- behind the entry of the call
pub calls_back : (S : Setup) (past : Past) (made : Made) → Spares (called made.call past) (callback S past made)
unfolding callback
calls_back S past made = answers_call S made.actions made.over (called made.call past)

ends_open : (S : Setup) (step : Option Begun) (past : Past) → Spares past (end_open S step past)
ends_open S None past = same past past refl refl refl
ends_open S (Some step) past = both (one (End step.number) past refl) (announces S (step.time + unwrap_or S.step 0) (add (End step.number) past))

ends : (S : Setup) (past : Past) → Spares past (end_step S past)
unfolding end_step
ends S past = ends_open S (open_step past.journal) past

ends_blocking : (S : Setup) (past : Past) → Spares past (end_blocking S past)
ends_blocking S past = if_adds (not S.is_async && may_end (state_of past.journal)) (ends S past) (same past past refl refl refl)

pub steps : (S : Setup) (made : Made) (past : Past) → Spares (called made.call past) (take_step S made past)
unfolding take_step
steps S made past = both (calls_back S past made) (ends_blocking S (callback S past made))

pub limits : (S : Setup) (past : Past) → Spares past (judge_limits S past)
unfolding judge_limits
limits S past =
    if_adds (not (has_edge (state_of past.journal) Error)) (same past past refl refl refl)
    (if_adds (nat_le 500000 (length past.journal)) (fails S 3 past) (if_adds (nat_le 33554432 (payload past.journal)) (fails S 4 past) (same past past refl refl refl)))
