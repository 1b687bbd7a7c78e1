-- Each block is built entry by entry, each by its rule.
use Rattle.std.specs.Prelude.{◌≡◌, refl, ℕ, ◌+◌, ◌-◌, max, nat_le, Bool, true, false, not, ◌&&◌, ◌||◌, IsTrue, IfSome, IsSome, List, [], ◌∷◌, ◌++◌, map, length, ◌⊎◌, Option, Some, None, unwrap_or, if◌then◌else◌}
use Rattle.std.specs.List.{fold, flat_map, list_all, AllByRecursion}
use Rattle.std.proofs.lemmas.List.Sums.{fold-append}
use Rattle.std.proofs.lemmas.Bool.{and_parts, eqb-true}
use Rattle.std.proofs.lemmas.List.{append_assoc, append-nil}
use Rattle.sk_law_world.proofs.EdgeLaws.{each_command, led_to-edge, has_edge_of-edge}
use Rattle.sk_law_world.proofs.StateLaws.{all_states, each_state, each_pair}
use Rattle.std.proofs.Common.{inl, inr, ap, sym, ◌∙◌, subst}
use Rattle.sk_msg.specs.declared.command.Command.{Command}
use Rattle.sk_msg.specs.declared.command.Command.TheVariants.{Pause, Continue, Abort}
use Rattle.sk_msg.specs.declared.command.Verdict.TheVariants.{Accepted, Refused}
use Rattle.sk_msg.specs.declared.content.Content.{Content}
use Rattle.sk_msg.specs.declared.content.Content.TheVariants as contents
use Rattle.sk_msg.specs.declared.state.State.{State}
use Rattle.sk_msg.specs.declared.state.State.TheVariants.{Invalid, ServicesCreated, Running, Error, Shutdown, Aborting}
use Rattle.sk_msg.specs.Edges.{has_edge, has_edge_of, led_to, is_command}
use Rattle.sk_msg.specs.States.{is_state}
use Rattle.sk_msg.specs.declared.service.Service.{Service}
use Rattle.sk_msg.specs.declared.action.Action.{Action}
use Rattle.sk_msg.specs.declared.action.Action.TheVariants as actions
use Rattle.sk_msg.specs.declared.entry.Entry.{Entry}
use Rattle.sk_msg.specs.declared.entry.Entry.TheVariants.{Got, Put, Hand, Begin, Done, End, Ask, Gone, Stray, Did, Fault}
use Rattle.sk_law.specs.declared.made.Call.{Call}
use Rattle.sk_law.specs.declared.made.Call.TheVariants as calls
use Rattle.sk_law.specs.declared.made.Made.{Made}
use Rattle.sk_law.specs.declared.setup.Setup.{Setup}
use Rattle.sk_law.specs.declared.memory.Memory.{Memory}
use Rattle.sk_law.specs.Past.{Past, add, put_each}
use Rattle.sk_law.specs.declared.memory.Begun.{Begun}
use Rattle.sk_law.specs.Readings.{state_of, last_begun, open_step, next_time, time_after, has_run, payload, state_after}
use Rattle.sk_law.specs.Links.{own_name, reached, peers, is_peer, is_open, comes_in_order}
use Rattle.sk_law.specs.Receivers.{is_over, handed_to, receivers, changed, with_services, note}
use Rattle.sk_law.specs.Outcomes.{Outcome, outcome}
use Rattle.sk_law.specs.Services.{new_states}
use Rattle.sk_law_world.proofs.Stamps.{IsStampedData, IsStamped, outcome_is}
use Rattle.sk_law_world.specs.Meets.{comes_besides, IsAskedFor, is_by_row, MayEnter, MayPut, MayBegin}
use Rattle.sk_law.specs.Blocks.{enter_until, enter, enter_if, asked, ask, until_of, with_pause, pause_for, count_down, put_some, did, answer, answers, fault, called, callback, callbacks, may_end, end_open, end_step, end_blocking, take_step, is_number, completes_ready, completes_step, complete, lose, heed, get, announced_service, introduction, making, hello, tool_number, with_tool, greet, add_tool, judge_limits}
use Rattle.sk_law_world.proofs.Built.{all_of, Built, SameMoment, state_of-puts, or_false, has_run-add, MayPut-later, built_puts, not_both, built_system, last_begun-add, open_step-add, state_of-add, or_left, or_parts, unbegun, opened_is_last, built_announce, built_enter_until, asked_error, asked_aborting, built_enter_if, state-enter, state_still, empty, remembers, adds}

-- ## Not yet in Shutdown

abbrev pub IsAlive : Past → Type 0
IsAlive past = is_state Shutdown (state_of past.journal) ≡ false

pub alive_still : (past : Past) (e : Entry) → ((s : State) → state_after s e ≡ s) → IsAlive past → IsAlive (add e past)
alive_still past e still a = ap (is_state Shutdown) (state_still past.journal e still) ∙ a

abbrev leads_alive : Option State → Bool
leads_alive None = true
leads_alive (Some to) = not (is_state Shutdown to)

leads : (from : State) (command : Command) → leads_alive (led_to from command) ≡ true
unfolding is_state led_to
leads from command =
    each_state (λ a. leads_alive (led_to a command)) (each_command (λ c. list_all (λ a. leads_alive (led_to a c)) all_states) refl command) from

-- no command leads to Shutdown
pub led_alive : (from : State) (command : Command) (to : State) → led_to from command ≡ Some to → is_state Shutdown to ≡ false
led_alive from command to e = no (is_state Shutdown to) (ap leads_alive (sym e) ∙ leads from command)
  where
    no : (b : Bool) → not b ≡ true → b ≡ false
    no true h = absurd cc
    no false h = refl

pub alive_enter : (S : Setup) (to : State) (until : ℕ) (past : Past) → is_state Shutdown to ≡ false → IsAlive (enter_until S to until past)
alive_enter S to until past h = ap (is_state Shutdown) (state-enter S to until past) ∙ h

pub alive_enter_if : (S : Setup) (to : State) (past : Past) → is_state Shutdown to ≡ false → IsAlive past → IsAlive (enter_if S to past)
unfolding enter_if
alive_enter_if S to past h a = on (has_edge (state_of past.journal) to)
  where
    on : (c : Bool) → IsAlive (if c then enter S to past else past)
    on true = alive_enter S to 0 past h
    on false = a

alive_asked : (S : Setup) (command : Command) (past : Past) (to : Option State) → led_to (state_of past.journal) command ≡ to → IsAlive past → IsAlive (asked S command to past)
alive_asked S command past None e a = alive_still past (Ask command (Refused (state_of past.journal))) (λ s. refl) a
alive_asked S command past (Some to) e a = on (is_command Abort command)
  where
    entered : Past
    entered = enter_until S to (until_of S command past) (add (Ask command Accepted) (with_pause None past))

    a' : IsAlive entered
    a' = alive_enter S to (until_of S command past) (add (Ask command Accepted) (with_pause None past)) (led_alive (state_of past.journal) command to e)

    on : (c : Bool) → IsAlive (if c then put_each (reached S entered) contents.Abort entered else entered)
    on true = ap (is_state Shutdown) (state_of-puts entered.journal (reached S entered) contents.Abort) ∙ a'
    on false = a'

pub alive_ask : (S : Setup) (command : Command) (past : Past) → IsAlive past → IsAlive (ask S command past)
unfolding ask
alive_ask S command past a = alive_asked S command past (led_to (state_of past.journal) command) refl a

alive_pause_for : (S : Setup) (count : ℕ) (past : Past) → IsAlive past → IsAlive (pause_for S count past)
unfolding pause_for
alive_pause_for S count past a = on (is_state Running (state_of past.journal))
  where
    on : (c : Bool) → IsAlive (if c then with_pause (Some (max count 1)) (ask S Pause past) else ask S Pause past)
    on true = alive_ask S Pause past a
    on false = alive_ask S Pause past a

alive_some : (to : List ℕ) (o : Option Content) (past : Past) → IsAlive past → IsAlive (put_some to o past)
alive_some to None past a = a
alive_some to (Some m) past a = ap (is_state Shutdown) (state_of-puts past.journal to m) ∙ a

alive_did : (s : ℕ) (o : Outcome) (past : Past) → IsAlive past → IsAlive (did s o past)
alive_did s o past a = alive_some o.to o.message _ (alive_still past (Did s o.code o.message) (λ s. refl) a)

pub alive_answer : (S : Setup) (past : Past) (a : Action) → IsAlive past → IsAlive (answer S past a)
unfolding answer
alive_answer S past (actions.Ask command) h = alive_ask S command past h
alive_answer S past (actions.PauseFor count) h = alive_pause_for S count past h
alive_answer S past (actions.CanBaud s rate) h = alive_did s (outcome S past (actions.CanBaud s rate)) past h
alive_answer S past (actions.CanStart s) h = alive_did s (outcome S past (actions.CanStart s)) past h
alive_answer S past (actions.CanStop s) h = alive_did s (outcome S past (actions.CanStop s)) past h
alive_answer S past (actions.CanReset s) h = alive_did s (outcome S past (actions.CanReset s)) past h
alive_answer S past (actions.CanSleep s) h = alive_did s (outcome S past (actions.CanSleep s)) past h
alive_answer S past (actions.CanSend s frame) h = alive_did s (outcome S past (actions.CanSend s frame)) past h
alive_answer S past (actions.EthActivate s) h = alive_did s (outcome S past (actions.EthActivate s)) past h
alive_answer S past (actions.EthDeactivate s) h = alive_did s (outcome S past (actions.EthDeactivate s)) past h
alive_answer S past (actions.EthSend s frame) h = alive_did s (outcome S past (actions.EthSend s frame)) past h
alive_answer S past (actions.LinInit s role) h = alive_did s (outcome S past (actions.LinInit s role)) past h
alive_answer S past (actions.LinSetResponse s response) h = alive_did s (outcome S past (actions.LinSetResponse s response)) past h
alive_answer S past (actions.LinHeader s id) h = alive_did s (outcome S past (actions.LinHeader s id)) past h
alive_answer S past (actions.LinSendFrame s response) h = alive_did s (outcome S past (actions.LinSendFrame s response)) past h
alive_answer S past (actions.LinSleep s) h = alive_did s (outcome S past (actions.LinSleep s)) past h
alive_answer S past (actions.LinWakeup s) h = alive_did s (outcome S past (actions.LinWakeup s)) past h
alive_answer S past (actions.Publish s payload) h = alive_did s (outcome S past (actions.Publish s payload)) past h
alive_answer S past (actions.Call s payload) h = alive_did s (outcome S past (actions.Call s payload)) past h
alive_answer S past (actions.Submit s peer client call payload) h = alive_did s (outcome S past (actions.Submit s peer client call payload)) past h

pub alive_answers : (S : Setup) (more : List Action) (past : Past) → IsAlive past → IsAlive (answers S more past)
alive_answers S [] past h = h
alive_answers S (a ∷ more) past h = alive_answers S more (answer S past a) (alive_answer S past a h)

pub alive_fault : (S : Setup) (number : ℕ) (past : Past) → IsAlive past → IsAlive (fault S number past)
unfolding is_state
alive_fault S number past h = alive_enter_if S Error (add (Fault number) past) refl (alive_still past (Fault number) (λ s. refl) h)

pub alive_called : (call : Call) (past : Past) → IsAlive past → IsAlive (called call past)
alive_called calls.Ready past h = h
alive_called (calls.Step n t) past h = alive_still past (Begin n t) (λ s. refl) h
alive_called (calls.Message p place r m) past h = alive_still past (Hand p place r) (λ s. refl) h

pub alive_callback : (S : Setup) (past : Past) (made : Made) → IsAlive past → IsAlive (callback S past made)
unfolding callback
alive_callback S past made h = on made.over
  where
    h' : IsAlive (answers S made.actions (called made.call past))
    h' = alive_answers S made.actions (called made.call past) (alive_called made.call past h)

    on : (over : Bool) → IsAlive (if over then fault S 2 (answers S made.actions (called made.call past)) else answers S made.actions (called made.call past))
    on true = alive_fault S 2 (answers S made.actions (called made.call past)) h'
    on false = h'

-- ## Commands

asked_so : (command : Command) (from to : State) → not (has_edge_of command from to && is_by_row from to) ≡ true
unfolding is_state has_edge has_edge_of is_by_row
asked_so command from to =
    each_pair (λ a b. not (has_edge_of command a b && is_by_row a b))
    (each_command (λ c. list_all (λ a. list_all (λ b. not (has_edge_of c a b && is_by_row a b)) all_states) all_states) refl command) from to

-- where a command leads no row does
pub asked_by : (from : State) (command : Command) (to : State) → led_to from command ≡ Some to → is_by_row from to ≡ false
asked_by from command to e = not_both (has_edge_of command from to) (is_by_row from to) (asked_so command from to) (led_to-edge from command to e)

pub edge_by : (from : State) (command : Command) (to : State) → led_to from command ≡ Some to → has_edge from to ≡ true
edge_by from command to e = has_edge_of-edge command from to (led_to-edge from command to e)

-- behind an accepted command
pub asked_for : (command : Command) (past : Past) (to : State) → led_to (state_of past.journal) command ≡ Some to → IsAskedFor (add (Ask command Accepted) (with_pause None past)) to
asked_for command past to e = record {
  command = command;
  before = past.journal;
  is = refl;
  edge = ap (λ s. has_edge_of command s to) (state_still past.journal (Ask command Accepted) (λ s. refl)) ∙ led_to-edge (state_of past.journal) command to e;
}

pub built_asked : {S : Setup} (command : Command) (past : Past) (to : Option State) → led_to (state_of past.journal) command ≡ to → Built S past → Built S (asked S command to past)
built_asked {S} command past None e b = adds past (Ask command (Refused (state_of past.journal))) b (e, refl)
built_asked {S} command past (Some to) e b = aborted (is_command Abort command)
  where
    free : Past
    free = with_pause None past

    begun : Built S (add (Ask command Accepted) free)
    begun = adds free (Ask command Accepted) (remembers past free.memory (all_of past.memory.tools) b) (subst IsSome (sym e) refl)

    same : state_of (past.journal ++ Ask command Accepted ∷ []) ≡ state_of past.journal
    same = state_still past.journal (Ask command Accepted) (λ s. refl)

    edge : MayEnter S (add (Ask command Accepted) free) to
    edge = record {
      edge = ap (λ s. has_edge s to) same ∙ edge_by (state_of past.journal) command to e;
      by_row = λ row. let no_row = sym row ∙ ap (λ s. is_by_row s to) same ∙ asked_by (state_of past.journal) command to e in absurd cc;
      cause = inr (inr (asked_for command past to e));
    }

    entered : Past
    entered = enter_until S to (until_of S command past) (add (Ask command Accepted) free)

    b' : Built S entered
    b' = built_enter_until to (until_of S command past) (add (Ask command Accepted) free) edge begun

    aborted : (c : Bool) → Built S (if c then put_each (reached S entered) contents.Abort entered else entered)
    aborted true = built_puts (reached S entered) contents.Abort entered tt b'
    aborted false = b'

pub built_ask : {S : Setup} (command : Command) (past : Past) → Built S past → Built S (ask S command past)
unfolding ask
built_ask {S} command past b = built_asked command past (led_to (state_of past.journal) command) refl b

pub built_pause_for : {S : Setup} (count : ℕ) (past : Past) → Built S past → Built S (pause_for S count past)
unfolding pause_for
built_pause_for {S} count past b = on (is_state Running (state_of past.journal))
  where
    on : (c : Bool) → Built S (if c then with_pause (Some (max count 1)) (ask S Pause past) else ask S Pause past)
    on true = remembers (ask S Pause past) (with_pause (Some (max count 1)) (ask S Pause past)).memory (all_of (ask S Pause past).memory.tools) (built_ask Pause past b)
    on false = built_ask Pause past b

pub built_count_down : {S : Setup} (count : ℕ) (past : Past) → Built S past → Built S (count_down S count past)
unfolding count_down
built_count_down {S} count past b = on (nat_le count 1)
  where
    on : (c : Bool) → Built S (if c then ask S Continue past else with_pause (Some (count - 1)) past)
    on true = built_ask Continue past b
    on false = remembers past (with_pause (Some (count - 1)) past).memory (all_of past.memory.tools) b

-- ## Actions

stamped_put : (S : Setup) (past : Past) (m : Content) → IsStampedData past m → IsAlive past → MayPut S past m
stamped_put S past (contents.Can head' frame) h a = (h.0, h.1, a)
stamped_put S past (contents.Eth head' payload) h a = (h.0, h.1, a)
stamped_put S past (contents.Lin head' frame) h a = (h.0, h.1, a)
stamped_put S past (contents.LinResponse head' response) h a = (h.0, h.1, a)
stamped_put S past (contents.Publish head' payload) h a = (h.0, h.1, a)
stamped_put S past (contents.Call head' call payload) h a = (h.0, h.1, a)
stamped_put S past (contents.Reply head' client call payload) h a = (h.0, h.1, a)
stamped_put S past (contents.Hello name role address) h a = absurd h
stamped_put S past contents.Leave h a = absurd h
stamped_put S past (contents.NextStep at size) h a = absurd h
stamped_put S past (contents.ServiceAdd service) h a = absurd h
stamped_put S past contents.ServicesEnd h a = absurd h
stamped_put S past (contents.Status state until) h a = absurd h
stamped_put S past (contents.Workflow required) h a = absurd h
stamped_put S past contents.Abort h a = absurd h
stamped_put S past (contents.Refuse reason) h a = absurd h

stamped_some : (S : Setup) (past : Past) (o : Option Content) → IfSome o (IsStampedData past) → IsAlive past → IfSome o (MayPut S past)
stamped_some S past None h a = tt
stamped_some S past (Some m) h a = stamped_put S past m h a

some_later : (S : Setup) (past now : Past) (o : Option Content) → SameMoment past now → IfSome o (MayPut S past) → IfSome o (MayPut S now)
some_later S past now None s h = h
some_later S past now (Some m) s h = MayPut-later S past now m s h

built_some : {S : Setup} (to : List ℕ) (o : Option Content) (past : Past) → IfSome o (MayPut S past) → Built S past → Built S (put_some to o past)
built_some to None past h b = b
built_some to (Some m) past h b = built_puts to m past h b

built_did : {S : Setup} (s : ℕ) (o : Outcome) (past : Past) → IsAlive past → IsStamped S past o → Built S past → Built S (did s o past)
built_did {S} s o past alive stamped b =
    built_some o.to o.message (add (Did s o.code o.message) now)
    (some_later S past (add (Did s o.code o.message) now) o.message later (stamped_some S past o.message stamped alive))
    (adds now (Did s o.code o.message) (remembers past now.memory (all_of past.memory.tools) b) tt)
  where
    now : Past
    now = with_services (changed (λ at. o.state) s past.memory.services) past

    later : SameMoment past (add (Did s o.code o.message) now)
    later = record {
      begun = last_begun-add past.journal (Did s o.code o.message);
      opened = open_step-add past.journal (Did s o.code o.message);
      state = state_of-add past.journal (Did s o.code o.message);
      run = has_run-add past.journal (Did s o.code o.message) ∙ or_false (has_run past.journal);
    }

pub built_answer : {S : Setup} (past : Past) (a : Action) → IsAlive past → Built S past → Built S (answer S past a)
unfolding answer
built_answer past (actions.Ask command) alive b = built_ask command past b
built_answer past (actions.PauseFor count) alive b = built_pause_for count past b
built_answer {S} past (actions.CanBaud s rate) alive b = built_did s (outcome S past (actions.CanBaud s rate)) past alive (outcome_is S past (actions.CanBaud s rate)) b
built_answer {S} past (actions.CanStart s) alive b = built_did s (outcome S past (actions.CanStart s)) past alive (outcome_is S past (actions.CanStart s)) b
built_answer {S} past (actions.CanStop s) alive b = built_did s (outcome S past (actions.CanStop s)) past alive (outcome_is S past (actions.CanStop s)) b
built_answer {S} past (actions.CanReset s) alive b = built_did s (outcome S past (actions.CanReset s)) past alive (outcome_is S past (actions.CanReset s)) b
built_answer {S} past (actions.CanSleep s) alive b = built_did s (outcome S past (actions.CanSleep s)) past alive (outcome_is S past (actions.CanSleep s)) b
built_answer {S} past (actions.CanSend s frame) alive b = built_did s (outcome S past (actions.CanSend s frame)) past alive (outcome_is S past (actions.CanSend s frame)) b
built_answer {S} past (actions.EthActivate s) alive b = built_did s (outcome S past (actions.EthActivate s)) past alive (outcome_is S past (actions.EthActivate s)) b
built_answer {S} past (actions.EthDeactivate s) alive b = built_did s (outcome S past (actions.EthDeactivate s)) past alive (outcome_is S past (actions.EthDeactivate s)) b
built_answer {S} past (actions.EthSend s frame) alive b = built_did s (outcome S past (actions.EthSend s frame)) past alive (outcome_is S past (actions.EthSend s frame)) b
built_answer {S} past (actions.LinInit s role) alive b = built_did s (outcome S past (actions.LinInit s role)) past alive (outcome_is S past (actions.LinInit s role)) b
built_answer {S} past (actions.LinSetResponse s response) alive b = built_did s (outcome S past (actions.LinSetResponse s response)) past alive (outcome_is S past (actions.LinSetResponse s response)) b
built_answer {S} past (actions.LinHeader s id) alive b = built_did s (outcome S past (actions.LinHeader s id)) past alive (outcome_is S past (actions.LinHeader s id)) b
built_answer {S} past (actions.LinSendFrame s response) alive b = built_did s (outcome S past (actions.LinSendFrame s response)) past alive (outcome_is S past (actions.LinSendFrame s response)) b
built_answer {S} past (actions.LinSleep s) alive b = built_did s (outcome S past (actions.LinSleep s)) past alive (outcome_is S past (actions.LinSleep s)) b
built_answer {S} past (actions.LinWakeup s) alive b = built_did s (outcome S past (actions.LinWakeup s)) past alive (outcome_is S past (actions.LinWakeup s)) b
built_answer {S} past (actions.Publish s payload) alive b = built_did s (outcome S past (actions.Publish s payload)) past alive (outcome_is S past (actions.Publish s payload)) b
built_answer {S} past (actions.Call s payload) alive b = built_did s (outcome S past (actions.Call s payload)) past alive (outcome_is S past (actions.Call s payload)) b
built_answer {S} past (actions.Submit s peer client call payload) alive b = built_did s (outcome S past (actions.Submit s peer client call payload)) past alive (outcome_is S past (actions.Submit s peer client call payload)) b

pub built_answers : {S : Setup} (more : List Action) (past : Past) → IsAlive past → Built S past → Built S (answers S more past)
built_answers [] past alive b = b
built_answers {S} (a ∷ more) past alive b = built_answers more (answer S past a) (alive_answer S past a alive) (built_answer past a alive b)

pub built_fault : {S : Setup} (number : ℕ) (past : Past) → Built S past → Built S (fault S number past)
built_fault number past b = built_enter_if Error (add (Fault number) past) asked_error (adds past (Fault number) b tt)

-- ## Callbacks

abbrev pub MayCall : Setup → Past → Call → Type 0
MayCall S past calls.Ready = Unit {0}
MayCall S past (calls.Step n t) = MayBegin S past n t
MayCall S past (calls.Message p place r m) = Unit {0}

pub built_called : {S : Setup} (call : Call) (past : Past) → MayCall S past call → Built S past → Built S (called call past)
built_called calls.Ready past may b = remembers past (called calls.Ready past).memory (all_of past.memory.tools) b
built_called (calls.Step n t) past may b = adds past (Begin n t) b may
built_called (calls.Message p place r m) past may b =
    remembers (add (Hand p place r) past) (called (calls.Message p place r m) past).memory (all_of past.memory.tools) (adds past (Hand p place r) b tt)

pub built_callback : {S : Setup} (past : Past) (made : Made) → IsAlive past → MayCall S past made.call → Built S past → Built S (callback S past made)
unfolding callback
built_callback {S} past made alive may b = on made.over
  where
    b' : Built S (answers S made.actions (called made.call past))
    b' = built_answers made.actions (called made.call past) (alive_called made.call past alive) (built_called made.call past may b)

    on : (over : Bool) → Built S (if over then fault S 2 (answers S made.actions (called made.call past)) else answers S made.actions (called made.call past))
    on true = built_fault 2 (answers S made.actions (called made.call past)) b'
    on false = b'

abbrev pub IsMessage : Call → Type 0
IsMessage calls.Ready = ⊥
IsMessage (calls.Step n t) = ⊥
IsMessage (calls.Message p place r m) = Unit {0}

pub may_call : (S : Setup) (past : Past) (call : Call) → IsMessage call → MayCall S past call
may_call S past calls.Ready h = absurd h
may_call S past (calls.Step n t) h = absurd h
may_call S past (calls.Message p place r m) h = tt

pub are_messages : (p place : ℕ) (m : Content) (made : List Made) (rs : List ℕ) → map (λ one. one.call) made ≡ map (λ r. calls.Message p place r m) rs → AllByRecursion (λ one. IsMessage one.call) made
are_messages p place m [] rs e = tt
are_messages p place m (one ∷ more) [] e = cc
are_messages p place m (one ∷ more) (r ∷ rs) e =
    let first : calls.Message p place r m ≡ one.call = cc in
    (subst IsMessage first tt, are_messages p place m more rs (let rest : map (λ one. one.call) more ≡ map (λ r. calls.Message p place r m) rs = cc in rest))

pub built_callbacks : {S : Setup} (made : List Made) (past : Past) → AllByRecursion (λ one. IsMessage one.call) made → (made ≡ []) ⊎ IsAlive past → Built S past → Built S (callbacks S made past)
built_callbacks [] past h a b = b
built_callbacks {S} (one ∷ more) past h (inl none) b = absurd cc
built_callbacks {S} (one ∷ more) past h (inr alive) b =
    built_callbacks more (callback S past one) h.1 (inr (alive_callback S past one alive)) (built_callback past one alive (may_call S past one.call h.0) b)

-- ## Steps

built_end_open : {S : Setup} (past : Past) (step : Option Begun) → open_step past.journal ≡ step → may_end (state_of past.journal) ≡ true →
    ((one : Begun) → step ≡ Some one → S.is_async ≡ true → (es : List Entry) × (past.journal ≡ es ++ Done one.number ∷ [])) →
    Built S past → Built S (end_open S step past)
built_end_open past None e may done b = b
built_end_open {S} past (Some step) e may done b =
    built_announce (step.time + unwrap_or S.step 0) (add (End step.number) past) timed (open_step-add past.journal (End step.number)) run
    (adds past (End step.number) b (record { step = step; is_open = e; number = refl; state = may; done = done step refl }))
  where
    begun : last_begun (past.journal ++ End step.number ∷ []) ≡ Some step
    begun = last_begun-add past.journal (End step.number) ∙ opened_is_last past.journal None None (λ b f. f) step e

    ran' : (c : Bool) → has_run past.journal ≡ c → c ≡ true
    ran' true f = refl
    ran' false f = let g = unbegun past b f in let h = opened_is_last past.journal None None (λ b f. f) step e in absurd cc

    run : has_run (past.journal ++ End step.number ∷ []) ≡ true
    run = has_run-add past.journal (End step.number) ∙ or_left (has_run past.journal) false (ran' (has_run past.journal) refl)

    timed : (size : ℕ) → S.step ≡ Some size → step.time + unwrap_or S.step 0 ≡ next_time size (past.journal ++ End step.number ∷ [])
    timed size f = ap (λ o. step.time + unwrap_or o 0) f ∙ sym (ap (time_after size) begun)

pub built_end_step : {S : Setup} (past : Past) → may_end (state_of past.journal) ≡ true →
    ((one : Begun) → open_step past.journal ≡ Some one → S.is_async ≡ true → (es : List Entry) × (past.journal ≡ es ++ Done one.number ∷ [])) →
    Built S past → Built S (end_step S past)
unfolding end_step
built_end_step past may done b = built_end_open past (open_step past.journal) refl may done b

not_false : (b : Bool) → not b ≡ true → b ≡ true → ⊥
not_false true h i = cc
not_false false h i = cc

pub built_end_blocking : {S : Setup} (past : Past) → Built S past → Built S (end_blocking S past)
built_end_blocking {S} past b = on (not S.is_async && may_end (state_of past.journal)) refl
  where
    on : (c : Bool) → (not S.is_async && may_end (state_of past.journal)) ≡ c → Built S (if c then end_step S past else past)
    on true e = let both = and_parts (not S.is_async) (may_end (state_of past.journal)) e in
        built_end_step past both.1 (λ one f g. absurd (not_false S.is_async both.0 g)) b
    on false e = b

pub built_take_step : {S : Setup} (made : Made) (past : Past) → IsAlive past → MayCall S past made.call → Built S past → Built S (take_step S made past)
unfolding take_step
built_take_step {S} made past alive may b = built_end_blocking (callback S past made) (built_callback past made alive may b)

numbered : (n : ℕ) (o : Option Begun) (one : Begun) → is_number n o ≡ true → o ≡ Some one → one.number ≡ n
numbered n None one h e = cc
numbered n (Some other) one h e = let same : other ≡ one = cc in ap (λ (b : Begun). b.number) (sym same) ∙ eqb-true other.number n h

built_completed : {S : Setup} (n : ℕ) (past : Past) → completes_step S n past ≡ true → Built S past → Built S (end_step S (add (Done n) past))
unfolding completes_step
built_completed {S} n past fits b =
    built_end_step (add (Done n) past) (subst (λ s. may_end s ≡ true) (sym (state_still past.journal (Done n) (λ s. refl))) also.1)
    (λ one e async. (past.journal, ap (λ k. past.journal ++ Done k ∷ []) (sym (numbered n (open_step past.journal) one also.0 (sym (open_step-add past.journal (Done n)) ∙ e)))))
    (adds past (Done n) b (inr fits))
  where
    also : (is_number n (open_step past.journal) ≡ true) × (may_end (state_of past.journal) ≡ true)
    also = and_parts (is_number n (open_step past.journal)) (may_end (state_of past.journal)) (and_parts S.is_async (is_number n (open_step past.journal) && may_end (state_of past.journal)) fits).1

pub built_complete : {S : Setup} (n : ℕ) (past : Past) → Built S past → Built S (complete S n past)
unfolding complete
built_complete {S} n past b = on (completes_ready n past) (completes_step S n past) refl refl
  where
    on : (r s : Bool) → completes_ready n past ≡ r → completes_step S n past ≡ s →
        Built S (if r then add (Done n) past else if s then end_step S (add (Done n) past) else add (Stray n) past)
    on true s e f = adds past (Done n) b (inl e)
    on false true e f = built_completed n past f b
    on false false e f = adds past (Stray n) b (e, f)

-- ## Links

pub built_lose : {S : Setup} (p reason : ℕ) (past : Past) → Built S past → Built S (lose S p reason past)
unfolding lose
built_lose {S} p reason past b = on (is_peer S p)
  where
    b' : Built S (add (Gone p reason) past)
    b' = adds past (Gone p reason) b tt

    on : (c : Bool) → Built S (if c then enter_if S Error (add (Gone p reason) past) else add (Gone p reason) past)
    on true = built_enter_if Error (add (Gone p reason) past) asked_error b'
    on false = b'

pub built_heed : {S : Setup} (p : ℕ) (m : Content) (made : List Made) (past : Past) → AllByRecursion (λ one. IsMessage one.call) made → (made ≡ []) ⊎ IsAlive past → Built S past → Built S (heed S p m made past)
unfolding heed
built_heed p (contents.Status state until) made past h a b = built_system past b
built_heed p (contents.Workflow required) made past h a b = built_system past b
built_heed p contents.Abort made past h a b = built_enter_if Aborting past asked_aborting b
built_heed {S} p (contents.LinResponse head' response) made past h a b = remembers past (note S p head'.service response past).memory (all_of past.memory.tools) b
built_heed p (contents.Hello name role address) made past h a b = built_callbacks made past h a b
built_heed p contents.Leave made past h a b = built_callbacks made past h a b
built_heed p (contents.NextStep at size) made past h a b = built_callbacks made past h a b
built_heed p (contents.ServiceAdd service) made past h a b = built_callbacks made past h a b
built_heed p contents.ServicesEnd made past h a b = built_callbacks made past h a b
built_heed p (contents.Can head' frame) made past h a b = built_callbacks made past h a b
built_heed p (contents.Eth head' payload) made past h a b = built_callbacks made past h a b
built_heed p (contents.Lin head' frame) made past h a b = built_callbacks made past h a b
built_heed p (contents.Publish head' payload) made past h a b = built_callbacks made past h a b
built_heed p (contents.Call head' call payload) made past h a b = built_callbacks made past h a b
built_heed p (contents.Reply head' client call payload) made past h a b = built_callbacks made past h a b
built_heed p (contents.Refuse reason) made past h a b = built_callbacks made past h a b

pub built_get : {S : Setup} (p : ℕ) (m : Content) (made : List Made) (past : Past) → IsTrue (is_open S past p) → AllByRecursion (λ one. IsMessage one.call) made →
    (made ≡ []) ⊎ IsAlive past → Built S past → Built S (get S p m made past)
unfolding get
built_get {S} p m made past linked h a b = on (comes_in_order S past p m)
  where
    b' : Built S (add (Got p m) past)
    b' = adds past (Got p m) b linked

    got_alive : (made ≡ []) ⊎ IsAlive past → (made ≡ []) ⊎ IsAlive (add (Got p m) past)
    got_alive (inl none) = inl none
    got_alive (inr alive) = inr (alive_still past (Got p m) (λ s. refl) alive)

    on : (c : Bool) → Built S (if c then heed S p m made (add (Got p m) past) else lose S p 8 (add (Got p m) past))
    on true = built_heed p m made (add (Got p m) past) h (got_alive a) b'
    on false = built_lose p 8 (add (Got p m) past) b'

no_calls : (p place : ℕ) (m : Content) (made : List Made) (order over : Bool) (rs : List ℕ) →
    map (λ one. one.call) made ≡ map (λ r. calls.Message p place r m) (if over || not order then [] else rs) → over ≡ true → made ≡ []
no_calls p place m [] order over rs e h = refl
no_calls p place m (one ∷ more) order true rs e h = absurd cc
no_calls p place m (one ∷ more) order false rs e h = absurd cc

-- the app is called with a message in no state that is over
pub called_alive : (S : Setup) (past : Past) (p place : ℕ) (m : Content) (made : List Made) →
    map (λ one. one.call) made ≡ map (λ r. calls.Message p place r m) (receivers S past p m) → (made ≡ []) ⊎ IsAlive past
unfolding receivers
called_alive S past p place m made e = on (is_over (state_of past.journal)) refl
  where
    on : (over : Bool) → is_over (state_of past.journal) ≡ over → (made ≡ []) ⊎ IsAlive past
    on true f = inl (no_calls p place m made (comes_in_order S past p m) (is_over (state_of past.journal)) (handed_to S past p m) e f)
    on false f = inr (or_parts (is_state Aborting (state_of past.journal)) (is_state Shutdown (state_of past.journal)) (or_parts (is_state Error (state_of past.journal)) _ f).1).1

-- ## Making, tools and limits

-- a message that may always be put
abbrev pub IsFree : Setup → Content → Type 0
IsFree S m = (past : Past) → MayPut S past m

built_free : {S : Setup} (p : ℕ) (ms : List Content) (es : List Entry) (memory : Memory) → AllByRecursion (IsFree S) ms → Built S (record { journal = es; memory = memory }) →
    Built S (record { journal = es ++ map (λ m. Put p m) ms; memory = memory })
built_free {S} p [] es memory h b = subst (λ x. Built S (record { journal = x; memory = memory })) (sym (append-nil es)) b
built_free {S} p (m ∷ ms) es memory h b =
    subst (λ x. Built S (record { journal = x; memory = memory })) (append_assoc es (Put p m ∷ []) (map (λ m. Put p m) ms))
    (built_free p ms (es ++ Put p m ∷ []) memory h.1 (adds (record { journal = es; memory = memory }) (Put p m) b (h.0 (record { journal = es; memory = memory }))))

built_introductions : {S : Setup} (ps : List ℕ) (ms : List Content) (es : List Entry) (memory : Memory) → AllByRecursion (IsFree S) ms → Built S (record { journal = es; memory = memory }) →
    Built S (record { journal = es ++ flat_map (λ p. map (λ m. Put p m) ms) ps; memory = memory })
built_introductions {S} [] ms es memory h b = subst (λ x. Built S (record { journal = x; memory = memory })) (sym (append-nil es)) b
built_introductions {S} (p ∷ ps) ms es memory h b =
    subst (λ x. Built S (record { journal = x; memory = memory })) (append_assoc es (map (λ m. Put p m) ms) (flat_map (λ p. map (λ m. Put p m) ms) ps))
    (built_introductions ps ms (es ++ map (λ m. Put p m) ms) memory h (built_free p ms es memory h b))

services_free : (S : Setup) (services : List Service) → AllByRecursion (IsFree S) (map announced_service services ++ contents.ServicesEnd ∷ [])
services_free S [] = ((λ past. tt), tt)
services_free S (s ∷ services) = ((λ past. tt), services_free S services)

start_edge : (from : State) → from ≡ Invalid → (IsTrue (has_edge from ServicesCreated)) × (is_by_row from ServicesCreated ≡ false)
unfolding has_edge is_state is_by_row has_edge_of
start_edge from e = subst (λ s. (IsTrue (has_edge s ServicesCreated)) × (is_by_row s ServicesCreated ≡ false)) (sym e) (refl, refl)

start_comes : IsTrue (comes_besides ServicesCreated)
unfolding is_state
start_comes = refl

puts_state : (ps : List ℕ) (ms : List Content) → state_of (flat_map (λ p. map (λ m. Put p m) ms) ps) ≡ Invalid
puts_state [] ms = refl
puts_state (p ∷ ps) ms = fold-append state_after Invalid (map (λ m. Put p m) ms) (flat_map (λ p. map (λ m. Put p m) ms) ps) ∙ ap (λ s. fold state_after s (flat_map (λ p. map (λ m. Put p m) ms) ps)) (some ms Invalid) ∙ puts_state ps ms
  where
    some : (ms : List Content) (s : State) → fold state_after s (map (λ m. Put p m) ms) ≡ s
    some [] s = refl
    some (m ∷ ms) s = some ms s

pub built_making : (S : Setup) → Built S (making S)
unfolding making
built_making S =
    built_enter_until ServicesCreated 0 before
    (let start = start_edge (state_of before.journal) (puts_state (peers S) (introduction S)) in record { edge = start.0; by_row = λ row. let no_row = start.1 in absurd cc; cause = inl start_comes })
    (built_introductions (peers S) (introduction S) [] before.memory ((λ past. refl), services_free S S.services) (empty before.memory))
  where
    before : Past
    before = record {
      journal = flat_map (λ p. map (λ m. Put p m) (introduction S)) (peers S);
      memory = record { called = false; asked = false; pause = None; tools = []; services = new_states S.services; ready_awaited = false };
    }

pub built_add_tool : {S : Setup} (name : List ℕ) (past : Past) → Built S past → Built S (add_tool S name past)
unfolding add_tool
built_add_tool {S} name past b = on (is_state Shutdown (state_of past.journal))
  where
    t : ℕ
    t = tool_number S past

    b' : Built S (with_tool name past)
    b' = remembers past (with_tool name past).memory (name ∷ [], refl) b

    on : (c : Bool) → Built S (if c then with_tool name past else greet S t (with_tool name past))
    on true = b'
    on false = adds _ _ (adds _ _ (adds _ _ b' refl) tt)
        (sym (state_still (past.journal ++ Put t (hello S (own_name S)) ∷ []) (Put t contents.ServicesEnd) (λ s. refl) ∙ state_still past.journal (Put t (hello S (own_name S))) (λ s. refl)))

pub built_judge_limits : {S : Setup} (past : Past) → Built S past → Built S (judge_limits S past)
unfolding judge_limits
built_judge_limits {S} past b = on (not (has_edge (state_of past.journal) Error)) (nat_le 500000 (length past.journal)) (nat_le 33554432 (payload past.journal))
  where
    on : (over many long : Bool) → Built S (if over then past else if many then fault S 3 past else if long then fault S 4 past else past)
    on true many long = b
    on false true long = built_fault 3 past b
    on false false true = built_fault 4 past b
    on false false false = b
