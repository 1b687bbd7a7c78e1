-- What follows what: each function adds an entry and all that stands directly behind it.
use Rattle.std.specs.Prelude.{ℕ, ◌+◌, ◌-◌, ◌==◌, nat_le, max, Bool, true, false, not, ◌&&◌, ◌||◌, List, [], ◌∷◌, ◌++◌, length, map, Option, Some, None, is_some, unwrap_or, if◌then◌else◌}
use Rattle.std.specs.List.{fold, flat_map}
use Rattle.sk_msg.specs.declared.command.Command.{Command}
use Rattle.sk_msg.specs.declared.command.Command.TheVariants.{Pause, Continue, Stop, Abort}
use Rattle.sk_msg.specs.declared.command.Verdict.TheVariants.{Accepted, Refused}
use Rattle.sk_msg.specs.declared.content.Content.{Content}
use Rattle.sk_msg.specs.declared.content.Content.TheVariants as contents
use Rattle.sk_msg.specs.declared.role.Role.TheVariants.{Participant}
use Rattle.sk_msg.specs.declared.service.Service.{Service}
use Rattle.sk_msg.specs.declared.state.State.{State}
use Rattle.sk_msg.specs.declared.state.State.TheVariants.{ServicesCreated, CommunicationInitialized, Running, Paused, Stopping, Error, Shutdown, Aborting}
use Rattle.sk_msg.specs.States.{is_state}
use Rattle.sk_msg.specs.Edges.{has_edge, led_to, is_command}
use Rattle.sk_msg.specs.declared.action.Action.{Action}
use Rattle.sk_msg.specs.declared.action.Action.TheVariants as actions
use Rattle.sk_msg.specs.declared.entry.Entry.{Entry}
use Rattle.sk_msg.specs.declared.entry.Entry.TheVariants.{Got, Put, Hand, State as Entered, System as Judged, Begin, Done, End, Ask, Gone, Stray, Did, Fault}
use Rattle.sk_law.specs.declared.made.Call.{Call}
use Rattle.sk_law.specs.declared.made.Call.TheVariants as calls
use Rattle.sk_law.specs.declared.made.Made.{Made}
use Rattle.sk_law.specs.declared.memory.Begun.{Begun}
use Rattle.sk_law.specs.declared.setup.Setup.{Setup}
use Rattle.sk_law.specs.Past.{Past, add, put_each}
use Rattle.sk_law.specs.Readings.{state_of, system_told, has_run, payload, open_step, next_time, has_completed_ready}
use Rattle.sk_law.specs.Links.{own_name, is_peer, peers, reached, told, comes_in_order, system}
use Rattle.sk_law.specs.Receivers.{receive, note, changed, with_services}
use Rattle.sk_law.specs.Outcomes.{Outcome, outcome, named}
use Rattle.sk_law.specs.Services.{new_states}

-- ## States

-- System, where the system state isn't the one that stands last
unfoldable pub judge_system : Setup → Past → Past
judge_system S past =
    if is_state (system S past) (system_told past.journal) then past else add (Judged (system S past)) past

-- by the step size
abbrev pub announce_step : Setup → Option ℕ → ℕ → Past → Past
announce_step S None at past = past
announce_step S (Some size) at past = put_each (reached S past) (contents.NextStep at size) past

-- of a synchronised participant NextStep, to each peer that isn't gone
abbrev pub announce : Setup → ℕ → Past → Past
announce S at past = announce_step S S.step at past

-- State with its Status to each peer and tool that isn't gone, and then System
abbrev pub enter_only : Setup → State → ℕ → Past → Past
enter_only S to until past = judge_system S (put_each (told S past) (contents.Status to until) (add (Entered to) past))

-- Running is entered for the first time
abbrev pub is_first_run : State → List Entry → Bool
is_first_run to es = is_state Running to && not (has_run es)

-- what stands behind a State and what follows each: behind Shutdown Leave to these, behind the first Running of a
-- synchronised participant its first NextStep
abbrev pub behind : Setup → State → Bool → List ℕ → Past → Past
behind S to is_first numbers past =
    if is_state Shutdown to then put_each numbers contents.Leave past else
    if is_first then announce S 0 past else
    past

-- State with all that stands behind it
unfoldable pub enter_until : Setup → State → ℕ → Past → Past
enter_until S to until past = behind S to (is_first_run to past.journal) (told S past) (enter_only S to until past)

-- State with no bound
abbrev pub enter : Setup → State → Past → Past
enter S to past = enter_until S to 0 past

-- where there is an edge to the state
unfoldable pub enter_if : Setup → State → Past → Past
enter_if S to past = if has_edge (state_of past.journal) to then enter S to past else past

-- ## Commands

-- the bound that an accepted Stop of a coordinated, synchronised participant tells: no coordinated peer takes a step at
-- it or later; every other Status tells 0
abbrev pub until_of : Setup → Command → Past → ℕ
until_of S command past =
    if is_command Stop command && (S.coordinated && is_some S.step) then next_time (unwrap_or S.step 0) past.journal + 1 else 0

-- this pause count runs, or none does
abbrev pub with_pause : Option ℕ → Past → Past
with_pause count past = record past { memory = record past.memory { pause = count } }

-- Abort to each peer that isn't gone
abbrev pub tell_abort : Setup → Command → Past → Past
tell_abort S command past = if is_command Abort command then put_each (reached S past) contents.Abort past else past

-- an accepted Ask, which ends a pause count
abbrev pub accepted : Command → Past → Past
accepted command past = add (Ask command Accepted) (with_pause None past)

-- Ask with its verdict; where it is accepted, the State to which it leads, and of Abort that it is told
abbrev pub asked : Setup → Command → Option State → Past → Past
asked S command None past = add (Ask command (Refused (state_of past.journal))) past
asked S command (Some to) past = tell_abort S command (enter_until S to (until_of S command past) (accepted command past))

-- a command is asked for
unfoldable pub ask : Setup → Command → Past → Past
ask S command past = asked S command (led_to (state_of past.journal) command) past

-- Ask(Pause), and where it is accepted a count that begins
unfoldable pub pause_for : Setup → ℕ → Past → Past
pause_for S count past =
    if is_state Running (state_of past.journal) then with_pause (Some (max count 1)) (ask S Pause past) else ask S Pause past

-- one turn in Paused: the count goes down, and at 0 the participant asks Continue of itself
unfoldable pub count_down : Setup → ℕ → Past → Past
count_down S count past = if nat_le count 1 then ask S Continue past else with_pause (Some (count - 1)) past

-- ## Actions

-- a message, where there is one, to each of these
abbrev pub put_some : List ℕ → Option Content → Past → Past
put_some to None past = past
put_some to (Some m) past = put_each to m past

-- Did with the message that it sent, and the Puts of that
abbrev pub did : ℕ → Outcome → Past → Past
did s o past = put_some o.to o.message (add (Did s o.code o.message) (with_services (changed (λ at. o.state) s past.memory.services) past))

-- the answer to one action
unfoldable pub answer : Setup → Past → Action → Past
answer S past (actions.Ask command) = ask S command past
answer S past (actions.PauseFor count) = pause_for S count past
answer S past a = did (named a) (outcome S past a) past

-- the answers to these actions, in order
abbrev pub answers : Setup → List Action → Past → Past
answers S more past = fold (answer S) past more

-- Fault, and Error where there is that edge
abbrev pub fault : Setup → ℕ → Past → Past
fault S number past = enter_if S Error (add (Fault number) past)

-- ## Callbacks

-- the entry that shows a call of the app, and what the call's cause changes
abbrev pub called : Call → Past → Past
called calls.Ready past = record past { memory = record past.memory { called = true; ready_awaited = true } }
called (calls.Step number at) past = add (Begin number at) past
called (calls.Message p place r m) past = receive p m r (add (Hand p place r) past)

-- the fault of a callback that tried a 257th action
abbrev pub over_after : Setup → Bool → Past → Past
over_after S over past = if over then fault S 2 past else past

-- the answers to these actions, and that fault
abbrev pub answered : Setup → List Action → Bool → Past → Past
answered S actions over past = over_after S over (answers S actions past)

-- a call with its answers
unfoldable pub callback : Setup → Past → Made → Past
callback S past made = answered S made.actions made.over (called made.call past)

-- several calls, one after another
abbrev pub callbacks : Setup → List Made → Past → Past
callbacks S made past = fold (callback S) past made

-- ## Steps

-- a step may end in these
abbrev pub may_end : State → Bool
may_end state = is_state Running state || (is_state Paused state || is_state Stopping state)

-- End of the open step, and NextStep one size later
abbrev pub end_open : Setup → Option Begun → Past → Past
end_open S None past = past
end_open S (Some step) past = announce S (step.time + unwrap_or S.step 0) (add (End step.number) past)

-- the open step ends
unfoldable pub end_step : Setup → Past → Past
end_step S past = end_open S (open_step past.journal) past

-- a blocking step ends behind the answers to its handler, where it may
abbrev pub end_blocking : Setup → Past → Past
end_blocking S past = if not S.is_async && may_end (state_of past.journal) then end_step S past else past

-- a step with its handler's answers; a blocking one ends then
unfoldable pub take_step : Setup → Made → Past → Past
take_step S made past = end_blocking S (callback S past made)

-- the step has this number
abbrev pub is_number : ℕ → Option Begun → Bool
is_number n None = false
is_number n (Some step) = step.number == n

-- the first completion of the ready handler, in CommunicationInitialized after it was called
unfoldable pub completes_ready : ℕ → Past → Bool
completes_ready n past =
    n == 0 && (is_state CommunicationInitialized (state_of past.journal) && (past.memory.called && not (has_completed_ready past.journal)))

-- a completion of the asynchronous step that is open, in a state in which it may end
unfoldable pub completes_step : Setup → ℕ → Past → Bool
completes_step S n past = S.is_async && (is_number n (open_step past.journal) && may_end (state_of past.journal))

-- nobody waits any more for a completion of the ready handler, where the number is 0
abbrev pub with_completed : ℕ → Past → Past
with_completed n past =
    record past { memory = record past.memory { ready_awaited = past.memory.ready_awaited && not (n == 0) } }

-- Done where the completion fits, of a step with its End; else Stray
unfoldable pub complete : Setup → ℕ → Past → Past
complete S n past =
    if completes_ready n past then add (Done n) past else
    if completes_step S n past then end_step S (add (Done n) past) else
    add (Stray n) past

-- ## Links

-- Gone, and of a peer Error where there is that edge
unfoldable pub lose : Setup → ℕ → ℕ → Past → Past
lose S p reason past = if is_peer S p then enter_if S Error (add (Gone p reason) past) else add (Gone p reason) past

-- what a message in order leads to: Status and Workflow to System, Abort to Aborting, a LinResponse is noted, and every
-- other one is handed to its receivers
unfoldable pub heed : Setup → ℕ → Content → List Made → Past → Past
heed S p (contents.Status state until) made past = judge_system S past
heed S p (contents.Workflow required) made past = judge_system S past
heed S p contents.Abort made past = enter_if S Aborting past
heed S p (contents.LinResponse head response) made past = note S p head.service response past
heed S p m made past = callbacks S made past

-- Got, and what it leads to; out of order, that the sender is gone
unfoldable pub get : Setup → ℕ → Content → List Made → Past → Past
get S p m made past =
    if comes_in_order S past p m then heed S p m made (add (Got p m) past) else lose S p 8 (add (Got p m) past)

-- ## Making, and tools

-- the own Hello
abbrev pub hello : Setup → List ℕ → Content
hello S name = contents.Hello name (Participant S.coordinated (is_some S.step)) []

-- the history of a publisher isn't announced
abbrev pub announced_service : Service → Content
announced_service s = contents.ServiceAdd (record s { history = false })

-- what each peer is told first
abbrev pub introduction : Setup → List Content
introduction S = hello S (own_name S) ∷ (map announced_service S.services ++ contents.ServicesEnd ∷ [])

-- Hello, each own service and ServicesEnd to each peer, then the first State
unfoldable pub making : Setup → Past
making S = enter S ServicesCreated (record {
  journal = flat_map (λ p. map (λ m. Put p m) (introduction S)) (peers S);
  memory = record { called = false; asked = false; pause = None; tools = []; services = new_states S.services; ready_awaited = false };
})

-- the number of the next tool
abbrev pub tool_number : Setup → Past → ℕ
tool_number S past = length S.names + length past.memory.tools

-- a tool more
abbrev pub with_tool : List ℕ → Past → Past
with_tool name past = record past { memory = record past.memory { tools = past.memory.tools ++ name ∷ [] } }

-- Hello, ServicesEnd and the present Status
abbrev pub greet : Setup → ℕ → Past → Past
greet S t past =
    add (Put t (contents.Status (state_of past.journal) 0)) (add (Put t contents.ServicesEnd) (add (Put t (hello S (own_name S))) past))

-- a tool of this name has the next number; it is greeted, but not after Shutdown
unfoldable pub add_tool : Setup → List ℕ → Past → Past
add_tool S name past =
    if is_state Shutdown (state_of past.journal) then with_tool name past else greet S (tool_number S past) (with_tool name past)

-- ## Limits

-- judged behind each call: too many entries, then too many payload bytes
unfoldable pub judge_limits : Setup → Past → Past
judge_limits S past =
    if not (has_edge (state_of past.journal) Error) then past else
    if nat_le 500000 (length past.journal) then fault S 3 past else
    if nat_le 33554432 (payload past.journal) then fault S 4 past else past
