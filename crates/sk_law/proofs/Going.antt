-- What each block makes of the state, the entries, and what is left without one.
use Rattle.std.specs.Prelude.{◌≡◌, ◌<◌, ◌≤◌, refl, ℕ, ◌+◌, ◌-◌, ◌*◌, ◌^◌, min, max, Bool, true, false, not, ◌&&◌, List, [], ◌∷◌, ◌++◌, map, length, Option, Some, None, unwrap_or, if◌then◌else◌}
use Rattle.std.specs.List.{fold}
use Rattle.std.proofs.lemmas.List.Sums.{fold-append}
use Rattle.std.proofs.Common.{ap, subst, ◌∙◌, length-append, arith}
use Rattle.sk_msg.specs.declared.action.Action.{Action}
use Rattle.sk_msg.specs.declared.action.Action.TheVariants as actions
use Rattle.sk_msg.specs.declared.command.Command.{Command}
use Rattle.sk_msg.specs.declared.command.Command.TheVariants.{Pause, Continue, Stop, ReportError, Abort}
use Rattle.sk_msg.specs.declared.command.Verdict.TheVariants.{Accepted, Refused}
use Rattle.sk_msg.specs.declared.content.Content.{Content}
use Rattle.sk_msg.specs.declared.content.Content.TheVariants as contents
use Rattle.sk_msg.specs.declared.entry.Entry.{Entry}
use Rattle.sk_msg.specs.declared.entry.Entry.TheVariants.{Got, Put, Hand, State as Entered, System as Judged, Begin, Done, End, Ask, Gone, Stray, Did, Fault}
use Rattle.sk_msg.specs.declared.state.State.{State}
use Rattle.sk_msg.specs.declared.state.State.TheVariants.{Invalid, ServicesCreated, CommunicationInitializing, CommunicationInitialized, ReadyToRun, Running, Paused, Stopping, Stopped, Error, ShuttingDown, Shutdown, Aborting}
use Rattle.sk_msg.specs.Edges.{has_edge, led_to, is_command}
use Rattle.sk_msg.specs.States.{is_state}
use Rattle.sk_law.specs.declared.made.Call.{Call}
use Rattle.sk_law.specs.declared.made.Call.TheVariants as calls
use Rattle.sk_law.specs.declared.made.Made.{Made}
use Rattle.sk_law.specs.declared.memory.Begun.{Begun}
use Rattle.sk_law.specs.declared.memory.Memory.{Memory}
use Rattle.sk_law.specs.declared.setup.Setup.{Setup}
use Rattle.sk_law.specs.Past.{Past, add, put_each}
use Rattle.sk_law.specs.Readings.{state_of, state_after, system_told, open_step, payload}
use Rattle.sk_law.specs.Links.{reached, told, system, is_peer, comes_in_order}
use Rattle.sk_law.specs.Outcomes.{Outcome, outcome}
use Rattle.sk_law.specs.Blocks.{judge_system, announce_step, announce, enter_only, is_first_run, behind, enter_until, enter, enter_if, accepted, tell_abort, asked, ask, until_of, with_pause, pause_for, put_some, did, answer, answers, fault, called, over_after, answered, callback, callbacks, may_end, end_open, end_step, end_blocking, take_step, completes_ready, completes_step, complete, lose, heed, get, with_tool, add_tool}
use Rattle.sk_law.specs.Ends.{states_left, unwritten_left}

-- ## States

pub at_most : (s : State) → states_left s ≤ 3
at_most Invalid = omega arith
at_most ServicesCreated = omega arith
at_most CommunicationInitializing = omega arith
at_most CommunicationInitialized = omega arith
at_most ReadyToRun = omega arith
at_most Running = omega arith
at_most Paused = omega arith
at_most Stopping = omega arith
at_most Stopped = omega arith
at_most Error = omega arith
at_most ShuttingDown = omega arith
at_most Shutdown = omega arith
at_most Aborting = omega arith

-- the limits are judged in a state
pub limited : (s : State) → has_edge s Error ≡ true → states_left s ≡ 3
unfolding has_edge is_state
limited ServicesCreated h = refl
limited CommunicationInitializing h = refl
limited CommunicationInitialized h = refl
limited ReadyToRun h = refl
limited Running h = refl
limited Paused h = refl
limited Stopping h = refl
limited Stopped h = refl
limited Invalid h = absurd cc
limited Error h = absurd cc
limited ShuttingDown h = absurd cc
limited Shutdown h = absurd cc
limited Aborting h = absurd cc

-- they aren't
pub unlimited : (s : State) → has_edge s Error ≡ false → states_left s ≤ 2
unfolding has_edge is_state
unlimited ServicesCreated h = absurd cc
unlimited CommunicationInitializing h = absurd cc
unlimited CommunicationInitialized h = absurd cc
unlimited ReadyToRun h = absurd cc
unlimited Running h = absurd cc
unlimited Paused h = absurd cc
unlimited Stopping h = absurd cc
unlimited Stopped h = absurd cc
unlimited Invalid h = omega arith
unlimited Error h = omega arith
unlimited ShuttingDown h = omega arith
unlimited Shutdown h = omega arith
unlimited Aborting h = omega arith

-- an edge to Error or to Aborting
abbrev falls_to : State → Type 0
falls_to to = (from : State) → has_edge from to ≡ true → states_left to ≤ states_left from

to_error : falls_to Error
to_error from h = let s = limited from h in omega arith

to_aborting : falls_to Aborting
unfolding has_edge is_state
to_aborting ServicesCreated h = omega arith
to_aborting CommunicationInitializing h = omega arith
to_aborting CommunicationInitialized h = omega arith
to_aborting ReadyToRun h = omega arith
to_aborting Running h = omega arith
to_aborting Paused h = omega arith
to_aborting Stopping h = omega arith
to_aborting Stopped h = omega arith
to_aborting Error h = omega arith
to_aborting Invalid h = absurd cc
to_aborting ShuttingDown h = absurd cc
to_aborting Shutdown h = absurd cc
to_aborting Aborting h = absurd cc

nowhere : (o : Option State) (from to : State) → o ≡ None → o ≡ Some to → states_left to ≤ states_left from
nowhere o from to none e = absurd cc

only_aborting : (to : State) → Some Aborting ≡ Some to → states_left to ≤ 2
only_aborting to e = let same : Aborting ≡ to = cc in subst (λ (s : State). states_left s ≤ 2) same (let r : states_left Aborting ≤ 2 = omega arith in r)

-- where a command leads
led_falls : (from : State) (command : Command) (to : State) → led_to from command ≡ Some to → states_left to ≤ states_left from
unfolding led_to is_state
led_falls ServicesCreated command to e = at_most to
led_falls CommunicationInitializing command to e = at_most to
led_falls CommunicationInitialized command to e = at_most to
led_falls ReadyToRun command to e = at_most to
led_falls Running command to e = at_most to
led_falls Paused command to e = at_most to
led_falls Stopping command to e = at_most to
led_falls Stopped command to e = at_most to
led_falls Error Abort to e = only_aborting to e
led_falls Error Pause to e = absurd cc
led_falls Error Continue to e = absurd cc
led_falls Error Stop to e = absurd cc
led_falls Error ReportError to e = absurd cc
led_falls Invalid Pause to e = absurd cc
led_falls Invalid Continue to e = absurd cc
led_falls Invalid Stop to e = absurd cc
led_falls Invalid ReportError to e = absurd cc
led_falls Invalid Abort to e = absurd cc
led_falls ShuttingDown Pause to e = absurd cc
led_falls ShuttingDown Continue to e = absurd cc
led_falls ShuttingDown Stop to e = absurd cc
led_falls ShuttingDown ReportError to e = absurd cc
led_falls ShuttingDown Abort to e = absurd cc
led_falls Shutdown Pause to e = absurd cc
led_falls Shutdown Continue to e = absurd cc
led_falls Shutdown Stop to e = absurd cc
led_falls Shutdown ReportError to e = absurd cc
led_falls Shutdown Abort to e = absurd cc
led_falls Aborting Pause to e = absurd cc
led_falls Aborting Continue to e = absurd cc
led_falls Aborting Stop to e = absurd cc
led_falls Aborting ReportError to e = absurd cc
led_falls Aborting Abort to e = absurd cc

-- ## What happens, by states and entries

-- no state comes back, entries are only added, and what else is left rises only with an entry
pub record Goes (past now : Past) : Type 0 where
  pub states : states_left (state_of now.journal) ≤ states_left (state_of past.journal)
  pub entries : length past.journal ≤ length now.journal
  pub weight : unwritten_left now.memory + length past.journal * 2 ^ 33 ≤ unwritten_left past.memory + length now.journal * 2 ^ 33

-- there are entries more
pub record Grows (past now : Past) : Type 0 where
  pub states : states_left (state_of now.journal) ≤ states_left (state_of past.journal)
  pub longer : length past.journal < length now.journal

-- maybe entries more, but no State
record Calm (past now : Past) : Type 0 where
  state : state_of now.journal ≡ state_of past.journal
  entries : length past.journal ≤ length now.journal

capped : (n : ℕ) → min n (2 ^ 32 - 1) < 2 ^ 32
capped n = omega arith

pub small : (memory : Memory) → unwritten_left memory < 2 ^ 33
small memory = on memory.called
  where
    on : (b : Bool) → (if b then 0 else 2 ^ 32) + min (unwrap_or memory.pause 0) (2 ^ 32 - 1) < 2 ^ 33
    on true = let c = capped (unwrap_or memory.pause 0) in omega arith
    on false = let c = capped (unwrap_or memory.pause 0) in omega arith

-- an entry outweighs what is left besides
pub outweighs : (u v m n : ℕ) → u < 2 ^ 33 → m < n → u + m * 2 ^ 33 < v + n * 2 ^ 33
outweighs u v m n h l = omega arith

-- ## One after another

pub same : (past now : Past) → now.journal ≡ past.journal → unwritten_left now.memory ≤ unwritten_left past.memory → Goes past now
same past now e u =
    let s = ap (λ es. states_left (state_of es)) e in let l = ap length e in
    record { states = omega arith; entries = omega arith; weight = omega arith }

pub both : {a b c : Past} → Goes a b → Goes b c → Goes a c
both {a} {b} {c} f g =
    let s = f.states in let t = g.states in let m = f.entries in let n = g.entries in let u = f.weight in let v = g.weight in
    record { states = omega arith; entries = omega arith; weight = omega arith }

pub goes : {past now : Past} → Grows past now → Goes past now
goes {past} {now} g =
    let l = g.longer in let w = outweighs (unwritten_left now.memory) (unwritten_left past.memory) (length past.journal) (length now.journal) (small now.memory) l in
    record { states = g.states; entries = omega arith; weight = omega arith }

pub then_goes : {a b c : Past} → Grows a b → Goes b c → Grows a c
then_goes {a} {b} {c} f g =
    let s = f.states in let t = g.states in let m = f.longer in let n = g.entries in
    record { states = omega arith; longer = omega arith }

then_grows : {a b c : Past} → Goes a b → Grows b c → Grows a c
then_grows {a} {b} {c} f g =
    let s = f.states in let t = g.states in let m = f.entries in let n = g.longer in
    record { states = omega arith; longer = omega arith }

calmly : {a b c : Past} → Calm a b → Calm b c → Calm a c
calmly {a} {b} {c} f g = let m = f.entries in let n = g.entries in record { state = g.state ∙ f.state; entries = omega arith }

still : (past now : Past) → now.journal ≡ past.journal → Calm past now
still past now e = let l = ap length e in record { state = ap state_of e; entries = omega arith }

if_calm : {past x y : Past} (c : Bool) → Calm past x → Calm past y → Calm past (if c then x else y)
if_calm true f g = f
if_calm false f g = g

pub if_goes : {past x y : Past} (c : Bool) → Goes past x → Goes past y → Goes past (if c then x else y)
if_goes true f g = f
if_goes false f g = g

if_grows : {past x y : Past} (c : Bool) → Grows past x → Grows past y → Grows past (if c then x else y)
if_grows true f g = f
if_grows false f g = g

pub stays : (past : Past) → Goes past past
stays past = same past past refl (omega arith)

-- ## Entries

one_longer : (es : List Entry) (e : Entry) → length es < length (es ++ e ∷ [])
one_longer es e = let l : length (es ++ e ∷ []) ≡ length es + 1 = length-append es (e ∷ []) in omega arith

pub state_more : (es : List Entry) (e : Entry) → state_of (es ++ e ∷ []) ≡ state_after (state_of es) e
state_more es e = fold-append state_after Invalid es (e ∷ [])

-- an entry that is no State
calm_one : (e : Entry) (past : Past) → ((s : State) → state_after s e ≡ s) → Calm past (add e past)
calm_one e past h = let l = one_longer past.journal e in record { state = state_more past.journal e ∙ h (state_of past.journal); entries = omega arith }

grows_calm : {past now : Past} → Calm past now → length past.journal < length now.journal → Grows past now
grows_calm {past} {now} c l = let s = ap states_left c.state in record { states = omega arith; longer = l }

pub one : (e : Entry) (past : Past) → ((s : State) → state_after s e ≡ s) → Grows past (add e past)
one e past h = grows_calm (calm_one e past h) (one_longer past.journal e)

-- with another memory the entries are the same
with_memory : {past now : Past} (memory : Memory) → Grows past now → Grows past (record now { memory = memory })
with_memory memory g = record { states = g.states; longer = g.longer }

puts_fold : (numbers : List ℕ) (m : Content) (s : State) → fold state_after s (map (λ q. Put q m) numbers) ≡ s
puts_fold [] m s = refl
puts_fold (q ∷ more) m s = puts_fold more m s

puts : (numbers : List ℕ) (m : Content) (past : Past) → Calm past (put_each numbers m past)
puts numbers m past =
    let l = length-append past.journal (map (λ q. Put q m) numbers) in
    record { state = fold-append state_after Invalid past.journal (map (λ q. Put q m) numbers) ∙ puts_fold numbers m (state_of past.journal); entries = omega arith }

judges : (S : Setup) (past : Past) → Calm past (judge_system S past)
unfolding judge_system
judges S past = if_calm (is_state (system S past) (system_told past.journal)) (still past past refl) (calm_one (Judged (system S past)) past (λ s. refl))

announces_by : (S : Setup) (step : Option ℕ) (at : ℕ) (past : Past) → Calm past (announce_step S step at past)
announces_by S None at past = still past past refl
announces_by S (Some size) at past = puts (reached S past) (contents.NextStep at size) past

announces : (S : Setup) (at : ℕ) (past : Past) → Calm past (announce S at past)
announces S at past = announces_by S S.step at past

-- what stands behind the State
enters_calm : (S : Setup) (to : State) (until : ℕ) (past : Past) → Calm (add (Entered to) past) (enter_until S to until past)
unfolding enter_until
enters_calm S to until past =
    calmly (calmly (puts (told S past) (contents.Status to until) past') (judges S (put_each (told S past) (contents.Status to until) past'))) behind_it
  where
    past' : Past
    past' = add (Entered to) past

    entered : Past
    entered = enter_only S to until past

    behind_it : Calm entered (behind S to (is_first_run to past.journal) (told S past) entered)
    behind_it = if_calm (is_state Shutdown to) (puts (told S past) contents.Leave entered)
        (if_calm (is_first_run to past.journal) (announces S 0 entered) (still entered entered refl))

pub enters_state : (S : Setup) (to : State) (until : ℕ) (past : Past) → state_of (enter_until S to until past).journal ≡ to
enters_state S to until past = (enters_calm S to until past).state ∙ state_more past.journal (Entered to)

pub enters : (S : Setup) (to : State) (until : ℕ) (past : Past) → states_left to ≤ states_left (state_of past.journal) → Grows past (enter_until S to until past)
enters S to until past h =
    let s = ap states_left (enters_state S to until past) in let l = one_longer past.journal (Entered to) in let m = (enters_calm S to until past).entries in
    record { states = omega arith; longer = omega arith }

enters_if : (S : Setup) (to : State) (past : Past) → falls_to to → Goes past (enter_if S to past)
unfolding enter_if
enters_if S to past falls = on (has_edge (state_of past.journal) to) refl
  where
    on : (edge : Bool) → has_edge (state_of past.journal) to ≡ edge → Goes past (if edge then enter S to past else past)
    on true e = goes (enters S to 0 past (falls (state_of past.journal) e))
    on false e = stays past

-- ## Commands

-- behind the first Ask
accepts : (command : Command) (past : Past) → Grows past (accepted command past)
accepts command past = with_memory (with_pause None past).memory (one (Ask command Accepted) past (λ s. refl))

tells : (S : Setup) (command : Command) (past : Past) → Calm past (tell_abort S command past)
tells S command past = if_calm (is_command Abort command) (puts (reached S past) contents.Abort past) (still past past refl)

pub told_state : (S : Setup) (command : Command) (to : State) (past : Past) → state_of (asked S command (Some to) past).journal ≡ to
told_state S command to past =
    (tells S command (enter_until S to (until_of S command past) (accepted command past))).state
    ∙ enters_state S to (until_of S command past) (accepted command past)

asked_grows : (S : Setup) (command : Command) (to : Option State) (past : Past) →
    ((s : State) → to ≡ Some s → states_left s ≤ states_left (state_of past.journal)) → Grows past (asked S command to past)
asked_grows S command None past h = one (Ask command (Refused (state_of past.journal))) past (λ s. refl)
asked_grows S command (Some to) past h =
    record { states = omega (arith, state_is, h to refl); longer = omega (arith, (accepts command past).longer, behind_it.entries, (tells S command now).entries, one_longer (accepted command past).journal (Entered to)) }
  where
    now : Past
    now = enter_until S to (until_of S command past) (accepted command past)

    behind_it : Calm (add (Entered to) (accepted command past)) now
    behind_it = enters_calm S to (until_of S command past) (accepted command past)

    state_is : states_left (state_of (asked S command (Some to) past).journal) ≡ states_left to
    state_is = ap states_left (told_state S command to past)

pub asks_grow : (S : Setup) (command : Command) (past : Past) → Grows past (ask S command past)
unfolding ask
asks_grow S command past = asked_grows S command (led_to (state_of past.journal) command) past (λ s e. led_falls (state_of past.journal) command s e)

pauses : (S : Setup) (count : ℕ) (past : Past) → Grows past (pause_for S count past)
unfolding pause_for
pauses S count past =
    if_grows (is_state Running (state_of past.journal))
    (with_memory (with_pause (Some (max count 1)) (ask S Pause past)).memory (asks_grow S Pause past)) (asks_grow S Pause past)

-- ## Actions

puts_some : (to : List ℕ) (o : Option Content) (past : Past) → Calm past (put_some to o past)
puts_some to None past = still past past refl
puts_some to (Some m) past = puts to m past

does : (s : ℕ) (o : Outcome) (past : Past) → Grows past (did s o past)
does s o past =
    let first = one_longer past.journal (Did s o.code o.message) in
    let state : state_of (did s o past).journal ≡ state_of past.journal = (puts_some o.to o.message _).state ∙ state_more past.journal (Did s o.code o.message) in
    let rest = (puts_some o.to o.message (record { journal = past.journal ++ Did s o.code o.message ∷ []; memory = past.memory })).entries in
    let r = ap states_left state in
    record { states = omega arith; longer = on o.message }
  where
    on : (m : Option Content) → length past.journal < length (did s (record o { message = m }) past).journal
    on None = one_longer past.journal (Did s o.code None)
    on (Some m) =
        let l = one_longer past.journal (Did s o.code (Some m)) in
        let k = length-append (past.journal ++ Did s o.code (Some m) ∷ []) (map (λ q. Put q m) o.to) in omega arith

answers_one : (S : Setup) (past : Past) (a : Action) → Grows past (answer S past a)
unfolding answer
answers_one S past (actions.Ask command) = asks_grow S command past
answers_one S past (actions.PauseFor count) = pauses S count past
answers_one S past (actions.CanBaud s rate) = does s (outcome S past (actions.CanBaud s rate)) past
answers_one S past (actions.CanStart s) = does s (outcome S past (actions.CanStart s)) past
answers_one S past (actions.CanStop s) = does s (outcome S past (actions.CanStop s)) past
answers_one S past (actions.CanReset s) = does s (outcome S past (actions.CanReset s)) past
answers_one S past (actions.CanSleep s) = does s (outcome S past (actions.CanSleep s)) past
answers_one S past (actions.CanSend s frame) = does s (outcome S past (actions.CanSend s frame)) past
answers_one S past (actions.EthActivate s) = does s (outcome S past (actions.EthActivate s)) past
answers_one S past (actions.EthDeactivate s) = does s (outcome S past (actions.EthDeactivate s)) past
answers_one S past (actions.EthSend s frame) = does s (outcome S past (actions.EthSend s frame)) past
answers_one S past (actions.LinInit s role) = does s (outcome S past (actions.LinInit s role)) past
answers_one S past (actions.LinSetResponse s response) = does s (outcome S past (actions.LinSetResponse s response)) past
answers_one S past (actions.LinHeader s id) = does s (outcome S past (actions.LinHeader s id)) past
answers_one S past (actions.LinSendFrame s response) = does s (outcome S past (actions.LinSendFrame s response)) past
answers_one S past (actions.LinSleep s) = does s (outcome S past (actions.LinSleep s)) past
answers_one S past (actions.LinWakeup s) = does s (outcome S past (actions.LinWakeup s)) past
answers_one S past (actions.Publish s payload) = does s (outcome S past (actions.Publish s payload)) past
answers_one S past (actions.Call s payload) = does s (outcome S past (actions.Call s payload)) past
answers_one S past (actions.Submit s peer client call payload) = does s (outcome S past (actions.Submit s peer client call payload)) past

answers_all : (S : Setup) (more : List Action) (past : Past) → Goes past (answers S more past)
answers_all S [] past = stays past
answers_all S (a ∷ more) past = both (goes (answers_one S past a)) (answers_all S more (answer S past a))

pub fails : (S : Setup) (number : ℕ) (past : Past) → Grows past (fault S number past)
fails S number past = then_goes (one (Fault number) past (λ s. refl)) (enters_if S Error (add (Fault number) past) to_error)

-- ## Callbacks

-- less is left once the ready handler was called
less_ready : (memory : Memory) → unwritten_left (record memory { called = true; ready_awaited = true }) ≤ unwritten_left memory
less_ready memory = on memory.called
  where
    on : (b : Bool) → 0 + min (unwrap_or memory.pause 0) (2 ^ 32 - 1) ≤ (if b then 0 else 2 ^ 32) + min (unwrap_or memory.pause 0) (2 ^ 32 - 1)
    on true = omega arith
    on false = omega arith

pub shows : (call : Call) (past : Past) → Goes past (called call past)
shows calls.Ready past = same past (called calls.Ready past) refl (less_ready past.memory)
shows (calls.Step number at) past = goes (one (Begin number at) past (λ s. refl))
shows (calls.Message p place r m) past = goes (with_memory (called (calls.Message p place r m) past).memory (one (Hand p place r) past (λ s. refl)))

goes_over : (S : Setup) (over : Bool) (past : Past) → Goes past (over_after S over past)
goes_over S over past = if_goes over (goes (fails S 2 past)) (stays past)

answers_call : (S : Setup) (more : List Action) (over : Bool) (past : Past) → Goes past (answered S more over past)
answers_call S more over past = both (answers_all S more past) (goes_over S over (answers S more past))

-- what stands behind the entry that shows the call
pub behind_call : (S : Setup) (past : Past) (made : Made) → Goes (called made.call past) (callback S past made)
unfolding callback
behind_call S past made = answers_call S made.actions made.over (called made.call past)

calls_back : (S : Setup) (past : Past) (made : Made) → Goes past (callback S past made)
calls_back S past made = both (shows made.call past) (behind_call S past made)

calls_all : (S : Setup) (made : List Made) (past : Past) → Goes past (callbacks S made past)
calls_all S [] past = stays past
calls_all S (first ∷ more) past = both (calls_back S past first) (calls_all S more (callback S past first))

-- ## Steps

calm_goes : {past now : Past} → Calm past now → unwritten_left now.memory ≤ unwritten_left past.memory → Goes past now
calm_goes {past} {now} c u = let s = ap states_left c.state in let e = c.entries in record { states = omega arith; entries = e; weight = omega arith }

ends_open : (S : Setup) (step : Option Begun) (past : Past) → Goes past (end_open S step past)
ends_open S None past = stays past
ends_open S (Some step) past = on S.step
  where
    past' : Past
    past' = add (End step.number) past

    on : (size : Option ℕ) → Goes past (announce_step S size (step.time + unwrap_or S.step 0) past')
    on None = goes (one (End step.number) past (λ s. refl))
    on (Some size) = both (goes (one (End step.number) past (λ s. refl)))
        (calm_goes (puts (reached S past') (contents.NextStep (step.time + unwrap_or S.step 0) size) past') (omega arith))

ends : (S : Setup) (past : Past) → Goes past (end_step S past)
unfolding end_step
ends S past = ends_open S (open_step past.journal) past

ends_blocking : (S : Setup) (past : Past) → Goes past (end_blocking S past)
ends_blocking S past = if_goes (not S.is_async && may_end (state_of past.journal)) (ends S past) (stays past)

pub behind_step : (S : Setup) (made : Made) (past : Past) → Goes (called made.call past) (take_step S made past)
unfolding take_step
behind_step S made past = both (behind_call S past made) (ends_blocking S (callback S past made))

pub completes_one : (S : Setup) (n : ℕ) (past : Past) → Grows past (complete S n past)
unfolding complete
completes_one S n past =
    if_grows (completes_ready n past) (one (Done n) past (λ s. refl))
    (if_grows (completes_step S n past) (then_goes (one (Done n) past (λ s. refl)) (ends S (add (Done n) past))) (one (Stray n) past (λ s. refl)))

-- ## Links

pub loses_one : (S : Setup) (p reason : ℕ) (past : Past) → Grows past (lose S p reason past)
unfolding lose
loses_one S p reason past =
    if_grows (is_peer S p) (then_goes (one (Gone p reason) past (λ s. refl)) (enters_if S Error (add (Gone p reason) past) to_error)) (one (Gone p reason) past (λ s. refl))

system_goes : (S : Setup) (past : Past) → Goes past (judge_system S past)
unfolding judge_system
system_goes S past = if_goes (is_state (system S past) (system_told past.journal)) (stays past) (goes (one (Judged (system S past)) past (λ s. refl)))

heeds : (S : Setup) (p : ℕ) (m : Content) (made : List Made) (past : Past) → Goes past (heed S p m made past)
unfolding heed
heeds S p (contents.Status state until) made past = system_goes S past
heeds S p (contents.Workflow required) made past = system_goes S past
heeds S p contents.Abort made past = enters_if S Aborting past to_aborting
heeds S p (contents.LinResponse head response) made past = same past _ refl (omega arith)
heeds S p (contents.Hello name role address) made past = calls_all S made past
heeds S p contents.Leave made past = calls_all S made past
heeds S p (contents.NextStep at size) made past = calls_all S made past
heeds S p (contents.ServiceAdd service) made past = calls_all S made past
heeds S p contents.ServicesEnd made past = calls_all S made past
heeds S p (contents.Can head frame) made past = calls_all S made past
heeds S p (contents.Eth head payload) made past = calls_all S made past
heeds S p (contents.Lin head frame) made past = calls_all S made past
heeds S p (contents.Publish head payload) made past = calls_all S made past
heeds S p (contents.Call head call payload) made past = calls_all S made past
heeds S p (contents.Reply head client call payload) made past = calls_all S made past
heeds S p (contents.Refuse reason) made past = calls_all S made past

pub gets_one : (S : Setup) (p : ℕ) (m : Content) (made : List Made) (past : Past) → Grows past (get S p m made past)
unfolding get
gets_one S p m made past =
    let first = one (Got p m) past (λ s. refl) in
    if_grows (comes_in_order S past p m) (then_goes first (heeds S p m made (add (Got p m) past)))
    (then_goes first (goes (loses_one S p 8 (add (Got p m) past))))

pub adds_tool : (S : Setup) (name : List ℕ) (past : Past) → Goes past (add_tool S name past)
unfolding add_tool
adds_tool S name past =
    let first : Goes past (with_tool name past) = same past (with_tool name past) refl (omega arith) in
    if_goes (is_state Shutdown (state_of past.journal)) first
    (both first (goes (then_goes (one _ _ (λ s. refl)) (goes (then_goes (one _ _ (λ s. refl)) (goes (one _ _ (λ s. refl))))))))
