-- A lawful journal shows the calls of the app: each block shows those that are made in it.
use Rattle.std.specs.Prelude.{◌≡◌, refl, ℕ, ◌+◌, ◌-◌, nat_le, max, Bool, true, false, not, ◌&&◌, ◌||◌, List, [], ◌∷◌, ◌++◌, map, length, drop, get_or, Option, Some, None, option_map, unwrap_or, if◌then◌else◌}
use Rattle.std.specs.Bool.{then_some}
use Rattle.std.specs.Option.{option_or}
use Rattle.std.specs.List.{flat_map, list_all}
use Rattle.std.proofs.Common.{ap, sym, ◌∙◌, subst}
use Rattle.std.proofs.lemmas.Bool.{and_parts, and_from}
use Rattle.std.proofs.lemmas.List.{append_assoc}
use Rattle.std.proofs.lemmas.List.Folds.{list_all-append}
use Rattle.sk_msg.specs.declared.action.Action.{Action}
use Rattle.sk_msg.specs.declared.action.Action.TheVariants as actions
use Rattle.sk_msg.specs.declared.command.Command.{Command}
use Rattle.sk_msg.specs.declared.command.Command.TheVariants.{Pause, Continue, Stop, ReportError, Abort}
use Rattle.sk_msg.specs.declared.command.Verdict.TheVariants.{Accepted, Refused}
use Rattle.sk_msg.specs.declared.content.Content.{Content}
use Rattle.sk_msg.specs.declared.content.Content.TheVariants as contents
use Rattle.sk_msg.specs.declared.entry.Entry.{Entry}
use Rattle.sk_msg.specs.declared.entry.Entry.TheVariants.{Got, Put, State as Entered, System as Judged, Done, End, Ask, Gone, Stray, Did, Fault}
use Rattle.sk_msg.specs.declared.state.State.{State}
use Rattle.sk_msg.specs.declared.state.State.TheVariants as states
use Rattle.sk_msg.specs.Edges.{has_edge, led_to, is_command}
use Rattle.sk_msg.specs.States.{is_state}
use Rattle.sk_law.specs.declared.made.Call.{Call}
use Rattle.sk_law.specs.declared.made.Call.TheVariants as calls
use Rattle.sk_law.specs.declared.made.Made.{Made}
use Rattle.sk_law.specs.declared.memory.Begun.{Begun}
use Rattle.sk_law.specs.declared.memory.ServiceState.{ServiceState}
use Rattle.sk_law.specs.declared.setup.Setup.{Setup}
use Rattle.sk_law.specs.Past.{Past, add, put_each}
use Rattle.sk_law.specs.Readings.{state_of, system_told, got, open_step, payload}
use Rattle.sk_law.specs.Told.{message_at}
use Rattle.sk_law.specs.Links.{reached, told, peers, system, is_peer, comes_in_order, own_name}
use Rattle.sk_law.specs.Outcomes.{Outcome, outcome, named}
use Rattle.sk_law.specs.Receivers.{changed, receivers, handed_to, is_over, with_services}
use Rattle.sk_law.specs.Rows.{Row, Move, Ready, Step, Count, GiveUp, row, row_in}
use Rattle.sk_law.specs.Blocks.{judge_system, announce_step, announce, enter_only, is_first_run, behind, enter_until, enter_if, until_of, accepted, tell_abort, asked, ask, with_pause, pause_for, count_down, put_some, did, answer, answers, fault, called, over_after, callback, callbacks, end_open, end_step, may_end, take_step, completes_ready, completes_step, with_completed, complete, lose, heed, get, hello, introduction, making, tool_number, with_tool, greet, add_tool, judge_limits}
use Rattle.sk_law.specs.Lawful.{Lawful, starts, goes_on, Happens, gets, loses, completes, asks, adds, moves, readies, begins, counts, gives_up, note_asked, AreCalls}
use Rattle.sk_sim.proofs.Showing.{is_plain, is_behind_ready, may_enter, Shows, shows_nothing, shows_plain, shows_state, shows_ready, shows_step, shows_message, Since, Shown, with_calls, from_here, since_start, same_calls, no_more, plain_entries, state_more, messages_stay, got_last}

-- ## Tests

is_not : (b : Bool) → not b ≡ true → b ≡ false
is_not true e = absurd (cc)
is_not false e = refl

either : {s : Since} (b : Bool) (x y : Past) → Shown s x → Shown s y → Shown s (if b then x else y)
either true x y h i = h
either false x y h i = i

-- ## Entries

adding : {s : Since} (e : Entry) (past : Past) → is_plain e ≡ true → Shown s past → Shown s (add e past)
adding e past plain h = record { shows = shows_plain _ _ _ e plain h.shows }

plain_puts : (numbers : List ℕ) (m : Content) → list_all is_plain (map (λ q. Put q m) numbers) ≡ true
plain_puts [] m = refl
plain_puts (q ∷ numbers) m = plain_puts numbers m

putting : {s : Since} (numbers : List ℕ) (m : Content) (past : Past) → Shown s past → Shown s (put_each numbers m past)
putting numbers m past h = record { shows = plain_entries _ _ _ (map (λ q. Put q m) numbers) (plain_puts numbers m) h.shows }

-- ## States and commands

judging : {s : Since} (S : Setup) (past : Past) → Shown s past → Shown s (judge_system S past)
unfolding judge_system
judging S past h =
    either (is_state (system S past) (system_told past.journal)) past (add (Judged (system S past)) past) h (adding (Judged (system S past)) past refl h)

announcing : {s : Since} (S : Setup) (size : Option ℕ) (at : ℕ) (past : Past) → Shown s past → Shown s (announce_step S size at past)
announcing S None at past h = h
announcing S (Some size) at past h = putting (reached S past) (contents.NextStep at size) past h

going_behind : {s : Since} (S : Setup) (to : State) (is_first : Bool) (numbers : List ℕ) (past : Past) → Shown s past
    → Shown s (behind S to is_first numbers past)
going_behind S to is_first numbers past h =
    either (is_state states.Shutdown to) (put_each numbers contents.Leave past) (if is_first then announce S 0 past else past)
    (putting numbers contents.Leave past h)
    (either is_first (announce S 0 past) past (announcing S S.step 0 past h) h)

entering : {s : Since} (S : Setup) (to : State) (until : ℕ) (past : Past)
    → may_enter to (state_of past.journal) past.memory.called ≡ true → Shown s past → Shown s (enter_until S to until past)
unfolding enter_until
entering {s} S to until past may h =
    let entered : Shown s (add (Entered to) past) = record { shows = shows_state _ _ _ to may h.shows } in
    going_behind S to (is_first_run to past.journal) (told S past) (enter_only S to until past)
    (judging S (put_each (told S past) (contents.Status to until) (add (Entered to) past))
    (putting (told S past) (contents.Status to until) (add (Entered to) past) entered))

-- Error and Aborting are entered from everywhere
entering_where : {s : Since} (S : Setup) (to : State) (past : Past) → is_behind_ready to ≡ false → Shown s past → Shown s (enter_if S to past)
unfolding enter_if
entering_where S to past free h =
    either (has_edge (state_of past.journal) to) (enter_until S to 0 past) past
    (entering S to 0 past (ap (λ b. not b || (is_behind_ready (state_of past.journal) || past.memory.called)) free) h) h

telling : {s : Since} (S : Setup) (command : Command) (past : Past) → Shown s past → Shown s (tell_abort S command past)
telling S command past h =
    either (is_command Abort command) (put_each (reached S past) contents.Abort past) past (putting (reached S past) contents.Abort past h) h

-- the same with a pause count
pausing : {s : Since} (count : Option ℕ) (past : Past) → Shown s past → Shown s (with_pause count past)
pausing count past h = record { shows = h.shows }

-- a command leads behind the ready handler only from behind it
abbrev leads_on : Option State → State → Bool
leads_on None from = true
leads_on (Some to) from = not (is_behind_ready to) || is_behind_ready from

abbrev all_commands : List Command
all_commands = Pause ∷ Continue ∷ Stop ∷ ReportError ∷ Abort ∷ []

each_command : (test : Command → Bool) → list_all test all_commands ≡ true → (command : Command) → test command ≡ true
each_command test all command = at command
  where
    from_pause : (test Pause ≡ true) × (list_all test (Continue ∷ Stop ∷ ReportError ∷ Abort ∷ []) ≡ true)
    from_pause = and_parts (test Pause) (list_all test (Continue ∷ Stop ∷ ReportError ∷ Abort ∷ [])) all

    from_continue : (test Continue ≡ true) × (list_all test (Stop ∷ ReportError ∷ Abort ∷ []) ≡ true)
    from_continue = and_parts (test Continue) (list_all test (Stop ∷ ReportError ∷ Abort ∷ [])) from_pause.1

    from_stop : (test Stop ≡ true) × (list_all test (ReportError ∷ Abort ∷ []) ≡ true)
    from_stop = and_parts (test Stop) (list_all test (ReportError ∷ Abort ∷ [])) from_continue.1

    from_report : (test ReportError ≡ true) × (list_all test (Abort ∷ []) ≡ true)
    from_report = and_parts (test ReportError) (list_all test (Abort ∷ [])) from_stop.1

    at : (command : Command) → test command ≡ true
    at Pause = from_pause.0
    at Continue = from_continue.0
    at Stop = from_stop.0
    at ReportError = from_report.0
    at Abort = (and_parts (test Abort) true from_report.1).0

command_leads : (from : State) (command : Command) → leads_on (led_to from command) from ≡ true
unfolding led_to is_state
command_leads states.Invalid command = each_command (λ c. leads_on (led_to states.Invalid c) states.Invalid) refl command
command_leads states.ServicesCreated command = each_command (λ c. leads_on (led_to states.ServicesCreated c) states.ServicesCreated) refl command
command_leads states.CommunicationInitializing command =
    each_command (λ c. leads_on (led_to states.CommunicationInitializing c) states.CommunicationInitializing) refl command
command_leads states.CommunicationInitialized command =
    each_command (λ c. leads_on (led_to states.CommunicationInitialized c) states.CommunicationInitialized) refl command
command_leads states.ReadyToRun command = each_command (λ c. leads_on (led_to states.ReadyToRun c) states.ReadyToRun) refl command
command_leads states.Running command = each_command (λ c. leads_on (led_to states.Running c) states.Running) refl command
command_leads states.Paused command = each_command (λ c. leads_on (led_to states.Paused c) states.Paused) refl command
command_leads states.Stopping command = each_command (λ c. leads_on (led_to states.Stopping c) states.Stopping) refl command
command_leads states.Stopped command = each_command (λ c. leads_on (led_to states.Stopped c) states.Stopped) refl command
command_leads states.Error command = each_command (λ c. leads_on (led_to states.Error c) states.Error) refl command
command_leads states.ShuttingDown command = each_command (λ c. leads_on (led_to states.ShuttingDown c) states.ShuttingDown) refl command
command_leads states.Shutdown command = each_command (λ c. leads_on (led_to states.Shutdown c) states.Shutdown) refl command
command_leads states.Aborting command = each_command (λ c. leads_on (led_to states.Aborting c) states.Aborting) refl command

or_more : (a b c : Bool) → (a || b) ≡ true → (a || (b || c)) ≡ true
or_more true b c e = refl
or_more false true c e = refl
or_more false false c e = absurd (cc)

obeying : {s : Since} (S : Setup) (command : Command) (to : Option State) (past : Past) → leads_on to (state_of past.journal) ≡ true
    → Shown s past → Shown s (asked S command to past)
obeying S command None past leads h = adding (Ask command (Refused (state_of past.journal))) past refl h
obeying S command (Some to) past leads h =
    let same : state_of (accepted command past).journal ≡ state_of past.journal = state_more past.journal (Ask command Accepted) in
    let may : may_enter to (state_of (accepted command past).journal) past.memory.called ≡ true =
    ap (λ from. may_enter to from past.memory.called) same
    ∙ or_more (not (is_behind_ready to)) (is_behind_ready (state_of past.journal)) past.memory.called leads in
    telling S command (enter_until S to (until_of S command past) (accepted command past))
    (entering S to (until_of S command past) (accepted command past) may
    (adding (Ask command Accepted) (with_pause None past) refl (pausing None past h)))

asking : {s : Since} (S : Setup) (command : Command) (past : Past) → Shown s past → Shown s (ask S command past)
unfolding ask
asking S command past h = obeying S command (led_to (state_of past.journal) command) past (command_leads (state_of past.journal) command) h

pausing_for : {s : Since} (S : Setup) (count : ℕ) (past : Past) → Shown s past → Shown s (pause_for S count past)
unfolding pause_for
pausing_for S count past h =
    either (is_state states.Running (state_of past.journal)) (with_pause (Some (max count 1)) (ask S Pause past)) (ask S Pause past)
    (pausing (Some (max count 1)) (ask S Pause past) (asking S Pause past h)) (asking S Pause past h)

counting : {s : Since} (S : Setup) (count : ℕ) (past : Past) → Shown s past → Shown s (count_down S count past)
unfolding count_down
counting S count past h =
    either (nat_le count 1) (ask S Continue past) (with_pause (Some (count - 1)) past)
    (asking S Continue past h) (pausing (Some (count - 1)) past h)

-- ## Actions

serving : {s : Since} (services : List ServiceState) (past : Past) → Shown s past → Shown s (with_services services past)
serving services past h = record { shows = h.shows }

some_put : {s : Since} (to : List ℕ) (o : Option Content) (past : Past) → Shown s past → Shown s (put_some to o past)
some_put to None past h = h
some_put to (Some m) past h = putting to m past h

doing : {s : Since} (n : ℕ) (o : Outcome) (past : Past) → Shown s past → Shown s (did n o past)
doing n o past h =
    let services = changed (λ at. o.state) n past.memory.services in
    some_put o.to o.message (add (Did n o.code o.message) (with_services services past))
    (adding (Did n o.code o.message) (with_services services past) refl (serving services past h))

answering : {s : Since} (S : Setup) (past : Past) (one : Action) → Shown s past → Shown s (answer S past one)
unfolding answer
answering S past (actions.Ask command) h = asking S command past h
answering S past (actions.PauseFor count) h = pausing_for S count past h
answering S past one h = doing (named one) (outcome S past one) past h

faulting : {s : Since} (S : Setup) (number : ℕ) (past : Past) → Shown s past → Shown s (fault S number past)
faulting S number past h = entering_where S states.Error (add (Fault number) past) refl (adding (Fault number) past refl h)

exceeding : {s : Since} (S : Setup) (over : Bool) (past : Past) → Shown s past → Shown s (over_after S over past)
exceeding S over past h = either over (fault S 2 past) past (faulting S 2 past h) h

all_answered : {s : Since} (S : Setup) (more : List Action) (past : Past) → Shown s past → Shown s (answers S more past)
all_answered S [] past h = h
all_answered S (one ∷ more) past h = all_answered S more (answer S past one) (answering S past one h)

-- ## Callbacks

-- the ready handler is called once, a step begins behind that, and a message that is handed was got
abbrev MayCall : Call → Past → Type 0
MayCall calls.Ready past = past.memory.called ≡ false
MayCall (calls.Step n t) past = is_behind_ready (state_of past.journal) ≡ true
MayCall (calls.Message p place r m) past = message_at past.journal p place ≡ Some m

calling : {s : Since} (one : Made) (call : Call) (past : Past) → one.call ≡ call → MayCall call past → Shown s past
    → Shown (with_calls (one ∷ []) s) (called call past)
calling {s} one calls.Ready past is may h =
    record { shows = shows_ready s.made past.journal one is (subst (λ c. Shows s.entries s.was s.made c past.journal) may h.shows) }
calling {s} one (calls.Step n t) past is may h =
    record { shows = shows_step s.made past.memory.called past.journal one n t is may h.shows }
calling {s} one (calls.Message p place r m) past is may h =
    record { shows = shows_message s.made past.memory.called past.journal one p place r m is may h.shows }

calling_back : {s : Since} (S : Setup) (one : Made) (past : Past) → MayCall one.call past → Shown s past
    → Shown (with_calls (one ∷ []) s) (callback S past one)
unfolding callback
calling_back S one past may h =
    exceeding S one.over (answers S one.actions (called one.call past))
    (all_answered S one.actions (called one.call past) (calling one one.call past refl may h))

-- one message is handed to these
abbrev AreHanded : ℕ → ℕ → Content → List ℕ → List Made → Type 0
AreHanded p place m rs made = map (λ (one : Made). one.call) made ≡ map (λ r. calls.Message p place r m) rs

-- the calls with it
all_called : {s : Since} (S : Setup) (p place : ℕ) (m : Content) (rs : List ℕ) (made : List Made) (past : Past) → AreHanded p place m rs made
    → message_at past.journal p place ≡ Some m → Shown s past → Shown (with_calls made s) (callbacks S made past)
all_called S p place m rs [] past e at h = no_more [] past refl h
all_called S p place m [] (one ∷ made) past e at h = absurd (cc)
all_called {s} S p place m (r ∷ rs) (one ∷ made) past e at h =
    let first : one.call ≡ calls.Message p place r m = ap (λ l. get_or l 0 one.call) e in
    let rest : AreHanded p place m rs made = ap (drop 1) e in
    let may : MayCall one.call past = subst (λ call. MayCall call past) (sym first) at in
    let here : Shown (from_here past) past = record { shows = shows_nothing } in
    let still : message_at (callback S past one).journal p place ≡ Some m =
    messages_stay p place m (calling_back S one past may here).shows at in
    same_calls (s.made ++ one ∷ made) (callbacks S made (callback S past one)) (append_assoc s.made (one ∷ []) made)
    (all_called S p place m rs made (callback S past one) rest still (calling_back S one past may h))

-- ## Steps

ending_open : {s : Since} (S : Setup) (step : Option Begun) (past : Past) → Shown s past → Shown s (end_open S step past)
ending_open S None past h = h
ending_open S (Some step) past h =
    announcing S S.step (step.time + unwrap_or S.step 0) (add (End step.number) past) (adding (End step.number) past refl h)

ending : {s : Since} (S : Setup) (past : Past) → Shown s past → Shown s (end_step S past)
unfolding end_step
ending S past h = ending_open S (open_step past.journal) past h

stepping : {s : Since} (S : Setup) (one : Made) (past : Past) → MayCall one.call past → Shown s past
    → Shown (with_calls (one ∷ []) s) (take_step S one past)
unfolding take_step
stepping S one past may h =
    let now = callback S past one in let back = calling_back S one past may h in
    either (not S.is_async && may_end (state_of now.journal)) (end_step S now) now (ending S now back) back

-- ## Links

losing : {s : Since} (S : Setup) (p reason : ℕ) (past : Past) → Shown s past → Shown s (lose S p reason past)
unfolding lose
losing S p reason past h =
    let gone = adding (Gone p reason) past refl h in
    either (is_peer S p) (enter_if S states.Error (add (Gone p reason) past)) (add (Gone p reason) past)
    (entering_where S states.Error (add (Gone p reason) past) refl gone) gone

-- the app is called with it where it comes in order
abbrev is_handed : Content → Bool
is_handed (contents.Status state until) = false
is_handed (contents.Workflow required) = false
is_handed contents.Abort = false
is_handed (contents.LinResponse head response) = false
is_handed m = true

-- any other one is handed to nobody
handed_nowhere : (S : Setup) (past : Past) (p : ℕ) (m : Content) → is_handed m ≡ false → handed_to S past p m ≡ []
handed_nowhere S past p (contents.Status state until) e = refl
handed_nowhere S past p (contents.Workflow required) e = refl
handed_nowhere S past p contents.Abort e = refl
handed_nowhere S past p (contents.LinResponse head response) e = refl
handed_nowhere S past p m e = absurd (cc)

either_none : (b : Bool) (rs : List ℕ) → rs ≡ [] → (if b then [] else rs) ≡ []
either_none true rs e = refl
either_none false rs e = e

unhanded : (S : Setup) (past : Past) (p : ℕ) (m : Content) → is_handed m ≡ false → receivers S past p m ≡ []
unfolding receivers
unhanded S past p m e =
    either_none (is_over (state_of past.journal) || not (comes_in_order S past p m)) (handed_to S past p m) (handed_nowhere S past p m e)

-- nor one that doesn't come in order
unordered : (S : Setup) (past : Past) (p : ℕ) (m : Content) → comes_in_order S past p m ≡ false → receivers S past p m ≡ []
unfolding receivers
unordered S past p m e =
    ap (λ b. if is_over (state_of past.journal) || not b then [] else handed_to S past p m) e ∙ closed (is_over (state_of past.journal)) (handed_to S past p m)
  where
    closed : (a : Bool) (rs : List ℕ) → (if a || true then [] else rs) ≡ []
    closed true rs = refl
    closed false rs = refl

-- where nobody receives it the app isn't called
uncalled : (p place : ℕ) (m : Content) (rs : List ℕ) (made : List Made) → AreHanded p place m rs made → rs ≡ [] → made ≡ []
uncalled p place m rs [] e none = refl
uncalled p place m [] (one ∷ made) e none = absurd (cc)
uncalled p place m (r ∷ rs) (one ∷ made) e none = absurd (cc)

heeding : {s : Since} (S : Setup) (p place : ℕ) (m : Content) (rs : List ℕ) (made : List Made) (past : Past) → AreHanded p place m rs made
    → (is_handed m ≡ false → made ≡ []) → message_at past.journal p place ≡ Some m → Shown s past → Shown (with_calls made s) (heed S p m made past)
unfolding heed
heeding S p place (contents.Status state until) rs made past calls none at h =
    no_more made (judge_system S past) (none refl) (judging S past h)
heeding S p place (contents.Workflow required) rs made past calls none at h =
    no_more made (judge_system S past) (none refl) (judging S past h)
heeding S p place contents.Abort rs made past calls none at h =
    no_more made (enter_if S states.Aborting past) (none refl) (entering_where S states.Aborting past refl h)
heeding S p place (contents.LinResponse head response) rs made past calls none at h = no_more made _ (none refl) (serving _ past h)
heeding S p place m rs made past calls none at h = all_called S p place m rs made past calls at h

getting : {s : Since} (S : Setup) (p : ℕ) (m : Content) (made : List Made) (past : Past) → AreCalls S past p m made → Shown s past
    → Shown (with_calls made s) (get S p m made past)
unfolding get
getting {s} S p m made past are h = by (comes_in_order S past p m) refl
  where
    place : ℕ
    place = length (got past.journal p) + 1

    now : Past
    now = add (Got p m) past

    noted : Shown s now
    noted = adding (Got p m) past refl h

    by : (b : Bool) → comes_in_order S past p m ≡ b → Shown (with_calls made s) (if b then heed S p m made now else lose S p 8 now)
    by true e =
        heeding S p place m (receivers S past p m) made now are
        (λ none. uncalled p place m (receivers S past p m) made are (unhanded S past p m none)) (got_last past.journal p m) noted
    by false e =
        no_more made (lose S p 8 now) (uncalled p place m (receivers S past p m) made are (unordered S past p m e)) (losing S p 8 now noted)

-- ## Completions, tools and limits

completing : {s : Since} (S : Setup) (number : ℕ) (past : Past) → Shown s past → Shown s (complete S number past)
unfolding complete
completing S number past h =
    let done = adding (Done number) past refl h in
    either (completes_ready number past) (add (Done number) past) _ done
    (either (completes_step S number past) (end_step S (add (Done number) past)) (add (Stray number) past)
    (ending S (add (Done number) past) done) (adding (Stray number) past refl h))

adding_tool : {s : Since} (S : Setup) (name : List ℕ) (past : Past) → Shown s past → Shown s (add_tool S name past)
unfolding add_tool
adding_tool {s} S name past h =
    let t = tool_number S past in
    let named : Shown s (with_tool name past) = record { shows = h.shows } in
    either (is_state states.Shutdown (state_of past.journal)) (with_tool name past) (greet S t (with_tool name past)) named
    (adding (Put t (contents.Status (state_of past.journal) 0)) _ refl
    (adding (Put t contents.ServicesEnd) _ refl
    (adding (Put t (hello S (own_name S))) (with_tool name past) refl named)))

limiting : {s : Since} (S : Setup) (past : Past) → Shown s past → Shown s (judge_limits S past)
unfolding judge_limits
limiting S past h =
    either (not (has_edge (state_of past.journal) states.Error)) past _ h
    (either (nat_le 500000 (length past.journal)) (fault S 3 past) _ (faulting S 3 past h)
    (either (nat_le 33554432 (payload past.journal)) (fault S 4 past) past (faulting S 4 past h) h))

-- ## Rows

-- what a row may do from this state, where the ready handler was called or not
abbrev fits : State → Bool → Option Row → Bool
fits from called None = true
fits from called (Some (Move to)) = may_enter to from called
fits from called (Some Ready) = not called
fits from called (Some Step) = is_behind_ready from
fits from called (Some (Count count)) = true
fits from called (Some GiveUp) = true

where_so : (from : State) (called b : Bool) (one : Row) → fits from called (Some one) ≡ true → fits from called (then_some b one) ≡ true
where_so from called true one h = h
where_so from called false one h = refl

row_fits : (S : Setup) (past : Past) (state : State) → fits state past.memory.called (row_in S past state) ≡ true
row_fits S past states.Invalid = refl
row_fits S past states.ServicesCreated = where_so states.ServicesCreated past.memory.called _ (Move states.CommunicationInitializing) refl
row_fits S past states.CommunicationInitializing =
    where_so states.CommunicationInitializing past.memory.called _ (Move states.CommunicationInitialized) refl
row_fits S past states.CommunicationInitialized = by past.memory.called _
  where
    by : (c b : Bool) → fits states.CommunicationInitialized c (if not c then Some Ready else then_some b (Move states.ReadyToRun)) ≡ true
    by false b = refl
    by true true = refl
    by true false = refl
row_fits S past states.ReadyToRun = where_so states.ReadyToRun past.memory.called _ (Move states.Running) refl
row_fits S past states.Running = by _ _
  where
    by : (a b : Bool) → fits states.Running past.memory.called (option_or (then_some a (Move states.Stopping)) (then_some b Step)) ≡ true
    by true b = refl
    by false true = refl
    by false false = refl
row_fits S past states.Paused = by past.memory.pause
  where
    by : (o : Option ℕ) → fits states.Paused past.memory.called (option_map (λ count. Count count) o) ≡ true
    by None = refl
    by (Some count) = refl
row_fits S past states.Stopping = where_so states.Stopping past.memory.called _ (Move states.Stopped) refl
row_fits S past states.Stopped = where_so states.Stopped past.memory.called _ (Move states.ShuttingDown) refl
row_fits S past states.Error = where_so states.Error past.memory.called _ GiveUp refl
row_fits S past states.ShuttingDown = refl
row_fits S past states.Shutdown = refl
row_fits S past states.Aborting = refl

row_is : (S : Setup) (past : Past) (one : Row) → row S past ≡ Some one → fits (state_of past.journal) past.memory.called (Some one) ≡ true
unfolding row
row_is S past one e = sym (ap (fits (state_of past.journal) past.memory.called) e) ∙ row_fits S past (state_of past.journal)

-- ## All that happens

happening : {s : Since} (S : Setup) (past : Past) (all : List Made) (now : Past) → Shown s past → Happens S past all now → Shown (with_calls all s) now
happening S past all now h (gets p m made linked are filled) = getting S p m made past are h
happening S past all now h (loses p reason linked loss) = no_more [] _ refl (losing S p reason past h)
happening S past all now h (completes number) =
    no_more [] _ refl (completing S number (with_completed number past) (record { shows = h.shows }))
happening S past all now h (asks command) = no_more [] _ refl (asking S command (note_asked past) (record { shows = h.shows }))
happening S past all now h (adds name few) = no_more [] _ refl (adding_tool S name past h)
happening S past all now h (moves to r) = no_more [] _ refl (entering S to 0 past (row_is S past (Move to) r) h)
happening S past all now h (readies one r is filled) =
    calling_back S one past (subst (λ call. MayCall call past) (sym is) (is_not past.memory.called (row_is S past Ready r))) h
happening S past all now h (begins one r is filled) =
    stepping S one past (subst (λ call. MayCall call past) (sym is) (row_is S past Step r)) h
happening S past all now h (counts count r) = no_more [] _ refl (counting S count past h)
happening S past all now h (gives_up r) = no_more [] _ refl (asking S Abort past h)

introduced : (ms : List Content) (ps : List ℕ) → list_all is_plain (flat_map (λ p. map (λ m. Put p m) ms) ps) ≡ true
introduced ms [] = refl
introduced ms (p ∷ ps) =
    list_all-append is_plain (map (λ m. Put p m) ms) (flat_map (λ q. map (λ m. Put q m) ms) ps)
    ∙ and_from (list_all is_plain (map (λ m. Put p m) ms)) (list_all is_plain (flat_map (λ q. map (λ m. Put q m) ms) ps))
    (to_one p ms) (introduced ms ps)
  where
    to_one : (q : ℕ) → (xs : List Content) → list_all is_plain (map (λ m. Put q m) xs) ≡ true
    to_one q [] = refl
    to_one q (m ∷ xs) = to_one q xs

starting : (S : Setup) → Shown (since_start []) (making S)
unfolding making
starting S =
    entering S states.ServicesCreated 0 _ refl
    (record {
      shows = plain_entries [] false [] (flat_map (λ p. map (λ m. Put p m) (introduction S)) (peers S)) (introduced (introduction S) (peers S)) shows_nothing;
    })

-- a lawful journal shows the calls of the app
pub lawful_shown : (S : Setup) (past : Past) (made : List Made) → Lawful S past made → Shown (since_start made) past
lawful_shown S past made starts = starting S
lawful_shown S past made (goes_on was now before more law happens) =
    limiting S now (happening S was more now (lawful_shown S was before law) happens)
