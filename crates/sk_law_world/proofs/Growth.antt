-- What each block adds: only entries behind those that stand, and of which kinds.
use Rattle.std.specs.Prelude.{◌≡◌, refl, ℕ, ◌+◌, ◌-◌, max, nat_le, Bool, true, false, not, ◌&&◌, List, [], ◌∷◌, ◌++◌, map, length, Option, Some, None, unwrap_or, if◌then◌else◌}
use Rattle.std.specs.List.{list_all, AllByRecursion}
use Rattle.std.proofs.lemmas.List.Folds.{list_all-append}
use Rattle.std.proofs.lemmas.Bool.{and_from}
use Rattle.std.proofs.Common.{ap, sym, ◌∙◌, append_assoc, append-nil}
use Rattle.sk_msg.specs.declared.command.Command.{Command}
use Rattle.sk_msg.specs.declared.command.Command.TheVariants.{Pause, Continue, Abort}
use Rattle.sk_msg.specs.declared.command.Verdict.{Verdict}
use Rattle.sk_msg.specs.declared.command.Verdict.TheVariants.{Accepted, Refused}
use Rattle.sk_msg.specs.declared.content.Content.{Content}
use Rattle.sk_msg.specs.declared.content.Content.TheVariants as contents
use Rattle.sk_msg.specs.declared.state.State.{State}
use Rattle.sk_msg.specs.declared.state.State.TheVariants.{Running, Error, Shutdown, Aborting}
use Rattle.sk_msg.specs.Edges.{has_edge, led_to, is_command}
use Rattle.sk_msg.specs.States.{is_state}
use Rattle.sk_msg.specs.declared.action.Action.{Action}
use Rattle.sk_msg.specs.declared.action.Action.TheVariants as actions
use Rattle.sk_msg.specs.declared.entry.Entry.{Entry}
use Rattle.sk_msg.specs.declared.entry.Entry.TheVariants.{Got, Put, Hand, State as Entered, System as Judged, Done, End, Ask, Gone, Stray, Did, Fault}
use Rattle.sk_law.specs.declared.made.Call.{Call}
use Rattle.sk_law.specs.declared.made.Call.TheVariants as calls
use Rattle.sk_law.specs.declared.made.Made.{Made}
use Rattle.sk_law.specs.declared.setup.Setup.{Setup}
use Rattle.sk_law.specs.declared.memory.Memory.{Memory}
use Rattle.sk_law.specs.Past.{Past, add, put_each}
use Rattle.sk_law.specs.declared.memory.Begun.{Begun}
use Rattle.sk_law.specs.Readings.{state_of, system_told, open_step, has_run, payload}
use Rattle.sk_law.specs.Links.{reached, told, system, is_peer, comes_in_order}
use Rattle.sk_law.specs.Receivers.{note}
use Rattle.sk_law.specs.Outcomes.{Outcome, outcome}
use Rattle.sk_law.specs.Blocks.{judge_system, announce, enter_only, enter_until, enter, enter_if, asked, ask, until_of, with_pause, pause_for, count_down, put_some, did, answer, answers, fault, called, callback, callbacks, may_end, end_open, end_step, end_blocking, completes_ready, completes_step, complete, lose, heed, get, tool_number, with_tool, greet, add_tool, judge_limits}
use Rattle.sk_law_world.proofs.BlocksBuilt.{IsMessage}

pub record Adds (kinds : Entry → Bool) (past now : Past) : Type 0 where
  pub new : List Entry
  pub is : now.journal ≡ past.journal ++ new
  pub all : list_all kinds new ≡ true
  -- and tools are only added
  pub tools : (more : List (List ℕ)) × (past.memory.tools ++ more ≡ now.memory.tools)

-- all kinds but Got, Hand, Begin and Gone are among these
pub record Calm (kinds : Entry → Bool) : Type 0 where
  pub put : (q : ℕ) (m : Content) → kinds (Put q m) ≡ true
  pub entered : (s : State) → kinds (Entered s) ≡ true
  pub judged : (s : State) → kinds (Judged s) ≡ true
  pub done : (n : ℕ) → kinds (Done n) ≡ true
  pub end : (n : ℕ) → kinds (End n) ≡ true
  pub ask : (c : Command) (v : Verdict) → kinds (Ask c v) ≡ true
  pub stray : (n : ℕ) → kinds (Stray n) ≡ true
  pub did : (s code : ℕ) (m : Option Content) → kinds (Did s code m) ≡ true
  pub fault : (n : ℕ) → kinds (Fault n) ≡ true

pub none : (kinds : Entry → Bool) (past : Past) (memory : Memory) → memory.tools ≡ past.memory.tools → Adds kinds past (record { journal = past.journal; memory = memory })
none kinds past memory same = record { new = []; is = sym (append-nil past.journal); all = refl; tools = ([], append-nil past.memory.tools ∙ sym same) }

pub one : (kinds : Entry → Bool) (past : Past) (e : Entry) → kinds e ≡ true → Adds kinds past (add e past)
one kinds past e k = record { new = e ∷ []; is = refl; all = and_from (kinds e) true k refl; tools = ([], append-nil past.memory.tools) }

pub both : {kinds : Entry → Bool} {a b c : Past} → Adds kinds a b → Adds kinds b c → Adds kinds a c
both {kinds} {a} {b} {c} h i = record {
  new = h.new ++ i.new;
  is = i.is ∙ ap (λ es. es ++ i.new) h.is ∙ append_assoc a.journal h.new i.new;
  all = list_all-append kinds h.new i.new ∙ and_from (list_all kinds h.new) (list_all kinds i.new) h.all i.all;
  tools = (h.tools.0 ++ i.tools.0, sym (append_assoc a.memory.tools h.tools.0 i.tools.0) ∙ ap (λ x. x ++ i.tools.0) h.tools.1 ∙ i.tools.1);
}

all_puts : (kinds : Entry → Bool) (numbers : List ℕ) (m : Content) → ((q : ℕ) → kinds (Put q m) ≡ true) → list_all kinds (map (λ q. Put q m) numbers) ≡ true
all_puts kinds [] m k = refl
all_puts kinds (q ∷ more) m k = and_from (kinds (Put q m)) (list_all kinds (map (λ q. Put q m) more)) (k q) (all_puts kinds more m k)

pub puts : {kinds : Entry → Bool} (calm : Calm kinds) (numbers : List ℕ) (m : Content) (past : Past) → Adds kinds past (put_each numbers m past)
puts {kinds} calm numbers m past = record { new = map (λ q. Put q m) numbers; is = refl; all = all_puts kinds numbers m (λ q. calm.put q m); tools = ([], append-nil past.memory.tools) }

pub systems : {kinds : Entry → Bool} (calm : Calm kinds) (S : Setup) (past : Past) → Adds kinds past (judge_system S past)
unfolding judge_system
systems {kinds} calm S past = on (is_state (system S past) (system_told past.journal))
  where
    on : (c : Bool) → Adds kinds past (if c then past else add (Judged (system S past)) past)
    on true = none kinds past past.memory refl
    on false = one kinds past (Judged (system S past)) (calm.judged (system S past))

announces : {kinds : Entry → Bool} (calm : Calm kinds) (S : Setup) (at : ℕ) (past : Past) → Adds kinds past (announce S at past)
announces {kinds} calm S at past = on S.step
  where
    on : (step : Option ℕ) → Adds kinds past (announce (record S { step = step }) at past)
    on None = none kinds past past.memory refl
    on (Some size) = puts calm (reached S past) (contents.NextStep at size) past

enters_only : {kinds : Entry → Bool} (calm : Calm kinds) (S : Setup) (to : State) (until : ℕ) (past : Past) → Adds kinds past (enter_only S to until past)
enters_only {kinds} calm S to until past =
    both (one kinds past (Entered to) (calm.entered to))
    (both (puts calm (told S past) (contents.Status to until) (add (Entered to) past))
    (systems calm S (put_each (told S past) (contents.Status to until) (add (Entered to) past))))

pub enters : {kinds : Entry → Bool} (calm : Calm kinds) (S : Setup) (to : State) (until : ℕ) (past : Past) → Adds kinds past (enter_until S to until past)
unfolding enter_until
enters {kinds} calm S to until past = on (is_state Shutdown to) (is_state Running to && not (has_run past.journal))
  where
    now : Past
    now = enter_only S to until past

    on : (shut first : Bool) → Adds kinds past (if shut then put_each (told S past) contents.Leave now else if first then announce S 0 now else now)
    on true first = both (enters_only calm S to until past) (puts calm (told S past) contents.Leave now)
    on false true = both (enters_only calm S to until past) (announces calm S 0 now)
    on false false = enters_only calm S to until past

pub enters_if : {kinds : Entry → Bool} (calm : Calm kinds) (S : Setup) (to : State) (past : Past) → Adds kinds past (enter_if S to past)
unfolding enter_if
enters_if {kinds} calm S to past = on (has_edge (state_of past.journal) to)
  where
    on : (edge : Bool) → Adds kinds past (if edge then enter S to past else past)
    on true = enters calm S to 0 past
    on false = none kinds past past.memory refl

askeds : {kinds : Entry → Bool} (calm : Calm kinds) (S : Setup) (command : Command) (past : Past) (to : Option State) → Adds kinds past (asked S command to past)
askeds {kinds} calm S command past None = one kinds past (Ask command (Refused (state_of past.journal))) (calm.ask command (Refused (state_of past.journal)))
askeds {kinds} calm S command past (Some to) = on (is_command Abort command)
  where
    begun : Past
    begun = add (Ask command Accepted) (with_pause None past)

    now : Past
    now = enter_until S to (until_of S command past) begun

    first : Adds kinds past now
    first = both (none kinds past (with_pause None past).memory refl)
        (both (one kinds (with_pause None past) (Ask command Accepted) (calm.ask command Accepted)) (enters calm S to (until_of S command past) begun))

    on : (c : Bool) → Adds kinds past (if c then put_each (reached S now) contents.Abort now else now)
    on true = both first (puts calm (reached S now) contents.Abort now)
    on false = first

pub asks : {kinds : Entry → Bool} (calm : Calm kinds) (S : Setup) (command : Command) (past : Past) → Adds kinds past (ask S command past)
unfolding ask
asks calm S command past = askeds calm S command past (led_to (state_of past.journal) command)

pauses : {kinds : Entry → Bool} (calm : Calm kinds) (S : Setup) (count : ℕ) (past : Past) → Adds kinds past (pause_for S count past)
unfolding pause_for
pauses {kinds} calm S count past = on (is_state Running (state_of past.journal))
  where
    on : (c : Bool) → Adds kinds past (if c then with_pause (Some (max count 1)) (ask S Pause past) else ask S Pause past)
    on true = both (asks calm S Pause past) (none kinds (ask S Pause past) (with_pause (Some (max count 1)) (ask S Pause past)).memory refl)
    on false = asks calm S Pause past

pub counts : {kinds : Entry → Bool} (calm : Calm kinds) (S : Setup) (count : ℕ) (past : Past) → Adds kinds past (count_down S count past)
unfolding count_down
counts {kinds} calm S count past = on (nat_le count 1)
  where
    on : (c : Bool) → Adds kinds past (if c then ask S Continue past else with_pause (Some (count - 1)) past)
    on true = asks calm S Continue past
    on false = none kinds past (with_pause (Some (count - 1)) past).memory refl

somes : {kinds : Entry → Bool} (calm : Calm kinds) (to : List ℕ) (o : Option Content) (past : Past) → Adds kinds past (put_some to o past)
somes {kinds} calm to None past = none kinds past past.memory refl
somes calm to (Some m) past = puts calm to m past

dids : {kinds : Entry → Bool} (calm : Calm kinds) (s : ℕ) (o : Outcome) (past : Past) → Adds kinds past (did s o past)
dids {kinds} calm s o past = both
    (record { new = Did s o.code o.message ∷ []; is = refl; all = and_from (kinds (Did s o.code o.message)) true (calm.did s o.code o.message) refl; tools = ([], append-nil past.memory.tools) })
    (somes calm o.to o.message _)

one_answer : {kinds : Entry → Bool} (calm : Calm kinds) (S : Setup) (past : Past) (a : Action) → Adds kinds past (answer S past a)
unfolding answer
one_answer calm S past (actions.Ask command) = asks calm S command past
one_answer calm S past (actions.PauseFor count) = pauses calm S count past
one_answer calm S past (actions.CanBaud s rate) = dids calm s (outcome S past (actions.CanBaud s rate)) past
one_answer calm S past (actions.CanStart s) = dids calm s (outcome S past (actions.CanStart s)) past
one_answer calm S past (actions.CanStop s) = dids calm s (outcome S past (actions.CanStop s)) past
one_answer calm S past (actions.CanReset s) = dids calm s (outcome S past (actions.CanReset s)) past
one_answer calm S past (actions.CanSleep s) = dids calm s (outcome S past (actions.CanSleep s)) past
one_answer calm S past (actions.CanSend s frame) = dids calm s (outcome S past (actions.CanSend s frame)) past
one_answer calm S past (actions.EthActivate s) = dids calm s (outcome S past (actions.EthActivate s)) past
one_answer calm S past (actions.EthDeactivate s) = dids calm s (outcome S past (actions.EthDeactivate s)) past
one_answer calm S past (actions.EthSend s frame) = dids calm s (outcome S past (actions.EthSend s frame)) past
one_answer calm S past (actions.LinInit s role) = dids calm s (outcome S past (actions.LinInit s role)) past
one_answer calm S past (actions.LinSetResponse s response) = dids calm s (outcome S past (actions.LinSetResponse s response)) past
one_answer calm S past (actions.LinHeader s id) = dids calm s (outcome S past (actions.LinHeader s id)) past
one_answer calm S past (actions.LinSendFrame s response) = dids calm s (outcome S past (actions.LinSendFrame s response)) past
one_answer calm S past (actions.LinSleep s) = dids calm s (outcome S past (actions.LinSleep s)) past
one_answer calm S past (actions.LinWakeup s) = dids calm s (outcome S past (actions.LinWakeup s)) past
one_answer calm S past (actions.Publish s payload) = dids calm s (outcome S past (actions.Publish s payload)) past
one_answer calm S past (actions.Call s payload) = dids calm s (outcome S past (actions.Call s payload)) past
one_answer calm S past (actions.Submit s peer client call payload) = dids calm s (outcome S past (actions.Submit s peer client call payload)) past

pub answers_add : {kinds : Entry → Bool} (calm : Calm kinds) (S : Setup) (more : List Action) (past : Past) → Adds kinds past (answers S more past)
answers_add {kinds} calm S [] past = none kinds past past.memory refl
answers_add calm S (a ∷ more) past = both (one_answer calm S past a) (answers_add calm S more (answer S past a))

pub faults : {kinds : Entry → Bool} (calm : Calm kinds) (S : Setup) (number : ℕ) (past : Past) → Adds kinds past (fault S number past)
faults {kinds} calm S number past = both (one kinds past (Fault number) (calm.fault number)) (enters_if calm S Error (add (Fault number) past))

-- what stands behind the entry that shows a call
pub rest_of_call : {kinds : Entry → Bool} (calm : Calm kinds) (S : Setup) (made : Made) (past : Past) → Adds kinds (called made.call past) (callback S past made)
unfolding callback
rest_of_call {kinds} calm S made past = on made.over
  where
    now : Past
    now = answers S made.actions (called made.call past)

    on : (over : Bool) → Adds kinds (called made.call past) (if over then fault S 2 now else now)
    on true = both (answers_add calm S made.actions (called made.call past)) (faults calm S 2 now)
    on false = answers_add calm S made.actions (called made.call past)

end_opens : {kinds : Entry → Bool} (calm : Calm kinds) (S : Setup) (step : Option Begun) (past : Past) → Adds kinds past (end_open S step past)
end_opens {kinds} calm S None past = none kinds past past.memory refl
end_opens {kinds} calm S (Some step) past =
    both (one kinds past (End step.number) (calm.end step.number)) (announces calm S (step.time + unwrap_or S.step 0) (add (End step.number) past))

pub ends : {kinds : Entry → Bool} (calm : Calm kinds) (S : Setup) (past : Past) → Adds kinds past (end_step S past)
unfolding end_step
ends calm S past = end_opens calm S (open_step past.journal) past

pub blocking : {kinds : Entry → Bool} (calm : Calm kinds) (S : Setup) (past : Past) → Adds kinds past (end_blocking S past)
blocking {kinds} calm S past = on (not S.is_async && may_end (state_of past.journal))
  where
    on : (c : Bool) → Adds kinds past (if c then end_step S past else past)
    on true = ends calm S past
    on false = none kinds past past.memory refl

pub completes : {kinds : Entry → Bool} (calm : Calm kinds) (S : Setup) (n : ℕ) (past : Past) → Adds kinds past (complete S n past)
unfolding complete
completes {kinds} calm S n past = on (completes_ready n past) (completes_step S n past)
  where
    on : (r s : Bool) → Adds kinds past (if r then add (Done n) past else if s then end_step S (add (Done n) past) else add (Stray n) past)
    on true s = one kinds past (Done n) (calm.done n)
    on false true = both (one kinds past (Done n) (calm.done n)) (ends calm S (add (Done n) past))
    on false false = one kinds past (Stray n) (calm.stray n)

-- what stands behind the Gone of a peer or tool
pub rest_of_lost : {kinds : Entry → Bool} (calm : Calm kinds) (S : Setup) (p reason : ℕ) (past : Past) → Adds kinds (add (Gone p reason) past) (lose S p reason past)
unfolding lose
rest_of_lost {kinds} calm S p reason past = on (is_peer S p)
  where
    on : (c : Bool) → Adds kinds (add (Gone p reason) past) (if c then enter_if S Error (add (Gone p reason) past) else add (Gone p reason) past)
    on true = enters_if calm S Error (add (Gone p reason) past)
    on false = none kinds (add (Gone p reason) past) past.memory refl

pub loses : {kinds : Entry → Bool} (calm : Calm kinds) (gone : (p r : ℕ) → kinds (Gone p r) ≡ true) (S : Setup) (p reason : ℕ) (past : Past) → Adds kinds past (lose S p reason past)
loses {kinds} calm gone S p reason past = both (one kinds past (Gone p reason) (gone p reason)) (rest_of_lost calm S p reason past)

pub tools_add : {kinds : Entry → Bool} (calm : Calm kinds) (S : Setup) (name : List ℕ) (past : Past) → Adds kinds past (add_tool S name past)
unfolding add_tool
tools_add {kinds} calm S name past = on (is_state Shutdown (state_of past.journal))
  where
    t : ℕ
    t = tool_number S past

    first : Adds kinds past (with_tool name past)
    first = record { new = []; is = sym (append-nil past.journal); all = refl; tools = (name ∷ [], refl) }

    on : (c : Bool) → Adds kinds past (if c then with_tool name past else greet S t (with_tool name past))
    on true = first
    on false = both first (both (one kinds _ _ (calm.put t _)) (both (one kinds _ _ (calm.put t _)) (one kinds _ _ (calm.put t _))))

pub limits : {kinds : Entry → Bool} (calm : Calm kinds) (S : Setup) (past : Past) → Adds kinds past (judge_limits S past)
unfolding judge_limits
limits {kinds} calm S past = on (not (has_edge (state_of past.journal) Error)) (nat_le 500000 (length past.journal)) (nat_le 33554432 (payload past.journal))
  where
    on : (over many long : Bool) → Adds kinds past (if over then past else if many then fault S 3 past else if long then fault S 4 past else past)
    on true many long = none kinds past past.memory refl
    on false true long = faults calm S 3 past
    on false false true = faults calm S 4 past
    on false false false = none kinds past past.memory refl

-- ## With callbacks

pub each_call : {kinds : Entry → Bool} (calm : Calm kinds) (hand : (p k r : ℕ) → kinds (Hand p k r) ≡ true) (S : Setup) (made : List Made) (past : Past) →
    AllByRecursion (λ one. IsMessage one.call) made → Adds kinds past (callbacks S made past)
each_call {kinds} calm hand S [] past h = none kinds past past.memory refl
each_call {kinds} calm hand S (first ∷ more) past h =
    both (both (by_call first.call h.0) (rest_of_call calm S first past)) (each_call calm hand S more (callback S past first) h.1)
  where
    by_call : (call : Call) → IsMessage call → Adds kinds past (called call past)
    by_call calls.Ready g = absurd g
    by_call (calls.Step n t) g = absurd g
    by_call (calls.Message p k r m) g = record { new = Hand p k r ∷ []; is = refl; all = and_from (kinds (Hand p k r)) true (hand p k r) refl; tools = ([], append-nil past.memory.tools) }

pub heeds : {kinds : Entry → Bool} (calm : Calm kinds) (hand : (p k r : ℕ) → kinds (Hand p k r) ≡ true) (S : Setup) (p : ℕ) (m : Content) (made : List Made) (past : Past) →
    AllByRecursion (λ one. IsMessage one.call) made → Adds kinds past (heed S p m made past)
unfolding heed
heeds calm hand S p (contents.Status state until) made past h = systems calm S past
heeds calm hand S p (contents.Workflow required) made past h = systems calm S past
heeds calm hand S p contents.Abort made past h = enters_if calm S Aborting past
heeds {kinds} calm hand S p (contents.LinResponse head' response) made past h = none kinds past (note S p head'.service response past).memory refl
heeds calm hand S p (contents.Hello name role address) made past h = each_call calm hand S made past h
heeds calm hand S p contents.Leave made past h = each_call calm hand S made past h
heeds calm hand S p (contents.NextStep at size) made past h = each_call calm hand S made past h
heeds calm hand S p (contents.ServiceAdd service) made past h = each_call calm hand S made past h
heeds calm hand S p contents.ServicesEnd made past h = each_call calm hand S made past h
heeds calm hand S p (contents.Can head' frame) made past h = each_call calm hand S made past h
heeds calm hand S p (contents.Eth head' payload) made past h = each_call calm hand S made past h
heeds calm hand S p (contents.Lin head' frame) made past h = each_call calm hand S made past h
heeds calm hand S p (contents.Publish head' payload) made past h = each_call calm hand S made past h
heeds calm hand S p (contents.Call head' call payload) made past h = each_call calm hand S made past h
heeds calm hand S p (contents.Reply head' client call payload) made past h = each_call calm hand S made past h
heeds calm hand S p (contents.Refuse reason) made past h = each_call calm hand S made past h

-- what stands behind a Got
pub rest_of_got : {kinds : Entry → Bool} (calm : Calm kinds) (hand : (p k r : ℕ) → kinds (Hand p k r) ≡ true) (gone : (p r : ℕ) → kinds (Gone p r) ≡ true) (S : Setup) (p : ℕ) (m : Content) (made : List Made) (past : Past) →
    AllByRecursion (λ one. IsMessage one.call) made → Adds kinds (add (Got p m) past) (get S p m made past)
unfolding get
rest_of_got {kinds} calm hand gone S p m made past h = on (comes_in_order S past p m)
  where
    on : (c : Bool) → Adds kinds (add (Got p m) past) (if c then heed S p m made (add (Got p m) past) else lose S p 8 (add (Got p m) past))
    on true = heeds calm hand S p m made (add (Got p m) past) h
    on false = loses calm gone S p 8 (add (Got p m) past)
