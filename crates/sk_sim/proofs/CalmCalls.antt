-- The same of all that happens: calls of an app that asks for no Abort, what they ask for, messages and rows.
use Rattle.std.specs.Prelude.{◌≡◌, ◌≤◌, ◌<◌, refl, ℕ, ◌+◌, ◌-◌, ◌==◌, nat_le, nat_lt, max, Bool, true, false, not, ◌&&◌, ◌||◌, List, [], ◌∷◌, ◌++◌, map, length, Option, Some, None, unwrap_or, slice_get, if◌then◌else◌}
use Rattle.std.specs.Bool.{then_some}
use Rattle.std.specs.Option.{option_map, option_or}
use Rattle.std.specs.List.{flat_map, list_any, list_all, fold}
use Rattle.std.proofs.lemmas.Bool.Decides.{nat_tests}
use Rattle.std.proofs.Common.{ap, sym, ◌∙◌, subst, arith}
use Rattle.std.proofs.lemmas.Bool.{and_parts, or_parts, or_from}
use Rattle.std.proofs.lemmas.List.Folds.{list_any-append, list_all-append}
use Rattle.sk_msg.specs.declared.action.Action.{Action}
use Rattle.sk_msg.specs.declared.action.Action.TheVariants as actions
use Rattle.sk_msg.specs.declared.command.Command.{Command}
use Rattle.sk_msg.specs.declared.command.Command.TheVariants.{Pause, Continue, Stop, ReportError, Abort}
use Rattle.sk_msg.specs.declared.content.Content.{Content}
use Rattle.sk_msg.specs.declared.content.Content.TheVariants as contents
use Rattle.sk_msg.specs.declared.entry.Entry.{Entry}
use Rattle.sk_msg.specs.declared.entry.Entry.TheVariants.{Got, Put, Hand, State as Entered, Begin, Done, End, Stray, Did}
use Rattle.sk_msg.specs.declared.service.Service.{Service}
use Rattle.sk_msg.specs.declared.state.State.{State}
use Rattle.sk_msg.specs.declared.state.State.TheVariants as states
use Rattle.sk_msg.specs.Edges.{has_edge, led_to, is_command}
use Rattle.sk_msg.specs.States.{is_state}
use Rattle.sk_can.specs.Can.{Can}
use Rattle.sk_can.specs.declared.state.CanState.{CanState}
use Rattle.sk_lin.specs.Lin.{Lin}
use Rattle.sk_pubsub.specs.Publishing.{Publishing}
use Rattle.sk_rpc.specs.declared.open_call.OpenCall.{OpenCall}
use Rattle.sk_law.specs.declared.made.Call.{Call}
use Rattle.sk_law.specs.declared.made.Call.TheVariants as calls
use Rattle.sk_law.specs.declared.made.Made.{Made}
use Rattle.sk_law.specs.declared.memory.Begun.{Begun}
use Rattle.sk_law.specs.declared.memory.ServiceState.{ServiceState}
use Rattle.sk_law.specs.declared.memory.ServiceState.TheVariants as kinds
use Rattle.sk_law.specs.declared.setup.Setup.{Setup}
use Rattle.sk_law.specs.Past.{Past, add}
use Rattle.sk_law.specs.Readings.{state_of, state_after, open_step, payload}
use Rattle.sk_law.specs.Links.{peers, is_peer, is_tool, is_here, is_open, comes_in_order, own_name}
use Rattle.sk_law.specs.Outcomes.{Outcome, outcome, outcome_at, outcome_of, named, refused, done, sends, on_can, turned, on_ethernet, on_lin, on_publisher, on_server, on_client}
use Rattle.sk_law.specs.Receivers.{changed, received, with_services}
use Rattle.sk_law.specs.Rows.{Move, Ready, Step, Count, GiveUp, row, row_in}
use Rattle.sk_law.specs.Blocks.{ask, with_pause, pause_for, count_down, put_some, did, answer, answers, fault, called, over_after, callback, callbacks, end_open, end_step, may_end, take_step, completes_ready, completes_step, with_completed, complete, lose, heed, get, hello, announced_service, introduction, making, tool_number, with_tool, greet, add_tool, judge_limits}
use Rattle.sk_law.specs.Lawful.{Lawful, starts, goes_on, Happens, gets, loses, completes, asks, adds, moves, readies, begins, counts, gives_up, note_asked}
use Rattle.sk_script.specs.Closed.{reports_error}
use Rattle.sk_sim.specs.Simulations.{is_aborting, is_error_report}
use Rattle.sk_sim.proofs.Calm.{is_abort, is_abort_put, is_abort_got, enters_error, Calm, IsOther, clash, one_true, more_false, plain_state, either, adding, plainly, putting, judging, announcing, entering, entering_where, supposed, faulting, losing, pausing, obeying, reporting, aborting, pause_leads, continue_leads, stop_leads, unasked, asking_asked}

-- ## Actions that are allowed

abbrev pub asks_abort : Action → Bool
asks_abort (actions.Ask command) = is_command Abort command
asks_abort _ = false

-- no Abort is asked for, and where the app is silent of errors none is reported
abbrev pub is_mild : Bool → Action → Bool
is_mild silent action = not (asks_abort action) && not (reports_error action && silent)

abbrev pub asks_mildly : Bool → Made → Bool
asks_mildly silent one = list_all (is_mild silent) one.actions

-- ## What an action sends is no Abort

abbrev sends_abort : Option Content → Bool
sends_abort None = false
sends_abort (Some m) = is_abort m

record IsMild (o : Outcome) : Type 0 where
  other : sends_abort o.message ≡ false

is_refused : (code : ℕ) (at : ServiceState) → IsMild (refused code at)
is_refused code at = record { other = refl }

is_done : (at : ServiceState) → IsMild (done at)
is_done at = record { other = refl }

is_sent : (to : List ℕ) (m : Content) (at : ServiceState) → is_abort m ≡ false → IsMild (sends to m at)
is_sent to m at e = record { other = e }

if_mild : {a b : Outcome} (c : Bool) → IsMild a → IsMild b → IsMild (if c then a else b)
if_mild true f g = f
if_mild false f g = g

of_can : (at : ServiceState) (act : Can → Outcome) → ((can : Can) → IsMild (act can)) → IsMild (on_can at act)
of_can (kinds.Can can) act h = h can
of_can at act h = is_refused 1 at

of_table : (at : ServiceState) (to : Option CanState) (after : Can) → IsMild (turned at to after)
of_table at None after = is_refused 1 at
of_table at (Some to) after = is_done (kinds.Can after)

of_ethernet : (at : ServiceState) (act : Bool → Outcome) → ((active : Bool) → IsMild (act active)) → IsMild (on_ethernet at act)
of_ethernet (kinds.Ethernet active) act h = h active
of_ethernet at act h = is_refused 1 at

of_lin : (at : ServiceState) (act : Lin → Outcome) → ((lin : Lin) → IsMild (act lin)) → IsMild (on_lin at act)
of_lin (kinds.Lin lin) act h = h lin
of_lin at act h = is_refused 1 at

of_publisher : (at : ServiceState) (act : Publishing → Outcome) → ((publisher : Publishing) → IsMild (act publisher)) → IsMild (on_publisher at act)
of_publisher (kinds.Publisher publisher) act h = h publisher
of_publisher at act h = is_refused 1 at

of_server : (at : ServiceState) (act : List OpenCall → Outcome) → ((open_calls : List OpenCall) → IsMild (act open_calls)) → IsMild (on_server at act)
of_server (kinds.Server open_calls) act h = h open_calls
of_server at act h = is_refused 1 at

of_client : (at : ServiceState) (act : ℕ → Outcome) → ((made : ℕ) → IsMild (act made)) → IsMild (on_client at act)
of_client (kinds.Client made) act h = h made
of_client at act h = is_refused 1 at

mild_at : (S : Setup) (past : Past) (a : Action) (own : Service) (at : ServiceState) → IsMild (outcome_at S past a own at)
unfolding outcome_at
mild_at S past (actions.CanBaud s rate) own at = of_can at _ (λ can. of_table at _ _)
mild_at S past (actions.CanStart s) own at = of_can at _ (λ can. of_table at _ _)
mild_at S past (actions.CanStop s) own at = of_can at _ (λ can. of_table at _ _)
mild_at S past (actions.CanReset s) own at = of_can at _ (λ can. of_table at _ _)
mild_at S past (actions.CanSleep s) own at = of_can at _ (λ can. of_table at _ _)
mild_at S past (actions.CanSend s frame) own at = of_can at _ (λ can. if_mild _ (is_refused 1 at) (if_mild _ (is_refused 2 at) (is_sent _ _ at refl)))
mild_at S past (actions.EthActivate s) own at = of_ethernet at _ (λ active. is_done _)
mild_at S past (actions.EthDeactivate s) own at = of_ethernet at _ (λ active. is_done _)
mild_at S past (actions.EthSend s frame) own at = of_ethernet at _ (λ active. if_mild _ (is_refused 1 at) (if_mild _ (is_refused 2 at) (is_sent _ _ at refl)))
mild_at S past (actions.LinInit s role) own at = of_lin at _ (λ lin. if_mild _ (is_done _) (is_refused 1 at))
mild_at S past (actions.LinSetResponse s response) own at = of_lin at _ (λ lin. if_mild _ (is_refused 1 at) (if_mild _ (is_refused 2 at) (is_sent _ _ _ refl)))
mild_at S past (actions.LinHeader s id) own at = of_lin at _ (λ lin. if_mild _ (is_refused 1 at) (if_mild _ (is_refused 2 at) (is_sent _ _ at refl)))
mild_at S past (actions.LinSendFrame s response) own at = of_lin at _ (λ lin. if_mild _ (is_refused 1 at) (if_mild _ (is_refused 2 at) (is_sent _ _ _ refl)))
mild_at S past (actions.LinSleep s) own at = of_lin at _ (λ lin. if_mild _ (is_refused 1 at) (is_sent _ _ _ refl))
mild_at S past (actions.LinWakeup s) own at = of_lin at _ (λ lin. if_mild _ (is_refused 1 at) (is_sent _ _ _ refl))
mild_at S past (actions.Publish s payload) own at = of_publisher at _ (λ publisher. is_sent _ _ _ refl)
mild_at S past (actions.Call s payload) own at = of_client at _ (λ made. if_mild _ (is_refused 3 at) (is_sent _ _ _ refl))
mild_at S past (actions.Submit s peer client call payload) own at = of_server at _ (λ open_calls. if_mild _ (is_refused 4 at) (is_sent _ _ _ refl))
mild_at S past (actions.Ask command) own at = is_refused 1 at
mild_at S past (actions.PauseFor count) own at = is_refused 1 at

mild : (S : Setup) (past : Past) (a : Action) → IsMild (outcome S past a)
mild S past a = on (slice_get S.services (named a)) (slice_get past.memory.services (named a))
  where
    on : (own : Option Service) (at : Option ServiceState) → IsMild (outcome_of S past a own at)
    on None at = is_refused 1 kinds.Subscriber
    on (Some own) None = is_refused 1 kinds.Subscriber
    on (Some own) (Some at) = mild_at S past a own at

module _ {S : Setup} {silent : Bool} where
  -- ## Answers to actions

  serving : {Q : Type 0} (services : List ServiceState) (past : Past) → Calm S silent Q past → Calm S silent Q (with_services services past)
  serving services past h = record { calm = h.calm; unreported = h.unreported }

  sending : {Q : Type 0} (to : List ℕ) (m : Option Content) (past : Past) → sends_abort m ≡ false → Calm S silent Q past → Calm S silent Q (put_some to m past)
  sending to None past other h = h
  sending to (Some m) past other h = putting to m past (λ _. other) h

  doing : {Q : Type 0} (s : ℕ) (o : Outcome) (past : Past) → IsMild o → Calm S silent Q past → Calm S silent Q (did s o past)
  doing s o past fine h =
      let changed_now = changed (λ at. o.state) s past.memory.services in
      sending o.to o.message (add (Did s o.code o.message) (with_services changed_now past)) fine.other
      (plainly (Did s o.code o.message) (with_services changed_now past) refl (serving changed_now past h))

  asking : {Q : Type 0} (command : Command) (past : Past) → is_mild silent (actions.Ask command) ≡ true → Calm S silent Q past → Calm S silent Q (ask S command past)
  unfolding ask
  asking Pause past allowed h = obeying Pause (led_to (state_of past.journal) Pause) past refl refl (pause_leads (state_of past.journal)) h
  asking Continue past allowed h = obeying Continue (led_to (state_of past.journal) Continue) past refl refl (continue_leads (state_of past.journal)) h
  asking Stop past allowed h = obeying Stop (led_to (state_of past.journal) Stop) past refl refl (stop_leads (state_of past.journal)) h
  asking ReportError past allowed h =
      reporting (led_to (state_of past.journal) ReportError) past (λ s. let refused_it : not silent ≡ false = ap not s in clash refused_it allowed) h
  asking Abort past allowed h = absurd (cc)

  pausing_for : {Q : Type 0} (count : ℕ) (past : Past) → Calm S silent Q past → Calm S silent Q (pause_for S count past)
  unfolding pause_for
  pausing_for count past h =
      either (is_state states.Running (state_of past.journal)) (with_pause (Some (max count 1)) (ask S Pause past)) (ask S Pause past)
      (pausing (Some (max count 1)) (ask S Pause past) (asking Pause past refl h)) (asking Pause past refl h)

  counting : {Q : Type 0} (count : ℕ) (past : Past) → Calm S silent Q past → Calm S silent Q (count_down S count past)
  unfolding count_down
  counting count past h = either (nat_le count 1) (ask S Continue past) (with_pause (Some (count - 1)) past) (asking Continue past refl h) (pausing (Some (count - 1)) past h)

  answering : {Q : Type 0} (a : Action) (past : Past) → is_mild silent a ≡ true → Calm S silent Q past → Calm S silent Q (answer S past a)
  unfolding answer
  answering (actions.Ask command) past allowed h = asking command past allowed h
  answering (actions.PauseFor count) past allowed h = pausing_for count past h
  answering (actions.CanBaud s rate) past allowed h = doing s (outcome S past (actions.CanBaud s rate)) past (mild S past (actions.CanBaud s rate)) h
  answering (actions.CanStart s) past allowed h = doing s (outcome S past (actions.CanStart s)) past (mild S past (actions.CanStart s)) h
  answering (actions.CanStop s) past allowed h = doing s (outcome S past (actions.CanStop s)) past (mild S past (actions.CanStop s)) h
  answering (actions.CanReset s) past allowed h = doing s (outcome S past (actions.CanReset s)) past (mild S past (actions.CanReset s)) h
  answering (actions.CanSleep s) past allowed h = doing s (outcome S past (actions.CanSleep s)) past (mild S past (actions.CanSleep s)) h
  answering (actions.CanSend s frame) past allowed h = doing s (outcome S past (actions.CanSend s frame)) past (mild S past (actions.CanSend s frame)) h
  answering (actions.EthActivate s) past allowed h = doing s (outcome S past (actions.EthActivate s)) past (mild S past (actions.EthActivate s)) h
  answering (actions.EthDeactivate s) past allowed h = doing s (outcome S past (actions.EthDeactivate s)) past (mild S past (actions.EthDeactivate s)) h
  answering (actions.EthSend s frame) past allowed h = doing s (outcome S past (actions.EthSend s frame)) past (mild S past (actions.EthSend s frame)) h
  answering (actions.LinInit s role) past allowed h = doing s (outcome S past (actions.LinInit s role)) past (mild S past (actions.LinInit s role)) h
  answering (actions.LinSetResponse s response) past allowed h = doing s (outcome S past (actions.LinSetResponse s response)) past (mild S past (actions.LinSetResponse s response)) h
  answering (actions.LinHeader s id) past allowed h = doing s (outcome S past (actions.LinHeader s id)) past (mild S past (actions.LinHeader s id)) h
  answering (actions.LinSendFrame s response) past allowed h = doing s (outcome S past (actions.LinSendFrame s response)) past (mild S past (actions.LinSendFrame s response)) h
  answering (actions.LinSleep s) past allowed h = doing s (outcome S past (actions.LinSleep s)) past (mild S past (actions.LinSleep s)) h
  answering (actions.LinWakeup s) past allowed h = doing s (outcome S past (actions.LinWakeup s)) past (mild S past (actions.LinWakeup s)) h
  answering (actions.Publish s payload) past allowed h = doing s (outcome S past (actions.Publish s payload)) past (mild S past (actions.Publish s payload)) h
  answering (actions.Call s payload) past allowed h = doing s (outcome S past (actions.Call s payload)) past (mild S past (actions.Call s payload)) h
  answering (actions.Submit s peer client call payload) past allowed h =
      doing s (outcome S past (actions.Submit s peer client call payload)) past (mild S past (actions.Submit s peer client call payload)) h

  answering_all : {Q : Type 0} (more : List Action) (past : Past) → list_all (is_mild silent) more ≡ true → Calm S silent Q past → Calm S silent Q (answers S more past)
  answering_all [] past allowed h = h
  answering_all (a ∷ more) past allowed h =
      let parts = and_parts (is_mild silent a) (list_all (is_mild silent) more) allowed in answering_all more (answer S past a) parts.1 (answering a past parts.0 h)

  -- ## Calls and steps

  calling : {Q : Type 0} (call : Call) (past : Past) → Calm S silent Q past → Calm S silent Q (called call past)
  calling calls.Ready past h = record { calm = h.calm; unreported = h.unreported }
  calling (calls.Step number at) past h = plainly (Begin number at) past refl h
  calling (calls.Message p place r m) past h = serving (changed (received p m) r past.memory.services) (add (Hand p place r) past) (plainly (Hand p place r) past refl h)

  calling_back : {Q : Type 0} (made : Made) (past : Past) → asks_mildly silent made ≡ true → Calm S silent Q past → Calm S silent Q (callback S past made)
  unfolding callback
  calling_back made past allowed h =
      let now = answers S made.actions (called made.call past) in
      let answered = answering_all made.actions (called made.call past) allowed (calling made.call past h) in
      either made.over (fault S 2 now) now (faulting 2 now answered) answered

  all_called : {Q : Type 0} (made : List Made) (past : Past) → list_all (asks_mildly silent) made ≡ true → Calm S silent Q past → Calm S silent Q (callbacks S made past)
  all_called [] past allowed h = h
  all_called (one ∷ made) past allowed h =
      let parts = and_parts (asks_mildly silent one) (list_all (asks_mildly silent) made) allowed in all_called made (callback S past one) parts.1 (calling_back one past parts.0 h)

  ending_open : {Q : Type 0} (step : Option Begun) (past : Past) → Calm S silent Q past → Calm S silent Q (end_open S step past)
  ending_open None past h = h
  ending_open (Some step) past h = announcing S.step (step.time + unwrap_or S.step 0) (add (End step.number) past) (plainly (End step.number) past refl h)

  ending : {Q : Type 0} (past : Past) → Calm S silent Q past → Calm S silent Q (end_step S past)
  unfolding end_step
  ending past h = ending_open (open_step past.journal) past h

  stepping : {Q : Type 0} (made : Made) (past : Past) → asks_mildly silent made ≡ true → Calm S silent Q past → Calm S silent Q (take_step S made past)
  unfolding take_step
  stepping made past allowed h =
      let now = callback S past made in let back = calling_back made past allowed h in
      either (not S.is_async && may_end (state_of now.journal)) (end_step S now) now (ending now back) back

  -- ## Messages

  heeding : {Q : Type 0} (p : ℕ) (m : Content) (made : List Made) (past : Past) → list_all (asks_mildly silent) made ≡ true
      → (Q → is_abort m ≡ true → list_any (is_abort_got S) past.journal ≡ true) → Calm S silent Q past → Calm S silent Q (heed S p m made past)
  unfolding heed is_state
  heeding p (contents.Status state until) made past allowed heard h = judging past h
  heeding p (contents.Workflow required) made past allowed heard h = judging past h
  heeding p contents.Abort made past allowed heard h = entering_where states.Aborting past (λ q. record { error = refl; put = refl; heard = λ _. heard q refl }) h
  heeding p (contents.LinResponse head response) made past allowed heard h = serving _ past h
  heeding p m made past allowed heard h = all_called made past allowed h

le_of : (a b : ℕ) → nat_le a b ≡ true → a ≤ b
le_of a b e = grind (arith, nat_tests)

pub lt_of : (a b : ℕ) → nat_lt a b ≡ true → a < b
lt_of a b e = grind (arith, nat_tests)

-- whoever is linked is a peer, where there are no tools
is_linked_peer : (S : Setup) (p : ℕ) (past : Past) → is_open S past p ≡ true → past.memory.tools ≡ [] → is_peer S p ≡ true
is_linked_peer S p past linked none =
    let parts = and_parts (is_peer S p || is_tool S past p) (is_here S past p) linked in
    one_true (is_peer S p) (is_tool S past p) parts.0 (λ e. e)
    (λ e.
    let some = and_parts (nat_le (length S.names) p) (nat_lt p (length S.names + length past.memory.tools)) e in
    let few : length past.memory.tools ≡ 0 = ap length none in
    absurd (let low = le_of (length S.names) p some.0 in let high = lt_of p (length S.names + length past.memory.tools) some.1 in omega (arith, low, high, few)))

-- no tool is added where there are none
no_tool : (xs : List (List ℕ)) (x : List ℕ) → xs ++ x ∷ [] ≡ [] → ⊥
no_tool [] x e = cc
no_tool (y ∷ xs) x e = cc

module _ {S : Setup} {silent : Bool} where
  getting : {Q : Type 0} (p : ℕ) (m : Content) (made : List Made) (past : Past) → is_open S past p ≡ true → list_all (asks_mildly silent) made ≡ true
      → Calm S silent Q past → Calm S silent Q (get S p m made past)
  unfolding get
  getting {Q} p m made past linked allowed h =
      let linked_now : Calm S silent (Q × (is_peer S p ≡ true)) past =
      record { calm = λ a t none. let before = h.calm a t none in ((before.0, is_linked_peer S p past linked t), before.1); unreported = h.unreported } in
      let got = plainly (Got p m) past refl linked_now in
      without (get S p m made past)
      (either (comes_in_order S past p m) (heed S p m made (add (Got p m) past)) (lose S p 8 (add (Got p m) past))
      (heeding p m made (add (Got p m) past) allowed heard got) (losing p 8 (add (Got p m) past) got))
    where
      heard : Q × (is_peer S p ≡ true) → is_abort m ≡ true → list_any (is_abort_got S) (past.journal ++ Got p m ∷ []) ≡ true
      heard both abort =
          list_any-append (is_abort_got S) past.journal (Got p m ∷ [])
          ∙ last (list_any (is_abort_got S) past.journal)
        where
          last : (a : Bool) → (a || ((is_abort m && is_peer S p) || false)) ≡ true
          last true = refl
          last false = ap (λ b. (b && is_peer S p) || false) abort ∙ ap (λ b. b || false) both.1

      without : (now : Past) → Calm S silent (Q × (is_peer S p ≡ true)) now → Calm S silent Q now
      without now i = record { calm = λ a t none. let all = i.calm a t none in (all.0.0, all.1); unreported = i.unreported }

  -- ## Completions, tools and limits

  completing : {Q : Type 0} (number : ℕ) (past : Past) → Calm S silent Q past → Calm S silent Q (complete S number past)
  unfolding complete
  completing number past h =
      let done_now = plainly (Done number) past refl h in
      either (completes_ready number past) (add (Done number) past) _ done_now
      (either (completes_step S number past) (end_step S (add (Done number) past)) (add (Stray number) past) (ending (add (Done number) past) done_now) (plainly (Stray number) past refl h))

  adding_tool : {Q : Type 0} (name : List ℕ) (past : Past) → Calm S silent Q past → Calm S silent Q (add_tool S name past)
  unfolding add_tool
  adding_tool name past h =
      let t = tool_number S past in
      let with_name : Calm S silent ⊥ (with_tool name past) = record { calm = λ a none c. absurd (no_tool past.memory.tools name none); unreported = h.unreported } in
      either (is_state states.Shutdown (state_of past.journal)) (with_tool name past) (greet S t (with_tool name past)) (supposed (with_tool name past) with_name)
      (supposed (greet S t (with_tool name past))
      (plainly (Put t (contents.Status (state_of past.journal) 0)) _ refl
      (plainly (Put t contents.ServicesEnd) _ refl
      (plainly (Put t (hello S (own_name S))) (with_tool name past) refl with_name))))

  limiting : {Q : Type 0} (past : Past) → Calm S silent Q past → Calm S silent Q (judge_limits S past)
  unfolding judge_limits
  limiting past h =
      either (not (has_edge (state_of past.journal) states.Error)) past _ h
      (either (nat_le 500000 (length past.journal)) (fault S 3 past) _ (faulting 3 past h)
      (either (nat_le 33554432 (payload past.journal)) (fault S 4 past) past (faulting 4 past h) h))

-- ## Rows

no_move : (b : Bool) (to : State) → then_some b (Move to) ≡ Some GiveUp → ⊥
no_move true to e = cc
no_move false to e = cc

-- it gives up in Error alone
gives_up_in : (S : Setup) (past : Past) (s : State) → row_in S past s ≡ Some GiveUp → is_state states.Error s ≡ true
unfolding is_state
gives_up_in S past states.Invalid e = absurd (cc)
gives_up_in S past states.ServicesCreated e = absurd (no_move _ states.CommunicationInitializing e)
gives_up_in S past states.CommunicationInitializing e = absurd (no_move _ states.CommunicationInitialized e)
gives_up_in S past states.CommunicationInitialized e = absurd (by (not past.memory.called) _ e)
  where
    by : (a b : Bool) → (if a then Some Ready else then_some b (Move states.ReadyToRun)) ≡ Some GiveUp → ⊥
    by true b f = cc
    by false b f = no_move b states.ReadyToRun f
gives_up_in S past states.ReadyToRun e = absurd (no_move _ states.Running e)
gives_up_in S past states.Running e = absurd (by _ _ e)
  where
    by : (a b : Bool) → option_or (then_some a (Move states.Stopping)) (then_some b Step) ≡ Some GiveUp → ⊥
    by true b f = cc
    by false true f = cc
    by false false f = cc
gives_up_in S past states.Paused e = absurd (by past.memory.pause e)
  where
    by : (o : Option ℕ) → option_map (λ count. Count count) o ≡ Some GiveUp → ⊥
    by None f = cc
    by (Some count) f = cc
gives_up_in S past states.Stopping e = absurd (no_move _ states.Stopped e)
gives_up_in S past states.Stopped e = absurd (no_move _ states.ShuttingDown e)
gives_up_in S past states.Error e = refl
gives_up_in S past states.ShuttingDown e = absurd (cc)
gives_up_in S past states.Shutdown e = absurd (cc)
gives_up_in S past states.Aborting e = absurd (cc)

the_move : (b : Bool) (x to : State) → IsOther x → then_some b (Move x) ≡ Some (Move to) → IsOther to
the_move true x to other e = let same : x ≡ to = cc in subst IsOther same other
the_move false x to other e = absurd (cc)

-- no row moves to Error or to Aborting
moves_to : (S : Setup) (past : Past) (s to : State) → row_in S past s ≡ Some (Move to) → IsOther to
unfolding is_state
moves_to S past states.Invalid to e = absurd (cc)
moves_to S past states.ServicesCreated to e = the_move _ states.CommunicationInitializing to (refl, refl) e
moves_to S past states.CommunicationInitializing to e = the_move _ states.CommunicationInitialized to (refl, refl) e
moves_to S past states.CommunicationInitialized to e = by (not past.memory.called) _ e
  where
    by : (a b : Bool) → (if a then Some Ready else then_some b (Move states.ReadyToRun)) ≡ Some (Move to) → IsOther to
    by true b f = absurd (cc)
    by false b f = the_move b states.ReadyToRun to (refl, refl) f
moves_to S past states.ReadyToRun to e = the_move _ states.Running to (refl, refl) e
moves_to S past states.Running to e = by _ _ e
  where
    by : (a b : Bool) → option_or (then_some a (Move states.Stopping)) (then_some b Step) ≡ Some (Move to) → IsOther to
    by true b f = the_move true states.Stopping to (refl, refl) f
    by false true f = absurd (cc)
    by false false f = absurd (cc)
moves_to S past states.Paused to e = by past.memory.pause e
  where
    by : (o : Option ℕ) → option_map (λ count. Count count) o ≡ Some (Move to) → IsOther to
    by None f = absurd (cc)
    by (Some count) f = absurd (cc)
moves_to S past states.Stopping to e = the_move _ states.Stopped to (refl, refl) e
moves_to S past states.Stopped to e = the_move _ states.ShuttingDown to (refl, refl) e
moves_to S past states.Error to e = absurd (by _ e)
  where
    by : (b : Bool) → then_some b GiveUp ≡ Some (Move to) → ⊥
    by true f = cc
    by false f = cc
moves_to S past states.ShuttingDown to e = the_move true states.Shutdown to (refl, refl) e
moves_to S past states.Shutdown to e = absurd (cc)
moves_to S past states.Aborting to e = the_move true states.Shutdown to (refl, refl) e

-- the last state is Error only where Error was entered
last_other : (s : State) (es : List Entry) → is_state states.Error s ≡ false → list_any enters_error es ≡ false → is_state states.Error (fold state_after s es) ≡ false
last_other s [] e none = e
last_other s (Entered to ∷ es) e none = let parts = or_parts (is_state states.Error to) (list_any enters_error es) none in last_other to es parts.0 parts.1
last_other s (x ∷ es) e none = last_other s es e none

-- ## All that happens

module _ {S : Setup} {silent : Bool} where
  hopeless : {Q : Type 0} (past : Past) → is_state states.Error (state_of past.journal) ≡ true → Calm S silent Q past → Calm S silent ⊥ past
  unfolding is_state
  hopeless past so_it_is h =
      record { calm = λ a t none. absurd (clash (last_other states.Invalid past.journal refl (h.calm a t none).1.error) so_it_is); unreported = h.unreported }

  giving_up : (past : Past) → Calm S silent ⊥ past → Calm S silent ⊥ (ask S Abort past)
  unfolding ask
  giving_up past h = aborting (led_to (state_of past.journal) Abort) past h

  happening : {Q : Type 0} (past : Past) (all : List Made) (now : Past) → Calm S silent Q past → list_all (asks_mildly silent) all ≡ true → Happens S past all now → Calm S silent Q now
  unfolding row
  happening past all now h allowed (gets p m made linked are filled) = getting p m made past linked allowed h
  happening past all now h allowed (loses p reason linked loss) = losing p reason past h
  happening past all now h allowed (completes number) = completing number (with_completed number past) (record { calm = h.calm; unreported = h.unreported })
  happening past all now h allowed (asks command) = unasked (ask S command (note_asked past)) (asking_asked S command (note_asked past) (record { was = refl }))
  happening past all now h allowed (adds name few) = adding_tool name past h
  happening past all now h allowed (moves to r) = entering to 0 past (λ _. plain_state S to past.journal (moves_to S past (state_of past.journal) to r)) h
  happening past all now h allowed (readies one r is filled) = calling_back one past (and_parts (asks_mildly silent one) true allowed).0 h
  happening past all now h allowed (begins one r is filled) = stepping one past (and_parts (asks_mildly silent one) true allowed).0 h
  happening past all now h allowed (counts count r) = counting count past h
  happening past all now h allowed (gives_up r) = supposed (ask S Abort past) (giving_up past (hopeless past (gives_up_in S past (state_of past.journal) r) h))

-- ## The beginning

introduced : (test : Entry → Bool) (ms : List Content) (ps : List ℕ) → ((p : ℕ) → list_any test (map (λ m. Put p m) ms) ≡ false) → list_any test (flat_map (λ p. map (λ m. Put p m) ms) ps) ≡ false
introduced test ms [] none = refl
introduced test ms (p ∷ ps) none = more_false test (map (λ m. Put p m) ms) (flat_map (λ q. map (λ m. Put q m) ms) ps) (none p) (introduced test ms ps none)

none_to : (test : Entry → Bool) (p : ℕ) → ((m : Content) → test (Put p m) ≡ false) → (ms : List Content) → list_any test (map (λ m. Put p m) ms) ≡ false
none_to test p none [] = refl
none_to test p none (m ∷ ms) = or_from (test (Put p m)) (list_any test (map (λ x. Put p x) ms)) (none m) (none_to test p none ms)

no_abort_to : (S : Setup) (p : ℕ) (services : List Service) → list_any is_abort_put (map (λ m. Put p m) (hello S (own_name S) ∷ (map announced_service services ++ contents.ServicesEnd ∷ []))) ≡ false
no_abort_to S p [] = refl
no_abort_to S p (s ∷ services) = no_abort_to S p services

starting : {silent : Bool} (S : Setup) → Calm S silent (Unit {0}) (making S)
unfolding making is_state
starting S =
    entering states.ServicesCreated 0 _ (λ _. plain_state S states.ServicesCreated _ (refl, refl)) (record {
      calm = λ a t none. (
        tt,
        record {
          error = introduced enters_error (introduction S) (peers S) (λ p. none_to enters_error p (λ m. refl) (introduction S));
          put = introduced is_abort_put (introduction S) (peers S) (λ p. no_abort_to S p S.services);
          heard = λ so_it_is. absurd (clash (introduced is_aborting (introduction S) (peers S) (λ p. none_to is_aborting p (λ m. refl) (introduction S))) so_it_is);
        },
      );
      unreported = λ a s. introduced is_error_report (introduction S) (peers S) (λ p. none_to is_error_report p (λ m. refl) (introduction S));
    })

-- whoever asks for no Abort is calm
pub lawful_calm : (S : Setup) (silent : Bool) (past : Past) (made : List Made) → Lawful S past made → list_all (asks_mildly silent) made ≡ true → Calm S silent (Unit {0}) past
lawful_calm S silent past made starts allowed = starting S
lawful_calm S silent past made (goes_on was now before more law happens) allowed =
    let parts = and_parts (list_all (asks_mildly silent) before) (list_all (asks_mildly silent) more) (sym (list_all-append (asks_mildly silent) before more) ∙ allowed) in
    limiting now (happening was more now (lawful_calm S silent was before law parts.0) parts.1 happens)

-- whoever asks for no Abort and reports no error, of that none is reported
pub no_error_report : (S : Setup) (past : Past) (made : List Made) → Lawful S past made → past.memory.asked ≡ false → list_all (asks_mildly true) made ≡ true
    → list_any is_error_report past.journal ≡ false
no_error_report S past made law none allowed = (lawful_calm S true past made law allowed).unreported none refl
