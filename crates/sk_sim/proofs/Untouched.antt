-- No caller, no tool and no completion comes by a message or by a row.
use Rattle.std.specs.Prelude.{◌≡◌, refl, ℕ, ◌+◌, ◌-◌, nat_le, max, Bool, true, false, not, ◌&&◌, ◌||◌, List, [], ◌∷◌, ◌++◌, map, length, Option, Some, None, unwrap_or, if◌then◌else◌}
use Rattle.std.specs.List.{flat_map, list_any}
use Rattle.std.proofs.Common.{ap, ◌∙◌}
use Rattle.std.proofs.Math.Bool.{or-false}
use Rattle.std.proofs.lemmas.List.Folds.{list_any-append}
use Rattle.sk_msg.specs.declared.action.Action.{Action}
use Rattle.sk_msg.specs.declared.action.Action.TheVariants as actions
use Rattle.sk_msg.specs.declared.command.Command.{Command}
use Rattle.sk_msg.specs.declared.command.Command.TheVariants.{Pause, Continue, Abort}
use Rattle.sk_msg.specs.declared.command.Verdict.TheVariants.{Accepted, Refused}
use Rattle.sk_msg.specs.declared.content.Content.{Content}
use Rattle.sk_msg.specs.declared.content.Content.TheVariants as contents
use Rattle.sk_msg.specs.declared.entry.Entry.{Entry}
use Rattle.sk_msg.specs.declared.entry.Entry.TheVariants.{Got, Put, Hand, State as Entered, System as Judged, Begin, End, Ask, Gone, Did, Fault}
use Rattle.sk_msg.specs.declared.state.State.{State}
use Rattle.sk_msg.specs.declared.state.State.TheVariants.{ServicesCreated, Running, Error, Shutdown, Aborting}
use Rattle.sk_msg.specs.Edges.{has_edge, led_to, is_command}
use Rattle.sk_msg.specs.States.{is_state}
use Rattle.sk_law.specs.declared.made.Call.{Call}
use Rattle.sk_law.specs.declared.made.Call.TheVariants as calls
use Rattle.sk_law.specs.declared.made.Made.{Made}
use Rattle.sk_law.specs.declared.memory.Begun.{Begun}
use Rattle.sk_law.specs.declared.memory.ServiceState.{ServiceState}
use Rattle.sk_law.specs.declared.setup.Setup.{Setup}
use Rattle.sk_law.specs.Past.{Past, add, put_each}
use Rattle.sk_law.specs.Readings.{state_of, system_told, open_step, payload}
use Rattle.sk_law.specs.Links.{reached, told, peers, system, is_peer, comes_in_order}
use Rattle.sk_law.specs.Outcomes.{Outcome, outcome, named}
use Rattle.sk_law.specs.Receivers.{changed, received, with_services}
use Rattle.sk_law.specs.Rows as law
use Rattle.sk_law.specs.Services.{new_states}
use Rattle.sk_law.specs.Blocks.{judge_system, announce_step, announce, enter_only, is_first_run, behind, enter_until, enter_if, until_of, accepted, tell_abort, asked, ask, with_pause, pause_for, count_down, put_some, did, answer, answers, fault, called, over_after, callback, callbacks, end_open, end_step, may_end, take_step, lose, heed, get, introduction, making, judge_limits}
use Rattle.sk_node.specs.Turning.{Acts, moves, readies, begins, counts as counts_row, gives_up}
use Rattle.sk_sim.specs.Parts.{is_stray, IsUntouched}

-- where nothing happens
pub untouched_none : (a : Past) → IsUntouched a a
untouched_none a = record { asked = refl; tools = refl; strays = refl }

-- one after the other
pub untouched_both : (a b c : Past) → IsUntouched a b → IsUntouched b c → IsUntouched a c
untouched_both a b c h i = record { asked = i.asked ∙ h.asked; tools = i.tools ∙ h.tools; strays = i.strays ∙ h.strays }

-- below, a is where it started
either : {a : Past} (b : Bool) (x y : Past) → IsUntouched a x → IsUntouched a y → IsUntouched a (if b then x else y)
either true x y h i = h
either false x y h i = i

none_more : (es fs : List Entry) → list_any is_stray fs ≡ false → list_any is_stray (es ++ fs) ≡ list_any is_stray es
none_more es fs none = list_any-append is_stray es fs ∙ (ap (λ b. list_any is_stray es || b) none ∙ or-false (list_any is_stray es))

-- one entry more that is no Stray
adding : {a : Past} (e : Entry) (past : Past) → is_stray e ≡ false → IsUntouched a past → IsUntouched a (add e past)
adding e past none h = record { asked = h.asked; tools = h.tools; strays = none_more past.journal (e ∷ []) (ap (λ b. b || false) none) ∙ h.strays }

no_stray_put : (numbers : List ℕ) (m : Content) → list_any is_stray (map (λ q. Put q m) numbers) ≡ false
no_stray_put [] m = refl
no_stray_put (q ∷ numbers) m = no_stray_put numbers m

putting : {a : Past} (numbers : List ℕ) (m : Content) (past : Past) → IsUntouched a past → IsUntouched a (put_each numbers m past)
putting numbers m past h = record { asked = h.asked; tools = h.tools; strays = none_more past.journal (map (λ q. Put q m) numbers) (no_stray_put numbers m) ∙ h.strays }

-- ## States and commands

judging : {a : Past} (S : Setup) (past : Past) → IsUntouched a past → IsUntouched a (judge_system S past)
unfolding judge_system
judging S past h = either (is_state (system S past) (system_told past.journal)) past (add (Judged (system S past)) past) h (adding (Judged (system S past)) past refl h)

announcing : {a : Past} (S : Setup) (size : Option ℕ) (at : ℕ) (past : Past) → IsUntouched a past → IsUntouched a (announce_step S size at past)
announcing S None at past h = h
announcing S (Some size) at past h = putting (reached S past) (contents.NextStep at size) past h

going_behind : {a : Past} (S : Setup) (to : State) (is_first : Bool) (numbers : List ℕ) (past : Past) → IsUntouched a past → IsUntouched a (behind S to is_first numbers past)
going_behind S to is_first numbers past h =
    either (is_state Shutdown to) (put_each numbers contents.Leave past) (if is_first then announce S 0 past else past) (putting numbers contents.Leave past h)
    (either is_first (announce S 0 past) past (announcing S S.step 0 past h) h)

entering : {a : Past} (S : Setup) (to : State) (until : ℕ) (past : Past) → IsUntouched a past → IsUntouched a (enter_until S to until past)
unfolding enter_until
entering S to until past h =
    going_behind S to (is_first_run to past.journal) (told S past) (enter_only S to until past)
    (judging S (put_each (told S past) (contents.Status to until) (add (Entered to) past))
    (putting (told S past) (contents.Status to until) (add (Entered to) past) (adding (Entered to) past refl h)))

entering_where : {a : Past} (S : Setup) (to : State) (past : Past) → IsUntouched a past → IsUntouched a (enter_if S to past)
unfolding enter_if
entering_where S to past h = either (has_edge (state_of past.journal) to) (enter_until S to 0 past) past (entering S to 0 past h) h

telling : {a : Past} (S : Setup) (command : Command) (past : Past) → IsUntouched a past → IsUntouched a (tell_abort S command past)
telling S command past h = either (is_command Abort command) (put_each (reached S past) contents.Abort past) past (putting (reached S past) contents.Abort past h) h

-- the same with a pause count
pausing : {a : Past} (count : Option ℕ) (past : Past) → IsUntouched a past → IsUntouched a (with_pause count past)
pausing count past h = record { asked = h.asked; tools = h.tools; strays = h.strays }

obeying : {a : Past} (S : Setup) (command : Command) (to : Option State) (past : Past) → IsUntouched a past → IsUntouched a (asked S command to past)
obeying S command None past h = adding (Ask command (Refused (state_of past.journal))) past refl h
obeying S command (Some to) past h =
    telling S command (enter_until S to (until_of S command past) (accepted command past))
    (entering S to (until_of S command past) (accepted command past) (adding (Ask command Accepted) (with_pause None past) refl (pausing None past h)))

asking : {a : Past} (S : Setup) (command : Command) (past : Past) → IsUntouched a past → IsUntouched a (ask S command past)
unfolding ask
asking S command past h = obeying S command (led_to (state_of past.journal) command) past h

pausing_for : {a : Past} (S : Setup) (count : ℕ) (past : Past) → IsUntouched a past → IsUntouched a (pause_for S count past)
unfolding pause_for
pausing_for S count past h =
    either (is_state Running (state_of past.journal)) (with_pause (Some (max count 1)) (ask S Pause past)) (ask S Pause past) (pausing (Some (max count 1)) (ask S Pause past) (asking S Pause past h)) (asking S Pause past h)

counting : {a : Past} (S : Setup) (count : ℕ) (past : Past) → IsUntouched a past → IsUntouched a (count_down S count past)
unfolding count_down
counting S count past h = either (nat_le count 1) (ask S Continue past) (with_pause (Some (count - 1)) past) (asking S Continue past h) (pausing (Some (count - 1)) past h)

-- ## Actions and callbacks

serving : {a : Past} (services : List ServiceState) (past : Past) → IsUntouched a past → IsUntouched a (with_services services past)
serving services past h = record { asked = h.asked; tools = h.tools; strays = h.strays }

some_put : {a : Past} (to : List ℕ) (o : Option Content) (past : Past) → IsUntouched a past → IsUntouched a (put_some to o past)
some_put to None past h = h
some_put to (Some m) past h = putting to m past h

doing : {a : Past} (s : ℕ) (o : Outcome) (past : Past) → IsUntouched a past → IsUntouched a (did s o past)
doing s o past h =
    let services = changed (λ at. o.state) s past.memory.services in
    some_put o.to o.message (add (Did s o.code o.message) (with_services services past))
    (adding (Did s o.code o.message) (with_services services past) refl (serving services past h))

answering : {a : Past} (S : Setup) (past : Past) (one : Action) → IsUntouched a past → IsUntouched a (answer S past one)
unfolding answer
answering S past (actions.Ask command) h = asking S command past h
answering S past (actions.PauseFor count) h = pausing_for S count past h
answering S past one h = doing (named one) (outcome S past one) past h

faulting : {a : Past} (S : Setup) (number : ℕ) (past : Past) → IsUntouched a past → IsUntouched a (fault S number past)
faulting S number past h = entering_where S Error (add (Fault number) past) (adding (Fault number) past refl h)

exceeding : {a : Past} (S : Setup) (over : Bool) (past : Past) → IsUntouched a past → IsUntouched a (over_after S over past)
exceeding S over past h = either over (fault S 2 past) past (faulting S 2 past h) h

all_answered : {a : Past} (S : Setup) (more : List Action) (past : Past) → IsUntouched a past → IsUntouched a (answers S more past)
all_answered S [] past h = h
all_answered S (one ∷ more) past h = all_answered S more (answer S past one) (answering S past one h)

calling : {a : Past} (call : Call) (past : Past) → IsUntouched a past → IsUntouched a (called call past)
calling calls.Ready past h = record { asked = h.asked; tools = h.tools; strays = h.strays }
calling (calls.Step number at) past h = adding (Begin number at) past refl h
calling (calls.Message p place r m) past h =
    serving (changed (received p m) r past.memory.services) (add (Hand p place r) past) (adding (Hand p place r) past refl h)

calling_back : {a : Past} (S : Setup) (made : Made) (past : Past) → IsUntouched a past → IsUntouched a (callback S past made)
unfolding callback
calling_back S made past h =
    exceeding S made.over (answers S made.actions (called made.call past)) (all_answered S made.actions (called made.call past) (calling made.call past h))

all_called : {a : Past} (S : Setup) (made : List Made) (past : Past) → IsUntouched a past → IsUntouched a (callbacks S made past)
all_called S [] past h = h
all_called S (one ∷ made) past h = all_called S made (callback S past one) (calling_back S one past h)

-- ## Steps

ending_open : {a : Past} (S : Setup) (step : Option Begun) (past : Past) → IsUntouched a past → IsUntouched a (end_open S step past)
ending_open S None past h = h
ending_open S (Some step) past h = announcing S S.step (step.time + unwrap_or S.step 0) (add (End step.number) past) (adding (End step.number) past refl h)

ending : {a : Past} (S : Setup) (past : Past) → IsUntouched a past → IsUntouched a (end_step S past)
unfolding end_step
ending S past h = ending_open S (open_step past.journal) past h

stepping : {a : Past} (S : Setup) (made : Made) (past : Past) → IsUntouched a past → IsUntouched a (take_step S made past)
unfolding take_step
stepping S made past h =
    let now = callback S past made in let back = calling_back S made past h in
    either (not S.is_async && may_end (state_of now.journal)) (end_step S now) now (ending S now back) back

-- ## Links

losing : {a : Past} (S : Setup) (p reason : ℕ) (past : Past) → IsUntouched a past → IsUntouched a (lose S p reason past)
unfolding lose
losing S p reason past h =
    let gone = adding (Gone p reason) past refl h in
    either (is_peer S p) (enter_if S Error (add (Gone p reason) past)) (add (Gone p reason) past) (entering_where S Error (add (Gone p reason) past) gone) gone

heeding : {a : Past} (S : Setup) (p : ℕ) (m : Content) (made : List Made) (past : Past) → IsUntouched a past → IsUntouched a (heed S p m made past)
unfolding heed
heeding S p (contents.Status state until) made past h = judging S past h
heeding S p (contents.Workflow required) made past h = judging S past h
heeding S p contents.Abort made past h = entering_where S Aborting past h
heeding S p (contents.LinResponse head response) made past h = serving _ past h
heeding S p m made past h = all_called S made past h

getting : {a : Past} (S : Setup) (p : ℕ) (m : Content) (made : List Made) (past : Past) → IsUntouched a past → IsUntouched a (get S p m made past)
unfolding get
getting S p m made past h =
    let got = adding (Got p m) past refl h in
    either (comes_in_order S past p m) (heed S p m made (add (Got p m) past)) (lose S p 8 (add (Got p m) past)) (heeding S p m made (add (Got p m) past) got) (losing S p 8 (add (Got p m) past) got)

limiting : {a : Past} (S : Setup) (past : Past) → IsUntouched a past → IsUntouched a (judge_limits S past)
unfolding judge_limits
limiting S past h =
    either (not (has_edge (state_of past.journal) Error)) past _ h
    (either (nat_le 500000 (length past.journal)) (fault S 3 past) _ (faulting S 3 past h)
    (either (nat_le 33554432 (payload past.journal)) (fault S 4 past) past (faulting S 4 past h) h))

-- ## What a turn is made of

-- a message that was taken touches none of it
pub taken_untouched : (S : Setup) (p : ℕ) (m : Content) (made : List Made) (past : Past) → IsUntouched past (judge_limits S (get S p m made past))
taken_untouched S p m made past = limiting S (get S p m made past) (getting S p m made past (untouched_none past))

acting : (S : Setup) (past : Past) (r : law.Row) (made : List Made) (now : Past) → Acts S past r made now → IsUntouched past now
acting S past r made now (moves to) = entering S to 0 past (untouched_none past)
acting S past r made now (readies one is filled) = calling_back S one past (untouched_none past)
acting S past r made now (begins one is filled) = stepping S one past (untouched_none past)
acting S past r made now (counts_row count) = counting S count past (untouched_none past)
acting S past r made now gives_up = asking S Abort past (untouched_none past)

-- nor does a row that was done
pub acted_untouched : (S : Setup) (past : Past) (r : law.Row) (made : List Made) (now : Past) → Acts S past r made now → IsUntouched past (judge_limits S now)
acted_untouched S past r made now acts = limiting S now (acting S past r made now acts)

-- ## The beginning

introduced : (ms : List Content) (ps : List ℕ) → list_any is_stray (flat_map (λ p. map (λ m. Put p m) ms) ps) ≡ false
introduced ms [] = refl
introduced ms (p ∷ ps) =
    list_any-append is_stray (map (λ m. Put p m) ms) (flat_map (λ q. map (λ m. Put q m) ms) ps)
    ∙ (ap (λ b. b || list_any is_stray (flat_map (λ q. map (λ m. Put q m) ms) ps)) (to_one p ms) ∙ introduced ms ps)
  where
    to_one : (q : ℕ) → (xs : List Content) → list_any is_stray (map (λ m. Put q m) xs) ≡ false
    to_one q [] = refl
    to_one q (m ∷ xs) = to_one q xs

-- what stands in front of the first State
abbrev first : Setup → Past
first S = record {
  journal = flat_map (λ p. map (λ m. Put p m) (introduction S)) (peers S);
  memory = record { called = false; asked = false; pause = None; tools = []; services = new_states S.services; ready_awaited = false };
}

-- a participant that was just made has none of it
pub made_untouched : (S : Setup) → ((making S).memory.asked ≡ false) × ((making S).memory.tools ≡ []) × (list_any is_stray (making S).journal ≡ false)
unfolding making
made_untouched S =
    let h = entering S ServicesCreated 0 (first S) (untouched_none (first S)) in
    (h.asked, h.tools, h.strays ∙ introduced (introduction S) (peers S))
