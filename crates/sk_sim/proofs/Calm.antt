-- What keeps a participant from being aborted: where no limit was reached, no link is lost and no error was reported, it enters no
-- Error and puts no Abort, and only a peer aborts it. Beside it, where nobody reports an error: the blocks that stand behind an entry.
use Rattle.std.specs.Prelude.{◌≡◌, refl, ℕ, nat_lt, nat_le, ◌==◌, Bool, true, false, not, ◌&&◌, ◌||◌, List, [], ◌∷◌, ◌++◌, map, Option, Some, None, if◌then◌else◌}
use Rattle.std.specs.List.{list_any}
use Rattle.std.proofs.Common.{ap, sym, ◌∙◌, subst}
use Rattle.std.proofs.lemmas.Bool.{or_parts, or_from}
use Rattle.std.proofs.lemmas.List.Folds.{list_any-append}
use Rattle.sk_msg.specs.declared.command.Command.{Command}
use Rattle.sk_msg.specs.declared.command.Command.TheVariants.{Pause, Continue, Stop, ReportError, Abort}
use Rattle.sk_msg.specs.declared.command.Verdict.TheVariants.{Accepted, Refused}
use Rattle.sk_msg.specs.declared.content.Content.{Content}
use Rattle.sk_msg.specs.declared.content.Content.TheVariants as contents
use Rattle.sk_msg.specs.declared.entry.Entry.{Entry}
use Rattle.sk_msg.specs.declared.entry.Entry.TheVariants.{Got, Put, State as Entered, System as Judged, Ask, Gone, Fault}
use Rattle.sk_msg.specs.declared.state.State.{State}
use Rattle.sk_msg.specs.declared.state.State.TheVariants as states
use Rattle.sk_msg.specs.Edges.{has_edge, led_to, is_command}
use Rattle.sk_msg.specs.States.{is_state}
use Rattle.sk_law.specs.declared.setup.Setup.{Setup}
use Rattle.sk_law.specs.Past.{Past, add, put_each}
use Rattle.sk_law.specs.Readings.{state_of, system_told}
use Rattle.sk_law.specs.Links.{reached, told, system, is_peer}
use Rattle.sk_law.specs.Blocks.{judge_system, announce_step, announce, enter_only, is_first_run, behind, enter_until, enter_if, until_of, accepted, tell_abort, asked, ask, with_pause, fault, lose}
use Rattle.sk_script.specs.Closed.{is_error}
use Rattle.sk_sim.specs.Simulations.{is_aborting, is_error_report}

-- ## What is looked for

abbrev pub is_abort : Content → Bool
is_abort contents.Abort = true
is_abort m = false

abbrev pub is_abort_put : Entry → Bool
is_abort_put (Put q m) = is_abort m
is_abort_put e = false

abbrev pub is_abort_got : Setup → Entry → Bool
is_abort_got S (Got p m) = is_abort m && is_peer S p
is_abort_got S e = false

abbrev pub enters_error : Entry → Bool
enters_error (Entered to) = is_state states.Error to
enters_error e = false

-- what may lead to Error: a limit, a lost link, or an error that is reported
abbrev pub is_cause : Entry → Bool
is_cause (Fault n) = true
is_cause (Gone p reason) = true
is_cause e = is_error_report e

-- what there has to be a reason for
abbrev pub is_marked : Entry → Bool
is_marked e = enters_error e || (is_abort_put e || (is_aborting e || is_error_report e))

-- no Error was entered, no Abort put, and Aborting was entered only behind the Abort of a peer
pub record Unmarked (S : Setup) (es : List Entry) : Type 0 where
  pub error : list_any enters_error es ≡ false
  pub put : list_any is_abort_put es ≡ false
  pub heard : list_any is_aborting es ≡ true → list_any (is_abort_got S) es ≡ true

-- these keep it so
pub record ArePlain (S : Setup) (es fs : List Entry) : Type 0 where
  pub error : list_any enters_error fs ≡ false
  pub put : list_any is_abort_put fs ≡ false
  pub heard : list_any is_aborting fs ≡ true → list_any (is_abort_got S) es ≡ true

-- where no caller asked, no tool was added and there was no cause: all this, and what else is supposed; and where no caller asked
-- and the app is silent of errors, none is reported
pub record Calm (S : Setup) (silent : Bool) (Q : Type 0) (past : Past) : Type 0 where
  pub calm : past.memory.asked ≡ false → past.memory.tools ≡ [] → list_any is_cause past.journal ≡ false → Q × Unmarked S past.journal
  pub unreported : past.memory.asked ≡ false → silent ≡ true → list_any is_error_report past.journal ≡ false

-- a state that is left for the next one
abbrev pub IsOther : State → Type 0
IsOther to = (is_state states.Error to ≡ false) × (is_state states.Aborting to ≡ false)

-- a command leads to such a state, or nowhere
abbrev pub IsHarmless : Option State → Type 0
IsHarmless None = Unit {0}
IsHarmless (Some to) = IsOther to

-- ## Tests of entries

pub clash : {b : Bool} → b ≡ false → b ≡ true → ⊥
clash e f = let both = sym e ∙ f in cc

pub left_true : (a b : Bool) → a ≡ true → (a || b) ≡ true
left_true true b e = refl
left_true false b e = absurd (cc)

pub one_true : {X : Type 0} (a b : Bool) → (a || b) ≡ true → (a ≡ true → X) → (b ≡ true → X) → X
one_true true b e f g = f refl
one_true false b e f g = g e

pub more_false : (test : Entry → Bool) (es fs : List Entry) → list_any test es ≡ false → list_any test fs ≡ false → list_any test (es ++ fs) ≡ false
more_false test es fs e f = list_any-append test es fs ∙ or_from (list_any test es) (list_any test fs) e f

kept_true : (test : Entry → Bool) (es fs : List Entry) → list_any test es ≡ true → list_any test (es ++ fs) ≡ true
kept_true test es fs e = list_any-append test es fs ∙ left_true (list_any test es) (list_any test fs) e

front_false : (test : Entry → Bool) (es fs : List Entry) → list_any test (es ++ fs) ≡ false → list_any test es ≡ false
front_false test es fs e = (or_parts (list_any test es) (list_any test fs) (sym (list_any-append test es fs) ∙ e)).0

unmarked_more : (S : Setup) (es fs : List Entry) → Unmarked S es → ArePlain S es fs → Unmarked S (es ++ fs)
unmarked_more S es fs u plain = record {
  error = more_false enters_error es fs u.error plain.error;
  put = more_false is_abort_put es fs u.put plain.put;
  heard = λ e.
      one_true (list_any is_aborting es) (list_any is_aborting fs) (sym (list_any-append is_aborting es fs) ∙ e)
      (λ early. kept_true (is_abort_got S) es fs (u.heard early))
      (λ late. kept_true (is_abort_got S) es fs (plain.heard late));
}

-- a message that passes no test, put to each of these
none_put : (test : Entry → Bool) (m : Content) → ((q : ℕ) → test (Put q m) ≡ false) → (numbers : List ℕ) → list_any test (map (λ q. Put q m) numbers) ≡ false
none_put test m none [] = refl
none_put test m none (q ∷ numbers) = or_from (test (Put q m)) (list_any test (map (λ r. Put r m) numbers)) (none q) (none_put test m none numbers)

-- a state that is neither Error nor Aborting
pub plain_state : (S : Setup) (to : State) (es : List Entry) → IsOther to → ArePlain S es (Entered to ∷ [])
plain_state S to es other = record {
  error = or_from (is_state states.Error to) false other.0 refl;
  put = refl;
  heard = λ so_it_is. let none_here : list_any is_aborting (Entered to ∷ []) ≡ false = or_from (is_state states.Aborting to) false other.1 refl in absurd (clash none_here so_it_is);
}

module _ {S : Setup} {silent : Bool} where
  -- ## By entries

  -- a journal that grew by these
  growing : {Q : Type 0} (fs : List Entry) (past now : Past) → now.memory.asked ≡ past.memory.asked → now.memory.tools ≡ past.memory.tools → now.journal ≡ past.journal ++ fs
      → list_any is_error_report fs ≡ false → (Q → ArePlain S past.journal fs) → Calm S silent Q past → Calm S silent Q now
  growing fs past now same_asked same_tools is report plain h = record {
    calm = λ a t none.
        let before = h.calm (sym same_asked ∙ a) (sym same_tools ∙ t) (front_false is_cause past.journal fs (ap (list_any is_cause) (sym is) ∙ none)) in
        (before.0, subst (Unmarked S) (sym is) (unmarked_more S past.journal fs before.1 (plain before.0)));
    unreported = λ a s. ap (list_any is_error_report) is ∙ more_false is_error_report past.journal fs (h.unreported (sym same_asked ∙ a) s) report;
  }

  pub either : {Q : Type 0} (b : Bool) (x y : Past) → Calm S silent Q x → Calm S silent Q y → Calm S silent Q (if b then x else y)
  either true x y h i = h
  either false x y h i = i

  -- one entry more
  pub adding : {Q : Type 0} (e : Entry) (past : Past) → is_error_report e ≡ false → (Q → ArePlain S past.journal (e ∷ [])) → Calm S silent Q past → Calm S silent Q (add e past)
  adding e past report plain h = growing (e ∷ []) past (add e past) refl refl refl (or_from (is_error_report e) false report refl) plain h

  -- one that needs no reason
  pub plainly : {Q : Type 0} (e : Entry) (past : Past) → is_marked e ≡ false → Calm S silent Q past → Calm S silent Q (add e past)
  plainly e past unmarked h =
      let a = or_parts (enters_error e) (is_abort_put e || (is_aborting e || is_error_report e)) unmarked in
      let b = or_parts (is_abort_put e) (is_aborting e || is_error_report e) a.1 in
      let c = or_parts (is_aborting e) (is_error_report e) b.1 in
      adding e past c.1 (λ _. record {
        error = or_from (enters_error e) false a.0 refl;
        put = or_from (is_abort_put e) false b.0 refl;
        heard = λ so_it_is. let none_here : list_any is_aborting (e ∷ []) ≡ false = or_from (is_aborting e) false c.0 refl in absurd (clash none_here so_it_is);
      }) h

  pub putting : {Q : Type 0} (numbers : List ℕ) (m : Content) (past : Past) → (Q → is_abort m ≡ false) → Calm S silent Q past → Calm S silent Q (put_each numbers m past)
  putting numbers m past other h =
      growing (map (λ q. Put q m) numbers) past (put_each numbers m past) refl refl refl (none_put is_error_report m (λ q. refl) numbers) (λ it. record {
        error = none_put enters_error m (λ q. refl) numbers;
        put = none_put is_abort_put m (λ q. other it) numbers;
        heard = λ so_it_is. absurd (clash (none_put is_aborting m (λ q. refl) numbers) so_it_is);
      }) h

  -- ## States

  pub judging : {Q : Type 0} (past : Past) → Calm S silent Q past → Calm S silent Q (judge_system S past)
  unfolding judge_system
  judging past h = either (is_state (system S past) (system_told past.journal)) past (add (Judged (system S past)) past) h (plainly (Judged (system S past)) past refl h)

  pub announcing : {Q : Type 0} (size : Option ℕ) (at : ℕ) (past : Past) → Calm S silent Q past → Calm S silent Q (announce_step S size at past)
  announcing None at past h = h
  announcing (Some size) at past h = putting (reached S past) (contents.NextStep at size) past (λ _. refl) h

  going_behind : {Q : Type 0} (to : State) (is_first : Bool) (numbers : List ℕ) (past : Past) → Calm S silent Q past → Calm S silent Q (behind S to is_first numbers past)
  going_behind to is_first numbers past h =
      either (is_state states.Shutdown to) (put_each numbers contents.Leave past) (if is_first then announce S 0 past else past) (putting numbers contents.Leave past (λ _. refl) h)
      (either is_first (announce S 0 past) past (announcing S.step 0 past h) h)

  pub entering : {Q : Type 0} (to : State) (until : ℕ) (past : Past) → (Q → ArePlain S past.journal (Entered to ∷ [])) → Calm S silent Q past → Calm S silent Q (enter_until S to until past)
  unfolding enter_until
  entering to until past plain h =
      going_behind to (is_first_run to past.journal) (told S past) (enter_only S to until past)
      (judging (put_each (told S past) (contents.Status to until) (add (Entered to) past))
      (putting (told S past) (contents.Status to until) (add (Entered to) past) (λ _. refl) (adding (Entered to) past refl plain h)))

  pub entering_where : {Q : Type 0} (to : State) (past : Past) → (Q → ArePlain S past.journal (Entered to ∷ [])) → Calm S silent Q past → Calm S silent Q (enter_if S to past)
  unfolding enter_if
  entering_where to past plain h = either (has_edge (state_of past.journal) to) (enter_until S to 0 past) past (entering to 0 past plain h) h

  -- ## Where there is a cause, nothing is to be shown

  pub supposed : {Q : Type 0} (past : Past) → Calm S silent ⊥ past → Calm S silent Q past
  supposed past h = record { calm = λ a t none. absurd (h.calm a t none).0; unreported = h.unreported }

  behind_cause : {Q : Type 0} (e : Entry) (past : Past) → is_cause e ≡ true → (silent ≡ true → is_error_report e ≡ false) → Calm S silent Q past → Calm S silent ⊥ (add e past)
  behind_cause e past so_it_is silently h =
      record {
        calm = λ a t none. absurd (clash none (list_any-append is_cause past.journal (e ∷ []) ∙ last (list_any is_cause past.journal)));
        unreported = λ a s. more_false is_error_report past.journal (e ∷ []) (h.unreported a s) (or_from (is_error_report e) false (silently s) refl);
      }
    where
      last : (a : Bool) → (a || (is_cause e || false)) ≡ true
      last true = refl
      last false = left_true (is_cause e) false so_it_is

  pub faulting : {Q : Type 0} (number : ℕ) (past : Past) → Calm S silent Q past → Calm S silent Q (fault S number past)
  faulting number past h =
      supposed (fault S number past) (entering_where states.Error (add (Fault number) past) (λ never. absurd never) (behind_cause (Fault number) past refl (λ s. refl) h))

  pub losing : {Q : Type 0} (p reason : ℕ) (past : Past) → Calm S silent Q past → Calm S silent Q (lose S p reason past)
  unfolding lose
  losing p reason past h =
      let gone = behind_cause (Gone p reason) past refl (λ s. refl) h in
      either (is_peer S p) (enter_if S states.Error (add (Gone p reason) past)) (add (Gone p reason) past)
      (supposed (enter_if S states.Error (add (Gone p reason) past)) (entering_where states.Error (add (Gone p reason) past) (λ never. absurd never) gone)) (supposed (add (Gone p reason) past) gone)

  -- ## Commands

  -- the same with a pause count
  pub pausing : {Q : Type 0} (count : Option ℕ) (past : Past) → Calm S silent Q past → Calm S silent Q (with_pause count past)
  pausing count past h = record { calm = h.calm; unreported = h.unreported }

  refused_plainly : {Q : Type 0} (command : Command) (past : Past) → Calm S silent Q past → Calm S silent Q (add (Ask command (Refused (state_of past.journal))) past)
  refused_plainly command past h = plainly (Ask command (Refused (state_of past.journal))) past (unmarked command) h
    where
      unmarked : (c : Command) → is_marked (Ask c (Refused (state_of past.journal))) ≡ false
      unmarked ReportError = refl
      unmarked c = refl

  -- a command that is no Abort and reports no error
  pub obeying : {Q : Type 0} (command : Command) (to : Option State) (past : Past) → is_command Abort command ≡ false → is_error command ≡ false → IsHarmless to
      → Calm S silent Q past → Calm S silent Q (asked S command to past)
  obeying command None past no_abort no_error harmless h = refused_plainly command past h
  obeying {Q} command (Some to) past no_abort no_error harmless h =
      let now = enter_until S to (until_of S command past) (accepted command past) in
      let entered : Calm S silent Q now =
      entering to (until_of S command past) (accepted command past) (λ _. plain_state S to (accepted command past).journal harmless)
      (plainly (Ask command Accepted) (with_pause None past) (unmarked command no_error) (pausing None past h)) in
      subst (λ b. Calm S silent Q (if b then put_each (reached S now) contents.Abort now else now)) (sym no_abort) entered
    where
      unmarked : (c : Command) → is_error c ≡ false → is_marked (Ask c Accepted) ≡ false
      unmarked ReportError e = absurd (cc)
      unmarked c e = refl

  -- one that does, where the app isn't silent of errors
  pub reporting : {Q : Type 0} (to : Option State) (past : Past) → (silent ≡ true → ⊥) → Calm S silent Q past → Calm S silent Q (asked S ReportError to past)
  reporting None past loud h = refused_plainly ReportError past h
  reporting (Some to) past loud h =
      let now = enter_until S to (until_of S ReportError past) (accepted ReportError past) in
      supposed now
      (entering to (until_of S ReportError past) (accepted ReportError past) (λ never. absurd never)
      (behind_cause (Ask ReportError Accepted) (with_pause None past) refl (λ s. absurd (loud s)) (pausing None past h)))

  -- an Abort, where there can be none
  pub aborting : (to : Option State) (past : Past) → Calm S silent ⊥ past → Calm S silent ⊥ (asked S Abort to past)
  aborting None past h = refused_plainly Abort past h
  aborting (Some to) past h =
      let now = enter_until S to (until_of S Abort past) (accepted Abort past) in
      putting (reached S now) contents.Abort now (λ never. absurd never)
      (entering to (until_of S Abort past) (accepted Abort past) (λ never. absurd never)
      (plainly (Ask Abort Accepted) (with_pause None past) refl (pausing None past h)))

-- ## Where Pause, Continue and Stop lead

pub pause_leads : (from : State) → IsHarmless (led_to from Pause)
unfolding led_to is_state
pause_leads states.Running = (refl, refl)
pause_leads from = tt

pub continue_leads : (from : State) → IsHarmless (led_to from Continue)
unfolding led_to is_state
continue_leads states.Paused = (refl, refl)
continue_leads from = tt

pub stop_leads : (from : State) → IsHarmless (led_to from Stop)
unfolding led_to is_state
stop_leads states.Running = (refl, refl)
stop_leads states.Paused = (refl, refl)
stop_leads from = tt

-- ## Where a caller has asked, nothing is to be shown

-- a caller has asked
pub record WasAsked (past : Past) : Type 0 where
  pub was : past.memory.asked ≡ true

pub unasked : {S : Setup} {silent : Bool} {Q : Type 0} (past : Past) → WasAsked past → Calm S silent Q past
unasked past h = record { calm = λ a t none. absurd (clash a h.was); unreported = λ a s. absurd (clash a h.was) }

either_asked : (b : Bool) (x y : Past) → WasAsked x → WasAsked y → WasAsked (if b then x else y)
either_asked true x y h i = h
either_asked false x y h i = i

module _ (S : Setup) where
  judging_asked : (past : Past) → WasAsked past → WasAsked (judge_system S past)
  unfolding judge_system
  judging_asked past h = either_asked (is_state (system S past) (system_told past.journal)) past (add (Judged (system S past)) past) h (record { was = h.was })

  announcing_asked : (size : Option ℕ) (at : ℕ) (past : Past) → WasAsked past → WasAsked (announce_step S size at past)
  announcing_asked None at past h = h
  announcing_asked (Some size) at past h = record { was = h.was }

  behind_asked : (to : State) (is_first : Bool) (numbers : List ℕ) (past : Past) → WasAsked past → WasAsked (behind S to is_first numbers past)
  behind_asked to is_first numbers past h =
      either_asked (is_state states.Shutdown to) (put_each numbers contents.Leave past) (if is_first then announce S 0 past else past) (record { was = h.was })
      (either_asked is_first (announce S 0 past) past (announcing_asked S.step 0 past h) h)

  entering_asked : (to : State) (until : ℕ) (past : Past) → WasAsked past → WasAsked (enter_until S to until past)
  unfolding enter_until
  entering_asked to until past h =
      behind_asked to (is_first_run to past.journal) (told S past) (enter_only S to until past)
      (judging_asked (put_each (told S past) (contents.Status to until) (add (Entered to) past)) (record { was = h.was }))

  obeying_asked : (command : Command) (to : Option State) (past : Past) → WasAsked past → WasAsked (asked S command to past)
  obeying_asked command None past h = record { was = h.was }
  obeying_asked command (Some to) past h =
      let now = enter_until S to (until_of S command past) (accepted command past) in
      let entered : WasAsked now = entering_asked to (until_of S command past) (accepted command past) (record { was = h.was }) in
      either_asked (is_command Abort command) (put_each (reached S now) contents.Abort now) now (record { was = entered.was }) entered

  pub asking_asked : (command : Command) (past : Past) → WasAsked past → WasAsked (ask S command past)
  unfolding ask
  asking_asked command past h = obeying_asked command (led_to (state_of past.journal) command) past h
