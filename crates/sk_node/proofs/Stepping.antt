-- A step in its parts.
use Rattle.std.specs.Prelude.{◌≡◌, ◌<◌, ◌≤◌, ◌^◌, refl, ℕ, nat_lt, Bool, true, false, not, ◌&&◌, [], ◌∷◌, Option, Some, None, is_none, unwrap_or, if◌then◌else◌}
use Rattle.std.specs.Bool.{then_some}
use Rattle.std.specs.Option.{option_or, option_map}
use Rattle.std.proofs.Common.{ap, sym, ◌∙◌, subst, arith}
use Rattle.std.proofs.lemmas.Bool.{and_parts}
use Rattle.std.proofs.lemmas.Bool.Decides.{nat_tests}
use Rattle.sk_msg.specs.declared.state.State.{State}
use Rattle.sk_msg.specs.declared.state.State.TheVariants as states
use Rattle.sk_law.specs.declared.made.Call.{Call}
use Rattle.sk_law.specs.declared.made.Call.TheVariants as calls
use Rattle.sk_law.specs.declared.setup.Setup.{Setup}
use Rattle.sk_law.specs.Blocks.{callback, end_blocking, take_step}
use Rattle.sk_law.specs.Growing.{BlocksAdd}
use Rattle.sk_law.specs.Links.{limit, knows_all, all_announced, all_reached, has_tool}
use Rattle.sk_law.specs.Past.{Past}
use Rattle.sk_law.specs.Readings.{next_time, open_step, state_of}
use Rattle.sk_law.specs.Rows.{Row, Move, Ready, Step, Count, GiveUp, row, row_in, knows_services, is_ready, is_done, may_begin, may_begin_by}
use Rattle.sk_node.specs.Calls.{Calls, CallsCut, Steps, StepsCut}
use Rattle.sk_law.specs.Kept.{Kept, IsCut, grown}
use Rattle.sk_node.specs.Lists.{Lists, IsQuiet, Tells, TellsCut}
use Rattle.sk_node.proofs.Cuts.{both_stand, cut_first, cut_then}
use Rattle.sk_node.proofs.Telling.{cut_of_tells, tells_both, tells_quiet}

-- ## The whole step

pub stepped : (old middle new : Kept) (call other : Call) (was mid now : Lists) → call ≡ other → Calls old middle call was mid → now ≡ mid → new ≡ grown (end_blocking middle.setup middle.past) middle →
    IsQuiet middle.past.journal new.past.journal → Steps old new other was now
unfolding take_step
stepped old middle new call other was mid now co c l e quiet = record {
  one = c.one;
  call_is = c.call_is ∙ co;
  filled = c.filled;
  made = ap (λ (x : Lists). x.made) l ∙ c.made;
  past = both_stand old (λ S q. end_blocking S q) c.past e;
  told = subst (λ x. Tells old.past.journal new.past.journal was x) (sym l) (tells_both c.told (tells_quiet mid quiet));
}

pub cut_stepping : (adds : BlocksAdd) (old new : Kept) (call other : Call) (was now : Lists) → call ≡ other → CallsCut old new call was now → StepsCut old new other was now
unfolding take_step
cut_stepping adds old new call other was now co c = record {
  one = c.one;
  call_is = c.call_is ∙ co;
  filled = c.filled;
  made = c.made;
  others = c.others;
  idle = c.idle;
  both = c.both;
  uncalled = c.uncalled;
  calls = c.calls;
  cut = cut_first c.cut (adds.ends_blocking old.setup (callback old.setup old.past c.one));
  told = c.told;
}

pub cut_ending : (adds : BlocksAdd) (old middle new : Kept) (call other : Call) (was mid now : Lists) → call ≡ other → Calls old middle call was mid → now ≡ mid →
    IsCut middle new (end_blocking middle.setup middle.past) → IsQuiet middle.past.journal new.past.journal → StepsCut old new other was now
unfolding take_step
cut_ending adds old middle new call other was mid now co c l cut quiet = record {
  one = c.one;
  call_is = c.call_is ∙ co;
  filled = c.filled;
  made = c.one ∷ [];
  others = [];
  idle = refl;
  both = refl;
  uncalled = λ other e. absurd (cc e);
  calls = ap (λ (x : Lists). x.made) l ∙ c.made;
  cut = cut_then (λ S q. end_blocking S q) c.past (adds.calls_back old.setup old.past c.one) cut;
  told = subst (λ x. TellsCut old.past.journal new.past.journal was x) (sym l) (cut_of_tells (tells_both c.told (tells_quiet mid quiet)));
}

pub same_call : (n m s t : ℕ) → n ≡ m → s ≡ t → calls.Step n s ≡ calls.Step m t
same_call n m s t e h = ap (λ x. calls.Step x s) e ∙ ap (λ x. calls.Step m x) h

-- ## A step that may begin is early enough

chain_on : {A : Type 0} (b : Bool) (r : Row) → (Some r ≡ Some Step → A) → then_some b r ≡ Some Step → A
chain_on true r f e = f e
chain_on false r f e = absurd (cc e)

ready_on : {A : Type 0} (b c : Bool) (to : State) → (if b then Some Ready else then_some c (Move to)) ≡ Some Step → A
ready_on true c to e = absurd (cc e)
ready_on false c to e = chain_on c (Move to) (λ h. absurd (cc h)) e

pausing : {A : Type 0} (pause : Option ℕ) → option_map (λ count. Count count) pause ≡ Some Step → A
pausing None e = absurd (cc e)
pausing (Some n) e = absurd (cc e)

begins : (d m : Bool) (to : State) → option_or (then_some d (Move to)) (then_some m Step) ≡ Some Step → m ≡ true
begins true m to e = absurd (cc e)
begins false true to e = refl
begins false false to e = absurd (cc e)

only_step : (S : Setup) (past : Past) (state : State) → row_in S past state ≡ Some Step → may_begin S past ≡ true
only_step S past states.Invalid e = absurd (cc e)
only_step S past states.ServicesCreated e = chain_on (knows_all S past && all_reached S past states.ServicesCreated) (Move states.CommunicationInitializing) (λ h. absurd (cc h)) e
only_step S past states.CommunicationInitializing e = chain_on (knows_services S past) (Move states.CommunicationInitialized) (λ h. absurd (cc h)) e
only_step S past states.CommunicationInitialized e = ready_on (not past.memory.called) (is_ready S past && all_reached S past states.CommunicationInitialized) states.ReadyToRun e
only_step S past states.ReadyToRun e = chain_on (all_reached S past states.ReadyToRun) (Move states.Running) (λ h. absurd (cc h)) e
only_step S past states.Running e = begins (is_done S past) (may_begin S past) states.Stopping e
only_step S past states.Paused e = pausing past.memory.pause e
only_step S past states.Stopping e = chain_on (is_none (open_step past.journal)) (Move states.Stopped) (λ h. absurd (cc h)) e
only_step S past states.Stopped e = chain_on (all_reached S past states.Stopped) (Move states.ShuttingDown) (λ h. absurd (cc h)) e
only_step S past states.Error e = chain_on (not (has_tool S past)) GiveUp (λ h. absurd (cc h)) e
only_step S past states.ShuttingDown e = absurd (cc e)
only_step S past states.Shutdown e = absurd (cc e)
only_step S past states.Aborting e = absurd (cc e)

below : (S : Setup) (past : Past) (step : Option ℕ) → may_begin_by S past step ≡ true → nat_lt (next_time (unwrap_or step 0) past.journal) (limit S past) ≡ true
below S past None e = absurd (cc e)
below S past (Some size) e =
    let rest = (and_parts (is_none (open_step past.journal)) (nat_lt (next_time size past.journal) (limit S past) && (knows_all S past && all_announced S past (next_time size past.journal))) e).1 in
    (and_parts (nat_lt (next_time size past.journal) (limit S past)) (knows_all S past && all_announced S past (next_time size past.journal)) rest).0

stepping : (S : Setup) (past : Past) → row S past ≡ Some Step → may_begin S past ≡ true
unfolding row
stepping S past e = only_step S past (state_of past.journal) e

may_be : (S : Setup) (past : Past) → may_begin S past ≡ true → may_begin_by S past S.step ≡ true
unfolding may_begin
may_be S past e = e

before : (n l m : ℕ) → nat_lt n l ≡ true → m ≡ l → m ≤ 2 ^ 61 → n ≤ 2 ^ 61
before n l m lt e le = let h : n < l = grind (arith, nat_tests) in let i = le in let j = e in omega arith

pub early_step : (S : Setup) (past : Past) (last at : ℕ) → row S past ≡ Some Step → last ≡ limit S past → last ≤ 2 ^ 61 → at ≡ next_time (unwrap_or S.step 0) past.journal → at ≤ 2 ^ 61
early_step S past last at r e le a = subst (λ n. n ≤ 2 ^ 61) (sym a)
    (before (next_time (unwrap_or S.step 0) past.journal) (limit S past) last (below S past S.step (may_be S past (stepping S past r))) e le)
