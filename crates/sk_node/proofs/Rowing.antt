-- What a row does, as one thing that happens.
use Rattle.std.specs.Prelude.{◌≡◌, refl, ℕ, Bool, true, false, not, ◌&&◌, IsTrue, List, [], ◌∷◌, Option, Some, None, if◌then◌else◌, unwrap_or}
use Rattle.std.specs.Bool.{then_some}
use Rattle.std.specs.Option.{option_map, option_or}
use Rattle.std.proofs.Common.{ap, sym, ◌∙◌, subst, append-nil}
use Rattle.sk_msg.specs.declared.state.State.{State}
use Rattle.sk_msg.specs.declared.state.State.TheVariants.{Invalid, ServicesCreated, CommunicationInitializing, CommunicationInitialized, ReadyToRun, Running, Paused, Stopping, Stopped, Error, ShuttingDown, Shutdown, Aborting}
use Rattle.sk_msg.specs.Rules.{is_told}
use Rattle.sk_law.specs.declared.made.Call.TheVariants as calls
use Rattle.sk_law.specs.declared.made.Made.{Made}
use Rattle.sk_law.specs.declared.setup.Setup.{Setup}
use Rattle.sk_law.specs.Past.{Past}
use Rattle.sk_law.specs.Readings.{state_of, next_number, next_time}
use Rattle.sk_law.specs.Blocks.{callback, take_step, judge_limits}
use Rattle.sk_law.specs.Lawful.{Happens, moves, readies, begins, counts, gives_up}
use Rattle.sk_law.specs.Links.{all_reached, has_tool, knows_all}
use Rattle.sk_law.specs.Rows.{row, row_in, is_done, is_ready, may_begin, knows_services}
use Rattle.sk_law.specs.Rows as law
use Rattle.sk_law.specs.Growing.{BlocksAdd}
use Rattle.sk_node.specs.Calls.{Calls, CallsCut, Steps, StepsCut}
use Rattle.sk_law.specs.Kept.{Kept, IsCut}
use Rattle.sk_node.specs.Lists.{Lists, Whole, Part}
use Rattle.sk_node.specs.Turning.{Acts, RowWent, RowCut}
use Rattle.sk_node.specs.Turning as turning
use Rattle.sk_node.specs.Went.{WentCut}
use Rattle.sk_node.proofs.Cuts.{cut_first, cut_then, both_stand}
use Rattle.sk_node.proofs.Telling.{tells_both, tells_then}

-- ## Rows

-- where the row is enabled, what it does is one thing that happens
pub happens_of : (S : Setup) (past : Past) (one : law.Row) (made : List Made) (now : Past) → row S past ≡ Some one → Acts S past one made now → Happens S past made now
happens_of S past (law.Move to) _ _ r (turning.moves _) = moves to r
happens_of S past law.Ready _ _ r (turning.readies made call filled) = readies made r call filled
happens_of S past law.Step _ _ r (turning.begins made call filled) = begins made r call filled
happens_of S past (law.Count count) _ _ r (turning.counts _) = counts count r
happens_of S past law.GiveUp _ _ r turning.gives_up = gives_up r

-- the chain leads to states that are told
abbrev leads_to_told : Option law.Row → Bool
leads_to_told (Some (law.Move to)) = is_told to
leads_to_told _ = true

told_then : (b : Bool) (one : law.Row) → leads_to_told (Some one) ≡ true → leads_to_told (then_some b one) ≡ true
told_then true one e = e
told_then false one e = refl

told_called : (called : Bool) (o : Option law.Row) → leads_to_told o ≡ true → leads_to_told (if not called then Some law.Ready else o) ≡ true
told_called true o e = e
told_called false o e = refl

told_running : (done may : Bool) → leads_to_told (option_or (then_some done (law.Move Stopping)) (then_some may law.Step)) ≡ true
unfolding is_told
told_running true may = refl
told_running false true = refl
told_running false false = refl

told_count : (pause : Option ℕ) → leads_to_told (option_map (λ count. law.Count count) pause) ≡ true
told_count None = refl
told_count (Some count) = refl

told_in : (S : Setup) (past : Past) (s : State) → leads_to_told (row_in S past s) ≡ true
unfolding is_told
told_in S past Invalid = refl
told_in S past ServicesCreated = told_then (knows_all S past && all_reached S past ServicesCreated) (law.Move CommunicationInitializing) refl
told_in S past CommunicationInitializing = told_then (knows_services S past) (law.Move CommunicationInitialized) refl
told_in S past CommunicationInitialized =
    told_called past.memory.called (then_some (is_ready S past && all_reached S past CommunicationInitialized) (law.Move ReadyToRun)) (told_then (is_ready S past && all_reached S past CommunicationInitialized) (law.Move ReadyToRun) refl)
told_in S past ReadyToRun = told_then (all_reached S past ReadyToRun) (law.Move Running) refl
told_in S past Running = told_running (is_done S past) (may_begin S past)
told_in S past Paused = told_count past.memory.pause
told_in S past Stopping = told_then _ (law.Move Stopped) refl
told_in S past Stopped = told_then (all_reached S past Stopped) (law.Move ShuttingDown) refl
told_in S past Error = told_then (not (has_tool S past)) law.GiveUp refl
told_in S past ShuttingDown = refl
told_in S past Shutdown = refl
told_in S past Aborting = refl

pub row_told : (S : Setup) (past : Past) (to : State) → row S past ≡ Some (law.Move to) → IsTrue (is_told to)
unfolding row
row_told S past to e = sym (ap leads_to_told e) ∙ told_in S past (state_of past.journal)

-- a count runs where it goes down
abbrev count_of : Option law.Row → Option ℕ
count_of (Some (law.Count count)) = Some count
count_of _ = None

count_then : (b : Bool) (one : law.Row) → count_of (Some one) ≡ None → count_of (then_some b one) ≡ None
count_then true one e = e
count_then false one e = refl

count_called : (called : Bool) (o : Option law.Row) → count_of o ≡ None → count_of (if not called then Some law.Ready else o) ≡ None
count_called true o e = e
count_called false o e = refl

count_running : (done may : Bool) → count_of (option_or (then_some done (law.Move Stopping)) (then_some may law.Step)) ≡ None
count_running true may = refl
count_running false true = refl
count_running false false = refl

count_paused : (pause : Option ℕ) (count : ℕ) → count_of (option_map (λ n. law.Count n) pause) ≡ Some count → pause ≡ Some count
count_paused None count e = e
count_paused (Some n) count e = e

no_count : {o : Option ℕ} (count : ℕ) (pause : Option ℕ) → o ≡ None → o ≡ Some count → pause ≡ Some count
no_count count pause e f = absurd cc

counts_in : (S : Setup) (past : Past) (s : State) (count : ℕ) → count_of (row_in S past s) ≡ Some count → past.memory.pause ≡ Some count
counts_in S past Invalid count e = absurd cc
counts_in S past ServicesCreated count e = no_count count past.memory.pause (count_then (knows_all S past && all_reached S past ServicesCreated) (law.Move CommunicationInitializing) refl) e
counts_in S past CommunicationInitializing count e = no_count count past.memory.pause (count_then (knows_services S past) (law.Move CommunicationInitialized) refl) e
counts_in S past CommunicationInitialized count e =
    no_count count past.memory.pause
    (count_called past.memory.called (then_some (is_ready S past && all_reached S past CommunicationInitialized) (law.Move ReadyToRun))
    (count_then (is_ready S past && all_reached S past CommunicationInitialized) (law.Move ReadyToRun) refl)) e
counts_in S past ReadyToRun count e = no_count count past.memory.pause (count_then (all_reached S past ReadyToRun) (law.Move Running) refl) e
counts_in S past Running count e = no_count count past.memory.pause (count_running (is_done S past) (may_begin S past)) e
counts_in S past Paused count e = count_paused past.memory.pause count e
counts_in S past Stopping count e = no_count count past.memory.pause (count_then _ (law.Move Stopped) refl) e
counts_in S past Stopped count e = no_count count past.memory.pause (count_then (all_reached S past Stopped) (law.Move ShuttingDown) refl) e
counts_in S past Error count e = no_count count past.memory.pause (count_then (not (has_tool S past)) law.GiveUp refl) e
counts_in S past ShuttingDown count e = absurd cc
counts_in S past Shutdown count e = absurd cc
counts_in S past Aborting count e = absurd cc

pub row_counts : (S : Setup) (past : Past) (count : ℕ) → row S past ≡ Some (law.Count count) → past.memory.pause ≡ Some count
unfolding row
row_counts S past count e = counts_in S past (state_of past.journal) count (ap count_of e)

-- ## With the limits behind

pub row_whole : {old new : Kept} {all : Past} {was now : Lists} (one : law.Row) → row old.setup old.past ≡ Some one → Acts old.setup old.past one [] all → Whole old new (judge_limits old.setup all) was now →
    RowWent one old new was now
row_whole {old} {new} {all} {was} {now} one r a h = record {
  row_is = r;
  went = record { made = []; calls = h.made ∙ sym (append-nil was.made); past = all; happens = happens_of old.setup old.past one [] all r a; whole = h.past; told = h.told };
  acts = a;
}

pub part_cut : {old new : Kept} {all : Past} {was now : Lists} → Happens old.setup old.past [] all → Part old new (judge_limits old.setup all) was now → WentCut old new was now
part_cut {old} {new} {all} {was} {now} happens c = record {
  made = [];
  calls = c.made ∙ sym (append-nil was.made);
  others = [];
  idle = refl;
  past = all;
  happens = happens;
  cut = record { setup = c.setup; out = c.out; grows = c.grows; front = c.front };
  told = c.told;
}

pub row_part : {old new : Kept} {all : Past} {was now : Lists} (one : law.Row) → row old.setup old.past ≡ Some one → Acts old.setup old.past one [] all → Part old new (judge_limits old.setup all) was now → RowCut old new was now
row_part {old} {new} {all} {was} {now} one r a c = record {
  one = one;
  row_is = r;
  went = record {
    made = [];
    calls = c.made ∙ sym (append-nil was.made);
    others = [];
    idle = refl;
    past = all;
    happens = happens_of old.setup old.past one [] all r a;
    cut = record { setup = c.setup; out = c.out; grows = c.grows; front = c.front };
    told = c.told;
  };
  acts = a;
  uncalled = λ other e. absurd (cc e);
}

pub cut_of : {old new : Kept} {all : Past} {was now : Lists} → Part old new all was now → IsCut old new all
cut_of c = record { setup = c.setup; out = c.out; grows = c.grows; front = c.front }

-- ## The ready handler

pub row_ready : {old middle new : Kept} {was between now : Lists} → row old.setup old.past ≡ Some law.Ready → Calls old middle calls.Ready was between →
    Whole middle new (judge_limits middle.setup middle.past) between now → RowWent law.Ready old new was now
row_ready {old} {middle} {new} {was} {between} {now} r c h = record {
  row_is = r;
  went = record {
    made = c.one ∷ [];
    calls = h.made ∙ c.made;
    past = callback old.setup old.past c.one;
    happens = readies c.one r c.call_is c.filled;
    whole = both_stand old (λ S past. judge_limits S past) c.past h.past;
    told = tells_both c.told h.told;
  };
  acts = turning.readies c.one c.call_is c.filled;
}

pub ready_cut : {old new : Kept} {was now : Lists} → BlocksAdd → row old.setup old.past ≡ Some law.Ready → CallsCut old new calls.Ready was now → RowCut old new was now
ready_cut {old} {new} {was} {now} adds r c = record {
  one = law.Ready;
  row_is = r;
  went = record {
    made = c.made;
    calls = c.calls;
    others = c.others;
    idle = c.idle;
    past = callback old.setup old.past c.one;
    happens = subst (λ ms. Happens old.setup old.past ms (callback old.setup old.past c.one)) (sym c.both) (readies c.one r c.call_is c.filled);
    cut = cut_first c.cut (adds.limits old.setup (callback old.setup old.past c.one));
    told = c.told;
  };
  acts = subst (λ ms. Acts old.setup old.past law.Ready ms (callback old.setup old.past c.one)) (sym c.both) (turning.readies c.one c.call_is c.filled);
  uncalled = c.uncalled;
}

pub ready_limited : {old middle new : Kept} {was between now : Lists} → BlocksAdd → row old.setup old.past ≡ Some law.Ready → Calls old middle calls.Ready was between →
    Part middle new (judge_limits middle.setup middle.past) between now → RowCut old new was now
ready_limited {old} {middle} {new} {was} {between} {now} adds r c h = record {
  one = law.Ready;
  row_is = r;
  went = record {
    made = c.one ∷ [];
    calls = h.made ∙ c.made;
    others = [];
    idle = refl;
    past = callback old.setup old.past c.one;
    happens = readies c.one r c.call_is c.filled;
    cut = cut_then (λ S past. judge_limits S past) c.past (adds.calls_back old.setup old.past c.one) (cut_of h);
    told = tells_then c.told h.told;
  };
  acts = turning.readies c.one c.call_is c.filled;
  uncalled = λ other e. absurd (cc e);
}

-- ## A step

pub row_step : {old middle new : Kept} {was between now : Lists} → row old.setup old.past ≡ Some law.Step →
    Steps old middle (calls.Step (next_number old.past.journal) (next_time (unwrap_or old.setup.step 0) old.past.journal)) was between →
    Whole middle new (judge_limits middle.setup middle.past) between now → RowWent law.Step old new was now
row_step {old} {middle} {new} {was} {between} {now} r c h = record {
  row_is = r;
  went = record {
    made = c.one ∷ [];
    calls = h.made ∙ c.made;
    past = take_step old.setup c.one old.past;
    happens = begins c.one r c.call_is c.filled;
    whole = both_stand old (λ S past. judge_limits S past) c.past h.past;
    told = tells_both c.told h.told;
  };
  acts = turning.begins c.one c.call_is c.filled;
}

pub step_cut : {old new : Kept} {was now : Lists} → BlocksAdd → row old.setup old.past ≡ Some law.Step →
    StepsCut old new (calls.Step (next_number old.past.journal) (next_time (unwrap_or old.setup.step 0) old.past.journal)) was now → RowCut old new was now
step_cut {old} {new} {was} {now} adds r c = record {
  one = law.Step;
  row_is = r;
  went = record {
    made = c.made;
    calls = c.calls;
    others = c.others;
    idle = c.idle;
    past = take_step old.setup c.one old.past;
    happens = subst (λ ms. Happens old.setup old.past ms (take_step old.setup c.one old.past)) (sym c.both) (begins c.one r c.call_is c.filled);
    cut = cut_first c.cut (adds.limits old.setup (take_step old.setup c.one old.past));
    told = c.told;
  };
  acts = subst (λ ms. Acts old.setup old.past law.Step ms (take_step old.setup c.one old.past)) (sym c.both) (turning.begins c.one c.call_is c.filled);
  uncalled = c.uncalled;
}

pub step_limited : {old middle new : Kept} {was between now : Lists} → BlocksAdd → row old.setup old.past ≡ Some law.Step →
    Steps old middle (calls.Step (next_number old.past.journal) (next_time (unwrap_or old.setup.step 0) old.past.journal)) was between →
    Part middle new (judge_limits middle.setup middle.past) between now → RowCut old new was now
step_limited {old} {middle} {new} {was} {between} {now} adds r c h = record {
  one = law.Step;
  row_is = r;
  went = record {
    made = c.one ∷ [];
    calls = h.made ∙ c.made;
    others = [];
    idle = refl;
    past = take_step old.setup c.one old.past;
    happens = begins c.one r c.call_is c.filled;
    cut = cut_then (λ S past. judge_limits S past) c.past (adds.steps old.setup c.one old.past) (cut_of h);
    told = tells_then c.told h.told;
  };
  acts = turning.begins c.one c.call_is c.filled;
  uncalled = λ other e. absurd (cc e);
}
