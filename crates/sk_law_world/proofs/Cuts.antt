-- Where a step begins: what had happened then is lawful, and nothing later hands what was got before.
use Rattle.std.specs.Prelude.{◌≡◌, ◌⊎◌, ◌≤◌, refl, ℕ, ◌+◌, Bool, true, false, List, [], ◌∷◌, ◌++◌, map, flat_map, length, Some, None, unwrap_or}
use Rattle.std.specs.List.{list_all}
use Rattle.std.proofs.lemmas.Bool.{and_from}
use Rattle.std.proofs.lemmas.List.Folds.{list_all-append}
use Rattle.std.proofs.Common.{ap, sym, ◌∙◌, subst, append_assoc, append-nil, length-append, arith, inl, inr, ⊎_elim}
use Rattle.sk_msg.specs.declared.command.Command.TheVariants.{Abort}
use Rattle.sk_msg.specs.declared.content.Content.{Content}
use Rattle.sk_msg.specs.declared.state.State.TheVariants.{ServicesCreated}
use Rattle.sk_msg.specs.declared.entry.Entry.{Entry}
use Rattle.sk_msg.specs.declared.entry.Entry.TheVariants.{Got, Put, Begin}
use Rattle.sk_law.specs.declared.made.Call.{Call}
use Rattle.sk_law.specs.declared.made.Call.TheVariants as calls
use Rattle.sk_law.specs.declared.made.Made.{Made}
use Rattle.sk_law.specs.declared.setup.Setup.{Setup}
use Rattle.sk_law.specs.Past.{Past, add}
use Rattle.sk_law.specs.Services.{new_states}
use Rattle.sk_law.specs.Readings.{got, next_number, next_time}
use Rattle.sk_law.specs.Links.{peers}
use Rattle.sk_law.specs.Receivers.{receivers}
use Rattle.sk_law.specs.Rows.{Step, row}
use Rattle.sk_law.specs.Blocks.{called, callback, take_step, making, introduction, enter, judge_limits, with_completed}
use Rattle.sk_law.specs.Safe.{hands}
use Rattle.sk_law.specs.Lawful.{Lawful, Happens, Leads, here, further, note_asked, starts, goes_on, gets, loses, completes, asks, adds, moves, readies, begins, counts, gives_up}
use Rattle.sk_law_world.proofs.BlocksBuilt.{are_messages}
use Rattle.sk_law_world.proofs.Meetings.{last_or_before}
use Rattle.sk_law_world.proofs.Growth as growth
use Rattle.sk_law_world.proofs.Growth.{Adds, Calm, both}
use Rattle.sk_law_world.proofs.Onces.{is_quiet, quiet, HasGot, cases, same_hands, get_other, got-append}
use Rattle.sk_law_world.proofs.Lists.{outside, in_front}

-- ## The start

puts_all : {kinds : Entry → Bool} (calm : Calm kinds) (ps : List ℕ) (ms : List Content) → list_all kinds (flat_map (λ p. map (λ m. Put p m) ms) ps) ≡ true
puts_all calm [] ms = refl
puts_all {kinds} calm (p ∷ ps) ms = list_all-append kinds (map (λ m. Put p m) ms) (flat_map (λ p. map (λ m. Put p m) ms) ps) ∙ and_from _ _ (some ms) (puts_all calm ps ms)
  where
    some : (ms : List Content) → list_all kinds (map (λ m. Put p m) ms) ≡ true
    some [] = refl
    some (m ∷ ms) = and_from (kinds (Put p m)) (list_all kinds (map (λ m. Put p m) ms)) (calm.put p m) (some ms)

pub making_all : {kinds : Entry → Bool} (calm : Calm kinds) (S : Setup) → list_all kinds (making S).journal ≡ true
unfolding making
making_all {kinds} calm S = ap (list_all kinds) a.is ∙ list_all-append kinds before.journal a.new ∙ and_from _ _ (puts_all calm (peers S) (introduction S)) a.all
  where
    before : Past
    before = record {
      journal = flat_map (λ p. map (λ m. Put p m) (introduction S)) (peers S);
      memory = record { called = false; asked = false; pause = None; tools = []; services = new_states S.services; ready_awaited = false };
    }

    a : Adds kinds before (enter S ServicesCreated before)
    a = growth.enters calm S ServicesCreated 0 before

-- ## Entries of any kind

abbrev pub any : Entry → Bool
any e = true

pub all_kinds : Calm any
all_kinds = record { put = λ q m. refl; entered = λ s. refl; judged = λ s. refl; done = λ n. refl; end = λ n. refl; ask = λ c v. refl; stray = λ n. refl; did = λ s c m. refl; fault = λ n. refl }

all_any : (es : List Entry) → list_all any es ≡ true
all_any [] = refl
all_any (e ∷ es) = all_any es

pub as_any : {kinds : Entry → Bool} {was now : Past} → Adds kinds was now → Adds any was now
as_any a = record { new = a.new; is = a.is; all = all_any a.new; tools = a.tools }

-- ## What begins no step

abbrev is_no_begin : Entry → Bool
is_no_begin (Begin n t) = false
is_no_begin _ = true

no_begin : Calm is_no_begin
no_begin = record { put = λ q m. refl; entered = λ s. refl; judged = λ s. refl; done = λ n. refl; end = λ n. refl; ask = λ c v. refl; stray = λ n. refl; did = λ s c m. refl; fault = λ n. refl }

-- a step was begun
record HasBegun (S : Setup) (was : Past) (now : Past) : Type 0 where
  one : Made
  next : row S was ≡ Some Step
  call : one.call ≡ calls.Step (next_number was.journal) (next_time (unwrap_or S.step 0) was.journal)
  is : now ≡ take_step S one was

pub ready_adds : {kinds : Entry → Bool} (S : Setup) (past : Past) (call : Call) → call ≡ calls.Ready → Adds kinds past (called call past)
ready_adds {kinds} S past call e = subst (λ c. Adds kinds past (called c past)) (sym e) (growth.none kinds past (called calls.Ready past).memory refl)

begin_cases : (S : Setup) (past : Past) (made : List Made) (now : Past) → Happens S past made now → HasBegun S past now ⊎ Adds is_no_begin past now
begin_cases S past made now (gets p m made' linked are filled) =
    inr (both (growth.one is_no_begin past (Got p m) refl)
    (growth.rest_of_got no_begin (λ p k r. refl) (λ p r. refl) S p m made' past (are_messages p (length (got past.journal p) + 1) m made' (receivers S past p m) are)))
begin_cases S past made now (loses p reason linked loss) = inr (growth.loses no_begin (λ p r. refl) S p reason past)
begin_cases S past made now (completes number) = inr (both (growth.none is_no_begin past (with_completed number past).memory refl) (growth.completes no_begin S number (with_completed number past)))
begin_cases S past made now (asks command) = inr (both (growth.none is_no_begin past (note_asked past).memory refl) (growth.asks no_begin S command (note_asked past)))
begin_cases S past made now (adds name few) = inr (growth.tools_add no_begin S name past)
begin_cases S past made now (moves to e) = inr (growth.enters no_begin S to 0 past)
begin_cases S past made now (readies one e call filled) = inr (both (ready_adds S past one.call call) (growth.rest_of_call no_begin S one past))
begin_cases S past made now (begins one e call filled) = inl (record { one = one; next = e; call = call; is = refl })
begin_cases S past made now (counts count e) = inr (growth.counts no_begin S count past)
begin_cases S past made now (gives_up e) = inr (growth.asks no_begin S Abort past)

-- ## Later Hands

got_front : (es rest : List Entry) (p : ℕ) → length (got es p) ≤ length (got (es ++ rest) p)
got_front es rest p = let e = ap length (got-append es rest p) in let l = length-append (got es p) (got rest p) in omega arith

-- what happens hands nothing that was got before
pub happens_hands : (S : Setup) (was : Past) (more : List Made) (now : Past) → Happens S was more now → (p k : ℕ) → k ≤ length (got was.journal p) →
    hands now.journal p k ≡ hands was.journal p k
happens_hands S was more now h p k le = ⊎_elim
    (λ (g : HasGot S was more now).
    let r : hands now.journal p k ≡ hands was.journal p k =
    ap (λ (x : Past). hands x.journal p k) g.is
    ∙ get_other S g.p g.m more was (length (got was.journal g.p) + 1) (receivers S was g.p g.m) g.are p k
    (λ (q : g.p ≡ p) (j : length (got was.journal g.p) + 1 ≡ k). let f = ap (λ x. length (got was.journal x)) q in omega arith) in r)
    (λ (a : Adds is_quiet was now). let r : hands now.journal p k ≡ hands was.journal p k = same_hands a p k in r)
    (cases S was more now h)

-- ## A Begin

pub record BegunAt (S : Setup) (past : Past) (made : List Made) (before : List Entry) (n t : ℕ) : Type 0 where
  -- what had happened before it, with the calls until then
  pub at : Past
  pub calls : List Made
  pub lawful : Lawful S at calls
  pub rest : List Made
  pub leads : Leads S at rest past
  pub called : calls ++ rest ≡ made
  pub is : at.journal ≡ before
  pub next : row S at ≡ Some Step
  pub time : t ≡ next_time (unwrap_or S.step 0) at.journal
  pub tools : (more : List (List ℕ)) × (at.memory.tools ++ more ≡ past.memory.tools)
  pub later : (p k : ℕ) → k ≤ length (got before p) → hands past.journal p k ≡ hands before p k

-- all that is added up to the next call
pub whole : (S : Setup) (was : Past) (more : List Made) (now : Past) → Happens S was more now → Adds any was (judge_limits S now)
unfolding take_step
whole S was more now h = ⊎_elim
    (λ (g : HasBegun S was now).
    let r : Adds any was (judge_limits S now) = both (subst (λ (x : Past). Adds any was x) (sym g.is) (both (subst (λ c. Adds any was (called c was)) (sym g.call) (growth.one any was (Begin (next_number was.journal) (next_time (unwrap_or S.step 0) was.journal)) refl))
    (both (growth.rest_of_call all_kinds S g.one was) (growth.blocking all_kinds S (callback S was g.one))))) (growth.limits all_kinds S now) in r)
    (λ (a : Adds is_no_begin was now). let r : Adds any was (judge_limits S now) = both (as_any a) (growth.limits all_kinds S now) in r)
    (begin_cases S was more now h)

-- what leads on adds to the journal
pub leads_adds : (S : Setup) (past : Past) (made : List Made) (now : Past) → Leads S past made now → Adds any past now
leads_adds S past made now here = growth.none any past past.memory refl
leads_adds S past made last (further was now before more l h) = both (leads_adds S past before was l) (whole S was more now h)

pub leads_on : (S : Setup) (first past now : Past) (before made : List Made) → Leads S first before past → Leads S past made now → Leads S first (before ++ made) now
leads_on S first past now before made a here = subst (λ x. Leads S first x past) (sym (append-nil before)) a
leads_on S first past last before made a (further was now between more l h) =
    subst (λ x. Leads S first x (judge_limits S now)) (append_assoc before between more) (further was now (before ++ between) more (leads_on S first past was before between a l) h)

begun_stays : (S : Setup) (was : Past) (calls more : List Made) (now : Past) → Happens S was more now → (before : List Entry) (n t : ℕ) (rest : List Entry) →
    was.journal ≡ before ++ Begin n t ∷ rest → BegunAt S was calls before n t → BegunAt S (judge_limits S now) (calls ++ more) before n t
begun_stays S was calls more now h before n t rest e r = record {
  at = r.at;
  calls = r.calls;
  lawful = r.lawful;
  rest = r.rest ++ more;
  leads = further was now r.rest more r.leads h;
  called = sym (append_assoc r.calls r.rest more) ∙ ap (λ x. x ++ more) r.called;
  is = r.is;
  next = r.next;
  time = r.time;
  tools = (let a = whole S was more now h in (r.tools.0 ++ a.tools.0, sym (append_assoc r.at.memory.tools r.tools.0 a.tools.0) ∙ ap (λ x. x ++ a.tools.0) r.tools.1 ∙ a.tools.1));
  later = λ p k le.
      same_hands (growth.limits quiet S now) p k
      ∙ happens_hands S was more now h p k (let f = ap (λ x. length (got x p)) e in let g = got_front before (Begin n t ∷ rest) p in omega arith)
      ∙ r.later p k le;
}

begun_here : (S : Setup) (was : Past) (calls more : List Made) (now : Past) → Lawful S was calls → Happens S was more now → (g : HasBegun S was now) → (n t : ℕ) →
    Begin (next_number was.journal) (next_time (unwrap_or S.step 0) was.journal) ≡ Begin n t → BegunAt S (judge_limits S now) (calls ++ more) was.journal n t
begun_here S was calls more now law h g n t e = record {
  at = was;
  calls = calls;
  lawful = law;
  rest = more;
  leads = further was now [] more here h;
  called = refl;
  is = refl;
  next = g.next;
  tools = (whole S was more now h).tools;
  time = (let r : t ≡ next_time (unwrap_or S.step 0) was.journal = cc in r);
  later = λ p k le. same_hands (growth.limits quiet S now) p k ∙ happens_hands S was more now h p k le;
}

step_adds : (S : Setup) (was now : Past) (g : HasBegun S was now) →
    Adds is_no_begin (add (Begin (next_number was.journal) (next_time (unwrap_or S.step 0) was.journal)) was) now
unfolding take_step
step_adds S was now g =
    subst (λ (x : Past). Adds is_no_begin (add (Begin (next_number was.journal) (next_time (unwrap_or S.step 0) was.journal)) was) x) (sym g.is)
    (both (subst (λ c. Adds is_no_begin (called c was) (callback S was g.one)) g.call (growth.rest_of_call no_begin S g.one was)) (growth.blocking no_begin S (callback S was g.one)))

pub begun_at : (S : Setup) (past : Past) (made : List Made) → Lawful S past made → (before : List Entry) (n t : ℕ) (after : List Entry) → past.journal ≡ before ++ Begin n t ∷ after →
    BegunAt S past made before n t
begun_at S past made starts before n t after e =
    let h = outside is_no_begin (making S).journal before (Begin n t) after (making_all no_begin S) e in absurd cc
begun_at S past made (goes_on was now calls' more law h) before n t after e =
    let Goal : Type 0 = BegunAt S (judge_limits S now) (calls' ++ more) before n t in
    let lim : Adds is_no_begin now (judge_limits S now) = growth.limits no_begin S now in
    let inner : (rest : List Entry) × (now.journal ≡ before ++ Begin n t ∷ rest) = in_front is_no_begin now.journal lim.new before (Begin n t) after lim.all refl (sym lim.is ∙ e) in
    let old : (rest : List Entry) → was.journal ≡ before ++ Begin n t ∷ rest → Goal =
    (λ rest f. begun_stays S was calls' more now h before n t rest f (begun_at S was calls' law before n t rest f)) in
    ⊎_elim
    (λ (g : HasBegun S was now).
    let begun : Entry = Begin (next_number was.journal) (next_time (unwrap_or S.step 0) was.journal) in
    let a = step_adds S was now g in
    let place = in_front is_no_begin (was.journal ++ begun ∷ []) a.new before (Begin n t) inner.0 a.all refl (sym a.is ∙ inner.1) in
    let r : Goal = ⊎_elim
    (λ (x : (was.journal ≡ before) × (begun ≡ Begin n t)).
    let q : Goal = subst (λ es. BegunAt S (judge_limits S now) (calls' ++ more) es n t) x.0 (begun_here S was calls' more now law h g n t x.1) in q)
    (λ (x : (rest : List Entry) × (was.journal ≡ before ++ Begin n t ∷ rest)). let q : Goal = old x.0 x.1 in q)
    (last_or_before was.journal begun before (Begin n t) place.0 place.1) in r)
    (λ (a : Adds is_no_begin was now).
    let place = in_front is_no_begin was.journal a.new before (Begin n t) inner.0 a.all refl (sym a.is ∙ inner.1) in
    let r : Goal = old place.0 place.1 in r)
    (begin_cases S was more now h)
