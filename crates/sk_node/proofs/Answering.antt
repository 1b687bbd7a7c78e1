-- The answer of a turn.
use Rattle.std.specs.Prelude.{◌&&◌, get_or, ◌≡◌, ◌<◌, ◌≤◌, refl, ℕ, ◌+◌, ◌-◌, ◌==◌, nat_le, Bool, true, false, not, ◌||◌, List, [], ◌∷◌, ◌++◌, length, Option, Some, None, is_none, slice_index_or, if◌then◌else◌}
use Rattle.std.specs.List.{list_all, range_with_len}
use Rattle.std.proofs.Common.{ap, sym, ◌∙◌, subst, arith}
use Rattle.std.proofs.lemmas.Bool.{and_parts}
use Rattle.std.proofs.lemmas.Bool.Decides.{nat_tests}
use Rattle.std.proofs.lemmas.List.{length-append}
use Rattle.std.proofs.lemmas.List.Folds.{list_all_at}
use Rattle.std.proofs.lemmas.List.FromFn.{length-range_with_len, get_or-range_with_len}
use Rattle.sk_msg.specs.declared.command.Command.{Command}
use Rattle.sk_msg.specs.declared.command.Command.TheVariants.{Continue, Abort}
use Rattle.sk_msg.specs.declared.command.Verdict.TheVariants.{Refused}
use Rattle.sk_msg.specs.declared.entry.Entry.{Entry}
use Rattle.sk_msg.specs.declared.content.Content.TheVariants.{Status}
use Rattle.sk_msg.specs.declared.entry.Entry.TheVariants.{Ask, Begin, Fault, State as Entered}
use Rattle.sk_msg.specs.declared.state.State.{State}
use Rattle.sk_msg.specs.declared.state.State.TheVariants.{Invalid, ServicesCreated, CommunicationInitializing, CommunicationInitialized, ReadyToRun, Running, Paused, Stopping, Stopped, Error, ShuttingDown, Shutdown, Aborting}
use Rattle.sk_msg.specs.States.{is_state}
use Rattle.sk_msg.specs.Edges.{has_edge, led_to}
use Rattle.sk_law.specs.declared.made.Call.{Call}
use Rattle.sk_law.specs.declared.made.Call.TheVariants as calls
use Rattle.sk_law.specs.declared.made.Made.{Made}
use Rattle.sk_law.specs.declared.setup.Setup.{Setup}
use Rattle.sk_law.specs.Past.{Past, add, put_each}
use Rattle.sk_law.specs.Readings.{state_of, payload, put}
use Rattle.sk_law.specs.Blocks.{ask, asked, accepted, until_of, enter, enter_only, enter_until, is_first_run, called, callback, take_step, count_down, fault, judge_limits, with_pause}
use Rattle.sk_law.specs.Links.{told, is_open}
use Rattle.sk_law.specs.Rows.{row}
use Rattle.sk_law.specs.Rows as law
use Rattle.sk_law.specs.Ends.{left, TurnsEnd}
use Rattle.sk_law.specs.Growing.{Adds, BlocksAdd}
use Rattle.sk_law.specs.Kept.{Kept, grown}
use Rattle.sk_node.specs.Lists.{Lists}
use Rattle.sk_node.specs.Turning.{Acts, RowWent, AddsEntries, CountsDown, Turns, Rests, law_row, is_small, answer_of, rest_of, is_finished, is_out, is_all_out, are_all_away, IsEnded}
use Rattle.sk_node.specs.Turning as turning
use Rattle.sk_node.specs.declared.rows.Row.{Row}
use Rattle.sk_node.specs.declared.rows.Row.TheVariants as rows
use Rattle.sk_node.specs.declared.rows.Turned.TheVariants.{Entries, Counted, Quiet, Finished}
use Rattle.sk_node.proofs.Cuts.{adds_both, adds_puts}
use Rattle.sk_node.proofs.Rowing.{row_counts}

-- ## Entries that came

pub adds_length : {a b : Past} → Adds a b → length a.journal ≤ length b.journal
adds_length {a} {b} h = let n : length b.journal ≡ length a.journal + length h.front.0 = sym (ap length h.front.1) ∙ length-append a.journal h.front.0 in omega arith

one_longer : (e : Entry) (past now : Past) → Adds (add e past) now → length past.journal + 1 ≤ length now.journal
one_longer e past now h =
    let m = adds_length h in let n : length (past.journal ++ e ∷ []) ≡ length past.journal + 1 = length-append past.journal (e ∷ []) in omega arith

-- at least the one of the command
ask_longer : BlocksAdd → (S : Setup) (command : Command) (past : Past) → length past.journal + 1 ≤ length (ask S command past).journal
unfolding ask
ask_longer adds S command past = by (led_to (state_of past.journal) command)
  where
    by : (to : Option State) → length past.journal + 1 ≤ length (asked S command to past).journal
    by None = let n : length (past.journal ++ Ask command (Refused (state_of past.journal)) ∷ []) ≡ length past.journal + 1 = length-append past.journal _ in omega arith
    by (Some to) =
        let until : ℕ = until_of S command past in
        let h : Adds (accepted command past) (asked S command (Some to) past) = adds_both (adds.enters S to until (accepted command past)) (adds.tells S command (enter_until S to until (accepted command past))) in
        let m = adds_length h in
        let n : length (accepted command past).journal ≡ length past.journal + 1 = length-append past.journal _ in omega arith

-- at least the one of the state
enter_longer : BlocksAdd → (S : Setup) (to : State) (past : Past) → length past.journal + 1 ≤ length (enter S to past).journal
unfolding enter_until
enter_longer adds S to past =
    let entered : Past = add (Entered to) past in
    let numbers : List ℕ = told S past in
    let status : Adds entered (put_each numbers (Status to 0) entered) = adds_puts numbers (Status to 0) entered in
    let only : Adds entered (enter_only S to 0 past) = adds_both status (adds.judges S (put_each numbers (Status to 0) entered)) in
    one_longer (Entered to) past (enter S to past) (adds_both only (adds.goes_behind S to (is_first_run to past.journal) numbers (enter_only S to 0 past)))

-- at least the one of its begin
step_longer : BlocksAdd → (S : Setup) (past : Past) (made : Made) (number at : ℕ) → made.call ≡ calls.Step number at → length past.journal + 1 ≤ length (take_step S made past).journal
unfolding take_step callback
step_longer adds S past made number at call =
    let all : Adds (called made.call past) (take_step S made past) = adds_both (adds.answers_call S made.actions made.over (called made.call past)) (adds.ends_blocking S (callback S past made)) in
    one_longer (Begin number at) past (take_step S made past) (subst (λ (c : Call). Adds (called c past) (take_step S made past)) call all)

-- at least the one of the fault
fault_longer : BlocksAdd → (S : Setup) (number : ℕ) (past : Past) → length past.journal + 1 ≤ length (fault S number past).journal
fault_longer adds S number past = one_longer (Fault number) past (fault S number past) (adds.enters_if S Error (add (Fault number) past))

-- where no entry came, the limits weren't reached
limits_same : BlocksAdd → (S : Setup) (past : Past) → length (judge_limits S past).journal ≤ length past.journal → judge_limits S past ≡ past
unfolding judge_limits
limits_same adds S past = by (has_edge (state_of past.journal) Error) (nat_le 500000 (length past.journal)) (nat_le 33554432 (payload past.journal))
  where
    by : (edge long heavy : Bool) → length (if not edge then past else if long then fault S 3 past else if heavy then fault S 4 past else past).journal ≤ length past.journal →
        (if not edge then past else if long then fault S 3 past else if heavy then fault S 4 past else past) ≡ past
    by false long heavy h = refl
    by true true heavy h = let m = fault_longer adds S 3 past in absurd (omega arith)
    by true false true h = let m = fault_longer adds S 4 past in absurd (omega arith)
    by true false false h = refl

-- a count goes down without an entry where it is above 1
counted : BlocksAdd → (S : Setup) (count : ℕ) (past : Past) → length (judge_limits S (count_down S count past)).journal ≤ length past.journal →
    (1 < count) × (judge_limits S (count_down S count past) ≡ with_pause (Some (count - 1)) past)
unfolding count_down
counted adds S count past = by (nat_le count 1) refl
  where
    by : (b : Bool) → nat_le count 1 ≡ b → length (judge_limits S (if b then ask S Continue past else with_pause (Some (count - 1)) past)).journal ≤ length past.journal →
        (1 < count) × (judge_limits S (if b then ask S Continue past else with_pause (Some (count - 1)) past) ≡ with_pause (Some (count - 1)) past)
    by true e h = let m = ask_longer adds S Continue past in let n = adds_length (adds.limits S (ask S Continue past)) in absurd (omega arith)
    by false e h = (grind (arith, nat_tests), limits_same adds S (with_pause (Some (count - 1)) past) h)

-- ## What is left

less_of : TurnsEnd → (S : Setup) (past : Past) (one : Row) (made : List Made) (now : Past) → row S past ≡ Some (law_row one) → is_small one ≡ true → Acts S past (law_row one) made now → left (judge_limits S now) < left past
less_of ends S past (rows.Move to) _ _ r small (turning.moves _) = ends.moves S past to r
less_of ends S past rows.Ready _ _ r small (turning.readies made call filled) = ends.readies S past made r call
less_of ends S past rows.Step _ _ r small (turning.begins made call filled) = ends.begins S past made _ _ r call
less_of ends S past (rows.Count count) _ _ r small (turning.counts _) = ends.counts S past count r (grind (arith, nat_tests))
less_of ends S past rows.GiveUp _ _ r small turning.gives_up = ends.gives_up S past r

less : TurnsEnd → {old new : Kept} {was now : Lists} (one : Row) → is_small one ≡ true → RowWent (law_row one) old new was now → left new.past < left old.past
less ends {old} {new} one small h =
    subst (λ (p : Past). left p < left old.past) (sym (ap (λ (k : Kept). k.past) h.went.whole)) (less_of ends old.setup old.past one h.went.made h.went.past h.row_is small h.acts)

-- ## The answers

-- a row that adds an entry never adds none, and nor do the limits behind it
some_of : BlocksAdd → {old new : Kept} {was now : Lists} (one : law.Row) (n : ℕ) (h : RowWent one old new was now) → length new.past.journal ≡ length old.past.journal + n →
    length old.past.journal + 1 ≤ length h.went.past.journal → n ≡ 0 → one ≡ law.Ready
some_of adds {old} {new} one n h e longer z =
    let m = adds_length (adds.limits old.setup h.went.past) in
    let i : length new.past.journal ≡ length (judge_limits old.setup h.went.past).journal = ap (λ (k : Kept). length k.past.journal) h.went.whole in absurd (omega arith)

moves_longer : BlocksAdd → {old new : Kept} {was now : Lists} (to : State) (h : RowWent (law.Move to) old new was now) → length old.past.journal + 1 ≤ length h.went.past.journal
moves_longer adds {old} to h = by h.went.made h.went.past h.acts
  where
    by : (made : List Made) (now : Past) → Acts old.setup old.past (law.Move to) made now → length old.past.journal + 1 ≤ length now.journal
    by _ _ (turning.moves _) = enter_longer adds old.setup to old.past

begins_longer : BlocksAdd → {old new : Kept} {was now : Lists} (h : RowWent law.Step old new was now) → length old.past.journal + 1 ≤ length h.went.past.journal
begins_longer adds {old} h = by h.went.made h.went.past h.acts
  where
    by : (made : List Made) (now : Past) → Acts old.setup old.past law.Step made now → length old.past.journal + 1 ≤ length now.journal
    by _ _ (turning.begins made call filled) = step_longer adds old.setup old.past made _ _ call

gives_up_longer : BlocksAdd → {old new : Kept} {was now : Lists} (h : RowWent law.GiveUp old new was now) → length old.past.journal + 1 ≤ length h.went.past.journal
gives_up_longer adds {old} h = by h.went.made h.went.past h.acts
  where
    by : (made : List Made) (now : Past) → Acts old.setup old.past law.GiveUp made now → length old.past.journal + 1 ≤ length now.journal
    by _ _ turning.gives_up = ask_longer adds old.setup Abort old.past

adds_entries : TurnsEnd → {old new : Kept} {was now : Lists} (one : Row) (n : ℕ) → is_small one ≡ true → RowWent (law_row one) old new was now → length new.past.journal ≡ length old.past.journal + n → (n ≡ 0 → law_row one ≡ law.Ready) →
    AddsEntries n old new was now
adds_entries ends one n small h e some = record { one = law_row one; row = h; entries = e; some = some; less = less ends one small h }

counts_down : BlocksAdd → TurnsEnd → {old new : Kept} {was now : Lists} (count : ℕ) → is_small (rows.Count count) ≡ true → RowWent (law.Count count) old new was now → length new.past.journal ≡ length old.past.journal → CountsDown old new was now
counts_down adds ends {old} {new} count small h e = record {
  count = count;
  row = h;
  more = both.0;
  before = row_counts old.setup old.past count h.row_is;
  after = h.went.whole ∙ ap (λ (p : Past). grown p old) (same ∙ both.1);
  less = less ends (rows.Count count) small h;
}
  where
    is : (made : List Made) (now : Past) → Acts old.setup old.past (law.Count count) made now → now ≡ count_down old.setup count old.past
    is _ _ (turning.counts _) = refl

    same : judge_limits old.setup h.went.past ≡ judge_limits old.setup (count_down old.setup count old.past)
    same = ap (judge_limits old.setup) (is h.went.made h.went.past h.acts)

    short : length (judge_limits old.setup (count_down old.setup count old.past)).journal ≤ length old.past.journal
    short = let m : length (judge_limits old.setup (count_down old.setup count old.past)).journal ≡ length old.past.journal =
        ap (λ (p : Past). length p.journal) (sym same) ∙ ap (λ (k : Kept). length k.past.journal) (sym h.went.whole) ∙ e in omega arith

    both : (1 < count) × (judge_limits old.setup (count_down old.setup count old.past) ≡ with_pause (Some (count - 1)) old.past)
    both = counted adds old.setup count old.past short

pub turned : BlocksAdd → TurnsEnd → {old new : Kept} {was now : Lists} (one : Row) (n : ℕ) → is_small one ≡ true → RowWent (law_row one) old new was now → length new.past.journal ≡ length old.past.journal + n →
    Turns (answer_of one n) old new was now
turned adds ends (rows.Move to) n small h e = adds_entries ends (rows.Move to) n small h e (some_of adds (law.Move to) n h e (moves_longer adds to h))
turned adds ends rows.Ready n small h e = adds_entries ends rows.Ready n small h e (λ z. refl)
turned adds ends rows.Step n small h e = adds_entries ends rows.Step n small h e (some_of adds law.Step n h e (begins_longer adds h))
turned adds ends rows.GiveUp n small h e = adds_entries ends rows.GiveUp n small h e (some_of adds law.GiveUp n h e (gives_up_longer adds h))
turned adds ends {old} {new} {was} {now} (rows.Count count) n small h e = by (n == 0) refl
  where
    by : (b : Bool) → (n == 0) ≡ b → Turns (if b then Counted else Entries n) old new was now
    by true z = counts_down adds ends count small h (let m : n ≡ 0 = grind (arith, nat_tests) in omega (arith, e, m))
    by false z = adds_entries ends (rows.Count count) n small h e (λ none. absurd (cc (sym z ∙ ap (λ m. m == 0) none)))

-- nothing was enabled
pub rested : (k : Kept) (was : Lists) → row k.setup k.past ≡ None → Turns (rest_of k) k k was was
rested k was e = by (is_finished k) refl
  where
    by : (b : Bool) → is_finished k ≡ b → Turns (if b then Finished else Quiet) k k was was
    by true f = record { quiet = ap is_none e; finished_is = f; same = refl; lists = refl }
    by false f = record { quiet = ap is_none e; finished_is = f; same = refl; lists = refl }

-- ## What waits

-- by what is said of it
pub waiting : (k : Kept) (p : ℕ) (waits : Bool) → (p < length k.out → waits ≡ not (slice_index_or k.out p 0 == length (put k.past.journal p))) → (length k.out ≤ p → waits ≡ false) → not waits ≡ is_out k p
waiting k p waits value nobody = by (nat_le (length k.out) p) refl
  where
    not_not : (b : Bool) → not (not b) ≡ b
    not_not true = refl
    not_not false = refl

    by : (b : Bool) → nat_le (length k.out) p ≡ b → not waits ≡ (b || slice_index_or k.out p 0 == length (put k.past.journal p))
    by true e = ap not (nobody (grind (arith, nat_tests)))
    by false e = ap not (value (grind (arith, nat_tests))) ∙ not_not (slice_index_or k.out p 0 == length (put k.past.journal p))

-- ## The end

below : (f : ℕ → Bool) (n p : ℕ) → list_all f (range_with_len 0 n) ≡ true → p < n → f p ≡ true
below f n p all lt = by (f p) refl
  where
    at : get_or (range_with_len 0 n) p 0 ≡ p
    at = get_or-range_with_len 0 n p 0 lt ∙ (let z : 0 + p ≡ p = omega arith in z)

    by : (b : Bool) → f p ≡ b → b ≡ true
    by true e = refl
    by false e =
        let none : list_all f (range_with_len 0 n) ≡ false = list_all_at f (range_with_len 0 n) p 0 (subst (λ m. p < m) (sym (length-range_with_len 0 n)) lt) (ap f at ∙ e) in absurd (cc (sym all ∙ none))

shut : (s : State) → is_state Shutdown s ≡ true → s ≡ Shutdown
unfolding is_state
shut Invalid e = absurd (cc e)
shut ServicesCreated e = absurd (cc e)
shut CommunicationInitializing e = absurd (cc e)
shut CommunicationInitialized e = absurd (cc e)
shut ReadyToRun e = absurd (cc e)
shut Running e = absurd (cc e)
shut Paused e = absurd (cc e)
shut Stopping e = absurd (cc e)
shut Stopped e = absurd (cc e)
shut Error e = absurd (cc e)
shut ShuttingDown e = absurd (cc e)
shut Shutdown e = refl
shut Aborting e = absurd (cc e)

closed : (b : Bool) → not b ≡ true → b ≡ false
closed true e = absurd (cc e)
closed false e = refl

all_out : (k : Kept) (p : ℕ) → p < length k.out → is_out k p ≡ true → slice_index_or k.out p 0 ≡ length (put k.past.journal p)
all_out k p lt e = by (nat_le (length k.out) p) (slice_index_or k.out p 0 == length (put k.past.journal p)) refl refl e
  where
    by : (a b : Bool) → nat_le (length k.out) p ≡ a → (slice_index_or k.out p 0 == length (put k.past.journal p)) ≡ b → (a || b) ≡ true → slice_index_or k.out p 0 ≡ length (put k.past.journal p)
    by true b f g h = absurd (grind (arith, nat_tests))
    by false true f g h = grind (arith, nat_tests)
    by false false f g h = absurd (cc h)

pub ended : (k : Kept) → length k.out ≡ length k.setup.names + length k.past.memory.tools → is_finished k ≡ true → IsEnded k
unfolding is_finished
ended k all e =
    let first = and_parts (is_state Shutdown (state_of k.past.journal)) (is_all_out k && are_all_away k.setup k.past) e in
    let rest = and_parts (is_all_out k) (are_all_away k.setup k.past) first.1 in
    record {
      state_is = shut (state_of k.past.journal) first.0;
      out_is = λ p lt. all_out k p lt (below (is_out k) (length k.setup.names + length k.past.memory.tools) p rest.0 (subst (λ n. p < n) all lt));
      away = λ p lt. closed (is_open k.setup k.past p) (below (λ q. not (is_open k.setup k.past q)) (length k.setup.names) p rest.1 lt);
    }
