-- What happens never raises what is left, and each row of a turn lowers it.
use Rattle.std.specs.Prelude.{◌≡◌, ◌<◌, ◌≤◌, ◌⊎◌, refl, ℕ, ◌+◌, ◌-◌, ◌*◌, ◌^◌, min, nat_le, Bool, true, false, not, ◌&&◌, List, length, Option, Some, None, unwrap_or, if◌then◌else◌}
use Rattle.std.specs.Bool.{then_some}
use Rattle.std.specs.Option.{option_or, option_map}
use Rattle.std.proofs.lemmas.Bool.Decides.{nat_tests}
use Rattle.std.proofs.Common.{ap, sym, subst, ◌∙◌, arith, inl, inr, ⊎_elim}
use Rattle.sk_msg.specs.declared.command.Command.TheVariants.{Continue, Abort}
use Rattle.sk_msg.specs.declared.entry.Entry.TheVariants.{Begin, Fault}
use Rattle.sk_msg.specs.declared.state.State.{State}
use Rattle.sk_msg.specs.declared.state.State.TheVariants.{Invalid, ServicesCreated, CommunicationInitializing, CommunicationInitialized, ReadyToRun, Running, Paused, Stopping, Stopped, Error, ShuttingDown, Shutdown, Aborting}
use Rattle.sk_msg.specs.Edges.{has_edge, led_to}
use Rattle.sk_msg.specs.States.{is_state}
use Rattle.sk_law.specs.declared.made.Call.{Call}
use Rattle.sk_law.specs.declared.made.Call.TheVariants as calls
use Rattle.sk_law.specs.declared.made.Made.{Made}
use Rattle.sk_law.specs.declared.memory.Memory.{Memory}
use Rattle.sk_law.specs.declared.setup.Setup.{Setup}
use Rattle.sk_law.specs.Past.{Past, add}
use Rattle.sk_law.specs.Readings.{state_of, payload}
use Rattle.sk_law.specs.Links.{all_reached, has_tool}
use Rattle.sk_law.specs.Rows.{Row, Move, Ready, Step, Count, GiveUp, row, row_in, is_done, is_ready, may_begin}
use Rattle.sk_law.specs.Blocks.{enter, enter_if, asked, ask, with_pause, count_down, fault, called, callback, take_step, with_completed, judge_limits}
use Rattle.sk_law.specs.Lawful.{Happens, gets, loses, completes, asks, adds, moves, readies, begins, counts, gives_up, note_asked}
use Rattle.sk_law.specs.Ends.{states_left, unwritten_left, left, TurnsEnd, LimitsHold}
use Rattle.sk_law.proofs.Going.{Goes, Grows, at_most, limited, unlimited, same, both, goes, then_goes, small, outweighs, one, state_more, enters_state, enters, asks_grow, told_state, shows, behind_call, behind_step, completes_one, loses_one, gets_one, adds_tool, fails, stays, if_goes}

-- ## Limits

pub judges_limits : (S : Setup) (past : Past) → Goes past (judge_limits S past)
unfolding judge_limits
judges_limits S past =
    if_goes (not (has_edge (state_of past.journal) Error)) (stays past)
    (if_goes (nat_le 500000 (length past.journal)) (goes (fails S 3 past))
    (if_goes (nat_le 33554432 (payload past.journal)) (goes (fails S 4 past)) (stays past)))

-- a fault in a state with an edge to Error leads there
fault_state : (S : Setup) (number : ℕ) (past : Past) → has_edge (state_of past.journal) Error ≡ true → state_of (fault S number past).journal ≡ Error
unfolding enter_if
fault_state S number past h = on (has_edge (state_of (add (Fault number) past).journal) Error)
    (ap (λ s. has_edge s Error) (state_more past.journal (Fault number)) ∙ h)
  where
    on : (edge : Bool) → edge ≡ true → state_of (if edge then enter S Error (add (Fault number) past) else add (Fault number) past).journal ≡ Error
    on true e = enters_state S Error 0 (add (Fault number) past)
    on false e = absurd cc

no_edge : (s : State) → s ≡ Error → has_edge s Error ≡ true → ⊥
unfolding has_edge is_state
no_edge s e h = let r : has_edge Error Error ≡ true = subst (λ (x : State). has_edge x Error ≡ true) e h in cc

-- below both limits, where the state still has an edge to Error
abbrev IsBelow : Past → Type 0
IsBelow now = has_edge (state_of now.journal) Error ≡ true → (length now.journal < 500000) × (payload now.journal < 33554432)

is_below : (S : Setup) (past : Past) → IsBelow (judge_limits S past)
unfolding judge_limits
is_below S past = on (has_edge (state_of past.journal) Error) refl (nat_le 500000 (length past.journal)) refl (nat_le 33554432 (payload past.journal)) refl
  where
    on : (edge : Bool) → has_edge (state_of past.journal) Error ≡ edge → (many : Bool) → nat_le 500000 (length past.journal) ≡ many → (long : Bool) → nat_le 33554432 (payload past.journal) ≡ long →
        IsBelow (if not edge then past else if many then fault S 3 past else if long then fault S 4 past else past)
    on false none many x long y h = absurd (let r : false ≡ true = sym none ∙ h in cc)
    on true edge true x long y h = absurd (no_edge _ (fault_state S 3 past edge) h)
    on true edge false x true y h = absurd (no_edge _ (fault_state S 4 past edge) h)
    on true edge false x false y h = (grind (arith, nat_tests), grind (arith, nat_tests))

pub limits : LimitsHold
limits = record { entries = λ S past h. (is_below S past h).0; bytes = λ S past h. (is_below S past h).1 }

-- ## What is left

-- by whether the limits are judged in the state
abbrev left_by : Bool → ℕ → ℕ → ℕ → ℕ
left_by limits s n u = s + (if limits then (500000 - n) * 2 ^ 33 + u else 0)

below_all : (limits : Bool) (s n u : ℕ) → s ≤ left_by limits s n u
below_all true s n u = omega arith
below_all false s n u = omega arith

-- behind a call of which this is known
lower : (S : Setup) (past now : Past) → Goes past now → left (judge_limits S now) ≤ left past
unfolding left
lower S past now g = on (has_edge (state_of after.journal) Error) refl (has_edge (state_of past.journal) Error) refl
  where
    after : Past
    after = judge_limits S now

    all : Goes past after
    all = both g (judges_limits S now)

    on : (b : Bool) → has_edge (state_of after.journal) Error ≡ b → (c : Bool) → has_edge (state_of past.journal) Error ≡ c →
        left_by b (states_left (state_of after.journal)) (length after.journal) (unwritten_left after.memory)
        ≤ left_by c (states_left (state_of past.journal)) (length past.journal) (unwritten_left past.memory)
    on false e c f =
        let s = all.states in let t = below_all c (states_left (state_of past.journal)) (length past.journal) (unwritten_left past.memory) in omega arith
    on true e false f =
        let s = all.states in let t = limited (state_of after.journal) e in let u = unlimited (state_of past.journal) f in absurd (omega arith)
    on true e true f =
        let s = all.states in let m = all.entries in let w = all.weight in let n = (is_below S now e).0 in omega arith

-- where the state is one of those in which limits are judged, and more than nothing happens
strictly : (S : Setup) (past now : Past) → has_edge (state_of past.journal) Error ≡ true → Goes past now →
    unwritten_left now.memory + length past.journal * 2 ^ 33 < unwritten_left past.memory + length now.journal * 2 ^ 33 →
    left (judge_limits S now) < left past
unfolding left
strictly S past now edge g more = on (has_edge (state_of after.journal) Error) refl (has_edge (state_of past.journal) Error) edge
  where
    after : Past
    after = judge_limits S now

    all : Goes past after
    all = both g (judges_limits S now)

    weight : unwritten_left after.memory + length past.journal * 2 ^ 33 < unwritten_left past.memory + length after.journal * 2 ^ 33
    weight = let v = (judges_limits S now).weight in omega arith

    on : (b : Bool) → has_edge (state_of after.journal) Error ≡ b → (c : Bool) → c ≡ true →
        left_by b (states_left (state_of after.journal)) (length after.journal) (unwritten_left after.memory)
        < left_by c (states_left (state_of past.journal)) (length past.journal) (unwritten_left past.memory)
    on b e false f = absurd cc
    on false e true f =
        let t = limited (state_of past.journal) edge in let u = unlimited (state_of after.journal) e in omega arith
    on true e true f =
        let s = all.states in let m = all.entries in let w = weight in let n = (is_below S now e).0 in omega arith

longer : (S : Setup) (past now : Past) → has_edge (state_of past.journal) Error ≡ true → Grows past now → left (judge_limits S now) < left past
longer S past now edge g =
    strictly S past now edge (goes g) (outweighs (unwritten_left now.memory) (unwritten_left past.memory) (length past.journal) (length now.journal) (small now.memory) g.longer)

-- a state that is further on
by_state : (S : Setup) (past now : Past) → states_left (state_of now.journal) < states_left (state_of past.journal) → left (judge_limits S now) < left past
unfolding left
by_state S past now h = on (has_edge (state_of after.journal) Error) refl (has_edge (state_of past.journal) Error)
  where
    after : Past
    after = judge_limits S now

    on : (b : Bool) → has_edge (state_of after.journal) Error ≡ b → (c : Bool) →
        left_by b (states_left (state_of after.journal)) (length after.journal) (unwritten_left after.memory)
        < left_by c (states_left (state_of past.journal)) (length past.journal) (unwritten_left past.memory)
    on false e c =
        let s = (judges_limits S now).states in let t = below_all c (states_left (state_of past.journal)) (length past.journal) (unwritten_left past.memory) in omega arith
    on true e c =
        let s = (judges_limits S now).states in let t = limited (state_of after.journal) e in let u = at_most (state_of past.journal) in absurd (omega arith)

-- ## Rows

-- what it says of the state and the memory that a row is enabled
abbrev pub Fits : Memory → State → Row → Type 0
Fits memory from (Move to) = (has_edge from Error ≡ true) ⊎ (states_left to < states_left from)
Fits memory from Ready = (has_edge from Error ≡ true) × (memory.called ≡ false)
Fits memory from Step = has_edge from Error ≡ true
Fits memory from (Count count) = (has_edge from Error ≡ true) × (memory.pause ≡ Some count)
Fits memory from GiveUp = from ≡ Error

only : (memory : Memory) (from : State) (c : Bool) (there r : Row) → Fits memory from there → then_some c there ≡ Some r → Fits memory from r
only memory from true there r fits e = let same : there ≡ r = cc in subst (Fits memory from) same fits
only memory from false there r fits e = absurd cc

fits_called : (memory : Memory) (from : State) (called : Bool) (o : Option Row) (r : Row) → has_edge from Error ≡ true → memory.called ≡ called →
    (o ≡ Some r → Fits memory from r) → (if not called then Some Ready else o) ≡ Some r → Fits memory from r
fits_called memory from true o r edge is h e = h e
fits_called memory from false o r edge is h e = let same : Ready ≡ r = cc in subst (Fits memory from) same (edge, is)

fits_running : (memory : Memory) (done may : Bool) (r : Row) → has_edge Running Error ≡ true → option_or (then_some done (Move Stopping)) (then_some may Step) ≡ Some r → Fits memory Running r
fits_running memory true may r edge e = let same : Move Stopping ≡ r = cc in subst (Fits memory Running) same (inl edge)
fits_running memory false true r edge e = let same : Step ≡ r = cc in subst (Fits memory Running) same edge
fits_running memory false false r edge e = absurd cc

fits_paused : (memory : Memory) (pause : Option ℕ) (r : Row) → has_edge Paused Error ≡ true → memory.pause ≡ pause → option_map (λ count. Count count) pause ≡ Some r → Fits memory Paused r
fits_paused memory None r edge is e = absurd cc
fits_paused memory (Some count) r edge is e = let same : Count count ≡ r = cc in subst (Fits memory Paused) same (edge, is)

fits_in : (S : Setup) (past : Past) (from : State) (r : Row) → row_in S past from ≡ Some r → Fits past.memory from r
unfolding has_edge is_state
fits_in S past Invalid r e = absurd cc
fits_in S past ServicesCreated r e = only past.memory ServicesCreated _ (Move CommunicationInitializing) r (inl refl) e
fits_in S past CommunicationInitializing r e = only past.memory CommunicationInitializing _ (Move CommunicationInitialized) r (inl refl) e
fits_in S past CommunicationInitialized r e =
    fits_called past.memory CommunicationInitialized past.memory.called (then_some (is_ready S past && all_reached S past CommunicationInitialized) (Move ReadyToRun)) r refl refl
    (λ f. only past.memory CommunicationInitialized _ (Move ReadyToRun) r (inl refl) f) e
fits_in S past ReadyToRun r e = only past.memory ReadyToRun _ (Move Running) r (inl refl) e
fits_in S past Running r e = fits_running past.memory (is_done S past) (may_begin S past) r refl e
fits_in S past Paused r e = fits_paused past.memory past.memory.pause r refl refl e
fits_in S past Stopping r e = only past.memory Stopping _ (Move Stopped) r (inl refl) e
fits_in S past Stopped r e = only past.memory Stopped _ (Move ShuttingDown) r (inl refl) e
fits_in S past Error r e = only past.memory Error (not (has_tool S past)) GiveUp r refl e
fits_in S past ShuttingDown r e = only past.memory ShuttingDown true (Move Shutdown) r (inr (omega arith)) e
fits_in S past Shutdown r e = absurd cc
fits_in S past Aborting r e = only past.memory Aborting true (Move Shutdown) r (inr (omega arith)) e

pub fits : (S : Setup) (past : Past) (r : Row) → row S past ≡ Some r → Fits past.memory (state_of past.journal) r
unfolding row
fits S past r e = fits_in S past (state_of past.journal) r e

-- the next state of the chain
moves_fall : (S : Setup) (past : Past) (to : State) → row S past ≡ Some (Move to) → left (judge_limits S (enter S to past)) < left past
moves_fall S past to e =
    ⊎_elim
    (λ (edge : has_edge (state_of past.journal) Error ≡ true).
    let s = at_most to in let t = limited (state_of past.journal) edge in
    let r : left (judge_limits S (enter S to past)) < left past = longer S past (enter S to past) edge (enters S to 0 past (omega arith)) in r)
    (λ (less : states_left to < states_left (state_of past.journal)).
    let s = ap states_left (enters_state S to 0 past) in
    let r : left (judge_limits S (enter S to past)) < left past = by_state S past (enter S to past) (omega arith) in r)
    (fits S past (Move to) e)

-- the ready handler
called_less : (memory : Memory) → memory.called ≡ false → unwritten_left (record memory { called = true; ready_awaited = true }) < unwritten_left memory
called_less memory e = on memory.called e
  where
    on : (b : Bool) → b ≡ false → 0 + min (unwrap_or memory.pause 0) (2 ^ 32 - 1) < (if b then 0 else 2 ^ 32) + min (unwrap_or memory.pause 0) (2 ^ 32 - 1)
    on true f = absurd cc
    on false f = omega arith

readies_fall : (S : Setup) (past : Past) (made : Made) → row S past ≡ Some Ready → made.call ≡ calls.Ready → left (judge_limits S (callback S past made)) < left past
readies_fall S past made e call =
    strictly S past (callback S past made) f.0 (both first rest) (omega (arith, rest.weight, less))
  where
    f : Fits past.memory (state_of past.journal) Ready
    f = fits S past Ready e

    first : Goes past (called calls.Ready past)
    first = shows calls.Ready past

    less : unwritten_left (called calls.Ready past).memory < unwritten_left past.memory
    less = called_less past.memory f.1

    rest : Goes (called calls.Ready past) (callback S past made)
    rest = subst (λ (x : Call). Goes (called x past) (callback S past made)) call (behind_call S past made)

-- a step
begins_fall : (S : Setup) (past : Past) (made : Made) (number at : ℕ) → row S past ≡ Some Step → made.call ≡ calls.Step number at → left (judge_limits S (take_step S made past)) < left past
begins_fall S past made number at e call =
    longer S past (take_step S made past) (fits S past Step e) (then_goes (one (Begin number at) past (λ s. refl)) rest)
  where
    rest : Goes (called (calls.Step number at) past) (take_step S made past)
    rest = subst (λ (x : Call). Goes (called x past) (take_step S made past)) call (behind_step S made past)

-- a pause count
less_pause : (memory : Memory) (count : ℕ) → memory.pause ≡ Some count → unwritten_left (record memory { pause = Some (count - 1) }) ≤ unwritten_left memory
less_pause memory count e = on memory.pause e
  where
    on : (pause : Option ℕ) → pause ≡ Some count → (if memory.called then 0 else 2 ^ 32) + min (count - 1) (2 ^ 32 - 1) ≤ (if memory.called then 0 else 2 ^ 32) + min (unwrap_or pause 0) (2 ^ 32 - 1)
    on None f = absurd cc
    on (Some n) f = let same : n ≡ count = cc in omega arith

lesser_pause : (memory : Memory) (count : ℕ) → memory.pause ≡ Some count → 1 < count → count < 2 ^ 32 → unwritten_left (record memory { pause = Some (count - 1) }) < unwritten_left memory
lesser_pause memory count e many few = on memory.pause e
  where
    on : (pause : Option ℕ) → pause ≡ Some count → (if memory.called then 0 else 2 ^ 32) + min (count - 1) (2 ^ 32 - 1) < (if memory.called then 0 else 2 ^ 32) + min (unwrap_or pause 0) (2 ^ 32 - 1)
    on None f = absurd cc
    on (Some n) f = let same : n ≡ count = cc in omega arith

pub counts_go : (S : Setup) (count : ℕ) (past : Past) → past.memory.pause ≡ Some count → Goes past (count_down S count past)
unfolding count_down
counts_go S count past e = if_goes (nat_le count 1) (goes (asks_grow S Continue past)) (same past (with_pause (Some (count - 1)) past) refl (less_pause past.memory count e))

counts_fall : (S : Setup) (past : Past) (count : ℕ) → row S past ≡ Some (Count count) → count < 2 ^ 32 → left (judge_limits S (count_down S count past)) < left past
unfolding count_down
counts_fall S past count e few = on (nat_le count 1) refl
  where
    f : Fits past.memory (state_of past.journal) (Count count)
    f = fits S past (Count count) e

    on : (last : Bool) → nat_le count 1 ≡ last → left (judge_limits S (if last then ask S Continue past else with_pause (Some (count - 1)) past)) < left past
    on true is = longer S past (ask S Continue past) f.0 (asks_grow S Continue past)
    on false is =
        let many : 1 < count = grind (arith, nat_tests) in
        let less = lesser_pause past.memory count f.1 many few in
        strictly S past (with_pause (Some (count - 1)) past) f.0 (same past (with_pause (Some (count - 1)) past) refl (less_pause past.memory count f.1)) (omega arith)

-- Abort
aborting : (S : Setup) (past : Past) → state_of past.journal ≡ Error → state_of (ask S Abort past).journal ≡ Aborting
unfolding ask led_to is_state
aborting S past e =
    subst (λ (s : State). state_of (asked S Abort (led_to s Abort) past).journal ≡ Aborting) (sym e) (told_state S Abort Aborting past)

gives_up_falls : (S : Setup) (past : Past) → row S past ≡ Some GiveUp → left (judge_limits S (ask S Abort past)) < left past
gives_up_falls S past e =
    let f = fits S past GiveUp e in
    let s = ap states_left f in let t = ap states_left (aborting S past f) in
    by_state S past (ask S Abort past) (omega arith)

-- ## All

happens : (S : Setup) (past : Past) (made : List Made) (now : Past) → Happens S past made now → left (judge_limits S now) ≤ left past
happens S past made now (gets p m more linked are filled) = lower S past _ (goes (gets_one S p m made past))
happens S past made now (loses p reason linked loss) = lower S past _ (goes (loses_one S p reason past))
happens S past made now (completes number) = lower S past _ (both (same past (with_completed number past) refl (omega arith)) (goes (completes_one S number (with_completed number past))))
happens S past made now (asks command) = lower S past _ (both (same past (note_asked past) refl (omega arith)) (goes (asks_grow S command (note_asked past))))
happens S past made now (adds name few) = lower S past _ (adds_tool S name past)
happens S past made now (moves to e) = let h = moves_fall S past to e in omega arith
happens S past made now (readies first e call filled) = let h = readies_fall S past first e call in omega arith
happens S past made now (begins first e call filled) = let h = begins_fall S past first _ _ e call in omega arith
happens S past made now (counts count e) = lower S past _ (counts_go S count past (fits S past (Count count) e).1)
happens S past made now (gives_up e) = let h = gives_up_falls S past e in omega arith

pub turns_end : TurnsEnd
turns_end = record {
  never_rises = λ S past now made h. happens S past made now h;
  moves = moves_fall;
  readies = readies_fall;
  begins = begins_fall;
  counts = counts_fall;
  gives_up = gives_up_falls;
}
