-- Once a participant is over it puts nothing to another one, unless its state goes on.
use Rattle.std.specs.Prelude.{◌≡◌, ◌<◌, ◌≤◌, ◌⊎◌, refl, ℕ, ◌+◌, nat_le, Bool, true, false, not, ◌&&◌, ◌||◌, List, [], ◌∷◌, ◌++◌, map, length, Option, Some, None, if◌then◌else◌}
use Rattle.std.specs.List.{cons_option}
use Rattle.std.proofs.lemmas.Bool.{and_parts}
use Rattle.std.proofs.lemmas.List.Elements.{filter_map-append}
use Rattle.std.proofs.Common.{ap, sym, subst, ◌∙◌, inl, inr, append-nil, arith}
use Rattle.sk_msg.specs.declared.command.Command.{Command}
use Rattle.sk_msg.specs.declared.command.Command.TheVariants.{Pause, Continue, Stop, ReportError, Abort}
use Rattle.sk_msg.specs.declared.command.Verdict.TheVariants.{Refused}
use Rattle.sk_msg.specs.declared.content.Content.{Content}
use Rattle.sk_msg.specs.declared.content.Content.TheVariants as contents
use Rattle.sk_msg.specs.declared.entry.Entry.{Entry}
use Rattle.sk_msg.specs.declared.entry.Entry.TheVariants.{Got, Put, System as Judged, Done, Ask, Gone, Stray}
use Rattle.sk_msg.specs.declared.state.State.{State}
use Rattle.sk_msg.specs.declared.state.State.TheVariants.{Invalid, ServicesCreated, CommunicationInitializing, CommunicationInitialized, ReadyToRun, Running, Paused, Stopping, Stopped, Error, ShuttingDown, Shutdown, Aborting}
use Rattle.sk_msg.specs.Edges.{has_edge, led_to}
use Rattle.sk_msg.specs.States.{is_state}
use Rattle.sk_law.specs.declared.made.Call.TheVariants as calls
use Rattle.sk_law.specs.declared.made.Made.{Made}
use Rattle.sk_law.specs.declared.setup.Setup.{Setup}
use Rattle.sk_law.specs.Past.{Past, add}
use Rattle.sk_law.specs.Readings.{state_of, state_after, system_told, open_step, payload, put, put_to, got}
use Rattle.sk_law.specs.Links.{system, is_peer, comes_in_order}
use Rattle.sk_law.specs.Receivers.{is_over, handed_to, receivers}
use Rattle.sk_law.specs.Rows.{Move, Ready, Step, Count}
use Rattle.sk_law.specs.Blocks.{judge_system, enter, enter_if, asked, ask, fault, may_end, is_number, end_step, completes_ready, completes_step, with_completed, complete, lose, heed, get, with_tool, greet, tool_number, add_tool, judge_limits}
use Rattle.sk_law.specs.Lawful.{Happens, gets, loses, completes, asks, adds, moves, readies, begins, counts, gives_up, note_asked, AreCalls}
use Rattle.sk_law.specs.Ends.{states_left}
use Rattle.sk_law.specs.Bounded.{IsStill, PutsBounded}
use Rattle.sk_law.proofs.Counting.{few-of}
use Rattle.sk_law.proofs.Going.{at_most, limited, both as both_go, state_more, enters_state, told_state, asks_grow, gets_one, loses_one, completes_one, adds_tool, shows, behind_call, behind_step}
use Rattle.sk_law.proofs.Ends.{fits, counts_go, judges_limits}
use Rattle.sk_law.proofs.Putting.{differs, puts_few}

-- ## States that go on

-- whatever happens, no state comes back
happens_states : (S : Setup) (past : Past) (made : List Made) (now : Past) → Happens S past made now → states_left (state_of now.journal) ≤ states_left (state_of past.journal)
happens_states S past made now (gets q m more linked are filled) = (gets_one S q m made past).states
happens_states S past made now (loses q reason linked loss) = (loses_one S q reason past).states
happens_states S past made now (completes number) = (completes_one S number (with_completed number past)).states
happens_states S past made now (asks command) = (asks_grow S command (note_asked past)).states
happens_states S past made now (adds name few) = (adds_tool S name past).states
happens_states S past made now (moves to e) =
    let s = ap states_left (enters_state S to 0 past) in
    elim (fits S past (Move to) e) [
      | inl edge ↦ let l = limited (state_of past.journal) edge in let m = at_most to in omega arith
      | inr less ↦ omega arith
    ]
happens_states S past made now (readies first e call filled) = (both_go (shows first.call past) (behind_call S past first)).states
happens_states S past made now (begins first e call filled) = (both_go (shows first.call past) (behind_step S first past)).states
happens_states S past made now (counts count e) = (counts_go S count past (fits S past (Count count) e).1).states
happens_states S past made now (gives_up e) = (asks_grow S Abort past).states

states : (S : Setup) (past now : Past) (made : List Made) → Happens S past made now → states_left (state_of (judge_limits S now).journal) ≤ states_left (state_of past.journal)
states S past now made h = let s = happens_states S past made now h in let t = (judges_limits S now).states in omega arith

-- ## Nothing is put

-- nothing is put to a participant and the state stays, or the state goes on
record Ebbs (S : Setup) (past now : Past) : Type 0 where
  either : IsStill S past now ⊎ (states_left (state_of now.journal) < states_left (state_of past.journal))

still : {S : Setup} {past now : Past} → IsStill S past now → Ebbs S past now
still h = record { either = inl h }

further : {S : Setup} {past now : Past} → states_left (state_of now.journal) < states_left (state_of past.journal) → Ebbs S past now
further h = record { either = inr h }

alike : {S : Setup} (past now : Past) → now.journal ≡ past.journal → IsStill S past now
alike past now e = record { state = ap state_of e; none = λ p low. ap (λ es. put es p) e }

here : {S : Setup} (past : Past) → IsStill S past past
here past = alike past past refl

both : {S : Setup} {a b c : Past} → IsStill S a b → IsStill S b c → IsStill S a c
both f g = record { state = g.state ∙ f.state; none = λ p low. g.none p low ∙ f.none p low }

and_then : {S : Setup} {a b c : Past} → IsStill S a b → Ebbs S b c → Ebbs S a c
and_then f g = elim g.either [
  | inl h ↦ still (both f h)
  | inr less ↦ further (let s = ap states_left f.state in omega arith)
]

if_still : {S : Setup} {past x y : Past} (c : Bool) → IsStill S past x → IsStill S past y → IsStill S past (if c then x else y)
if_still true f g = f
if_still false f g = g

if_ebbs : {S : Setup} {past x y : Past} (c : Bool) → Ebbs S past x → Ebbs S past y → Ebbs S past (if c then x else y)
if_ebbs true f g = f
if_ebbs false f g = g

-- an entry that is no State and puts nothing to a participant
one_to : {S : Setup} (e : Entry) (past : Past) → ((p : ℕ) → p < length S.names → put_to p e ≡ None) → ((s : State) → state_after s e ≡ s) → IsStill S past (add e past)
one_to e past h k = record {
  state = state_more past.journal e ∙ k (state_of past.journal);
  none = λ p low. filter_map-append (put_to p) past.journal (e ∷ []) ∙ (ap (λ o. put past.journal p ++ cons_option o []) (h p low) ∙ append-nil (put past.journal p));
}

one : {S : Setup} (e : Entry) (past : Past) → ((p : ℕ) → put_to p e ≡ None) → ((s : State) → state_after s e ≡ s) → IsStill S past (add e past)
one e past h k = one_to e past (λ p low. h p) k

judges : {S : Setup} (past : Past) → IsStill S past (judge_system S past)
unfolding judge_system
judges {S} past = if_still (is_state (system S past) (system_told past.journal)) (here past) (one (Judged (system S past)) past (λ p. refl) (λ s. refl))

-- a state without an edge to Error
abbrev IsLate : Past → Type 0
IsLate past = has_edge (state_of past.journal) Error ≡ false

late_after : (e : Entry) (past : Past) → ((s : State) → state_after s e ≡ s) → IsLate past → IsLate (add e past)
late_after e past h late = ap (λ s. has_edge s Error) (state_more past.journal e ∙ h (state_of past.journal)) ∙ late

no_error : {S : Setup} (past : Past) → IsLate past → IsStill S past (enter_if S Error past)
unfolding enter_if
no_error {S} past late = on (has_edge (state_of past.journal) Error) late
  where
    on : (c : Bool) → c ≡ false → IsStill S past (if c then enter S Error past else past)
    on true e = absurd cc
    on false e = here past

to_aborting : (from : State) → has_edge from Aborting ≡ true → states_left Aborting < states_left from
unfolding has_edge is_state
to_aborting ServicesCreated h = omega arith
to_aborting CommunicationInitializing h = omega arith
to_aborting CommunicationInitialized h = omega arith
to_aborting ReadyToRun h = omega arith
to_aborting Running h = omega arith
to_aborting Paused h = omega arith
to_aborting Stopping h = omega arith
to_aborting Stopped h = omega arith
to_aborting Error h = omega arith
to_aborting Invalid h = absurd cc
to_aborting ShuttingDown h = absurd cc
to_aborting Shutdown h = absurd cc
to_aborting Aborting h = absurd cc

entering : (S : Setup) (to : State) (past : Past) → states_left to < states_left (state_of past.journal) → Ebbs S past (enter S to past)
entering S to past h = further (let s = ap states_left (enters_state S to 0 past) in omega arith)

aborting : (S : Setup) (past : Past) → Ebbs S past (enter_if S Aborting past)
unfolding enter_if
aborting S past = on (has_edge (state_of past.journal) Aborting) refl
  where
    on : (c : Bool) → has_edge (state_of past.journal) Aborting ≡ c → Ebbs S past (if c then enter S Aborting past else past)
    on true e = entering S Aborting past (to_aborting (state_of past.journal) e)
    on false e = still (here past)

only_aborting : (to : State) → Some Aborting ≡ Some to → states_left to < states_left Error
only_aborting to e = let same : Aborting ≡ to = cc in subst (λ (s : State). states_left s < states_left Error) same (let r : states_left Aborting < states_left Error = omega arith in r)

-- where a command leads from there
led_sinks : (from : State) (command : Command) (to : State) → has_edge from Error ≡ false → led_to from command ≡ Some to → states_left to < states_left from
unfolding led_to has_edge is_state
led_sinks ServicesCreated command to late e = absurd cc
led_sinks CommunicationInitializing command to late e = absurd cc
led_sinks CommunicationInitialized command to late e = absurd cc
led_sinks ReadyToRun command to late e = absurd cc
led_sinks Running command to late e = absurd cc
led_sinks Paused command to late e = absurd cc
led_sinks Stopping command to late e = absurd cc
led_sinks Stopped command to late e = absurd cc
led_sinks Error Abort to late e = only_aborting to e
led_sinks Error Pause to late e = absurd cc
led_sinks Error Continue to late e = absurd cc
led_sinks Error Stop to late e = absurd cc
led_sinks Error ReportError to late e = absurd cc
led_sinks Invalid Pause to late e = absurd cc
led_sinks Invalid Continue to late e = absurd cc
led_sinks Invalid Stop to late e = absurd cc
led_sinks Invalid ReportError to late e = absurd cc
led_sinks Invalid Abort to late e = absurd cc
led_sinks ShuttingDown Pause to late e = absurd cc
led_sinks ShuttingDown Continue to late e = absurd cc
led_sinks ShuttingDown Stop to late e = absurd cc
led_sinks ShuttingDown ReportError to late e = absurd cc
led_sinks ShuttingDown Abort to late e = absurd cc
led_sinks Shutdown Pause to late e = absurd cc
led_sinks Shutdown Continue to late e = absurd cc
led_sinks Shutdown Stop to late e = absurd cc
led_sinks Shutdown ReportError to late e = absurd cc
led_sinks Shutdown Abort to late e = absurd cc
led_sinks Aborting Pause to late e = absurd cc
led_sinks Aborting Continue to late e = absurd cc
led_sinks Aborting Stop to late e = absurd cc
led_sinks Aborting ReportError to late e = absurd cc
led_sinks Aborting Abort to late e = absurd cc

asking_to : (S : Setup) (command : Command) (to : Option State) (past : Past) →
    ((s : State) → to ≡ Some s → states_left s < states_left (state_of past.journal)) → Ebbs S past (asked S command to past)
asking_to S command None past h = still (one (Ask command (Refused (state_of past.journal))) past (λ p. refl) (λ s. refl))
asking_to S command (Some to) past h = further (let s = ap states_left (told_state S command to past) in let l = h to refl in omega arith)

asking : (S : Setup) (command : Command) (past : Past) → IsLate past → Ebbs S past (ask S command past)
unfolding ask
asking S command past late =
    asking_to S command (led_to (state_of past.journal) command) past (λ s e. led_sinks (state_of past.journal) command s late e)

ends_early : (s : State) → may_end s ≡ true → has_edge s Error ≡ false → ⊥
unfolding has_edge is_state
ends_early Running e late = absurd cc
ends_early Paused e late = absurd cc
ends_early Stopping e late = absurd cc
ends_early Invalid e late = absurd cc
ends_early ServicesCreated e late = absurd cc
ends_early CommunicationInitializing e late = absurd cc
ends_early CommunicationInitialized e late = absurd cc
ends_early ReadyToRun e late = absurd cc
ends_early Stopped e late = absurd cc
ends_early Error e late = absurd cc
ends_early ShuttingDown e late = absurd cc
ends_early Shutdown e late = absurd cc
ends_early Aborting e late = absurd cc

no_step_ends : (S : Setup) (n : ℕ) (past : Past) → IsLate past → completes_step S n past ≡ true → ⊥
unfolding completes_step
no_step_ends S n past late e =
    ends_early (state_of past.journal)
    ((and_parts (is_number n (open_step past.journal)) (may_end (state_of past.journal))
    ((and_parts S.is_async (is_number n (open_step past.journal) && may_end (state_of past.journal)) e).1)).1) late

completing : (S : Setup) (n : ℕ) (past : Past) → IsLate past → IsStill S past (complete S n past)
unfolding complete
completing S n past late =
    if_still (completes_ready n past) (one (Done n) past (λ p. refl) (λ s. refl)) (on (completes_step S n past) refl)
  where
    on : (c : Bool) → completes_step S n past ≡ c → IsStill S past (if c then end_step S (add (Done n) past) else add (Stray n) past)
    on true e = absurd (no_step_ends S n past late e)
    on false e = one (Stray n) past (λ p. refl) (λ s. refl)

losing : (S : Setup) (q reason : ℕ) (past : Past) → IsLate past → IsStill S past (lose S q reason past)
unfolding lose
losing S q reason past late =
    let first : IsStill S past (add (Gone q reason) past) = one (Gone q reason) past (λ p. refl) (λ s. refl) in
    if_still (is_peer S q) (both first (no_error (add (Gone q reason) past) (late_after (Gone q reason) past (λ s. refl) late))) first

heeding : (S : Setup) (q : ℕ) (m : Content) (past : Past) → Ebbs S past (heed S q m [] past)
unfolding heed
heeding S q (contents.Status state until) past = still (judges past)
heeding S q (contents.Workflow required) past = still (judges past)
heeding S q contents.Abort past = aborting S past
heeding S q (contents.LinResponse head response) past = still (alike past _ refl)
heeding S q (contents.Hello name role address) past = still (here past)
heeding S q contents.Leave past = still (here past)
heeding S q (contents.NextStep at size) past = still (here past)
heeding S q (contents.ServiceAdd service) past = still (here past)
heeding S q contents.ServicesEnd past = still (here past)
heeding S q (contents.Can head frame) past = still (here past)
heeding S q (contents.Eth head payload) past = still (here past)
heeding S q (contents.Lin head frame) past = still (here past)
heeding S q (contents.Publish head payload) past = still (here past)
heeding S q (contents.Call head call payload) past = still (here past)
heeding S q (contents.Reply head client call payload) past = still (here past)
heeding S q (contents.Refuse reason) past = still (here past)

getting : (S : Setup) (q : ℕ) (m : Content) (past : Past) → IsLate past → Ebbs S past (get S q m [] past)
unfolding get
getting S q m past late =
    let first : IsStill S past (add (Got q m) past) = one (Got q m) past (λ p. refl) (λ s. refl) in
    if_ebbs (comes_in_order S past q m) (and_then first (heeding S q m (add (Got q m) past)))
    (still (both first (losing S q 8 (add (Got q m) past) (late_after (Got q m) past (λ s. refl) late))))

-- what is put to a tool is put to no participant
to_tool : {S : Setup} (t : ℕ) (m : Content) (past : Past) → length S.names ≤ t → IsStill S past (add (Put t m) past)
to_tool t m past far =
    one_to (Put t m) past (λ p low. ap (λ (c : Bool). if c then Some m else None) (differs p t (omega arith))) (λ s. refl)

greeting : (S : Setup) (t : ℕ) (past : Past) → length S.names ≤ t → IsStill S past (greet S t past)
greeting S t past far = both (both (to_tool t _ _ far) (to_tool t _ _ far)) (to_tool t _ _ far)

adding : (S : Setup) (name : List ℕ) (past : Past) → IsStill S past (add_tool S name past)
unfolding add_tool
adding S name past =
    let first : IsStill S past (with_tool name past) = alike past (with_tool name past) refl in
    if_still (is_state Shutdown (state_of past.journal)) first (both first (greeting S (tool_number S past) (with_tool name past) (omega arith)))

both_ways : (b : Bool) → b ≡ true → b ≡ false → ⊥
both_ways b e f = cc

-- ## Once it is over

over_late : (s : State) → is_over s ≡ true → has_edge s Error ≡ false
unfolding has_edge is_state
over_late Error h = refl
over_late Aborting h = refl
over_late Shutdown h = refl
over_late Invalid h = absurd cc
over_late ServicesCreated h = absurd cc
over_late CommunicationInitializing h = absurd cc
over_late CommunicationInitialized h = absurd cc
over_late ReadyToRun h = absurd cc
over_late Running h = absurd cc
over_late Paused h = absurd cc
over_late Stopping h = absurd cc
over_late Stopped h = absurd cc
over_late ShuttingDown h = absurd cc

-- nothing is handed
none_handed : (S : Setup) (past : Past) (q : ℕ) (m : Content) → is_over (state_of past.journal) ≡ true → receivers S past q m ≡ []
unfolding receivers
none_handed S past q m over = ap (λ b. if b || not (comes_in_order S past q m) then [] else handed_to S past q m) over

none_made : (made : List Made) → map (λ x. x.call) made ≡ [] → made ≡ []
none_made [] e = refl
none_made (x ∷ made) e = absurd cc

no_calls : (S : Setup) (past : Past) (q : ℕ) (m : Content) (made : List Made) → is_over (state_of past.journal) ≡ true → AreCalls S past q m made → made ≡ []
no_calls S past q m made over are =
    none_made made (are ∙ ap (map (λ r. calls.Message q (length (got past.journal q) + 1) r m)) (none_handed S past q m over))

happens_still : (S : Setup) (past : Past) (made : List Made) (now : Past) → is_over (state_of past.journal) ≡ true → IsLate past → Happens S past made now → Ebbs S past now
happens_still S past made now over late (gets q m more linked are filled) =
    subst (λ (x : List Made). Ebbs S past (get S q m x past)) (sym (no_calls S past q m made over are)) (getting S q m past late)
happens_still S past made now over late (loses q reason linked loss) = still (losing S q reason past late)
happens_still S past made now over late (completes number) =
    still (both (alike past (with_completed number past) refl) (completing S number (with_completed number past) late))
happens_still S past made now over late (asks command) = and_then (alike past (note_asked past) refl) (asking S command (note_asked past) late)
happens_still S past made now over late (adds name few) = still (adding S name past)
happens_still S past made now over late (moves to e) =
    elim (fits S past (Move to) e) [
      | inl edge ↦ absurd (both_ways _ edge late)
      | inr less ↦ entering S to past less
    ]
happens_still S past made now over late (readies first e call filled) = absurd (both_ways _ ((fits S past Ready e).0) late)
happens_still S past made now over late (begins first e call filled) = absurd (both_ways _ (fits S past Step e) late)
happens_still S past made now over late (counts count e) = absurd (both_ways _ ((fits S past (Count count) e).0) late)
happens_still S past made now over late (gives_up e) = asking S Abort past late

-- the limits aren't judged there
unlimited_still : (S : Setup) (past : Past) → IsLate past → IsStill S past (judge_limits S past)
unfolding judge_limits
unlimited_still S past late = on (has_edge (state_of past.journal) Error) late
  where
    on : (c : Bool) → c ≡ false →
        IsStill S past (if not c then past else if nat_le 500000 (length past.journal) then fault S 3 past else if nat_le 33554432 (payload past.journal) then fault S 4 past else past)
    on true e = absurd cc
    on false e = here past

over : (S : Setup) (past now : Past) (made : List Made) → is_over (state_of past.journal) ≡ true → Happens S past made now →
    IsStill S past (judge_limits S now) ⊎ (states_left (state_of (judge_limits S now).journal) < states_left (state_of past.journal))
over S past now made is h =
    let late = over_late (state_of past.journal) is in
    elim (happens_still S past made now is late h).either [
      | inl none ↦ inl (both none (unlimited_still S now (ap (λ s. has_edge s Error) none.state ∙ late)))
      | inr less ↦ inr (let t = (judges_limits S now).states in omega arith)
    ]

-- ## The law

pub puts_bounded : PutsBounded
puts_bounded = record { within = λ es p. few-of (put_to p) es; at_once = puts_few; states = states; over = over }
