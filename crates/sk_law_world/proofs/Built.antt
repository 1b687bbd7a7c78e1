-- A journal is built entry by entry, each by its rule.
use Rattle.std.specs.Prelude.{◌≡◌, refl, IsTrue, ℕ, Bool, true, false, not, ◌&&◌, ◌||◌, List, [], ◌∷◌, ◌++◌, map, Option, Some, None, if◌then◌else◌}
use Rattle.std.specs.List.{fold}
use Rattle.std.proofs.lemmas.List.Sums.{fold-append}
use Rattle.std.proofs.lemmas.List.Folds.{list_any-append}
use Rattle.std.proofs.lemmas.Bool.{and_parts}
use Rattle.std.proofs.lemmas.List.{append_assoc, append-nil}
use Rattle.sk_law_world.proofs.StateLaws.{each_state}
use Rattle.std.proofs.Common.{inl, ap, sym, ◌∙◌, subst}
use Rattle.sk_msg.specs.declared.content.Content.{Content}
use Rattle.sk_msg.specs.declared.content.Content.TheVariants as contents
use Rattle.sk_msg.specs.declared.state.State.{State}
use Rattle.sk_msg.specs.declared.state.State.TheVariants.{Invalid, Running, Error, Shutdown, Aborting}
use Rattle.sk_msg.specs.Edges.{has_edge, has_edge_of}
use Rattle.sk_msg.specs.States.{is_state}
use Rattle.sk_msg.specs.declared.entry.Entry.{Entry}
use Rattle.sk_msg.specs.declared.entry.Entry.TheVariants.{Got, Put, Hand, State as Entered, System as Judged, Begin, Done, End, Ask, Gone, Stray, Did, Fault}
use Rattle.sk_law.specs.declared.setup.Setup.{Setup}
use Rattle.sk_law.specs.declared.memory.Memory.{Memory}
use Rattle.sk_law.specs.Past.{Past, add, put_each}
use Rattle.sk_law.specs.declared.memory.Begun.{Begun}
use Rattle.sk_law.specs.Readings.{begun_after, open_after, state_of, system_told, last_begun, open_step, next_time, time_after, number_of, has_run, payload, is_running_entry, state_after}
use Rattle.sk_law.specs.Links.{reached, told, system}
use mathlib.Core.List.{IsPrefix}
use Rattle.sk_law_world.specs.Meets.{comes_besides, is_by_row, MayEnter, MayPut, Meets}
use Rattle.sk_law.specs.Blocks.{judge_system, announce, enter_only, enter_until, enter, enter_if, asked}

-- tools are added alone
pub all_of : {X : Type 0} (xs : List X) → IsPrefix xs xs
all_of xs = ([], append-nil xs)

pub data Built (S : Setup) : Past → Type 0 where
  empty : (memory : Memory) → Built S (record { journal = []; memory = memory })
  remembers : (past : Past) (memory : Memory) → IsPrefix past.memory.tools memory.tools → Built S past → Built S (record { journal = past.journal; memory = memory })
  adds : (past : Past) (e : Entry) → Built S past → Meets S past e → Built S (add e past)

-- ## Puts change no reading but that of the messages put

pub last_begun-puts : (es : List Entry) (numbers : List ℕ) (m : Content) → last_begun (es ++ map (λ q. Put q m) numbers) ≡ last_begun es
last_begun-puts es numbers m = fold-append begun_after None es (map (λ q. Put q m) numbers) ∙ same (last_begun es) numbers
  where
    same : (last : Option Begun) (numbers : List ℕ) → fold begun_after last (map (λ q. Put q m) numbers) ≡ last
    same last [] = refl
    same last (q ∷ more) = same last more

pub open_step-puts : (es : List Entry) (numbers : List ℕ) (m : Content) → open_step (es ++ map (λ q. Put q m) numbers) ≡ open_step es
open_step-puts es numbers m = fold-append open_after None es (map (λ q. Put q m) numbers) ∙ same (open_step es) numbers
  where
    same : (last : Option Begun) (numbers : List ℕ) → fold open_after last (map (λ q. Put q m) numbers) ≡ last
    same last [] = refl
    same last (q ∷ more) = same last more

-- nothing has changed that a Put looks at
pub record SameMoment (past now : Past) : Type 0 where
  pub begun : last_begun now.journal ≡ last_begun past.journal
  pub opened : open_step now.journal ≡ open_step past.journal
  pub state : state_of now.journal ≡ state_of past.journal
  pub run : has_run now.journal ≡ has_run past.journal

pub state_of-puts : (es : List Entry) (numbers : List ℕ) (m : Content) → state_of (es ++ map (λ q. Put q m) numbers) ≡ state_of es
state_of-puts es numbers m = fold-append state_after Invalid es (map (λ q. Put q m) numbers) ∙ same (state_of es) numbers
  where
    same : (s : State) (numbers : List ℕ) → fold state_after s (map (λ q. Put q m) numbers) ≡ s
    same s [] = refl
    same s (q ∷ more) = same s more

pub or_false : (a : Bool) → (a || false) ≡ a
or_false true = refl
or_false false = refl

pub has_run-add : (es : List Entry) (e : Entry) → has_run (es ++ e ∷ []) ≡ (has_run es || has_run (e ∷ []))
has_run-add es e = list_any-append is_running_entry es (e ∷ [])

-- a message may still be put behind an entry that changes none of this
pub MayPut-later : (S : Setup) (past now : Past) (m : Content) → SameMoment past now → MayPut S past m → MayPut S now m
MayPut-later S past now (contents.NextStep at size) e h = (h.0, h.1 ∙ ap (time_after size) (sym e.begun), e.opened ∙ h.2, e.run ∙ h.3)
MayPut-later S past now (contents.Can head' frame) e h = (h.0 ∙ ap (time_after 0) (sym e.begun), h.1 ∙ ap number_of (sym e.opened), ap (is_state Shutdown) e.state ∙ h.2)
MayPut-later S past now (contents.Eth head' payload) e h = (h.0 ∙ ap (time_after 0) (sym e.begun), h.1 ∙ ap number_of (sym e.opened), ap (is_state Shutdown) e.state ∙ h.2)
MayPut-later S past now (contents.Lin head' frame) e h = (h.0 ∙ ap (time_after 0) (sym e.begun), h.1 ∙ ap number_of (sym e.opened), ap (is_state Shutdown) e.state ∙ h.2)
MayPut-later S past now (contents.LinResponse head' response) e h = (h.0 ∙ ap (time_after 0) (sym e.begun), h.1 ∙ ap number_of (sym e.opened), ap (is_state Shutdown) e.state ∙ h.2)
MayPut-later S past now (contents.Publish head' payload) e h = (h.0 ∙ ap (time_after 0) (sym e.begun), h.1 ∙ ap number_of (sym e.opened), ap (is_state Shutdown) e.state ∙ h.2)
MayPut-later S past now (contents.Call head' call payload) e h = (h.0 ∙ ap (time_after 0) (sym e.begun), h.1 ∙ ap number_of (sym e.opened), ap (is_state Shutdown) e.state ∙ h.2)
MayPut-later S past now (contents.Reply head' client call payload) e h = (h.0 ∙ ap (time_after 0) (sym e.begun), h.1 ∙ ap number_of (sym e.opened), ap (is_state Shutdown) e.state ∙ h.2)
MayPut-later S past now (contents.Hello name role address) e h = h
MayPut-later S past now contents.Leave e h = ap (is_state Shutdown) e.state ∙ h
MayPut-later S past now (contents.ServiceAdd service) e h = tt
MayPut-later S past now contents.ServicesEnd e h = tt
MayPut-later S past now (contents.Status state until) e h = h ∙ sym e.state
MayPut-later S past now (contents.Workflow required) e h = tt
MayPut-later S past now contents.Abort e h = tt
MayPut-later S past now (contents.Refuse reason) e h = tt

one_put : (S : Setup) (past : Past) (q : ℕ) (m : Content) → MayPut S past m → MayPut S (add (Put q m) past) m
one_put S past q m h = MayPut-later S past (add (Put q m) past) m (record {
  begun = last_begun-puts past.journal (q ∷ []) m;
  opened = open_step-puts past.journal (q ∷ []) m;
  state = state_of-puts past.journal (q ∷ []) m;
  run = has_run-add past.journal (Put q m) ∙ or_false (has_run past.journal);
}) h

pub built_puts : {S : Setup} (numbers : List ℕ) (m : Content) (past : Past) → MayPut S past m → Built S past → Built S (put_each numbers m past)
built_puts {S} [] m past may b = subst (λ es. Built S (record { journal = es; memory = past.memory })) (sym (append-nil past.journal)) b
built_puts {S} (q ∷ more) m past may b =
    subst (λ es. Built S (record { journal = es; memory = past.memory })) (append_assoc past.journal (Put q m ∷ []) (map (λ q. Put q m) more))
    (built_puts more m (add (Put q m) past) (one_put S past q m may) (adds past (Put q m) b may))

pub not_both : (a b : Bool) → not (a && b) ≡ true → a ≡ true → b ≡ false
not_both true true h e = absurd cc
not_both true false h e = refl
not_both false b h e = absurd cc

-- ## States

pub built_system : {S : Setup} (past : Past) → Built S past → Built S (judge_system S past)
unfolding judge_system
built_system {S} past b = on (is_state (system S past) (system_told past.journal)) refl
  where
    on : (c : Bool) → is_state (system S past) (system_told past.journal) ≡ c → Built S (if c then past else add (Judged (system S past)) past)
    on true e = b
    on false e = adds past (Judged (system S past)) b (refl, e)

pub built_enter_only : {S : Setup} (to : State) (until : ℕ) (past : Past) → MayEnter S past to → Built S past → Built S (enter_only S to until past)
built_enter_only {S} to until past edge b =
    built_system (put_each (told S past) (contents.Status to until) (add (Entered to) past))
    (built_puts (told S past) (contents.Status to until) (add (Entered to) past) (sym (fold-append state_after Invalid past.journal (Entered to ∷ []))) (adds past (Entered to) b edge))

-- ## What leaves the steps as they are

pub record SameSteps (past now : Past) : Type 0 where
  pub begun : last_begun now.journal ≡ last_begun past.journal
  pub opened : open_step now.journal ≡ open_step past.journal

pub same : (past : Past) → SameSteps past past
same past = record { begun = refl; opened = refl }

pub then_same : {a b c : Past} → SameSteps a b → SameSteps b c → SameSteps a c
then_same h i = record { begun = i.begun ∙ h.begun; opened = i.opened ∙ h.opened }

pub same_puts : (numbers : List ℕ) (m : Content) (past : Past) → SameSteps past (put_each numbers m past)
same_puts numbers m past = record { begun = last_begun-puts past.journal numbers m; opened = open_step-puts past.journal numbers m }

pub last_begun-add : (es : List Entry) (e : Entry) → last_begun (es ++ e ∷ []) ≡ begun_after (last_begun es) e
last_begun-add es e = fold-append begun_after None es (e ∷ [])

pub open_step-add : (es : List Entry) (e : Entry) → open_step (es ++ e ∷ []) ≡ open_after (open_step es) e
open_step-add es e = fold-append open_after None es (e ∷ [])

pub state_of-add : (es : List Entry) (e : Entry) → state_of (es ++ e ∷ []) ≡ state_after (state_of es) e
state_of-add es e = fold-append state_after _ es (e ∷ [])

-- an entry that is neither Begin nor End
abbrev pub IsStill : Entry → Type 0
IsStill e = ((last : Option Begun) → begun_after last e ≡ last) × ((last : Option Begun) → open_after last e ≡ last)

pub same_add : (past : Past) (e : Entry) → IsStill e → SameSteps past (add e past)
same_add past e still = record {
  begun = last_begun-add past.journal e ∙ still.0 (last_begun past.journal);
  opened = open_step-add past.journal e ∙ still.1 (open_step past.journal);
}

pub same_system : (S : Setup) (past : Past) → SameSteps past (judge_system S past)
unfolding judge_system
same_system S past = on (is_state (system S past) (system_told past.journal))
  where
    on : (c : Bool) → SameSteps past (if c then past else add (Judged (system S past)) past)
    on true = same past
    on false = same_add past (Judged (system S past)) ((λ last. refl), (λ last. refl))

pub same_enter_only : (S : Setup) (to : State) (until : ℕ) (past : Past) → SameSteps past (enter_only S to until past)
same_enter_only S to until past =
    then_same (same_add past (Entered to) ((λ last. refl), (λ last. refl)))
    (then_same (same_puts (told S past) (contents.Status to until) (add (Entered to) past))
    (same_system S (put_each (told S past) (contents.Status to until) (add (Entered to) past))))

-- ## Running comes before every Begin

pub or_left : (a b : Bool) → a ≡ true → (a || b) ≡ true
or_left true b h = refl
or_left false b h = cc

or_right : (a b : Bool) → b ≡ true → (a || b) ≡ true
or_right true b h = refl
or_right false b h = h

pub or_parts : (a b : Bool) → (a || b) ≡ false → (a ≡ false) × (b ≡ false)
or_parts true b h = absurd cc
or_parts false b h = (refl, h)

-- where the state is Running, Running was entered
ran_by : (es : List Entry) (e : Entry) → (is_state Running (state_of es) ≡ true → has_run es ≡ true) →
    is_state Running (state_after (state_of es) e) ≡ true → has_run (es ++ e ∷ []) ≡ true
ran_by es (Got p m) before h = has_run-add es (Got p m) ∙ or_left (has_run es) false (before h)
ran_by es (Put p m) before h = has_run-add es (Put p m) ∙ or_left (has_run es) false (before h)
ran_by es (Hand p k r) before h = has_run-add es (Hand p k r) ∙ or_left (has_run es) false (before h)
ran_by es (Judged state) before h = has_run-add es (Judged state) ∙ or_left (has_run es) false (before h)
ran_by es (Begin n t) before h = has_run-add es (Begin n t) ∙ or_left (has_run es) false (before h)
ran_by es (Done n) before h = has_run-add es (Done n) ∙ or_left (has_run es) false (before h)
ran_by es (End n) before h = has_run-add es (End n) ∙ or_left (has_run es) false (before h)
ran_by es (Ask command verdict) before h = has_run-add es (Ask command verdict) ∙ or_left (has_run es) false (before h)
ran_by es (Gone p reason) before h = has_run-add es (Gone p reason) ∙ or_left (has_run es) false (before h)
ran_by es (Stray n) before h = has_run-add es (Stray n) ∙ or_left (has_run es) false (before h)
ran_by es (Did s code m) before h = has_run-add es (Did s code m) ∙ or_left (has_run es) false (before h)
ran_by es (Fault n) before h = has_run-add es (Fault n) ∙ or_left (has_run es) false (before h)
ran_by es (Entered to) before h = has_run-add es (Entered to) ∙ or_right (has_run es) (is_state Running to || false) (or_left (is_state Running to) false h)

pub ran : {S : Setup} (past : Past) → Built S past → is_state Running (state_of past.journal) ≡ true → has_run past.journal ≡ true
unfolding is_state
ran past (empty memory) h = absurd cc
ran past (remembers before memory more b) h = ran before b h
ran past (adds before e b meets) h =
    ran_by before.journal e (ran before b) (subst (λ s. is_state Running s ≡ true) (state_of-add before.journal e) h)

-- no step before Running
unbegun_by : {S : Setup} (past : Past) (e : Entry) → Built S past → Meets S past e → (has_run past.journal ≡ false → last_begun past.journal ≡ None) →
    has_run past.journal ≡ false → begun_after (last_begun past.journal) e ≡ None
unbegun_by past (Got p m) b meets before h = before h
unbegun_by past (Put p m) b meets before h = before h
unbegun_by past (Hand p k r) b meets before h = before h
unbegun_by past (Entered to) b meets before h = before h
unbegun_by past (Judged state) b meets before h = before h
unbegun_by past (Done n) b meets before h = before h
unbegun_by past (End n) b meets before h = before h
unbegun_by past (Ask command verdict) b meets before h = before h
unbegun_by past (Gone p reason) b meets before h = before h
unbegun_by past (Stray n) b meets before h = before h
unbegun_by past (Did s code m) b meets before h = before h
unbegun_by past (Fault n) b meets before h = before h
unbegun_by past (Begin n t) b meets before h = let ran' = ran past b meets.running in absurd cc

pub unbegun : {S : Setup} (past : Past) → Built S past → has_run past.journal ≡ false → last_begun past.journal ≡ None
unbegun past (empty memory) h = refl
unbegun past (remembers before memory more b) h = unbegun before b h
unbegun past (adds before e b meets) h =
    last_begun-add before.journal e ∙ unbegun_by before e b meets (unbegun before b)
    (or_parts (has_run before.journal) (has_run (e ∷ [])) (sym (has_run-add before.journal e) ∙ h)).0

-- the open step is the last one that was begun
pub opened_is_last : (es : List Entry) (o l : Option Begun) → ((b : Begun) → o ≡ Some b → l ≡ Some b) → (b : Begun) → fold open_after o es ≡ Some b → fold begun_after l es ≡ Some b
opened_is_last [] o l h b e = h b e
opened_is_last (Begin n t ∷ es) o l h b e = opened_is_last es _ _ (λ c f. f) b e
opened_is_last (End n ∷ es) o l h b e = opened_is_last es None l (λ c f. absurd cc) b e
opened_is_last (Got p m ∷ es) o l h b e = opened_is_last es o l h b e
opened_is_last (Put p m ∷ es) o l h b e = opened_is_last es o l h b e
opened_is_last (Hand p k r ∷ es) o l h b e = opened_is_last es o l h b e
opened_is_last (Entered to ∷ es) o l h b e = opened_is_last es o l h b e
opened_is_last (Judged state ∷ es) o l h b e = opened_is_last es o l h b e
opened_is_last (Done n ∷ es) o l h b e = opened_is_last es o l h b e
opened_is_last (Ask command verdict ∷ es) o l h b e = opened_is_last es o l h b e
opened_is_last (Gone p reason ∷ es) o l h b e = opened_is_last es o l h b e
opened_is_last (Stray n ∷ es) o l h b e = opened_is_last es o l h b e
opened_is_last (Did s code m ∷ es) o l h b e = opened_is_last es o l h b e
opened_is_last (Fault n ∷ es) o l h b e = opened_is_last es o l h b e

-- none is open where none was begun
pub closed_unbegun : (es : List Entry) → last_begun es ≡ None → open_step es ≡ None
closed_unbegun es e = on (open_step es) refl
  where
    on : (o : Option Begun) → open_step es ≡ o → o ≡ None
    on None f = refl
    on (Some b) f = let g = opened_is_last es None None (λ c h. h) b f in absurd cc

state-system : (S : Setup) (past : Past) → state_of (judge_system S past).journal ≡ state_of past.journal
unfolding judge_system
state-system S past = on (is_state (system S past) (system_told past.journal))
  where
    on : (c : Bool) → state_of (if c then past else add (Judged (system S past)) past).journal ≡ state_of past.journal
    on true = refl
    on false = fold-append state_after Invalid past.journal (Judged (system S past) ∷ [])

pub state-enter_only : (S : Setup) (to : State) (until : ℕ) (past : Past) → state_of (enter_only S to until past).journal ≡ to
state-enter_only S to until past =
    state-system S (put_each (told S past) (contents.Status to until) (add (Entered to) past))
    ∙ state_of-puts (past.journal ++ Entered to ∷ []) (told S past) (contents.Status to until)
    ∙ fold-append state_after Invalid past.journal (Entered to ∷ [])

-- ## States with what follows them

pub built_announce : {S : Setup} (at : ℕ) (past : Past) → ((size : ℕ) → S.step ≡ Some size → at ≡ next_time size past.journal) → open_step past.journal ≡ None → has_run past.journal ≡ true →
    Built S past → Built S (announce S at past)
built_announce {S} at past timed closed run b = on S.step refl
  where
    on : (step : Option ℕ) → S.step ≡ step → Built S (announce (record S { step = step }) at past)
    on None e = b
    on (Some size) e = built_puts (reached S past) (contents.NextStep at size) past (e, timed size e, closed, run) b

pub built_enter_until : {S : Setup} (to : State) (until : ℕ) (past : Past) → MayEnter S past to → Built S past → Built S (enter_until S to until past)
unfolding enter_until
built_enter_until {S} to until past edge b = on (is_state Shutdown to) (is_state Running to && not (has_run past.journal)) refl refl
  where
    now : Past
    now = enter_only S to until past

    b' : Built S now
    b' = built_enter_only to until past edge b

    begun : has_run past.journal ≡ false → last_begun now.journal ≡ None
    begun h = (same_enter_only S to until past).begun ∙ unbegun past b h

    not_run : (a c : Bool) → (a && not c) ≡ true → c ≡ false
    not_run true false h = refl
    not_run true true h = cc
    not_run false c h = absurd cc

    on : (shut first : Bool) → is_state Shutdown to ≡ shut → (is_state Running to && not (has_run past.journal)) ≡ first →
        Built S (if shut then put_each (told S past) contents.Leave now else if first then announce S 0 now else now)
    on true first f e = built_puts (told S past) contents.Leave now (ap (is_state Shutdown) (state-enter_only S to until past) ∙ f) b'
    on false true f e = built_announce 0 now (λ size h. sym (ap (time_after size) (begun (not_run (is_state Running to) (has_run past.journal) e))))
        (closed_unbegun now.journal (begun (not_run (is_state Running to) (has_run past.journal) e)))
        (ran now b' (ap (is_state Running) (state-enter_only S to until past) ∙ (and_parts (is_state Running to) (not (has_run past.journal)) e).0)) b'
    on false false f e = b'

-- a command asks for each edge that leads there, and the state comes in other ways too
abbrev pub IsAsked : State → Type 0
IsAsked to = ((from : State) → has_edge from to ≡ true → is_by_row from to ≡ false) × IsTrue (comes_besides to)

pub asked_error : IsAsked Error
unfolding is_state has_edge has_edge_of is_by_row
asked_error = ((λ from edge. not_both (has_edge from Error) (is_by_row from Error) (each_state (λ a. not (has_edge a Error && is_by_row a Error)) refl from) edge), refl)

pub asked_aborting : IsAsked Aborting
unfolding is_state has_edge has_edge_of is_by_row
asked_aborting = ((λ from edge. not_both (has_edge from Aborting) (is_by_row from Aborting) (each_state (λ a. not (has_edge a Aborting && is_by_row a Aborting)) refl from) edge), refl)

pub built_enter_if : {S : Setup} (to : State) (past : Past) → IsAsked to → Built S past → Built S (enter_if S to past)
unfolding enter_if
built_enter_if {S} to past asked b = on (has_edge (state_of past.journal) to) refl
  where
    on : (edge : Bool) → has_edge (state_of past.journal) to ≡ edge → Built S (if edge then enter S to past else past)
    on true e = built_enter_until to 0 past (record { edge = e; by_row = λ row. let no_row = asked.0 (state_of past.journal) e in absurd cc; cause = inl asked.1 }) b
    on false e = b

-- ## Where enter leads

state-announce : (S : Setup) (at : ℕ) (past : Past) → state_of (announce S at past).journal ≡ state_of past.journal
state-announce S at past = on S.step
  where
    on : (step : Option ℕ) → state_of (announce (record S { step = step }) at past).journal ≡ state_of past.journal
    on None = refl
    on (Some size) = state_of-puts past.journal (reached S past) (contents.NextStep at size)

-- behind the block the participant is in the state
pub state-enter : (S : Setup) (to : State) (until : ℕ) (past : Past) → state_of (enter_until S to until past).journal ≡ to
unfolding enter_until
state-enter S to until past = on (is_state Shutdown to) (is_state Running to && not (has_run past.journal)) ∙ state-enter_only S to until past
  where
    now : Past
    now = enter_only S to until past

    on : (shut first : Bool) → state_of (if shut then put_each (told S past) contents.Leave now else if first then announce S 0 now else now).journal ≡ state_of now.journal
    on true first = state_of-puts now.journal (told S past) contents.Leave
    on false true = state-announce S 0 now
    on false false = refl

pub state_still : (es : List Entry) (e : Entry) → ((s : State) → state_after s e ≡ s) → state_of (es ++ e ∷ []) ≡ state_of es
state_still es e still = state_of-add es e ∙ still (state_of es)
