-- Which calls of the app a journal shows: entry by entry, and of the ready handler by what is remembered.
use Rattle.std.specs.Prelude.{◌≡◌, refl, ℕ, ◌+◌, ◌-◌, Bool, true, false, not, ◌||◌, List, [], ◌∷◌, ◌++◌, length, Some, None, slice_get, if◌then◌else◌}
use Rattle.std.specs.List.{filter_map, list_all, cons_option}
use Rattle.std.proofs.Common.{ap, sym, ◌∙◌, subst, arith}
use Rattle.std.proofs.lemmas.Bool.{and_parts, eq-eqb}
use Rattle.std.proofs.lemmas.List.{append_assoc, append-nil}
use Rattle.std.proofs.lemmas.List.Elements.{filter_map-append}
use Rattle.std.proofs.lemmas.List.Sums.{fold-append}
use Rattle.sk_msg.specs.declared.content.Content.{Content}
use Rattle.sk_msg.specs.declared.entry.Entry.{Entry}
use Rattle.sk_msg.specs.declared.entry.Entry.TheVariants.{Got, Hand, State as Entered, Begin}
use Rattle.sk_msg.specs.declared.state.State.{State}
use Rattle.sk_msg.specs.declared.state.State.TheVariants.{Invalid, ReadyToRun, Running, Paused}
use Rattle.sk_law.specs.declared.made.Call.TheVariants as calls
use Rattle.sk_law.specs.declared.made.Made.{Made}
use Rattle.sk_law.specs.Past.{Past}
use Rattle.sk_law.specs.Readings.{state_of, state_after, got, got_from}
use Rattle.sk_law.specs.Told.{message_at}
use Rattle.sk_sim.proofs.Lists.{get_back, slice_get-front}

-- ## Entries and states

-- it shows no call, and no state
abbrev pub is_plain : Entry → Bool
is_plain (Hand p place r) = false
is_plain (Entered to) = false
is_plain (Begin n t) = false
is_plain e = true

-- no participant is in this state before its ready handler was called
abbrev pub is_behind_ready : State → Bool
is_behind_ready ReadyToRun = true
is_behind_ready Running = true
is_behind_ready Paused = true
is_behind_ready state = false

-- the state is entered from another one, where the ready handler was called or not
abbrev pub may_enter : State → State → Bool → Bool
may_enter to from called = not (is_behind_ready to) || (is_behind_ready from || called)

-- behind these entries, and the ready handler having been called or not, come these calls, and then all these entries stand there,
-- and the ready handler was called or not
pub data Shows (from : List Entry) (was : Bool) : List Made → Bool → List Entry → Type 0 where
  shows_nothing : Shows from was [] was from
  shows_plain : (made : List Made) (called : Bool) (es : List Entry) (e : Entry) → is_plain e ≡ true →
      Shows from was made called es → Shows from was made called (es ++ e ∷ [])
  shows_state : (made : List Made) (called : Bool) (es : List Entry) (to : State) → may_enter to (state_of es) called ≡ true →
      Shows from was made called es → Shows from was made called (es ++ Entered to ∷ [])
  shows_ready : (made : List Made) (es : List Entry) (one : Made) → one.call ≡ calls.Ready →
      Shows from was made false es → Shows from was (made ++ one ∷ []) true es
  shows_step : (made : List Made) (called : Bool) (es : List Entry) (one : Made) (n t : ℕ) → one.call ≡ calls.Step n t →
      is_behind_ready (state_of es) ≡ true → Shows from was made called es → Shows from was (made ++ one ∷ []) called (es ++ Begin n t ∷ [])
  shows_message : (made : List Made) (called : Bool) (es : List Entry) (one : Made) (p place r : ℕ) (m : Content) →
      one.call ≡ calls.Message p place r m → message_at es p place ≡ Some m →
      Shows from was made called es → Shows from was (made ++ one ∷ []) called (es ++ Hand p place r ∷ [])

-- from where on, and with which calls since
pub record Since : Type 0 where
  pub entries : List Entry
  pub was : Bool
  pub made : List Made

-- what has happened since shows these calls
pub record Shown (since : Since) (past : Past) : Type 0 where
  pub shows : Shows since.entries since.was since.made past.memory.called past.journal

-- with these calls more
abbrev pub with_calls : List Made → Since → Since
with_calls made since = record since { made = since.made ++ made }

-- from here on
abbrev pub from_here : Past → Since
from_here past = record { entries = past.journal; was = past.memory.called; made = [] }

-- since nothing had happened
abbrev pub since_start : List Made → Since
since_start made = record { entries = []; was = false; made = made }

-- ## What is the same

pub same_calls : {s : Since} (made : List Made) (past : Past) → s.made ≡ made → Shown s past → Shown (record s { made = made }) past
same_calls {s} made past e h = record { shows = subst (λ l. Shows s.entries s.was l past.memory.called past.journal) e h.shows }

pub no_more : {s : Since} (made : List Made) (past : Past) → made ≡ [] → Shown s past → Shown (with_calls made s) past
no_more {s} made past e h = same_calls (s.made ++ made) past (sym (append-nil s.made) ∙ ap (λ l. s.made ++ l) (sym e)) h

-- plain entries, one after another
pub plain_entries : {from : List Entry} {was : Bool} (made : List Made) (called : Bool) (es fs : List Entry) → list_all is_plain fs ≡ true
    → Shows from was made called es → Shows from was made called (es ++ fs)
plain_entries {from} {was} made called es [] plain h = subst (λ l. Shows from was made called l) (sym (append-nil es)) h
plain_entries {from} {was} made called es (e ∷ fs) plain h =
    let b = and_parts (is_plain e) (list_all is_plain fs) plain in
    subst (λ l. Shows from was made called l) (append_assoc es (e ∷ []) fs)
    (plain_entries made called (es ++ e ∷ []) fs b.1 (shows_plain made called es e b.0 h))

-- ## By one entry more

pub state_more : (es : List Entry) (e : Entry) → state_of (es ++ e ∷ []) ≡ state_after (state_of es) e
state_more es e = fold-append state_after Invalid es (e ∷ [])

-- a message stays at its place
message_stays : (es : List Entry) (e : Entry) (p place : ℕ) (m : Content) → message_at es p place ≡ Some m
    → message_at (es ++ e ∷ []) p place ≡ Some m
message_stays es e p place m h =
    ap (λ l. slice_get l (place - 1)) (filter_map-append (got_from p) es (e ∷ []))
    ∙ slice_get-front (got es p) (filter_map (got_from p) (e ∷ [])) (place - 1) m h

pub messages_stay : {from : List Entry} {was : Bool} {made : List Made} {called : Bool} {es : List Entry} (p place : ℕ) (m : Content)
    → Shows from was made called es → message_at from p place ≡ Some m → message_at es p place ≡ Some m
messages_stay p place m shows_nothing h = h
messages_stay p place m (shows_plain made called es e plain s) h = message_stays es e p place m (messages_stay p place m s h)
messages_stay p place m (shows_state made called es to may s) h = message_stays es (Entered to) p place m (messages_stay p place m s h)
messages_stay p place m (shows_ready made es one is s) h = messages_stay p place m s h
messages_stay p place m (shows_step made called es one n t is behind s) h = message_stays es (Begin n t) p place m (messages_stay p place m s h)
messages_stay p place m (shows_message made called es one q k r n is at s) h = message_stays es (Hand q k r) p place m (messages_stay p place m s h)

-- what was got last stands at the last place
pub got_last : (es : List Entry) (p : ℕ) (m : Content) → message_at (es ++ Got p m ∷ []) p (length (got es p) + 1) ≡ Some m
got_last es p m =
    let last : slice_get (filter_map (got_from p) (Got p m ∷ [])) 0 ≡ Some m =
    ap (λ b. slice_get (cons_option (if b then Some m else None) []) 0) (eq-eqb p p refl) in
    ap (λ l. slice_get l (length (got es p) + 1 - 1)) (filter_map-append (got_from p) es (Got p m ∷ []))
    ∙ get_back (got es p) (filter_map (got_from p) (Got p m ∷ [])) m (length (got es p) + 1 - 1) (omega arith) last
