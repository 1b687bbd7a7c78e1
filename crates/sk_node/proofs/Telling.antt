-- What the app was told of entries that came.
use Rattle.std.specs.Prelude.{◌≡◌, ◌≤◌, refl, ℕ, List, [], ◌∷◌, ◌++◌, map, length, Option, Some, None, option_to_list}
use Rattle.std.specs.Option.{option_map}
use Rattle.std.proofs.Common.{ap, sym, ◌∙◌, subst, append_assoc, append-nil, arith, length-append}
use Rattle.sk_msg.specs.declared.content.Content.{Content}
use Rattle.sk_msg.specs.declared.entry.Entry.{Entry}
use Rattle.sk_msg.specs.declared.entry.Entry.TheVariants.{Got, Put, Hand, State as Entered, System as Judged, Begin, Done, End, Ask, Gone, Stray, Did, Fault}
use Rattle.sk_msg.specs.declared.state.State.{State}
use Rattle.sk_msg.specs.declared.state.State.TheVariants.{Invalid, ServicesCreated, CommunicationInitializing, CommunicationInitialized, ReadyToRun, Running, Paused, Stopping, Stopped, Error, ShuttingDown, Shutdown, Aborting}
use Rattle.sk_law.specs.declared.made.Heard.{Heard}
use Rattle.sk_law.specs.declared.made.Heard.TheVariants as hearings
use Rattle.sk_law.specs.declared.made.Notice.{Notice}
use Rattle.sk_law.specs.declared.made.Notice.TheVariants as told
use Rattle.sk_law.specs.Readings.{state_of}
use Rattle.sk_law.specs.Told.{heard, heard_by, notices, notices_by, notice_before, message_at}
use Rattle.sk_law.specs.Growing.{GoesByEntries}
use Rattle.sk_node.specs.Lists.{Lists, IsQuiet, Tells, TellsCut}

-- ## Quiet entries

pub quiet_none : (es : List Entry) → IsQuiet es es
quiet_none es = record { heard_is = refl; notices_is = refl }

pub quiet_same : {a b : List Entry} → b ≡ a → IsQuiet a b
quiet_same e = record { heard_is = ap heard e; notices_is = ap notices e }

pub quiet_both : {a b c : List Entry} → IsQuiet a b → IsQuiet b c → IsQuiet a c
quiet_both h i = record { heard_is = i.heard_is ∙ h.heard_is; notices_is = i.notices_is ∙ h.notices_is }

-- an entry of which the app is told nothing
pub quiet_one : GoesByEntries → (es : List Entry) (e : Entry) → heard_by es e ≡ [] → notices_by (state_of es) e ≡ [] → IsQuiet es (es ++ e ∷ [])
quiet_one law es e h n = record {
  heard_is = law.heard_is es e ∙ ap (λ x. heard es ++ x) h ∙ append-nil (heard es);
  notices_is = law.notices_is es e ∙ ap (λ x. notices es ++ x) n ∙ append-nil (notices es);
}

pub quiet_puts : GoesByEntries → (es : List Entry) (numbers : List ℕ) (m : Content) → IsQuiet es (es ++ map (λ q. Put q m) numbers)
quiet_puts law es [] m = quiet_same (append-nil es)
quiet_puts law es (n ∷ numbers) m =
    subst (λ x. IsQuiet es x) (append_assoc es (Put n m ∷ []) (map (λ q. Put q m) numbers))
    (quiet_both (quiet_one law es (Put n m) refl refl) (quiet_puts law (es ++ Put n m ∷ []) numbers m))

-- ## All of it

pub tells_quiet : {a b : List Entry} (was : Lists) → IsQuiet a b → Tells a b was was
tells_quiet {a} {b} was h = record {
  more = [];
  heard_in = h.heard_is ∙ sym (append-nil (heard a));
  heard_is = sym (append-nil was.heard);
  notes = [];
  notices_in = h.notices_is ∙ sym (append-nil (notices a));
  notified_is = sym (append-nil was.notified);
}

glued : {X : Type 0} (a x y : List X) {b c : List X} → b ≡ a ++ x → c ≡ b ++ y → c ≡ a ++ (x ++ y)
glued a x y e f = f ∙ ap (λ z. z ++ y) e ∙ append_assoc a x y

pub tells_both : {a b c : List Entry} {was middle now : Lists} → Tells a b was middle → Tells b c middle now → Tells a c was now
tells_both {a} {b} {c} {was} h i = record {
  more = h.more ++ i.more;
  heard_in = glued (heard a) h.more i.more h.heard_in i.heard_in;
  heard_is = glued was.heard h.more i.more h.heard_is i.heard_is;
  notes = h.notes ++ i.notes;
  notices_in = glued (notices a) h.notes i.notes h.notices_in i.notices_in;
  notified_is = glued was.notified h.notes i.notes h.notified_is i.notified_is;
}

-- an entry, and the app was told of it
pub tells_one : GoesByEntries → (es : List Entry) (e : Entry) (was now : Lists) → now.heard ≡ was.heard ++ heard_by es e → now.notified ≡ was.notified ++ notices_by (state_of es) e →
    Tells es (es ++ e ∷ []) was now
tells_one law es e was now h n = record {
  more = heard_by es e;
  heard_in = law.heard_is es e;
  heard_is = h;
  notes = notices_by (state_of es) e;
  notices_in = law.notices_is es e;
  notified_is = n;
}

-- ## Cut

pub cut_of_tells : {a b : List Entry} {was now : Lists} → Tells a b was now → TellsCut a b was now
cut_of_tells {a} {b} {was} {now} h = record {
  more = h.more;
  last = [];
  heard_in = h.heard_in ∙ ap (λ x. heard a ++ x) (sym (append-nil h.more));
  heard_is = h.heard_is;
  one = omega arith;
  notes = h.notes;
  rest = [];
  notices_in = h.notices_in ∙ ap (λ x. notices a ++ x) (sym (append-nil h.notes));
  notified_is = h.notified_is;
  two = omega arith;
}

pub tells_then : {a b c : List Entry} {was middle now : Lists} → Tells a b was middle → TellsCut b c middle now → TellsCut a c was now
tells_then {a} {b} {c} {was} h i = record {
  more = h.more ++ i.more;
  last = i.last;
  heard_in = glued (heard a) h.more (i.more ++ i.last) h.heard_in i.heard_in ∙ ap (λ x. heard a ++ x) (sym (append_assoc h.more i.more i.last));
  heard_is = glued was.heard h.more i.more h.heard_is i.heard_is;
  one = i.one;
  notes = h.notes ++ i.notes;
  rest = i.rest;
  notices_in = glued (notices a) h.notes (i.notes ++ i.rest) h.notices_in i.notices_in ∙ ap (λ x. notices a ++ x) (sym (append_assoc h.notes i.notes i.rest));
  notified_is = glued was.notified h.notes i.notes h.notified_is i.notified_is;
  two = i.two;
}

-- of an entry the app hears at most one thing, and is notified of at most two
heard_one : (es : List Entry) (e : Entry) → length (heard_by es e) ≤ 1
heard_one es (Hand p k r) = on (message_at es p k)
  where
    on : (m : Option Content) → length (option_to_list (option_map (λ x. hearings.Message p k r x) m)) ≤ 1
    on None = omega arith
    on (Some x) = omega arith
heard_one es (Did s c m) = omega arith
heard_one es (Got p m) = omega arith
heard_one es (Put q m) = omega arith
heard_one es (Entered to) = omega arith
heard_one es (Judged x) = omega arith
heard_one es (Begin n t) = omega arith
heard_one es (Done n) = omega arith
heard_one es (End n) = omega arith
heard_one es (Ask c v) = omega arith
heard_one es (Gone q r) = omega arith
heard_one es (Stray n) = omega arith
heard_one es (Fault n) = omega arith

before_one : (s t : State) → length (notice_before s t) ≤ 1
before_one s Stopped = omega arith
before_one ShuttingDown Shutdown = omega arith
before_one Aborting Shutdown = omega arith
before_one Invalid Shutdown = omega arith
before_one ServicesCreated Shutdown = omega arith
before_one CommunicationInitializing Shutdown = omega arith
before_one CommunicationInitialized Shutdown = omega arith
before_one ReadyToRun Shutdown = omega arith
before_one Running Shutdown = omega arith
before_one Paused Shutdown = omega arith
before_one Stopping Shutdown = omega arith
before_one Stopped Shutdown = omega arith
before_one Error Shutdown = omega arith
before_one Shutdown Shutdown = omega arith
before_one s Invalid = omega arith
before_one s ServicesCreated = omega arith
before_one s CommunicationInitializing = omega arith
before_one s CommunicationInitialized = omega arith
before_one s ReadyToRun = omega arith
before_one s Running = omega arith
before_one s Paused = omega arith
before_one s Stopping = omega arith
before_one s Error = omega arith
before_one s ShuttingDown = omega arith
before_one s Aborting = omega arith

notices_two : (s : State) (e : Entry) → length (notices_by s e) ≤ 2
notices_two s (Entered to) = let h = before_one s to in omega (arith, length-append (notice_before s to) (told.State to ∷ []))
notices_two s (Hand p k r) = omega arith
notices_two s (Did i c m) = omega arith
notices_two s (Got p m) = omega arith
notices_two s (Put q m) = omega arith
notices_two s (Judged x) = omega arith
notices_two s (Begin n t) = omega arith
notices_two s (Done n) = omega arith
notices_two s (End n) = omega arith
notices_two s (Ask c v) = omega arith
notices_two s (Gone q r) = omega arith
notices_two s (Stray n) = omega arith
notices_two s (Fault n) = omega arith

shorter : {X : Type 0} (n : ℕ) (a b c : List X) → a ++ b ≡ c → length c ≤ n → length b ≤ n
shorter n a b c e h = let f = ap length e in omega (arith, length-append a b)

-- an entry, and the app was told of a part of it
pub tells_part : GoesByEntries → (es : List Entry) (e : Entry) (was now : Lists) (more last : List Heard) (notes rest : List Notice) →
    more ++ last ≡ heard_by es e → now.heard ≡ was.heard ++ more → notes ++ rest ≡ notices_by (state_of es) e → now.notified ≡ was.notified ++ notes →
    TellsCut es (es ++ e ∷ []) was now
tells_part law es e was now more last notes rest h hs n ns = record {
  more = more;
  last = last;
  heard_in = law.heard_is es e ∙ ap (λ x. heard es ++ x) (sym h);
  heard_is = hs;
  one = shorter 1 more last (heard_by es e) h (heard_one es e);
  notes = notes;
  rest = rest;
  notices_in = law.notices_is es e ∙ ap (λ x. notices es ++ x) (sym n);
  notified_is = ns;
  two = shorter 2 notes rest (notices_by (state_of es) e) n (notices_two (state_of es) e);
}
