-- What calls ask for that have played a script, kind by kind.
use Rattle.std.specs.Prelude.{◌≡◌, refl, Bool, false, cond, List, [], ◌∷◌, ◌++◌, filter, if◌then◌else◌}
use Rattle.std.proofs.Common.{ap, sym, ◌∙◌, subst}
use Rattle.std.proofs.lemmas.List.{append_assoc, append-nil}
use Rattle.std.proofs.lemmas.List.Elements.{filter-append}
use Rattle.sk_msg.specs.declared.action.Action.{Action}
use Rattle.sk_msg.specs.declared.entry.Entry.{Entry}
use Rattle.sk_law.specs.declared.made.Call.{Call}
use Rattle.sk_law.specs.declared.made.Call.TheVariants as calls
use Rattle.sk_law.specs.declared.made.Made.{Made}
use Rattle.sk_law.specs.Script.{Script, is_ready, is_step, is_message, AsksFor, AllAskFor, PlaySteps}
use Rattle.sk_sim.specs.Played.{view_behind, view_called, views_from, views_called, asked_for, PlayedFrom, HasPlayed}
use Rattle.sk_sim.proofs.Showing.{Shows, shows_nothing, shows_plain, shows_state, shows_ready, shows_step, shows_message}
use Rattle.sk_sim.proofs.Agreeing.{views_called_more, unstarted}

-- ## Steps and messages

same_behind : (before : List Made) (one : Made) (call : Call) → one.call ≡ call → view_called before call ≡ []
    → views_called (before ++ one ∷ []) ≡ views_called before
same_behind before one call is none =
    views_called_more before one
    ∙ ap (λ l. views_called before ++ l) (ap (view_called before) is ∙ none)
    ∙ append-nil (views_called before)

-- one step after another asks for what the script says
pub play_steps : (script : Script) (before more : List Made) → PlayedFrom script before more
    → PlaySteps script (views_called before) (views_from before more) (filter (λ (one : Made). is_step one.call) more)
play_steps script before [] h = tt
play_steps script before (one ∷ more) h = by one.call refl h.0 (play_steps script later more h.1)
  where
    later : List Made
    later = before ++ one ∷ []

    steps : List Made
    steps = filter (λ (o : Made). is_step o.call) more

    by : (call : Call) → one.call ≡ call → AsksFor one (asked_for script before call)
        → PlaySteps script (views_called later) (views_from later more) steps
        → PlaySteps script (views_called before) (view_called before call ++ views_from later more) (cond (is_step call) (one ∷ steps) steps)
    by calls.Ready is asks rest =
        subst (λ l. PlaySteps script l (views_from later more) steps) (same_behind before one calls.Ready is refl) rest
    by (calls.Step n t) is asks rest =
        let views_later : views_called later ≡ views_called before ++ view_behind before t ∷ [] =
        views_called_more before one ∙ ap (λ call. views_called before ++ view_called before call) is in
        (asks, subst (λ l. PlaySteps script l (views_from later more) steps) views_later rest)
    by (calls.Message p place r m) is asks rest =
        subst (λ l. PlaySteps script l (views_from later more) steps) (same_behind before one (calls.Message p place r m) is refl) rest

-- a call with a message asks for nothing
pub messages_ask_nothing : (script : Script) (before more : List Made) → PlayedFrom script before more
    → AllAskFor [] (filter (λ (one : Made). is_message one.call) more)
messages_ask_nothing script before [] h = tt
messages_ask_nothing script before (one ∷ more) h = by one.call h.0 (messages_ask_nothing script (before ++ one ∷ []) more h.1)
  where
    messages : List Made
    messages = filter (λ (o : Made). is_message o.call) more

    by : (call : Call) → AsksFor one (asked_for script before call) → AllAskFor [] messages → AllAskFor [] (cond (is_message call) (one ∷ messages) messages)
    by calls.Ready asks rest = rest
    by (calls.Step n t) asks rest = rest
    by (calls.Message p place r m) asks rest = (asks, rest)

-- ## The ready handler

-- what the last call asked for
played_last : (script : Script) (before made : List Made) (one : Made) → PlayedFrom script before (made ++ one ∷ [])
    → PlayedFrom script before made × AsksFor one (asked_for script (before ++ made) one.call)
played_last script before [] one h = (tt, subst (λ l. AsksFor one (asked_for script l one.call)) (sym (append-nil before)) h.0)
played_last script before (x ∷ made) one h =
    let rest = played_last script (before ++ x ∷ []) made one h.1 in
    ((h.0, rest.0), subst (λ l. AsksFor one (asked_for script l one.call)) (append_assoc before (x ∷ []) made) rest.1)

all_more : (all : List Action) (made : List Made) (one : Made) → AllAskFor all made → AsksFor one all → AllAskFor all (made ++ one ∷ [])
all_more all [] one h asks = (asks, tt)
all_more all (x ∷ made) one h asks = (h.0, all_more all made one h.1 asks)

abbrev readies_of : List Made → List Made
readies_of made = filter (λ (one : Made). is_ready one.call) made

readies_more : (made : List Made) (one : Made) (call : Call) → one.call ≡ call
    → readies_of (made ++ one ∷ []) ≡ readies_of made ++ cond (is_ready call) (one ∷ []) []
readies_more made one call is =
    filter-append (λ (o : Made). is_ready o.call) made (one ∷ []) ∙ ap (λ c. readies_of made ++ cond (is_ready c) (one ∷ []) []) is

other_call : (all : List Action) (made : List Made) (one : Made) (call : Call) → one.call ≡ call → is_ready call ≡ false
    → AllAskFor all (readies_of made) → AllAskFor all (readies_of (made ++ one ∷ []))
other_call all made one call is other h =
    let none_more : readies_of (made ++ one ∷ []) ≡ readies_of made =
    readies_more made one call is ∙ ap (λ b. readies_of made ++ cond b (one ∷ []) []) other ∙ append-nil (readies_of made) in
    subst (λ l. AllAskFor all l) (sym none_more) h

-- its call is the first that is not of a message, so it asks for what the script says
pub readies_ask : (script : Script) {made : List Made} {called : Bool} {es : List Entry} → Shows [] false made called es
    → HasPlayed script made → AllAskFor script.ready (readies_of made)
readies_ask script shows_nothing h = tt
readies_ask script (shows_plain made called es e plain s) h = readies_ask script s h
readies_ask script (shows_state made called es to may s) h = readies_ask script s h
readies_ask script (shows_ready made es one is s) h =
    let parts = played_last script [] made one h in
    let asks : AsksFor one script.ready =
    subst (λ l. AsksFor one l) (ap (asked_for script made) is ∙ ap (λ b. if b then script.ready else []) (unstarted s refl)) parts.1 in
    subst (λ l. AllAskFor script.ready l) (sym (readies_more made one calls.Ready is))
    (all_more script.ready (readies_of made) one (readies_ask script s parts.0) asks)
readies_ask script (shows_step made called es one n t is behind s) h =
    other_call script.ready made one (calls.Step n t) is refl (readies_ask script s (played_last script [] made one h).0)
readies_ask script (shows_message made called es one p place r m is at s) h =
    other_call script.ready made one (calls.Message p place r m) is refl (readies_ask script s (played_last script [] made one h).0)
