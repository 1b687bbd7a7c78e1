-- Where a journal shows the calls of the app, the views of its steps are those of the calls, and the ready handler comes first.
use Rattle.std.specs.Prelude.{◌≡◌, refl, ℕ, ◌+◌, Bool, true, false, not, ◌&&◌, ◌||◌, List, [], ◌∷◌, ◌++◌, map, filter, Option, None, option_map, option_to_list}
use Rattle.std.specs.List.{filter_map, list_all, cons_option}
use Rattle.std.proofs.Common.{ap, ap₂, sym, ◌∙◌, arith}
use Rattle.std.proofs.lemmas.Bool.{and_from}
use Rattle.std.proofs.lemmas.List.{append_assoc, append-nil}
use Rattle.std.proofs.lemmas.List.Elements.{filter_map-append}
use Rattle.std.proofs.lemmas.List.Folds.{list_all-append}
use Rattle.std.proofs.lemmas.List.Sums.{fold-append}
use Rattle.sk_msg.specs.declared.entry.Entry.{Entry}
use Rattle.sk_msg.specs.declared.entry.Entry.TheVariants.{Hand, State as Entered, Begin}
use Rattle.sk_msg.specs.declared.state.State.{State}
use Rattle.sk_law.specs.declared.made.Call.{Call}
use Rattle.sk_law.specs.declared.made.Call.TheVariants as calls
use Rattle.sk_law.specs.declared.made.Heard.{Heard}
use Rattle.sk_law.specs.declared.made.Heard.TheVariants as hearings
use Rattle.sk_law.specs.declared.made.Made.{Made}
use Rattle.sk_law.specs.declared.memory.Begun.{Begun}
use Rattle.sk_law.specs.declared.visible.Visible.{Visible}
use Rattle.sk_law.specs.Readings.{state_of, state_after, stamp, time_after, begun_after}
use Rattle.sk_law.specs.Readings.{last_begun as last_step}
use Rattle.sk_law.specs.Script.{View, delivered, view_at, view_by, views, is_message}
use Rattle.sk_law.specs.Told.{gather, heard, heard_by}
use Rattle.sk_law.specs.Visible.{shown, sort, is_between}
use Rattle.sk_sim.specs.Played.{handed_in, handed, begun_at, last_begun, view_behind, view_called, views_from, views_called, is_unstarted}
use Rattle.sk_sim.proofs.Showing.{is_plain, is_behind_ready, Shows, shows_nothing, shows_plain, shows_state, shows_ready, shows_step, shows_message, state_more}

-- ## By one entry more

gather_more : {X : Type 0} (gives : List Entry → Entry → List X) (before es : List Entry) (e : Entry)
    → gather gives before (es ++ e ∷ []) ≡ gather gives before es ++ gives (before ++ es) e
gather_more gives before [] e = append-nil (gives before e) ∙ ap (λ l. gives l e) (sym (append-nil before))
gather_more gives before (x ∷ es) e =
    let later : List Entry = before ++ x ∷ [] in
    ap (λ l. gives before x ++ l) (gather_more gives later es e)
    ∙ sym (append_assoc (gives before x) (gather gives later es) (gives (later ++ es) e))
    ∙ ap (λ l. gives before x ++ gather gives later es ++ gives l e) (append_assoc before (x ∷ []) es)

-- the marked messages that were handed
abbrev marked : List Entry → List Visible
marked es = filter_map shown (heard es)

marked_more : (es : List Entry) (e : Entry) → marked (es ++ e ∷ []) ≡ marked es ++ filter_map shown (heard_by es e)
marked_more es e = ap (λ l. filter_map shown l) (gather_more heard_by [] es e) ∙ filter_map-append shown (heard es) (heard_by es e)

views_more : (es : List Entry) (e : Entry) → views (es ++ e ∷ []) ≡ views es ++ view_by es e
views_more es e = gather_more view_by [] es e

step_more : (es : List Entry) (e : Entry) → last_step (es ++ e ∷ []) ≡ begun_after (last_step es) e
step_more es e = fold-append begun_after None es (e ∷ [])

-- ## By one call more

-- of the calls
abbrev marked_calls : List Made → List Visible
marked_calls made = filter_map shown (handed made)

marked_calls_more : (made : List Made) (one : Made)
    → marked_calls (made ++ one ∷ []) ≡ marked_calls made ++ filter_map shown (cons_option (handed_in one.call) [])
marked_calls_more made one =
    ap (λ l. filter_map shown l) (filter_map-append (λ (o : Made). handed_in o.call) made (one ∷ []))
    ∙ filter_map-append shown (handed made) (cons_option (handed_in one.call) [])

views_from_more : (before made : List Made) (one : Made)
    → views_from before (made ++ one ∷ []) ≡ views_from before made ++ view_called (before ++ made) one.call
views_from_more before [] one = append-nil (view_called before one.call) ∙ ap (λ l. view_called l one.call) (sym (append-nil before))
views_from_more before (x ∷ made) one =
    let later : List Made = before ++ x ∷ [] in
    ap (λ l. view_called before x.call ++ l) (views_from_more later made one)
    ∙ sym (append_assoc (view_called before x.call) (views_from later made) (view_called (later ++ made) one.call))
    ∙ ap (λ l. view_called before x.call ++ views_from later made ++ view_called l one.call) (append_assoc before (x ∷ []) made)

pub views_called_more : (made : List Made) (one : Made) → views_called (made ++ one ∷ []) ≡ views_called made ++ view_called made one.call
views_called_more made one = views_from_more [] made one

begun_more : (made : List Made) (one : Made) → last_begun (made ++ one ∷ []) ≡ begun_at (last_begun made) one.call
begun_more made one = fold-append (λ last (o : Made). begun_at last o.call) 0 made (one ∷ [])

-- ## A plain entry shows nothing

plain_state : (state : State) (e : Entry) → is_plain e ≡ true → state_after state e ≡ state
plain_state state (Entered to) plain = absurd (cc)
plain_state state e plain = refl

plain_step : (last : Option Begun) (e : Entry) → is_plain e ≡ true → begun_after last e ≡ last
plain_step last (Begin n t) plain = absurd (cc)
plain_step last e plain = refl

plain_heard : (es : List Entry) (e : Entry) → is_plain e ≡ true → filter_map shown (heard_by es e) ≡ []
plain_heard es (Hand p place r) plain = absurd (cc)
plain_heard es e plain = refl

plain_view : (es : List Entry) (e : Entry) → is_plain e ≡ true → view_by es e ≡ []
plain_view es (Begin n t) plain = absurd (cc)
plain_view es e plain = refl

-- nothing more on either side
none_more : {X : Type 0} (xs ys more : List X) → more ≡ [] → xs ≡ ys → xs ++ more ≡ ys
none_more xs ys more none same = ap (λ l. xs ++ l) none ∙ append-nil xs ∙ same

-- ## The messages that were handed, and the time of the last step

unmarked_call : (made : List Made) (one : Made) (call : Call) → one.call ≡ call → handed_in call ≡ None
    → marked_calls (made ++ one ∷ []) ≡ marked_calls made
unmarked_call made one call is none =
    marked_calls_more made one
    ∙ none_more (marked_calls made) (marked_calls made) (filter_map shown (cons_option (handed_in one.call) []))
    (ap (λ (o : Option Heard). filter_map shown (cons_option o [])) (ap handed_in is ∙ none)) refl

same_marked : {made : List Made} {called : Bool} {es : List Entry} → Shows [] false made called es → marked es ≡ marked_calls made
same_marked shows_nothing = refl
same_marked (shows_plain made called es e plain h) =
    marked_more es e
    ∙ none_more (marked es) (marked_calls made) (filter_map shown (heard_by es e)) (plain_heard es e plain) (same_marked h)
same_marked (shows_state made called es to may h) =
    marked_more es (Entered to) ∙ none_more (marked es) (marked_calls made) [] refl (same_marked h)
same_marked (shows_ready made es one is h) = same_marked h ∙ sym (unmarked_call made one calls.Ready is refl)
same_marked (shows_step made called es one n t is behind h) =
    marked_more es (Begin n t)
    ∙ none_more (marked es) (marked_calls made) [] refl (same_marked h)
    ∙ sym (unmarked_call made one (calls.Step n t) is refl)
same_marked (shows_message made called es one p place r m is at h) =
    let one_heard : List Visible = filter_map shown (hearings.Message p place r m ∷ []) in
    marked_more es (Hand p place r)
    ∙ ap (λ o. marked es ++ filter_map shown (option_to_list (option_map (λ c. hearings.Message p place r c) o))) at
    ∙ ap (λ l. l ++ one_heard) (same_marked h)
    ∙ sym (marked_calls_more made one ∙ ap (λ call. marked_calls made ++ filter_map shown (cons_option (handed_in call) [])) is)

zero_more : (t : ℕ) → t + 0 ≡ t
zero_more t = omega arith

same_stamp : {made : List Made} {called : Bool} {es : List Entry} → Shows [] false made called es → stamp es ≡ last_begun made
same_stamp shows_nothing = refl
same_stamp (shows_plain made called es e plain h) =
    ap (time_after 0) (step_more es e ∙ plain_step (last_step es) e plain) ∙ same_stamp h
same_stamp (shows_state made called es to may h) = ap (time_after 0) (step_more es (Entered to)) ∙ same_stamp h
same_stamp (shows_ready made es one is h) = same_stamp h ∙ sym (begun_more made one ∙ ap (begun_at (last_begun made)) is)
same_stamp (shows_step made called es one n t is behind h) =
    ap (time_after 0) (step_more es (Begin n t))
    ∙ zero_more t ∙ sym (begun_more made one ∙ ap (begun_at (last_begun made)) is)
same_stamp (shows_message made called es one p place r m is at h) =
    ap (time_after 0) (step_more es (Hand p place r))
    ∙ same_stamp h
    ∙ sym (begun_more made one ∙ ap (begun_at (last_begun made)) is)

-- ## The views of the steps

-- by the marked messages and the time of the step before
abbrev view_of : ℕ → List Visible → ℕ → View
view_of t items last = record { at = t; seen = map delivered (filter (is_between last t) (sort items)) }

same_view : {made : List Made} {called : Bool} {es : List Entry} (t : ℕ) → Shows [] false made called es → view_at es t ≡ view_behind made t
same_view t h = ap₂ (view_of t) (same_marked h) (same_stamp h)

unviewed_call : (made : List Made) (one : Made) (call : Call) → one.call ≡ call → view_called made call ≡ []
    → views_called (made ++ one ∷ []) ≡ views_called made
unviewed_call made one call is none =
    views_called_more made one
    ∙ none_more (views_called made) (views_called made) (view_called made one.call) (ap (view_called made) is ∙ none) refl

-- the journal tells what the steps began with
pub same_views : {made : List Made} {called : Bool} {es : List Entry} → Shows [] false made called es → views es ≡ views_called made
same_views shows_nothing = refl
same_views (shows_plain made called es e plain h) =
    views_more es e
    ∙ none_more (views es) (views_called made) (view_by es e) (plain_view es e plain) (same_views h)
same_views (shows_state made called es to may h) =
    views_more es (Entered to) ∙ none_more (views es) (views_called made) [] refl (same_views h)
same_views (shows_ready made es one is h) = same_views h ∙ sym (unviewed_call made one calls.Ready is refl)
same_views (shows_step made called es one n t is behind h) =
    views_more es (Begin n t)
    ∙ ap₂ (λ l v. l ++ v ∷ []) (same_views h) (same_view t h)
    ∙ sym (views_called_more made one ∙ ap (λ call. views_called made ++ view_called made call) is)
same_views (shows_message made called es one p place r m is at h) =
    views_more es (Hand p place r)
    ∙ none_more (views es) (views_called made) [] refl (same_views h)
    ∙ sym (unviewed_call made one (calls.Message p place r m) is refl)

-- ## The ready handler comes first

entered_behind : (to from : Bool) (called : Bool) → (not to || (from || called)) ≡ true → to ≡ true → (from ≡ true → called ≡ true) → called ≡ true
entered_behind true true called may e behind = behind refl
entered_behind true false called may e behind = may
entered_behind false from called may e behind = absurd (cc)

-- whoever is behind it has called it
behind_ready : {made : List Made} {called : Bool} {es : List Entry} → Shows [] false made called es → is_behind_ready (state_of es) ≡ true → called ≡ true
behind_ready shows_nothing e = absurd (cc)
behind_ready (shows_plain made called es e plain h) late =
    behind_ready h (sym (ap is_behind_ready (state_more es e ∙ plain_state (state_of es) e plain)) ∙ late)
behind_ready (shows_state made called es to may h) late =
    entered_behind (is_behind_ready to) (is_behind_ready (state_of es)) called may
    (sym (ap is_behind_ready (state_more es (Entered to))) ∙ late) (behind_ready h)
behind_ready (shows_ready made es one is h) late = refl
behind_ready (shows_step made called es one n t is behind h) late = behind_ready h behind
behind_ready (shows_message made called es one p place r m is at h) late =
    behind_ready h (sym (ap is_behind_ready (state_more es (Hand p place r))) ∙ late)

-- before it was called nothing but messages came
pub unstarted : {made : List Made} {called : Bool} {es : List Entry} → Shows [] false made called es → called ≡ false → is_unstarted made ≡ true
unstarted shows_nothing e = refl
unstarted (shows_plain made called es e plain h) never = unstarted h never
unstarted (shows_state made called es to may h) never = unstarted h never
unstarted (shows_ready made es one is h) never = absurd (cc)
unstarted (shows_step made called es one n t is behind h) never =
    let so : called ≡ true = behind_ready h behind in absurd (let b = sym so ∙ never in cc)
unstarted (shows_message made called es one p place r m is at h) never =
    list_all-append (λ (o : Made). is_message o.call) made (one ∷ [])
    ∙ and_from (is_unstarted made) (list_all (λ (o : Made). is_message o.call) (one ∷ []))
    (unstarted h never) (ap (λ call. is_message call && true) is)
