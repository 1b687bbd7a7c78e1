-- What is kept of a journal, with one entry more.
use Rattle.std.specs.Prelude.{◌≡◌, refl, ℕ, ◌-◌, ◌==◌, Bool, true, false, List, [], ◌∷◌, ◌++◌, Option, Some, None, slice_get, option_map, option_to_list, if◌then◌else◌}
use Rattle.std.specs.List.{filter_map, cons_option, fold, list_any}
use Rattle.std.proofs.Common.{◌∙◌, ap, ap₂, sym, subst, add-zero, append-nil, append_assoc}
use Rattle.std.proofs.lemmas.List.Elements.{filter_map-append}
use Rattle.std.proofs.lemmas.List.Sums.{fold-append}
use Rattle.sk_msg.specs.declared.content.Content.{Content}
use Rattle.sk_msg.specs.declared.entry.Entry.{Entry}
use Rattle.sk_msg.specs.declared.entry.Entry.TheVariants.{Got, Put, Hand, State as Entered, System as Judged, Begin, Done, End, Ask, Gone, Stray, Did, Fault}
use Rattle.sk_law.specs.declared.made.Heard.TheVariants as hearings
use Rattle.sk_law.specs.declared.memory.Begun.{Begun}
use Rattle.sk_law.specs.declared.visible.Visible.{Visible}
use Rattle.sk_law.specs.Readings.{got_from, begun_after, last_begun, time_after}
use Rattle.sk_law.specs.Script.{Step, sent_in, step_in, stop_by, view_at}
use Rattle.sk_law.specs.Told.{gather, heard, heard_by, message_at}
use Rattle.sk_law.specs.Visible.{shown, sort}
use Rattle.sk_report.specs.Got.{got_at}
use Rattle.sk_report.specs.Groups.{with_message}
use Rattle.sk_report.specs.declared.got.GotMessages.{GotMessages}
use Rattle.sk_report.specs.declared.walk.Walk.{Walk}
use Rattle.sk_report.specs.Walks.{IsWalked, steps_among}

gather_more : {X : Type 0} (gives : List Entry → Entry → List X) (before es : List Entry) (e : Entry) →
    gather gives before (es ++ e ∷ []) ≡ gather gives before es ++ gives (before ++ es) e
gather_more gives before [] e = append-nil (gives before e) ∙ ap (λ x. gives x e) (sym (append-nil before))
gather_more gives before (first ∷ es) e =
    ap (λ x. gives before first ++ x) (gather_more gives (before ++ first ∷ []) es e ∙ ap (λ x. gather gives (before ++ first ∷ []) es ++ gives x e) (append_assoc before (first ∷ []) es))
    ∙ sym (append_assoc (gives before first) (gather gives (before ++ first ∷ []) es) (gives (before ++ first ∷ es) e))

-- ## What is kept

-- each part has what the entry adds
pub walked_more : (before : List Entry) (e : Entry) (old new : Walk) → IsWalked before old →
    ((p : ℕ) → got_at new.got p ≡ got_at old.got p ++ filter_map (got_from p) (e ∷ [])) →
    new.visible ≡ sort (filter_map shown (heard before ++ heard_by before e)) →
    new.stamp ≡ time_after 0 (begun_after (last_begun before) e) →
    IsWalked (before ++ e ∷ []) new
walked_more before e old new h got_is list_is time_is = record {
  messages = λ p. got_is p ∙ ap (λ l. l ++ filter_map (got_from p) (e ∷ [])) (h.messages p) ∙ sym (filter_map-append (got_from p) before (e ∷ []));
  list = list_is ∙ ap (λ l. sort (filter_map shown l)) (sym (gather_more heard_by [] before e));
  time = time_is ∙ ap (time_after 0) (sym (fold-append begun_after None before (e ∷ [])));
}

-- what was handed so far, where the entry shows nothing more
pub nothing_shown : (before : List Entry) (e : Entry) (walk : Walk) → IsWalked before walk → filter_map shown (heard_by before e) ≡ [] →
    walk.visible ≡ sort (filter_map shown (heard before ++ heard_by before e))
nothing_shown before e walk h none =
    h.list ∙ ap sort (sym (filter_map-append shown (heard before) (heard_by before e) ∙ ap (λ l. filter_map shown (heard before) ++ l) none ∙ append-nil (filter_map shown (heard before))))

-- an entry that adds nothing
pub walked_quiet : (before : List Entry) (e : Entry) (walk : Walk) → IsWalked before walk → ((p : ℕ) → got_from p e ≡ None) → filter_map shown (heard_by before e) ≡ [] →
    begun_after (last_begun before) e ≡ last_begun before → IsWalked (before ++ e ∷ []) walk
walked_quiet before e walk h none hands begins = walked_more before e walk walk h
    (λ p. sym (ap (λ l. got_at walk.got p ++ l) (ap (λ (o : Option Content). cons_option o []) (none p)) ∙ append-nil (got_at walk.got p)))
    (nothing_shown before e walk h hands)
    (h.time ∙ ap (time_after 0) (sym begins))

-- where it is this one
pub walked_by : (before : List Entry) (e x : Entry) (walk : Walk) → e ≡ x → IsWalked before walk → ((p : ℕ) → got_from p x ≡ None) → filter_map shown (heard_by before x) ≡ [] →
    begun_after (last_begun before) x ≡ last_begun before → IsWalked (before ++ e ∷ []) walk
walked_by before e x walk is h none hands begins = subst (λ y. IsWalked (before ++ y ∷ []) walk) (sym is) (walked_quiet before x walk h none hands begins)

-- a message was got
pub walked_got : (before : List Entry) (e : Entry) (q n : ℕ) (m : Content) (old : Walk) (new : GotMessages) → e ≡ Got q m → n ≡ q → IsWalked before old →
    ((p : ℕ) → got_at new p ≡ with_message n m (got_at old.got) p) → IsWalked (before ++ e ∷ []) (record { got = new; visible = old.visible; stamp = old.stamp })
walked_got before e q n m old new is same h more =
    subst (λ y. IsWalked (before ++ y ∷ []) (record { got = new; visible = old.visible; stamp = old.stamp })) (sym is)
    (walked_more before (Got q m) old (record { got = new; visible = old.visible; stamp = old.stamp }) h
    (λ p. more p ∙ ap (λ k. with_message k m (got_at old.got) p) same ∙ on (q == p) (got_at old.got p))
    (nothing_shown before (Got q m) old h refl) h.time)
  where
    on : (b : Bool) (all : List Content) → (if b then all ++ m ∷ [] else all) ≡ all ++ cons_option (if b then Some m else None) []
    on true all = refl
    on false all = sym (append-nil all)

-- a step begins
pub walked_begin : (before : List Entry) (e : Entry) (k t : ℕ) (old : Walk) → e ≡ Begin k t → IsWalked before old →
    IsWalked (before ++ e ∷ []) (record { got = old.got; visible = old.visible; stamp = t })
walked_begin before e k t old is h =
    subst (λ y. IsWalked (before ++ y ∷ []) (record { got = old.got; visible = old.visible; stamp = t })) (sym is)
    (walked_more before (Begin k t) old (record { got = old.got; visible = old.visible; stamp = t }) h
    (λ p. sym (append-nil (got_at old.got p))) (nothing_shown before (Begin k t) old h refl) (sym (add-zero t)))

-- the message at a place, as it is looked up
pub found_at : (before : List Entry) (p k n i : ℕ) (walk : Walk) (o : Option Content) → IsWalked before walk → n ≡ p → i ≡ k - 1 →
    o ≡ slice_get (got_at walk.got n) i → message_at before p k ≡ o
found_at before p k n i walk o h peer index is =
    sym (is ∙ ap₂ (λ (l : List Content) (j : ℕ). slice_get l j) (ap (got_at walk.got) peer ∙ h.messages p) index)

-- a message was handed
pub walked_hand : (before : List Entry) (p k r : ℕ) (m : Content) (old : Walk) (new : List Visible) → IsWalked before old → message_at before p k ≡ Some m →
    new ≡ sort (filter_map shown (heard before ++ hearings.Message p k r m ∷ [])) →
    IsWalked (before ++ Hand p k r ∷ []) (record { got = old.got; visible = new; stamp = old.stamp })
walked_hand before p k r m old new h at is =
    walked_more before (Hand p k r) old (record { got = old.got; visible = new; stamp = old.stamp }) h
    (λ n. sym (append-nil (got_at old.got n)))
    (is ∙ ap (λ (o : Option Content). sort (filter_map shown (heard before ++ option_to_list (option_map (λ x. hearings.Message p k r x) o)))) (sym at))
    h.time

-- nothing was got at the place
pub walked_nothing : (before : List Entry) (p k r : ℕ) (walk : Walk) → IsWalked before walk → message_at before p k ≡ None → IsWalked (before ++ Hand p k r ∷ []) walk
walked_nothing before p k r walk h at = walked_quiet before (Hand p k r) walk h (λ n. refl)
    (ap (λ (o : Option Content). filter_map shown (option_to_list (option_map (λ x. hearings.Message p k r x) o))) at) refl

-- ## Steps

-- a step that begins behind these entries
abbrev pub step_at : List Entry → List Entry → Begun → Step
step_at es before begun = record {
  view = view_at before begun.time;
  sends = filter_map (sent_in begun.number) es;
  stops = list_any (λ m. m == begun.number) (gather stop_by [] es);
}

-- that one, where a step begins
abbrev pub step_begun : List Entry → List Entry → Option Begun → List Step
step_begun es before None = []
step_begun es before (Some begun) = step_at es before begun ∷ []

step_is : (es before : List Entry) (e : Entry) → step_in es before e ≡ step_begun es before (begun_after None e)
step_is es before (Got q m) = refl
step_is es before (Put q m) = refl
step_is es before (Hand q k r) = refl
step_is es before (Entered state) = refl
step_is es before (Judged state) = refl
step_is es before (Begin k t) = refl
step_is es before (Done k) = refl
step_is es before (End k) = refl
step_is es before (Ask c v) = refl
step_is es before (Gone q r) = refl
step_is es before (Stray k) = refl
step_is es before (Did r c m) = refl
step_is es before (Fault k) = refl

steps_more : (es first : List Entry) (e : Entry) →
    steps_among es (first ++ e ∷ []) ≡ steps_among es first ++ step_begun es first (begun_after None e)
steps_more es first e = gather_more (step_in es) [] first e ∙ ap (λ l. steps_among es first ++ l) (step_is es first e)

-- the step that an entry begins
pub begins : (es before : List Entry) (e : Entry) (begun : Begun) → begun_after None e ≡ Some begun →
    steps_among es (before ++ e ∷ []) ≡ steps_among es before ++ step_at es before begun ∷ []
begins es before e begun is = steps_more es before e ∙ ap (λ o. steps_among es before ++ step_begun es before o) is

-- none
pub begins_none : (es before : List Entry) (e : Entry) → begun_after None e ≡ None → steps_among es (before ++ e ∷ []) ≡ steps_among es before
begins_none es before e is = steps_more es before e ∙ ap (λ o. steps_among es before ++ step_begun es before o) is ∙ append-nil (steps_among es before)
