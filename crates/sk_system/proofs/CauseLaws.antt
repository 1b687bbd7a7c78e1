-- Why the controller aborts, in terms of what it was told up to its end.
use Rattle.std.proofs.Common.{◌≡◌, ℕ, Bool, true, false, cond, ◌&&◌, ◌||◌, List, [], ◌∷◌, ◌++◌, Option, Some, None, inl, inr, refl, sym, ap, ◌∙◌, append_assoc}
use Rattle.std.specs.Prelude.{is_some, map, unwrap_or}
use Rattle.std.specs.List.{list_any, list_all}
use Rattle.std.specs.Option.{option_or}
use Rattle.std.specs.Str.{bytes_eq}
use Rattle.std.proofs.lemmas.Bool.{or_left, or_right}
use Rattle.std.proofs.lemmas.List.{append-nil}
use Rattle.sk_msg.specs.States.{is_state}
use Rattle.sk_msg.specs.declared.state.State.{State}
use Rattle.sk_msg.specs.declared.state.State.TheVariants.{Error, Invalid, Aborting}
use Rattle.sk_system.specs.declared.table.Ending.{Ending}
use Rattle.sk_system.specs.declared.table.Ending.TheVariants.{Left, Lost}
use Rattle.sk_system.specs.declared.table.Seen.{Seen}
use Rattle.sk_system.specs.Notice.{Notice, Tells, Leaves, LosesLink, Requires, Nothing}
use Rattle.sk_system.specs.Table.{seen_of, with_state, with_ending, is_gone, state_or_error}
use Rattle.sk_system.specs.Controller.{Controller, new_controller, controller_state, has_error, has_ended, noting, controller_after}
use Rattle.sk_system.specs.History.{NamedNotice, state_in, ending_in, last_told, first_ending, controller_after_all, until_end, tells, tells_aborting, tells_error, is_lost, fails}
use Rattle.sk_system.specs.System.{some_is}
use Rattle.sk_system.proofs.HistoryLaws.{option_or-none, option_or-option_or, seen_of-change, gone-seen, either, seen_after, seen-state, seen-ending, step, step-names, step-error, no_error-start, end_stays}

-- ## Of a history with one more notice

or-false : (b : Bool) → (b || false) ≡ b
or-false true = refl
or-false false = refl

any-snoc : {A : Type 0} (test : A → Bool) (xs : List A) (x : A) → list_any test (xs ++ x ∷ []) ≡ (list_any test xs || test x)
any-snoc test [] x = or-false (test x)
any-snoc test (y ∷ ys) x = ap (λ rest. test y || rest) (any-snoc test ys x) ∙ or-or (test y) (list_any test ys) (test x)
  where
    or-or : (a b c : Bool) → (a || (b || c)) ≡ ((a || b) || c)
    or-or true b c = refl
    or-or false b c = refl

last_told-snoc : (name : List ℕ) (notices : List NamedNotice) (named : NamedNotice)
    → last_told name (notices ++ named ∷ []) ≡ option_or (cond (bytes_eq named.name name) (state_in named.notice) None) (last_told name notices)
last_told-snoc name [] named = sym (option_or-none (cond (bytes_eq named.name name) (state_in named.notice) None))
last_told-snoc name (first ∷ notices) named =
    ap (λ state. option_or state (cond (bytes_eq first.name name) (state_in first.notice) None)) (last_told-snoc name notices named)
    ∙ option_or-option_or (cond (bytes_eq named.name name) (state_in named.notice) None) (last_told name notices) _

first_ending-snoc : (name : List ℕ) (notices : List NamedNotice) (named : NamedNotice)
    → first_ending name (notices ++ named ∷ []) ≡ option_or (first_ending name notices) (cond (bytes_eq named.name name) (ending_in named.notice) None)
first_ending-snoc name [] named = option_or-none (cond (bytes_eq named.name name) (ending_in named.notice) None)
first_ending-snoc name (first ∷ notices) named =
    ap (λ ending. option_or (cond (bytes_eq first.name name) (ending_in first.notice) None) ending) (first_ending-snoc name notices named)
    ∙ sym (option_or-option_or (cond (bytes_eq first.name name) (ending_in first.notice) None) (first_ending name notices) _)

-- ## Of one name

abbrev is_error : Option State → Bool
is_error state = is_state Error (unwrap_or state Invalid)

-- whoever's last state is Error has told it
error_was_told : (name : List ℕ) (notices : List NamedNotice) → is_error (last_told name notices) ≡ true → tells_error name notices ≡ true
unfolding is_state
error_was_told name [] is = absurd cc
error_was_told name (named ∷ notices) is =
    split (last_told name notices) (bytes_eq named.name name) named.notice (error_was_told name notices) is
  where
    split : (later : Option State) (same : Bool) (notice : Notice) → (is_error later ≡ true → tells_error name notices ≡ true)
        → is_error (option_or later (cond same (state_in notice) None)) ≡ true → ((same && tells Error notice) || tells_error name notices) ≡ true
    split (Some state) same notice told is = or_right (same && tells Error notice) (tells_error name notices) (told is)
    split None false notice told is = absurd cc
    split None true (Tells state) told is = or_left (is_state Error state) (tells_error name notices) is
    split None true Leaves told is = absurd cc
    split None true LosesLink told is = absurd cc
    split None true (Requires names) told is = absurd cc
    split None true Nothing told is = absurd cc

-- after a notice it fails where it had failed, or is in Error now
abbrev after_one : Option State → Option Ending → Bool → Notice → Seen
after_one state ending same notice =
    record { state = option_or (cond same (state_in notice) None) state; ending = option_or ending (cond same (ending_in notice) None) }

abbrev IsFailing : Option State → Option Ending → Bool → Bool → Notice → Type 0
IsFailing state ending told same notice =
    ((told || (same && tells Error notice)) || is_lost (option_or ending (cond same (ending_in notice) None)))
    ≡ ((told || is_lost ending) || is_error (state_or_error (after_one state ending same notice)))

stays : (told error : Bool) → (error ≡ true → told ≡ true) → ((told || false) || false) ≡ ((told || false) || error)
stays true error was = refl
stays false true was = let no = was refl in absurd cc
stays false false was = refl

lost : (told error : Bool) → ((told || false) || true) ≡ ((told || true) || error)
lost true error = refl
lost false error = refl

told_now : (told error : Bool) → ((told || error) || false) ≡ ((told || false) || error)
told_now true error = refl
told_now false true = refl
told_now false false = refl

lost_before : (told error now : Bool) → ((told || error) || true) ≡ ((told || true) || now)
lost_before true error now = refl
lost_before false true now = refl
lost_before false false now = refl

lost_now : (told : Bool) → ((told || false) || true) ≡ ((told || false) || true)
lost_now told = refl

failing : (state : Option State) (ending : Option Ending) (told same : Bool) (notice : Notice) → (is_error state ≡ true → told ≡ true) → IsFailing state ending told same notice
unfolding is_state
failing state None told false notice was = stays told (is_error state) was
failing state (Some Left) told false notice was = stays told (is_error state) was
failing state (Some Lost) told false notice was = lost told true
failing state None told true (Tells now) was = told_now told (is_state Error now)
failing state (Some Left) told true (Tells now) was = told_now told (is_state Error now)
failing state (Some Lost) told true (Tells now) was = lost_before told (is_state Error now) true
failing state None told true Leaves was = stays told (is_error state) was
failing state (Some Left) told true Leaves was = stays told (is_error state) was
failing state (Some Lost) told true Leaves was = lost told true
failing state None told true LosesLink was = lost_now told
failing state (Some Left) told true LosesLink was = stays told (is_error state) was
failing state (Some Lost) told true LosesLink was = lost told true
failing state None told true (Requires names) was = stays told (is_error state) was
failing state (Some Left) told true (Requires names) was = stays told (is_error state) was
failing state (Some Lost) told true (Requires names) was = lost told true
failing state None told true Nothing was = stays told (is_error state) was
failing state (Some Left) told true Nothing was = stays told (is_error state) was
failing state (Some Lost) told true Nothing was = lost told true

fails-snoc : (notices : List NamedNotice) (named : NamedNotice) (name : List ℕ)
    → fails (notices ++ named ∷ []) name
    ≡ (fails notices name || is_error (state_or_error (record { state = last_told name (notices ++ named ∷ []); ending = first_ending name (notices ++ named ∷ []) })))
fails-snoc notices named name =
    rw (any-snoc (λ (e : NamedNotice). bytes_eq e.name name && tells Error e.notice) notices named, first_ending-snoc name notices named, last_told-snoc name notices named)
    (failing (last_told name notices) (first_ending name notices) (tells_error name notices) (bytes_eq named.name name) named.notice (error_was_told name notices))

-- ## Of all names

any-or : {A : Type 0} (f g h : A → Bool) (xs : List A) → ((x : A) → h x ≡ (f x || g x)) → list_any h xs ≡ (list_any f xs || list_any g xs)
any-or f g h [] each = refl
any-or f g h (x ∷ xs) each = rw (each x, any-or f g h xs each) (regroup (f x) (g x) (list_any f xs) (list_any g xs))
  where
    regroup : (a b c d : Bool) → ((a || b) || (c || d)) ≡ ((a || c) || (b || d))
    regroup true b c d = refl
    regroup false true true d = refl
    regroup false true false d = refl
    regroup false false c d = refl

any-map : {A B : Type 0} (test : B → Bool) (f : A → B) (xs : List A) → list_any test (map f xs) ≡ list_any (λ x. test (f x)) xs
any-map test f [] = refl
any-map test f (x ∷ xs) = ap (λ rest. test (f x) || rest) (any-map test f xs)

any-same : {A : Type 0} (f g : A → Bool) (xs : List A) → ((x : A) → f x ≡ g x) → list_any f xs ≡ list_any g xs
any-same f g [] each = refl
any-same f g (x ∷ xs) each = rw (each x, any-same f g xs each) refl

all-same : {A : Type 0} (f g : A → Bool) (xs : List A) → ((x : A) → f x ≡ g x) → list_all f xs ≡ list_all g xs
all-same f g [] each = refl
all-same f g (x ∷ xs) each = rw (each x, all-same f g xs each) refl

none_fail : (names : List (List ℕ)) → false ≡ list_any (fails []) names
none_fail [] = refl
none_fail (name ∷ names) = none_fail names

-- ## The controller

-- what it keeps is what it was told
record IsTold (required : List (List ℕ)) (controller : Controller) (past : List NamedNotice) : Type 0 where
  required_is : controller.required ≡ required
  state : (name : List ℕ) → (seen_of controller.table name).state ≡ last_told name past
  ending : (name : List ℕ) → (seen_of controller.table name).ending ≡ first_ending name past
  aborting : controller.aborting ≡ tells_aborting past
  aborted : controller.aborted ≡ list_any (fails past) required
  error : has_error controller ≡ true → controller.aborted ≡ true

losing-table : (controller : Controller) (name other : List ℕ) (gone : Bool) → has_ended controller ≡ false → is_gone (seen_of controller.table name) ≡ gone
    → seen_of (cond gone controller (noting controller name (with_ending Lost) false)).table other
    ≡ cond (bytes_eq name other) (with_ending Lost (seen_of controller.table other)) (seen_of controller.table other)
losing-table controller name other true over is = gone-seen controller.table name other is
losing-table controller name other false over is = rw over (seen_of-change name (with_ending Lost) controller.table other)

controller-seen : (controller : Controller) (name : List ℕ) (notice : Notice) (other : List ℕ) → has_ended controller ≡ false
    → seen_of (controller_after controller name notice).table other ≡ cond (bytes_eq name other) (seen_after notice (seen_of controller.table other)) (seen_of controller.table other)
unfolding controller_after
controller-seen controller name (Tells state) other over = rw over (seen_of-change name (with_state state) controller.table other)
controller-seen controller name Leaves other over = rw over (seen_of-change name (with_ending Left) controller.table other)
controller-seen controller name LosesLink other over = losing-table controller name other (is_gone (seen_of controller.table name)) over refl
controller-seen controller name (Requires names) other over = either (bytes_eq name other) (seen_of controller.table other)
controller-seen controller name Nothing other over = either (bytes_eq name other) (seen_of controller.table other)

losing-aborting : (controller : Controller) (name : List ℕ) (gone : Bool) → has_ended controller ≡ false → (cond gone controller (noting controller name (with_ending Lost) false)).aborting ≡ (controller.aborting || false)
losing-aborting controller name true over = sym (or-false controller.aborting)
losing-aborting controller name false over = rw over refl

controller-aborting : (controller : Controller) (name : List ℕ) (notice : Notice) → has_ended controller ≡ false → (controller_after controller name notice).aborting ≡ (controller.aborting || tells Aborting notice)
unfolding controller_after
controller-aborting controller name (Tells state) over = rw over refl
controller-aborting controller name Leaves over = rw over refl
controller-aborting controller name LosesLink over = losing-aborting controller name (is_gone (seen_of controller.table name)) over
controller-aborting controller name (Requires names) over = sym (or-false controller.aborting)
controller-aborting controller name Nothing over = sym (or-false controller.aborting)

-- it has aborted where it had, or where one is in Error now
controller-aborted : (controller : Controller) (name : List ℕ) (notice : Notice) → (has_error controller ≡ true → controller.aborted ≡ true)
    → (controller_after controller name notice).aborted ≡ (controller.aborted || has_error (controller_after controller name notice))
controller-aborted controller name notice before = elim (step controller name notice) [
  | inl same ↦ ap (λ (h : Controller). h.aborted) same ∙ absorbed controller.aborted (has_error controller) before ∙ ap (λ h. controller.aborted || has_error h) (sym same)
  | inr (noted, settles, keeps) ↦ ap (λ (h : Controller). h.aborted) settles ∙ ap (λ aborted. aborted || has_error noted) keeps ∙ ap (λ h. controller.aborted || has_error h) (sym settles)
]
  where
    absorbed : (a b : Bool) → (b ≡ true → a ≡ true) → a ≡ (a || b)
    absorbed true b h = refl
    absorbed false true h = let no = h refl in absurd cc
    absorbed false false h = refl

told-state : (required : List (List ℕ)) (controller : Controller) (past : List NamedNotice) (named : NamedNotice) → IsTold required controller past → has_ended controller ≡ false → (name : List ℕ)
    → (seen_of (controller_after controller named.name named.notice).table name).state ≡ last_told name (past ++ named ∷ [])
told-state required controller past named is over name =
    ap (λ (seen : Seen). seen.state) (controller-seen controller named.name named.notice name over)
    ∙ seen-state named.notice (bytes_eq named.name name) (seen_of controller.table name)
    ∙ ap (λ state. option_or (cond (bytes_eq named.name name) (state_in named.notice) None) state) (is.state name)
    ∙ sym (last_told-snoc name past named)

told-ending : (required : List (List ℕ)) (controller : Controller) (past : List NamedNotice) (named : NamedNotice) → IsTold required controller past → has_ended controller ≡ false → (name : List ℕ)
    → (seen_of (controller_after controller named.name named.notice).table name).ending ≡ first_ending name (past ++ named ∷ [])
told-ending required controller past named is over name =
    ap (λ (seen : Seen). seen.ending) (controller-seen controller named.name named.notice name over)
    ∙ seen-ending named.notice (bytes_eq named.name name) (seen_of controller.table name)
    ∙ ap (λ ending. option_or ending (cond (bytes_eq named.name name) (ending_in named.notice) None)) (is.ending name)
    ∙ sym (first_ending-snoc name past named)

error-any : (controller : Controller) → has_error controller ≡ list_any (λ name. is_error (controller_state controller name)) controller.required
unfolding some_is
error-any controller = any-map (is_state Error) (λ name. unwrap_or (controller_state controller name) Invalid) controller.required

told-aborted : (required : List (List ℕ)) (controller : Controller) (past : List NamedNotice) (named : NamedNotice) → IsTold required controller past → has_ended controller ≡ false
    → (controller_after controller named.name named.notice).aborted ≡ list_any (fails (past ++ named ∷ [])) required
told-aborted required controller past named is over =
    let after : Controller = controller_after controller named.name named.notice in
    let names : after.required ≡ required = step-names controller named.name named.notice ∙ is.required_is in
    let errors : List ℕ → Bool = λ name. is_error (state_or_error (record { state = last_told name (past ++ named ∷ []); ending = first_ending name (past ++ named ∷ []) })) in
    let here : (name : List ℕ) → is_error (controller_state after name) ≡ errors name = λ name.
    ap (λ state. is_error (state_or_error (record { state = state; ending = (seen_of after.table name).ending }))) (told-state required controller past named is over name)
    ∙ ap (λ ending. is_error (state_or_error (record { state = last_told name (past ++ named ∷ []); ending = ending }))) (told-ending required controller past named is over name) in
    controller-aborted controller named.name named.notice is.error
    ∙ ap (λ error. controller.aborted || error) (error-any after ∙ ap (λ ns. list_any (λ name. is_error (controller_state after name)) ns) names ∙ any-same (λ name. is_error (controller_state after name)) errors required here)
    ∙ ap (λ aborted. aborted || list_any errors required) is.aborted
    ∙ sym (any-or (fails past) errors (fails (past ++ named ∷ [])) required (fails-snoc past named))

told-one : (required : List (List ℕ)) (controller : Controller) (past : List NamedNotice) (named : NamedNotice) → IsTold required controller past → has_ended controller ≡ false
    → IsTold required (controller_after controller named.name named.notice) (past ++ named ∷ [])
told-one required controller past named is over = record {
  required_is = step-names controller named.name named.notice ∙ is.required_is;
  state = told-state required controller past named is over;
  ending = told-ending required controller past named is over;
  aborting =
      controller-aborting controller named.name named.notice over
      ∙ ap (λ aborting. aborting || tells Aborting named.notice) is.aborting
      ∙ sym (any-snoc (λ (e : NamedNotice). tells Aborting e.notice) past named);
  aborted = told-aborted required controller past named is over;
  error = step-error controller named.name named.notice is.error;
}

told-all : (required : List (List ℕ)) (controller : Controller) (past notices : List NamedNotice) → IsTold required controller past
    → IsTold required (controller_after_all controller notices) (past ++ until_end controller notices)
told-all required controller past [] is = rw (append-nil past) is
told-all required controller past (named ∷ notices) is =
    split (has_ended controller) refl (λ over. told-all required (controller_after controller named.name named.notice) (past ++ named ∷ []) notices (told-one required controller past named is over))
  where
    split : (over : Bool) → has_ended controller ≡ over
        → (has_ended controller ≡ false → IsTold required (controller_after_all controller (named ∷ notices)) ((past ++ named ∷ []) ++ until_end (controller_after controller named.name named.notice) notices))
        → IsTold required (controller_after_all controller (named ∷ notices)) (past ++ cond over [] (named ∷ until_end (controller_after controller named.name named.notice) notices))
    split true over later = rw (append-nil past, end_stays controller (named ∷ notices) over) is
    split false over later = rw (sym (append_assoc past (named ∷ []) (until_end (controller_after controller named.name named.notice) notices))) (later over)

from_start : (required : List (List ℕ)) (notices : List NamedNotice) → IsTold required (controller_after_all (new_controller required) notices) (until_end (new_controller required) notices)
from_start required notices = told-all required (new_controller required) [] notices (record {
  required_is = refl;
  state = λ name. refl;
  ending = λ name. refl;
  aborting = refl;
  aborted = none_fail required;
  error = λ start. let none = no_error-start required in absurd cc;
})

pub aborting_told : (required : List (List ℕ)) (notices : List NamedNotice)
    → (controller_after_all (new_controller required) notices).aborting ≡ tells_aborting (until_end (new_controller required) notices)
aborting_told required notices = (from_start required notices).aborting

pub aborted_fails : (required : List (List ℕ)) (notices : List NamedNotice)
    → (controller_after_all (new_controller required) notices).aborted ≡ list_any (fails (until_end (new_controller required) notices)) required
aborted_fails required notices = (from_start required notices).aborted

pub ended_gone : (required : List (List ℕ)) (notices : List NamedNotice)
    → has_ended (controller_after_all (new_controller required) notices) ≡ list_all (λ name. is_some (first_ending name (until_end (new_controller required) notices))) required
ended_gone required notices =
    let told = from_start required notices in
    ap (λ names. list_all (λ name. is_gone (seen_of (controller_after_all (new_controller required) notices).table name)) names) told.required_is
    ∙ all-same (λ name. is_gone (seen_of (controller_after_all (new_controller required) notices).table name)) (λ name. is_some (first_ending name (until_end (new_controller required) notices))) required
    (λ name. ap (λ ending. is_some ending) (told.ending name))
