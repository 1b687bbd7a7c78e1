-- What notices make of the tools, one after another.
use Rattle.std.proofs.Common.{◌≡◌, ◌⊎◌, inl, inr, ℕ, ◌≤◌, ◌+◌, Bool, true, false, cond, ◌&&◌, ◌||◌, not, List, [], ◌∷◌, Option, Some, None, refl, sym, ap, ◌∙◌, arith}
use Rattle.std.specs.Prelude.{count_by, is_some}
use Rattle.std.specs.Option.{option_or}
use Rattle.std.specs.Str.{bytes_eq}
use Rattle.std.proofs.lemmas.Slice.Eq.{bytes_eq-Decides}
use Rattle.std.proofs.lemmas.Bool.{or_right}
use Rattle.std.proofs.lemmas.List.Sums.{sum_by-cons}
use Rattle.sk_msg.specs.States.{is_state}
use Rattle.sk_msg.specs.declared.state.State.TheVariants.{Aborting}
use Rattle.sk_system.specs.declared.table.Ending.{Ending}
use Rattle.sk_system.specs.declared.table.Ending.TheVariants.{Left, Lost}
use Rattle.sk_system.specs.declared.table.Seen.{Seen}
use Rattle.sk_system.specs.declared.table.TableEntry.{TableEntry}
use Rattle.sk_system.specs.Notice.{Notice, Tells, Leaves, LosesLink, Requires, Nothing}
use Rattle.sk_system.specs.Table.{seen_of, put, with_state, with_ending, is_gone}
use Rattle.sk_system.specs.Monitor.{Monitor, new_monitor, monitor_system, seeing, requiring, monitor_after}
use Rattle.sk_system.specs.Controller.{Controller, new_controller, has_error, has_ended, with_decision, noting, controller_after}
use Rattle.sk_system.specs.History.{NamedNotice, required_in, state_in, ending_in, first_required, last_told, first_ending, monitor_after_all, controller_after_all, aborts}
use Rattle.sk_system.specs.System.{some_is}
use Rattle.sk_system.proofs.TableLaws.{seen_of-put}

-- ## Options

pub option_or-none : {A : Type 0} (o : Option A) → option_or o None ≡ o
option_or-none None = refl
option_or-none (Some x) = refl

pub option_or-option_or : {A : Type 0} (a b c : Option A) → option_or (option_or a b) c ≡ option_or a (option_or b c)
option_or-option_or None b c = refl
option_or-option_or (Some x) b c = refl

or_gone : (ending : Option Ending) (other : Option Ending) → is_some ending ≡ true → option_or ending other ≡ ending
or_gone None other gone = absurd cc
or_gone (Some e) other gone = refl

-- ## One step of the monitor

pub seen_of-change : (name : List ℕ) (change : Seen → Seen) (table : List TableEntry) (other : List ℕ)
    → seen_of (put name (change (seen_of table name)) table) other ≡ cond (bytes_eq name other) (change (seen_of table other)) (seen_of table other)
seen_of-change name change table other = seen_of-put name (change (seen_of table name)) table other ∙ split (bytes_eq name other) refl
  where
    split : (same : Bool) → bytes_eq name other ≡ same → cond same (change (seen_of table name)) (seen_of table other) ≡ cond same (change (seen_of table other)) (seen_of table other)
    split true e = ap (λ n. change (seen_of table n)) ((bytes_eq-Decides name other).0 e)
    split false e = refl

-- one that is lost, unless it was gone
abbrev losing : Monitor → List ℕ → Bool → Monitor
losing monitor name gone = cond gone monitor (seeing monitor name (with_ending Lost))

requiring-required : (monitor : Monitor) (first : Option (List (List ℕ))) (names : List (List ℕ)) → monitor.required ≡ first → (requiring monitor first names).required ≡ option_or first (Some names)
requiring-required monitor None names is = refl
requiring-required monitor (Some first) names is = is

losing-required : (monitor : Monitor) (name : List ℕ) (gone : Bool) → (losing monitor name gone).required ≡ monitor.required
losing-required monitor name true = refl
losing-required monitor name false = refl

step-required : (monitor : Monitor) (name : List ℕ) (notice : Notice) → (monitor_after monitor name notice).required ≡ option_or monitor.required (required_in notice)
unfolding monitor_after
step-required monitor name (Tells state) = sym (option_or-none monitor.required)
step-required monitor name Leaves = sym (option_or-none monitor.required)
step-required monitor name LosesLink = losing-required monitor name (is_gone (seen_of monitor.table name)) ∙ sym (option_or-none monitor.required)
step-required monitor name (Requires names) = requiring-required monitor monitor.required names refl
step-required monitor name Nothing = sym (option_or-none monitor.required)

-- what was seen of one, after a notice of it
abbrev pub seen_after : Notice → Seen → Seen
seen_after (Tells state) seen = with_state state seen
seen_after Leaves seen = with_ending Left seen
seen_after LosesLink seen = with_ending Lost seen
seen_after (Requires names) seen = seen
seen_after Nothing seen = seen

pub either : {A : Type 0} (same : Bool) (x : A) → x ≡ cond same x x
either true x = refl
either false x = refl

requiring-table : (monitor : Monitor) (first : Option (List (List ℕ))) (names : List (List ℕ)) → (requiring monitor first names).table ≡ monitor.table
requiring-table monitor None names = refl
requiring-table monitor (Some first) names = refl

-- of one that was gone the loss says nothing new
pub gone-seen : (table : List TableEntry) (name other : List ℕ) → is_gone (seen_of table name) ≡ true
    → seen_of table other ≡ cond (bytes_eq name other) (with_ending Lost (seen_of table other)) (seen_of table other)
gone-seen table name other is = split (bytes_eq name other) refl
  where
    split : (same : Bool) → bytes_eq name other ≡ same → seen_of table other ≡ cond same (with_ending Lost (seen_of table other)) (seen_of table other)
    split true e =
        let gone : is_some (seen_of table other).ending ≡ true = ap (λ n. is_some (seen_of table n).ending) (sym ((bytes_eq-Decides name other).0 e)) ∙ is in
        ap (λ ending. let seen : Seen = record (seen_of table other) { ending = ending } in seen) (sym (or_gone (seen_of table other).ending (Some Lost) gone))
    split false e = refl

losing-seen : (monitor : Monitor) (name other : List ℕ) (gone : Bool) → is_gone (seen_of monitor.table name) ≡ gone
    → seen_of (losing monitor name gone).table other ≡ cond (bytes_eq name other) (with_ending Lost (seen_of monitor.table other)) (seen_of monitor.table other)
losing-seen monitor name other true is = gone-seen monitor.table name other is
losing-seen monitor name other false is = seen_of-change name (with_ending Lost) monitor.table other

step-seen : (monitor : Monitor) (name : List ℕ) (notice : Notice) (other : List ℕ)
    → seen_of (monitor_after monitor name notice).table other ≡ cond (bytes_eq name other) (seen_after notice (seen_of monitor.table other)) (seen_of monitor.table other)
unfolding monitor_after
step-seen monitor name (Tells state) other = seen_of-change name (with_state state) monitor.table other
step-seen monitor name Leaves other = seen_of-change name (with_ending Left) monitor.table other
step-seen monitor name LosesLink other = losing-seen monitor name other (is_gone (seen_of monitor.table name)) refl
step-seen monitor name (Requires names) other =
    ap (λ table. seen_of table other) (requiring-table monitor monitor.required names) ∙ either (bytes_eq name other) (seen_of monitor.table other)
step-seen monitor name Nothing other = either (bytes_eq name other) (seen_of monitor.table other)

pub seen-state : (notice : Notice) (same : Bool) (seen : Seen) → (cond same (seen_after notice seen) seen).state ≡ option_or (cond same (state_in notice) None) seen.state
seen-state notice false seen = refl
seen-state (Tells state) true seen = refl
seen-state Leaves true seen = refl
seen-state LosesLink true seen = refl
seen-state (Requires names) true seen = refl
seen-state Nothing true seen = refl

pub seen-ending : (notice : Notice) (same : Bool) (seen : Seen) → (cond same (seen_after notice seen) seen).ending ≡ option_or seen.ending (cond same (ending_in notice) None)
seen-ending notice false seen = sym (option_or-none seen.ending)
seen-ending (Tells state) true seen = sym (option_or-none seen.ending)
seen-ending Leaves true seen = refl
seen-ending LosesLink true seen = refl
seen-ending (Requires names) true seen = sym (option_or-none seen.ending)
seen-ending Nothing true seen = sym (option_or-none seen.ending)

-- the system state is the printed one
losing-printed : (monitor : Monitor) (name : List ℕ) (gone : Bool) → monitor_system monitor ≡ monitor.printed → monitor_system (losing monitor name gone) ≡ (losing monitor name gone).printed
losing-printed monitor name true is = is
losing-printed monitor name false is = refl

requiring-printed : (monitor : Monitor) (first : Option (List (List ℕ))) (names : List (List ℕ)) → monitor_system monitor ≡ monitor.printed → monitor_system (requiring monitor first names) ≡ (requiring monitor first names).printed
requiring-printed monitor None names is = refl
requiring-printed monitor (Some first) names is = is

step-printed : (monitor : Monitor) (name : List ℕ) (notice : Notice) → monitor_system monitor ≡ monitor.printed → monitor_system (monitor_after monitor name notice) ≡ (monitor_after monitor name notice).printed
unfolding monitor_after
step-printed monitor name (Tells state) is = refl
step-printed monitor name Leaves is = refl
step-printed monitor name LosesLink is = losing-printed monitor name (is_gone (seen_of monitor.table name)) is
step-printed monitor name (Requires names) is = requiring-printed monitor monitor.required names is
step-printed monitor name Nothing is = is

-- ## All steps of the monitor

all-required : (monitor : Monitor) (notices : List NamedNotice) → (monitor_after_all monitor notices).required ≡ option_or monitor.required (first_required notices)
all-required monitor [] = sym (option_or-none monitor.required)
all-required monitor (named ∷ notices) =
    all-required (monitor_after monitor named.name named.notice) notices
    ∙ ap (λ required. option_or required (first_required notices)) (step-required monitor named.name named.notice)
    ∙ option_or-option_or monitor.required (required_in named.notice) (first_required notices)

all-state : (monitor : Monitor) (notices : List NamedNotice) (name : List ℕ) → (seen_of (monitor_after_all monitor notices).table name).state ≡ option_or (last_told name notices) (seen_of monitor.table name).state
all-state monitor [] name = refl
all-state monitor (named ∷ notices) name =
    all-state (monitor_after monitor named.name named.notice) notices name
    ∙ ap (λ (seen : Seen). option_or (last_told name notices) seen.state) (step-seen monitor named.name named.notice name)
    ∙ ap (λ state. option_or (last_told name notices) state) (seen-state named.notice (bytes_eq named.name name) (seen_of monitor.table name))
    ∙ sym (option_or-option_or (last_told name notices) _ _)

all-ending : (monitor : Monitor) (notices : List NamedNotice) (name : List ℕ) → (seen_of (monitor_after_all monitor notices).table name).ending ≡ option_or (seen_of monitor.table name).ending (first_ending name notices)
all-ending monitor [] name = sym (option_or-none _)
all-ending monitor (named ∷ notices) name =
    all-ending (monitor_after monitor named.name named.notice) notices name
    ∙ ap (λ (seen : Seen). option_or seen.ending (first_ending name notices)) (step-seen monitor named.name named.notice name)
    ∙ ap (λ ending. option_or ending (first_ending name notices)) (seen-ending named.notice (bytes_eq named.name name) (seen_of monitor.table name))
    ∙ option_or-option_or (seen_of monitor.table name).ending _ (first_ending name notices)

all-printed : (monitor : Monitor) (notices : List NamedNotice) → monitor_system monitor ≡ monitor.printed → monitor_system (monitor_after_all monitor notices) ≡ (monitor_after_all monitor notices).printed
all-printed monitor [] is = is
all-printed monitor (named ∷ notices) is = all-printed (monitor_after monitor named.name named.notice) notices (step-printed monitor named.name named.notice is)

pub first_workflow : (notices : List NamedNotice) → (monitor_after_all new_monitor notices).required ≡ first_required notices
first_workflow notices = all-required new_monitor notices

pub last_state : (notices : List NamedNotice) (name : List ℕ) → (seen_of (monitor_after_all new_monitor notices).table name).state ≡ last_told name notices
last_state notices name = all-state new_monitor notices name ∙ option_or-none (last_told name notices)

pub first_end : (notices : List NamedNotice) (name : List ℕ) → (seen_of (monitor_after_all new_monitor notices).table name).ending ≡ first_ending name notices
first_end notices name = all-ending new_monitor notices name

pub printed_is_the_state : (notices : List NamedNotice) → (monitor_after_all new_monitor notices).printed ≡ monitor_system (monitor_after_all new_monitor notices)
printed_is_the_state notices = sym (all-printed new_monitor notices refl)

-- ## One step of the controller

-- either nothing changes, or one more thing was seen
abbrev pub IsStep : Controller → Controller → Type 0
IsStep before after = (after ≡ before) ⊎ ((noted : Controller) × (after ≡ with_decision noted) × (noted.aborted ≡ before.aborted))

noting-step : (controller : Controller) (name : List ℕ) (change : Seen → Seen) (aborting : Bool) → IsStep controller (noting controller name change aborting)
noting-step controller name change aborting = split (has_ended controller)
  where
    split : (over : Bool) → IsStep controller (cond over controller (with_decision (record controller { table = put name (change (seen_of controller.table name)) controller.table; aborting = controller.aborting || aborting })))
    split true = inl refl
    split false = inr (record controller { table = put name (change (seen_of controller.table name)) controller.table; aborting = controller.aborting || aborting }, refl, refl)

losing-step : (controller : Controller) (name : List ℕ) (gone : Bool) → IsStep controller (cond gone controller (noting controller name (with_ending Lost) false))
losing-step controller name true = inl refl
losing-step controller name false = noting-step controller name (with_ending Lost) false

pub step : (controller : Controller) (name : List ℕ) (notice : Notice) → IsStep controller (controller_after controller name notice)
unfolding controller_after
step controller name (Tells state) = noting-step controller name (with_state state) (is_state Aborting state)
step controller name Leaves = noting-step controller name (with_ending Left) false
step controller name LosesLink = losing-step controller name (is_gone (seen_of controller.table name))
step controller name (Requires names) = inl refl
step controller name Nothing = inl refl

step-aborted : (controller : Controller) (name : List ℕ) (notice : Notice) → controller.aborted ≡ true → (controller_after controller name notice).aborted ≡ true
step-aborted controller name notice is = elim (step controller name notice) [
  | inl same ↦ ap (λ (h : Controller). h.aborted) same ∙ is
  | inr (noted, settles, keeps) ↦ ap (λ (h : Controller). h.aborted) settles ∙ ap (λ aborted. aborted || has_error noted) (keeps ∙ is)
]

pub step-error : (controller : Controller) (name : List ℕ) (notice : Notice) → (has_error controller ≡ true → controller.aborted ≡ true) → has_error (controller_after controller name notice) ≡ true → (controller_after controller name notice).aborted ≡ true
step-error controller name notice before error = elim (step controller name notice) [
  | inl same ↦ ap (λ (h : Controller). h.aborted) same ∙ before (sym (ap has_error same) ∙ error)
  | inr (noted, settles, keeps) ↦ ap (λ (h : Controller). h.aborted) settles ∙ or_right noted.aborted (has_error noted) (sym (ap has_error settles) ∙ error)
]

-- whom it requires stays
noting-names : (controller : Controller) (name : List ℕ) (change : Seen → Seen) (aborting : Bool) → (noting controller name change aborting).required ≡ controller.required
noting-names controller name change aborting = split (has_ended controller)
  where
    split : (over : Bool) → (cond over controller (with_decision (record controller { table = put name (change (seen_of controller.table name)) controller.table; aborting = controller.aborting || aborting }))).required ≡ controller.required
    split true = refl
    split false = refl

losing-names : (controller : Controller) (name : List ℕ) (gone : Bool) → (cond gone controller (noting controller name (with_ending Lost) false)).required ≡ controller.required
losing-names controller name true = refl
losing-names controller name false = noting-names controller name (with_ending Lost) false

pub step-names : (controller : Controller) (name : List ℕ) (notice : Notice) → (controller_after controller name notice).required ≡ controller.required
unfolding controller_after
step-names controller name (Tells state) = noting-names controller name (with_state state) (is_state Aborting state)
step-names controller name Leaves = noting-names controller name (with_ending Left) false
step-names controller name LosesLink = losing-names controller name (is_gone (seen_of controller.table name))
step-names controller name (Requires names) = refl
step-names controller name Nothing = refl

-- ## All steps of the controller

aborted-once : (controller : Controller) (notices : List NamedNotice) → controller.aborted ≡ true → count_by (λ asked. asked) (aborts controller notices) ≡ 0
aborted-once controller [] is = refl
aborted-once controller (named ∷ notices) is =
    let later : (controller_after controller named.name named.notice).aborted ≡ true = step-aborted controller named.name named.notice is in
    let none : ((controller_after controller named.name named.notice).aborted && not controller.aborted) ≡ false = rw (later, is) refl in
    rw (none, aborted-once (controller_after controller named.name named.notice) notices later) refl

pub at_most_once : (controller : Controller) (notices : List NamedNotice) → count_by (λ asked. asked) (aborts controller notices) ≤ 1
at_most_once controller [] = omega arith
at_most_once controller (named ∷ notices) =
    split (controller_after controller named.name named.notice).aborted (not controller.aborted) refl (at_most_once (controller_after controller named.name named.notice) notices)
    (λ is. aborted-once (controller_after controller named.name named.notice) notices is)
  where
    split : (now before : Bool) → (controller_after controller named.name named.notice).aborted ≡ now
        → count_by (λ asked. asked) (aborts (controller_after controller named.name named.notice) notices) ≤ 1
        → ((controller_after controller named.name named.notice).aborted ≡ true → count_by (λ asked. asked) (aborts (controller_after controller named.name named.notice) notices) ≡ 0)
        → count_by (λ asked. asked) ((now && before) ∷ aborts (controller_after controller named.name named.notice) notices) ≤ 1
    split true true is rest none =
        let later : List Bool = aborts (controller_after controller named.name named.notice) notices in
        let one : count_by (λ asked. asked) (true ∷ later) ≡ 1 + count_by (λ asked. asked) later = sum_by-cons (λ asked. cond asked 1 0) true later in
        omega (arith, one, none is)
    split true false is rest none = rest
    split false before is rest none = rest

all-errors : (controller : Controller) (notices : List NamedNotice) → (has_error controller ≡ true → controller.aborted ≡ true) → has_error (controller_after_all controller notices) ≡ true → (controller_after_all controller notices).aborted ≡ true
all-errors controller [] before error = before error
all-errors controller (named ∷ notices) before error =
    all-errors (controller_after controller named.name named.notice) notices (step-error controller named.name named.notice before) error

pub no_error-start : (required : List (List ℕ)) → has_error (new_controller required) ≡ false
unfolding some_is is_state
no_error-start [] = refl
no_error-start (name ∷ names) = no_error-start names

pub errors_abort : (required : List (List ℕ)) (notices : List NamedNotice) → has_error (controller_after_all (new_controller required) notices) ≡ true → (controller_after_all (new_controller required) notices).aborted ≡ true
errors_abort required notices error =
    all-errors (new_controller required) notices (λ start. let none = no_error-start required in absurd cc) error

over-step : (controller : Controller) (name : List ℕ) (notice : Notice) → has_ended controller ≡ true → controller_after controller name notice ≡ controller
unfolding controller_after
over-step controller name (Tells state) over = rw over refl
over-step controller name Leaves over = rw over refl
over-step controller name LosesLink over = split (is_gone (seen_of controller.table name))
  where
    split : (gone : Bool) → cond gone controller (noting controller name (with_ending Lost) false) ≡ controller
    split true = refl
    split false = rw over refl
over-step controller name (Requires names) over = refl
over-step controller name Nothing over = refl

pub end_stays : (controller : Controller) (notices : List NamedNotice) → has_ended controller ≡ true → controller_after_all controller notices ≡ controller
end_stays controller [] over = refl
end_stays controller (named ∷ notices) over =
    ap (λ h. controller_after_all h notices) (over-step controller named.name named.notice over) ∙ end_stays controller notices over
