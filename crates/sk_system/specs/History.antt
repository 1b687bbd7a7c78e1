-- Notices, one after another, and what they say together.
use Rattle.std.specs.Prelude.{ℕ, Bool, true, false, ◌&&◌, ◌||◌, List, [], ◌∷◌, ◌++◌, Option, Some, None, if◌then◌else◌}
use Rattle.std.specs.List.{list_any}
use Rattle.std.specs.Option.{option_or}
use Rattle.std.specs.Str.{bytes_eq}
use Rattle.sk_msg.specs.declared.state.State.{State}
use Rattle.sk_msg.specs.declared.state.State.TheVariants.{Error, Aborting}
use Rattle.sk_msg.specs.States.{is_state}
use Rattle.sk_system.specs.declared.table.Ending.{Ending}
use Rattle.sk_system.specs.declared.table.Ending.TheVariants.{Left, Lost}
use Rattle.sk_system.specs.Notice.{Notice, Tells, Leaves, LosesLink, Requires, Nothing}
use Rattle.sk_system.specs.Monitor.{Monitor, monitor_after, monitor_lines}
use Rattle.sk_system.specs.Controller.{Controller, has_ended, controller_after, controller_lines, controller_aborts}

-- a notice, and of whom
pub record NamedNotice : Type 0 where
  pub name : List ℕ
  pub notice : Notice

-- ## In words

-- whom a notice requires
abbrev pub required_in : Notice → Option (List (List ℕ))
required_in (Requires names) = Some names
required_in (Tells state) = None
required_in Leaves = None
required_in LosesLink = None
required_in Nothing = None

-- the state that a notice tells
abbrev pub state_in : Notice → Option State
state_in (Tells state) = Some state
state_in Leaves = None
state_in LosesLink = None
state_in (Requires names) = None
state_in Nothing = None

-- how one goes by a notice
abbrev pub ending_in : Notice → Option Ending
ending_in Leaves = Some Left
ending_in LosesLink = Some Lost
ending_in (Tells state) = None
ending_in (Requires names) = None
ending_in Nothing = None

-- whom the first Workflow requires
abbrev pub first_required : List NamedNotice → Option (List (List ℕ))
first_required [] = None
first_required (named ∷ notices) = option_or (required_in named.notice) (first_required notices)

-- the last state that this name tells
abbrev pub last_told : List ℕ → List NamedNotice → Option State
last_told name [] = None
last_told name (named ∷ notices) = option_or (last_told name notices) (if bytes_eq named.name name then state_in named.notice else None)

-- which of its Leave and the loss of its link comes first
abbrev pub first_ending : List ℕ → List NamedNotice → Option Ending
first_ending name [] = None
first_ending name (named ∷ notices) = option_or (if bytes_eq named.name name then ending_in named.notice else None) (first_ending name notices)

-- ## As the tools keep it

-- what a monitor keeps after all of them
abbrev pub monitor_after_all : Monitor → List NamedNotice → Monitor
monitor_after_all monitor [] = monitor
monitor_after_all monitor (named ∷ notices) = monitor_after_all (monitor_after monitor named.name named.notice) notices

-- what it prints of all of them, in their order
abbrev pub monitor_lines_all : Monitor → List NamedNotice → List (List ℕ)
monitor_lines_all monitor [] = []
monitor_lines_all monitor (named ∷ notices) =
    monitor_lines monitor named.name named.notice ++ monitor_lines_all (monitor_after monitor named.name named.notice) notices

-- what a controller keeps after all of them
abbrev pub controller_after_all : Controller → List NamedNotice → Controller
controller_after_all controller [] = controller
controller_after_all controller (named ∷ notices) = controller_after_all (controller_after controller named.name named.notice) notices

-- what it prints of all of them, in their order
abbrev pub controller_lines_all : Controller → List NamedNotice → List (List ℕ)
controller_lines_all controller [] = []
controller_lines_all controller (named ∷ notices) =
    controller_lines controller named.name named.notice ++ controller_lines_all (controller_after controller named.name named.notice) notices

-- at which of them it asks for an abort
abbrev pub aborts : Controller → List NamedNotice → List Bool
aborts controller [] = []
aborts controller (named ∷ notices) =
    controller_aborts controller named.name named.notice ∷ aborts (controller_after controller named.name named.notice) notices

-- ## The causes of an abort

-- the notices up to the controller's end
abbrev pub until_end : Controller → List NamedNotice → List NamedNotice
until_end controller [] = []
until_end controller (named ∷ notices) =
    if has_ended controller then [] else named ∷ until_end (controller_after controller named.name named.notice) notices

-- a notice tells this state
abbrev pub tells : State → Notice → Bool
tells state (Tells told) = is_state state told
tells state Leaves = false
tells state LosesLink = false
tells state (Requires names) = false
tells state Nothing = false

-- somebody tells that it is Aborting
abbrev pub tells_aborting : List NamedNotice → Bool
tells_aborting notices = list_any (λ named. tells Aborting named.notice) notices

-- this name tells that it is in Error
abbrev pub tells_error : List ℕ → List NamedNotice → Bool
tells_error name notices = list_any (λ named. bytes_eq named.name name && tells Error named.notice) notices

-- a link was lost before its Leave
abbrev pub is_lost : Option Ending → Bool
is_lost (Some Lost) = true
is_lost (Some Left) = false
is_lost None = false

-- this name tells Error, or its link is lost before its Leave
abbrev pub fails : List NamedNotice → List ℕ → Bool
fails notices name = tells_error name notices || is_lost (first_ending name notices)
