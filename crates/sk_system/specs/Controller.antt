-- What the controller keeps, and one step of it.
use Rattle.std.specs.Prelude.{ℕ, Bool, false, ◌&&◌, ◌||◌, not, List, [], Option, Some, None, if◌then◌else◌}
use Rattle.std.specs.List.{list_all}
use Rattle.sk_base.specs.declared.status.ExitStatus.{ExitStatus}
use Rattle.sk_base.specs.declared.status.ExitStatus.TheVariants.{Aborted, Done}
use Rattle.sk_msg.specs.declared.state.State.{State}
use Rattle.sk_msg.specs.declared.state.State.TheVariants.{Invalid, Error, Aborting}
use Rattle.sk_msg.specs.States.{is_state}
use Rattle.sk_system.specs.declared.table.Ending.TheVariants.{Left, Lost}
use Rattle.sk_system.specs.declared.table.Seen.{Seen}
use Rattle.sk_system.specs.declared.table.TableEntry.{TableEntry}
use Rattle.sk_system.specs.Lines.{system_lines}
use Rattle.sk_system.specs.Notice.{Notice, Tells, Leaves, LosesLink, Requires, Nothing}
use Rattle.sk_system.specs.Table.{seen_of, put, with_state, with_ending, is_gone, state_or_error}
use Rattle.sk_system.specs.System.{system_state, last_states, some_is}

pub record Controller : Type 0 where
  -- whom the simulation needs
  pub required : List (List ℕ)
  -- of each name the last state, and whether it has left or is lost
  pub table : List TableEntry
  -- the state of the last system line; Invalid before the first
  pub printed : State
  -- an abort was asked for
  pub aborted : Bool
  -- a participant told that it is Aborting
  pub aborting : Bool

-- these are required, and nothing was seen yet
abbrev pub new_controller : List (List ℕ) → Controller
new_controller required = record { required = required; table = []; printed = Invalid; aborted = false; aborting = false }

-- the state of a name, where that of a lost one is taken as Error
abbrev pub controller_state : Controller → List ℕ → Option State
controller_state controller name = state_or_error (seen_of controller.table name)

-- the system state, as the participants have it, but for the lost ones
abbrev pub controller_system : Controller → State
controller_system controller = system_state (Some controller.required) (controller_state controller)

-- one that is required is in Error
abbrev pub has_error : Controller → Bool
has_error controller = some_is Error (last_states (controller_state controller) controller.required)

-- each that is required has left or is lost
abbrev pub has_ended : Controller → Bool
has_ended controller = list_all (λ name. is_gone (seen_of controller.table name)) controller.required

-- the status with which it ends, once it does: Aborted where an abort was asked for or one was Aborting
abbrev pub end_of : Controller → Option ExitStatus
end_of controller = if has_ended controller then Some (if controller.aborting || controller.aborted then Aborted else Done) else None

-- the system state was printed, if it wasn't before, and an abort asked for where one is in Error
abbrev pub with_decision : Controller → Controller
with_decision controller = record controller { printed = controller_system controller; aborted = controller.aborted || has_error controller }

-- this was seen of this name too, and whether it told that it is Aborting; after the end nothing counts
abbrev pub noting : Controller → List ℕ → (Seen → Seen) → Bool → Controller
noting controller name change aborting =
    if has_ended controller then controller
    else with_decision (record controller { table = put name (change (seen_of controller.table name)) controller.table; aborting = controller.aborting || aborting })

-- what it keeps after a notice of this name; the loss of a link counts where the participant wasn't gone
unfoldable pub controller_after : Controller → List ℕ → Notice → Controller
controller_after controller name (Tells state) = noting controller name (with_state state) (is_state Aborting state)
controller_after controller name Leaves = noting controller name (with_ending Left) false
controller_after controller name LosesLink =
    if is_gone (seen_of controller.table name) then controller else noting controller name (with_ending Lost) false
controller_after controller name (Requires names) = controller
controller_after controller name Nothing = controller

-- what is printed on the way from one to the other: the system state, where it has changed
abbrev pub lines_between : Controller → Controller → List (List ℕ)
lines_between before after = system_lines before.printed after.printed

-- an abort is asked for where it is for the first time
abbrev pub aborts_between : Controller → Controller → Bool
aborts_between before after = after.aborted && not before.aborted

-- what it prints of a notice
abbrev pub controller_lines : Controller → List ℕ → Notice → List (List ℕ)
controller_lines controller name notice = lines_between controller (controller_after controller name notice)

-- whether it asks for an abort at a notice
abbrev pub controller_aborts : Controller → List ℕ → Notice → Bool
controller_aborts controller name notice = aborts_between controller (controller_after controller name notice)
