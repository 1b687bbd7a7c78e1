-- What a lifecycle stands for, and what each of its calls does.
use Rattle.std.specs.Prelude.{◌≡◌, Bool, false, ◌&&◌, ◌||◌, not, IsTrue, List, [], ◌∷◌, ◌++◌, Option, Some, None, Result, Ok, Err, option_to_list, if◌then◌else◌}
use Rattle.std.specs.Bool.{then_some}
use Rattle.sk_msg.specs.States.{is_state}
use Rattle.sk_msg.specs.Edges.{has_edge, has_edge_of, led_to}
use Rattle.sk_msg.specs.declared.command.Command.{Command}
use Rattle.sk_msg.specs.declared.command.Command.TheVariants.{Pause, Continue, Stop, ReportError, Abort}
use Rattle.sk_msg.specs.declared.command.Verdict.{Verdict}
use Rattle.sk_msg.specs.declared.command.Verdict.TheVariants.{Accepted, Refused}
use Rattle.sk_msg.specs.declared.state.State.{State}
use Rattle.sk_msg.specs.declared.state.State.TheVariants.{Invalid, ServicesCreated, CommunicationInitializing, CommunicationInitialized, ReadyToRun, Running, Paused, Stopping, Stopped, Error, ShuttingDown, Shutdown, Aborting}
use Rattle.sk_lifecycle.specs.declared.known.Known.{Known}

-- whether the participant starts and stops with the others, and its state
pub record Course : Type 0 where
  pub coordinated : Bool
  pub state : State

abbrev pub start : Bool → Course
start coordinated = record { coordinated = coordinated; state = ServicesCreated }

-- a command: along its edge where the present state has one; else it is refused with this state, and nothing changes
abbrev pub Answers : Command → Course → Verdict → Course → Type 0
Answers command old Accepted new = IsTrue (has_edge_of command old.state new.state) × (new.coordinated ≡ old.coordinated)
Answers command old (Refused state) new = ((to : State) → has_edge_of command old.state to ≡ false) × (state ≡ old.state) × (new ≡ old)

-- an entry: along the edge where there is one; else it is refused with the present state, and nothing changes
abbrev pub Enters : State → Course → Result (Unit {0}) State → Course → Type 0
Enters to old (Ok done) new = IsTrue (has_edge old.state to) × (new ≡ record old { state = to })
Enters to old (Err state) new = (has_edge old.state to ≡ false) × (state ≡ old.state) × (new ≡ old)

-- ## The chain

-- all that are required have reached this state; asked of a coordinated participant alone
abbrev pub are_there : Bool → (State → Bool) → State → Bool
are_there coordinated reached goal = not coordinated || reached goal

-- the next state in the chain, where what it waits for holds
unfoldable pub chain_row : Bool → (State → Bool) → Known → State → Option State
chain_row coordinated reached known ServicesCreated =
    then_some (known.hellos && are_there coordinated reached ServicesCreated) CommunicationInitializing
chain_row coordinated reached known CommunicationInitializing = then_some known.services CommunicationInitialized
chain_row coordinated reached known CommunicationInitialized =
    then_some (known.ready && are_there coordinated reached CommunicationInitialized) ReadyToRun
chain_row coordinated reached known ReadyToRun = then_some (are_there coordinated reached ReadyToRun) Running
chain_row coordinated reached known Running = then_some (known.at_limit && not known.step_open) Stopping
chain_row coordinated reached known Stopping = then_some (not known.step_open) Stopped
chain_row coordinated reached known Stopped = then_some (are_there coordinated reached Stopped) ShuttingDown
chain_row coordinated reached known ShuttingDown = Some Shutdown
chain_row coordinated reached known Invalid = None
chain_row coordinated reached known Paused = None
chain_row coordinated reached known Error = None
chain_row coordinated reached known Shutdown = None
chain_row coordinated reached known Aborting = None

-- ## Calls

-- what may be called: with what all that are required have reached, an advance
pub data Call : Type 0 where
  Ask : Command → Call
  Enter : State → Call
  Advance : (State → Bool) → Known → Call

-- the state that a call leads to; none where it leaves the state
abbrev pub goes_to : Course → Call → Option State
goes_to course (Ask command) = led_to course.state command
goes_to course (Enter to) = if has_edge course.state to then Some to else None
goes_to course (Advance reached known) = chain_row course.coordinated reached known course.state

abbrev pub moved : Course → Option State → Course
moved course None = course
moved course (Some to) = record course { state = to }

abbrev pub after_call : Course → Call → Course
after_call course call = moved course (goes_to course call)

abbrev pub after_calls : Course → List Call → Course
after_calls course [] = course
after_calls course (call ∷ calls) = after_calls (after_call course call) calls

-- the states that calls lead through, one after another
abbrev pub passed : Course → List Call → List State
passed course [] = []
passed course (call ∷ calls) = option_to_list (goes_to course call) ++ passed (after_call course call) calls

-- the last of these, or the one before them where there are none
abbrev pub last_of : State → List State → State
last_of state [] = state
last_of state (next ∷ states) = last_of next states

-- ## The commands in words

-- Pause asks for Running to Paused, Continue for Paused to Running, Stop for Running or Paused to Stopping, ReportError
-- for every edge to Error, Abort for every edge to Aborting
abbrev pub asks_for : Command → State → State → Bool
asks_for Pause from to = is_state Running from && is_state Paused to
asks_for Continue from to = is_state Paused from && is_state Running to
asks_for Stop from to = (is_state Running from || is_state Paused from) && is_state Stopping to
asks_for ReportError from to = is_state Error to
asks_for Abort from to = is_state Aborting to
