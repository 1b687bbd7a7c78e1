-- The graph of states: where edges lead, and which command asks for an edge.
use Rattle.std.specs.Prelude.{◌≡◌, Bool, true, false, ◌&&◌, IsTrue, List, [], ◌∷◌, Option, Some, None}
use Rattle.std.specs.List.{list_any, find}
use Rattle.std.specs.Option.{option_map}
use Rattle.sk_msg.specs.States.{is_state}
use Rattle.sk_msg.specs.declared.state.State.{State}
use Rattle.sk_msg.specs.declared.state.State.TheVariants.{Invalid, ServicesCreated, CommunicationInitializing, CommunicationInitialized, ReadyToRun, Running, Paused, Stopping, Stopped, Error, ShuttingDown, Shutdown, Aborting}
use Rattle.sk_msg.specs.declared.command.Command.{Command}
use Rattle.sk_msg.specs.declared.command.Command.TheVariants.{Pause, Continue, Stop, ReportError, Abort}

-- an edge: from which state it leads to which, and by which command, where one asks for it
pub record Edge : Type 0 where
  pub from : State
  pub command : Option Command
  pub to : State

-- an edge that no command asks for
abbrev pub free : State → State → Edge
free from to = record { from = from; command = None; to = to }

-- an edge that this command asks for
abbrev pub asked : State → Command → State → Edge
asked from command to = record { from = from; command = Some command; to = to }

-- in the order of the numbers of the states where they start; of one state the way on first, then Error and Aborting
abbrev pub edges : List Edge
edges =
    free Invalid ServicesCreated
    ∷ free ServicesCreated CommunicationInitializing
    ∷ asked ServicesCreated ReportError Error
    ∷ asked ServicesCreated Abort Aborting
    ∷ free CommunicationInitializing CommunicationInitialized
    ∷ asked CommunicationInitializing ReportError Error
    ∷ asked CommunicationInitializing Abort Aborting
    ∷ free CommunicationInitialized ReadyToRun
    ∷ asked CommunicationInitialized ReportError Error
    ∷ asked CommunicationInitialized Abort Aborting
    ∷ free ReadyToRun Running
    ∷ asked ReadyToRun ReportError Error
    ∷ asked ReadyToRun Abort Aborting
    ∷ asked Running Pause Paused
    ∷ asked Running Stop Stopping
    ∷ asked Running ReportError Error
    ∷ asked Running Abort Aborting
    ∷ asked Paused Continue Running
    ∷ asked Paused Stop Stopping
    ∷ asked Paused ReportError Error
    ∷ asked Paused Abort Aborting
    ∷ free Stopping Stopped
    ∷ asked Stopping ReportError Error
    ∷ asked Stopping Abort Aborting
    ∷ free Stopped ShuttingDown
    ∷ asked Stopped ReportError Error
    ∷ asked Stopped Abort Aborting
    ∷ asked Error Abort Aborting
    ∷ free ShuttingDown Shutdown
    ∷ free Aborting Shutdown
    ∷ []

-- the commands are the same
abbrev pub is_command : Command → Command → Bool
is_command Pause Pause = true
is_command Continue Continue = true
is_command Stop Stop = true
is_command ReportError ReportError = true
is_command Abort Abort = true
is_command _ _ = false

-- this command asks for the edge
abbrev pub is_asked_by : Command → Option Command → Bool
is_asked_by command None = false
is_asked_by command (Some other) = is_command command other

-- an edge leads from the one state to the other
unfoldable pub has_edge : State → State → Bool
has_edge from to = list_any (λ edge. is_state edge.from from && is_state edge.to to) edges

-- an edge of this command does
unfoldable pub has_edge_of : Command → State → State → Bool
has_edge_of command from to =
    list_any (λ edge. is_state edge.from from && (is_asked_by command edge.command && is_state edge.to to)) edges

-- where a command leads from a state; none where the state has no edge of it
unfoldable pub led_to : State → Command → Option State
led_to from command =
    option_map (λ edge. edge.to) (find (λ edge. is_state edge.from from && is_asked_by command edge.command) edges)

-- ## Walks

-- from this state each of these is reached by an edge from the one before it
abbrev pub IsPath : State → List State → Type 0
IsPath from [] = Unit {0}
IsPath from (to ∷ states) = IsTrue (has_edge from to) × IsPath to states

-- starts with ServicesCreated and goes on by edges
abbrev pub IsWalk : List State → Type 0
IsWalk [] = ⊥
IsWalk (first ∷ states) = (first ≡ ServicesCreated) × IsPath first states
