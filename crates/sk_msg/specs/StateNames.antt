-- What states are called in texts.
use Rattle.std.specs.Prelude.{ℕ, List, codes}
use Rattle.sk_msg.specs.declared.state.State.{State}
use Rattle.sk_msg.specs.declared.state.State.TheVariants.{Invalid, ServicesCreated, CommunicationInitializing, CommunicationInitialized, ReadyToRun, Running, Paused, Stopping, Stopped, Error, ShuttingDown, Shutdown, Aborting}

-- the name of each state, in ASCII
unfoldable pub state_name : State → List ℕ
state_name Invalid = codes "Invalid"
state_name ServicesCreated = codes "ServicesCreated"
state_name CommunicationInitializing = codes "CommunicationInitializing"
state_name CommunicationInitialized = codes "CommunicationInitialized"
state_name ReadyToRun = codes "ReadyToRun"
state_name Running = codes "Running"
state_name Paused = codes "Paused"
state_name Stopping = codes "Stopping"
state_name Stopped = codes "Stopped"
state_name Error = codes "Error"
state_name ShuttingDown = codes "ShuttingDown"
state_name Shutdown = codes "Shutdown"
state_name Aborting = codes "Aborting"
