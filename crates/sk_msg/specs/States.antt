-- The states of a participant: their numbers, the chain from the start to the end, and what a state has reached.
use Rattle.std.specs.Prelude.{ℕ, Bool, List, [], ◌∷◌, position, Option, Some, None, ◌==◌, if◌then◌else◌}
use Rattle.std.specs.List.{list_any}
use Rattle.sk_msg.specs.declared.state.State.{State}
use Rattle.sk_msg.specs.declared.state.State.TheVariants.{Invalid, ServicesCreated, CommunicationInitializing, CommunicationInitialized, ReadyToRun, Running, Paused, Stopping, Stopped, Error, ShuttingDown, Shutdown, Aborting}

-- ## Numbers

-- the number by which a state goes
abbrev pub state_number : State → ℕ
state_number Invalid = 0
state_number ServicesCreated = 10
state_number CommunicationInitializing = 20
state_number CommunicationInitialized = 30
state_number ReadyToRun = 40
state_number Running = 50
state_number Paused = 60
state_number Stopping = 70
state_number Stopped = 80
state_number Error = 90
state_number ShuttingDown = 100
state_number Shutdown = 110
state_number Aborting = 120

-- the state of a number; none of any other number
abbrev pub state_of : ℕ → Option State
state_of n =
    if n == 0 then Some Invalid else
    if n == 10 then Some ServicesCreated else
    if n == 20 then Some CommunicationInitializing else
    if n == 30 then Some CommunicationInitialized else
    if n == 40 then Some ReadyToRun else
    if n == 50 then Some Running else
    if n == 60 then Some Paused else
    if n == 70 then Some Stopping else
    if n == 80 then Some Stopped else
    if n == 90 then Some Error else
    if n == 100 then Some ShuttingDown else
    if n == 110 then Some Shutdown else
    if n == 120 then Some Aborting else None

-- the states are the same
unfoldable pub is_state : State → State → Bool
is_state a b = state_number a == state_number b

-- ## The chain

-- the states in the order in which a participant without a fault goes through them
abbrev pub chain : List State
chain =
    ServicesCreated ∷ CommunicationInitializing ∷ CommunicationInitialized ∷ ReadyToRun ∷ Running ∷ Stopping ∷ Stopped ∷ ShuttingDown ∷ Shutdown ∷ []

-- Paused counts as Running
abbrev pub counted : State → State
counted Paused = Running
counted state = state

-- these states from this one on; none where it isn't among them
abbrev pub from_on : State → List State → List State
from_on goal [] = []
from_on goal (state ∷ states) = if is_state goal state then state ∷ states else from_on goal states

-- A state has reached a state of the chain where it stands there or further on. So Invalid, Error and Aborting have
-- reached nothing, and nothing has reached them.
unfoldable pub has_reached : State → State → Bool
has_reached state goal = list_any (is_state (counted state)) (from_on (counted goal) chain)

-- the place in the chain, from 0, by which the code compares
unfoldable pub chain_place : State → Option ℕ
chain_place state = position (is_state (counted state)) chain
