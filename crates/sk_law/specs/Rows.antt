-- What a participant does by itself next.
use Rattle.std.specs.Prelude.{ℕ, nat_lt, nat_le, Bool, false, not, ◌&&◌, ◌||◌, List, [], ◌∷◌, ◌++◌, Option, Some, None, is_none, option_to_list, if◌then◌else◌}
use Rattle.std.specs.Bool.{then_some}
use Rattle.std.specs.List.{list_all}
use Rattle.std.specs.Option.{option_map, option_or}
use Rattle.sk_msg.specs.declared.state.State.{State}
use Rattle.sk_msg.specs.declared.state.State.TheVariants.{Invalid, ServicesCreated, CommunicationInitializing, CommunicationInitialized, ReadyToRun, Running, Paused, Stopping, Stopped, Error, ShuttingDown, Shutdown, Aborting}
use Rattle.sk_msg.specs.States.{has_reached}
use Rattle.sk_law.specs.declared.setup.Setup.{Setup}
use Rattle.sk_law.specs.Order.{has_ended, has_left, status_of}
use Rattle.sk_law.specs.Past.{Past}
use Rattle.sk_law.specs.Readings.{state_of, open_step, next_time, has_completed_ready, step_awaited}
use Rattle.sk_law.specs.Links.{from, peers, knows_all, synchronised, all_announced, all_reached, limit, has_tool}

-- what a participant does by itself
pub data Row : Type 0 where
  -- the chain goes on to this state
  Move : State → Row
  -- the ready handler is called
  Ready : Row
  -- a step begins
  Step : Row
  -- a pause count of so many goes down
  Count : ℕ → Row
  -- it asks Abort of itself
  GiveUp : Row

-- ServicesEnd of each peer was got
abbrev pub knows_services : Setup → Past → Bool
knows_services S past = list_all (λ p. has_ended (from S past p)) (peers S)

-- the ready handler was called, and an asynchronous one was completed
abbrev pub is_ready : Setup → Past → Bool
is_ready S past = past.memory.called && (not S.ready_async || has_completed_ready past.journal)

-- the state has reached Stopping
abbrev pub has_stopped : Option State → Bool
has_stopped None = false
has_stopped (Some state) = has_reached state Stopping

-- each synchronised peer has reached Stopping or has left
abbrev pub are_others_done : Setup → Past → Bool
are_others_done S past = list_all (λ p. has_left (from S past p) || has_stopped (status_of (from S past p))) (synchronised S past)

-- no step is open, and the next one isn't below the limit
abbrev pub is_at_limit : Setup → Past → ℕ → Bool
is_at_limit S past size = is_none (open_step past.journal) && nat_le (limit S past) (next_time size past.journal)

-- by the step size
abbrev pub is_done_by : Setup → Past → Option ℕ → Bool
is_done_by S past None = are_others_done S past
is_done_by S past (Some size) = is_at_limit S past size

-- Running is over: of a synchronised participant where no step is open and the next one isn't below the limit, of another
-- where the others are done
abbrev pub is_done : Setup → Past → Bool
is_done S past = is_done_by S past S.step

-- a step may begin: none is open, its time is below the limit, Hello of each peer was got, and each synchronised peer that
-- is present has announced its time or a later one
abbrev pub may_begin_by : Setup → Past → Option ℕ → Bool
may_begin_by S past None = false
may_begin_by S past (Some size) =
    is_none (open_step past.journal)
    && (nat_lt (next_time size past.journal) (limit S past)
    && (knows_all S past && all_announced S past (next_time size past.journal)))

-- by the setup
unfoldable pub may_begin : Setup → Past → Bool
may_begin S past = may_begin_by S past S.step

-- by the present state, the one thing that comes next, where it may
abbrev pub row_in : Setup → Past → State → Option Row
row_in S past Invalid = None
row_in S past ServicesCreated = then_some (knows_all S past && all_reached S past ServicesCreated) (Move CommunicationInitializing)
row_in S past CommunicationInitializing = then_some (knows_services S past) (Move CommunicationInitialized)
row_in S past CommunicationInitialized =
    if not past.memory.called then Some Ready else
    then_some (is_ready S past && all_reached S past CommunicationInitialized) (Move ReadyToRun)
row_in S past ReadyToRun = then_some (all_reached S past ReadyToRun) (Move Running)
row_in S past Running = option_or (then_some (is_done S past) (Move Stopping)) (then_some (may_begin S past) Step)
row_in S past Paused = option_map (λ count. Count count) past.memory.pause
row_in S past Stopping = then_some (is_none (open_step past.journal)) (Move Stopped)
row_in S past Stopped = then_some (all_reached S past Stopped) (Move ShuttingDown)
row_in S past Error = then_some (not (has_tool S past)) GiveUp
row_in S past ShuttingDown = Some (Move Shutdown)
row_in S past Shutdown = None
row_in S past Aborting = Some (Move Shutdown)

-- at most one row is enabled
unfoldable pub row : Setup → Past → Option Row
row S past = row_in S past (state_of past.journal)

-- nothing comes next by itself
abbrev pub is_quiet : Setup → Past → Bool
is_quiet S past = is_none (row S past)

-- ## Completions that are still to come

-- 0 where a completion of the ready handler is to come
abbrev pub ready_awaited : Setup → Past → List ℕ
ready_awaited S past = if S.ready_async && past.memory.ready_awaited then 0 ∷ [] else []

-- the number of the step of which one is to come
abbrev pub steps_awaited : Setup → Past → List ℕ
steps_awaited S past = if S.is_async then option_to_list (step_awaited past.journal) else []

-- the numbers of the completions that the app has still to give: 0 of an asynchronous ready handler that was called, and
-- that of an asynchronous step whose handler was called
abbrev pub awaited : Setup → Past → List ℕ
awaited S past = ready_awaited S past ++ steps_awaited S past
