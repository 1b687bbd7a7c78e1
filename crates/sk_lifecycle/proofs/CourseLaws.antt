-- What each call does is along an edge.
use Rattle.std.proofs.Common.{◌≡◌, Bool, true, false, cond, List, [], ◌∷◌, ◌++◌, Option, Some, None, refl}
use Rattle.std.specs.Prelude.{◌&&◌, option_to_list}
use Rattle.std.specs.Bool.{then_some, beq}
use Rattle.std.specs.List.{list_all}
use Rattle.sk_msg.specs.States.{is_state}
use Rattle.sk_msg.specs.Edges.{has_edge, has_edge_of, IsPath}
use Rattle.sk_msg.specs.declared.command.Command.{Command}
use Rattle.sk_msg.specs.declared.state.State.{State}
use Rattle.sk_msg.specs.declared.state.State.TheVariants.{Invalid, ServicesCreated, CommunicationInitializing, CommunicationInitialized, ReadyToRun, Running, Paused, Stopping, Stopped, Error, ShuttingDown, Shutdown, Aborting}
use Rattle.sk_lifecycle.proofs.EdgeLaws.{led_to-edge, led_to-none, has_edge_of-edge, all_commands, each_command}
use Rattle.sk_lifecycle.proofs.StateLaws.{all_states, each_pair, beq-same}
use Rattle.sk_lifecycle.specs.declared.known.Known.{Known}
use Rattle.sk_lifecycle.specs.Course.{Course, Call, Ask, Enter, Advance, chain_row, goes_to, moved, after_call, after_calls, passed, last_of, asks_for}

pub ruleset answers = (led_to-edge, led_to-none)

row_edge : (wait : Bool) (from to there : State) → has_edge from there ≡ true → then_some wait there ≡ Some to → has_edge from to ≡ true
row_edge true from to there edge is = let same : there ≡ to = cc in rw (← same) edge
row_edge false from to there edge is = absurd cc

pub chain_row-edge : (coordinated : Bool) (reached : State → Bool) (known : Known) (from to : State) → chain_row coordinated reached known from ≡ Some to → has_edge from to ≡ true
unfolding chain_row is_state has_edge
chain_row-edge coordinated reached known ServicesCreated to is = row_edge _ ServicesCreated to CommunicationInitializing refl is
chain_row-edge coordinated reached known CommunicationInitializing to is = row_edge _ CommunicationInitializing to CommunicationInitialized refl is
chain_row-edge coordinated reached known CommunicationInitialized to is = row_edge _ CommunicationInitialized to ReadyToRun refl is
chain_row-edge coordinated reached known ReadyToRun to is = row_edge _ ReadyToRun to Running refl is
chain_row-edge coordinated reached known Running to is = row_edge _ Running to Stopping refl is
chain_row-edge coordinated reached known Stopping to is = row_edge _ Stopping to Stopped refl is
chain_row-edge coordinated reached known Stopped to is = row_edge _ Stopped to ShuttingDown refl is
chain_row-edge coordinated reached known ShuttingDown to is = row_edge true ShuttingDown to Shutdown refl is
chain_row-edge coordinated reached known Invalid to is = absurd cc
chain_row-edge coordinated reached known Paused to is = absurd cc
chain_row-edge coordinated reached known Error to is = absurd cc
chain_row-edge coordinated reached known Shutdown to is = absurd cc
chain_row-edge coordinated reached known Aborting to is = absurd cc

pub ruleset row_edges = (chain_row-edge)

-- ## Walks

goes-edge : (course : Course) (call : Call) (to : State) → goes_to course call ≡ Some to → has_edge course.state to ≡ true
goes-edge course (Ask command) to is =
    has_edge_of-edge command course.state to (led_to-edge course.state command to is)
goes-edge course (Enter there) to is = split (has_edge course.state there) refl is
  where
    split : (edge : Bool) → has_edge course.state there ≡ edge → cond edge (Some there) None ≡ Some to → has_edge course.state to ≡ true
    split true edge is = let same : there ≡ to = cc in rw (← same) edge
    split false edge is = absurd cc
goes-edge course (Advance reached known) to is =
    chain_row-edge course.coordinated reached known course.state to is

-- one call, and a path from where it leads
path_from : (course : Course) (call : Call) (calls : List Call) (to : Option State) → goes_to course call ≡ to
    → IsPath (moved course to).state (passed (moved course to) calls) → IsPath course.state (option_to_list to ++ passed (moved course to) calls)
path_from course call calls None is path = path
path_from course call calls (Some to) is path = (goes-edge course call to is, path)

pub passed_path : (course : Course) (calls : List Call) → IsPath course.state (passed course calls)
passed_path course [] = tt
passed_path course (call ∷ calls) =
    path_from course call calls (goes_to course call) refl (passed_path (after_call course call) calls)

last_from : (course : Course) (to : Option State) (states : List State) (end : State) → last_of (moved course to).state states ≡ end → last_of course.state (option_to_list to ++ states) ≡ end
last_from course None states end is = is
last_from course (Some to) states end is = is

pub last_of-passed : (course : Course) (calls : List Call) → last_of course.state (passed course calls) ≡ (after_calls course calls).state
last_of-passed course [] = refl
last_of-passed course (call ∷ calls) =
    last_from course (goes_to course call) _ _ (last_of-passed (after_call course call) calls)

-- ## Commands

pub has_edge_of-words : (command : Command) (from to : State) → has_edge_of command from to ≡ (has_edge from to && asks_for command from to)
unfolding is_state has_edge has_edge_of
has_edge_of-words command from to =
    beq-same _ _ (each_pair (λ a b. beq (has_edge_of command a b) (has_edge a b && asks_for command a b))
    (each_command (λ c. list_all (λ a. list_all (λ b. beq (has_edge_of c a b) (has_edge a b && asks_for c a b)) all_states) all_states) refl command) from to)
