-- What is known of the others: of each by the messages of it that came in order.
use Rattle.std.specs.Prelude.{ℕ, ◌+◌, ◌==◌, nat_lt, nat_le, min, Bool, true, false, not, ◌&&◌, ◌||◌, List, [], ◌∷◌, ◌++◌, length, filter, Option, Some, None, slice_get, slice_index_or, position, option_and_then, if◌then◌else◌}
use Rattle.std.specs.List.{fold, filter_map, flat_map, list_any, list_all, range_with_len}
use Rattle.std.specs.Option.{option_or}
use Rattle.std.specs.Str.{bytes_eq}
use Rattle.sk_msg.specs.declared.content.Content.{Content}
use Rattle.sk_msg.specs.declared.content.Content.TheVariants.{Workflow, NextStep}
use Rattle.sk_msg.specs.declared.state.State.{State}
use Rattle.sk_msg.specs.declared.state.State.TheVariants.{Invalid, ServicesCreated, CommunicationInitializing, CommunicationInitialized}
use Rattle.sk_system.specs.System.{system_state, all_required_reached}
use Rattle.sk_msg.specs.declared.entry.Entry.{Entry}
use Rattle.sk_msg.specs.declared.entry.Entry.TheVariants.{Got, State as Entered}
use Rattle.sk_law.specs.declared.said.Said.{Said}
use Rattle.sk_law.specs.declared.setup.Setup.{Setup}
use Rattle.sk_law.specs.Past.{Past}
use Rattle.sk_law.specs.Readings.{state_of, is_gone}
use Rattle.sk_law.specs.Order.{may_say, said_of, has_hello, has_left, is_synchronised, is_coordinated, announced_of, status_of, untils_of}

-- ## Numbers: the participants of the names, then the tools as they were added

-- another participant
abbrev pub is_peer : Setup → ℕ → Bool
is_peer S p = nat_lt p (length S.names) && not (p == S.number)

-- an added tool
abbrev pub is_tool : Setup → Past → ℕ → Bool
is_tool S past p = nat_le (length S.names) p && nat_lt p (length S.names + length past.memory.tools)

-- of the numbers below this one those of others whose link isn't gone
abbrev pub others_below : Setup → List Entry → ℕ → List ℕ
others_below S es n = filter (λ p. not (p == S.number) && not (is_gone es p)) (range_with_len 0 n)

-- the peers
abbrev pub peers : Setup → List ℕ
peers S = filter (λ p. not (p == S.number)) (range_with_len 0 (length S.names))

-- the tools
abbrev pub tools : Setup → Past → List ℕ
tools S past = range_with_len (length S.names) (length past.memory.tools)

-- each peer that isn't gone; also one that has left
abbrev pub reached : Setup → Past → List ℕ
reached S past = others_below S past.journal (length S.names)

-- each peer and tool that isn't gone
abbrev pub told : Setup → Past → List ℕ
told S past = others_below S past.journal (length S.names + length past.memory.tools)

-- ## Messages in order

-- a message that came in order, and of whom
pub record Taken : Type 0 where
  pub peer : ℕ
  pub message : Content

-- the message, where it is of this one
abbrev pub taken_of : ℕ → Taken → Option Content
taken_of p one = if one.peer == p then Some one.message else None

-- of these those of one peer or tool
abbrev pub of_peer : ℕ → List Taken → List Content
of_peer p taken = filter_map (taken_of p) taken

-- what a journal shows up to a point: the own state, and the messages that came in order
pub record Seen : Type 0 where
  pub state : State
  pub taken : List Taken

-- the names in a Workflow
abbrev pub workflow_in : Content → Option (List (List ℕ))
workflow_in (Workflow names) = Some names
workflow_in _ = None

-- the same of a message that came in order
abbrev pub required_in : Taken → Option (List (List ℕ))
required_in one = workflow_in one.message

-- whom the simulation needs: as the setup says, else as the first Workflow
abbrev pub required_by : Setup → List Taken → Option (List (List ℕ))
required_by S taken = option_or S.required (slice_get (filter_map required_in taken) 0)

-- the name is among those, where they are known
abbrev pub is_among : List ℕ → Option (List (List ℕ)) → Bool
is_among name None = false
is_among name (Some names) = list_any (bytes_eq name) names

-- the name of the participant
abbrev pub own_name : Setup → List ℕ
own_name S = slice_index_or S.names S.number []

-- on the chain before ReadyToRun
abbrev pub is_early : State → Bool
is_early ServicesCreated = true
is_early CommunicationInitializing = true
is_early CommunicationInitialized = true
is_early _ = false

-- a coordinated, required participant before ReadyToRun: no coordinated peer goes on to Running without it
unfoldable pub is_awaited : Setup → Seen → Bool
is_awaited S seen = S.coordinated && (is_early seen.state && is_among (own_name S) (required_by S seen.taken))

-- NextStep of a coordinated peer: it has gone on to Running
abbrev pub shows_running : List Content → Content → Bool
shows_running before (NextStep at duration) = is_coordinated before
shows_running before _ = false

-- the one of this name, a tool or a peer, may say this after what it said; a number without a name says nothing
abbrev pub may_say_as : Option (List ℕ) → Bool → List Content → Content → Bool
may_say_as None tool before m = false
may_say_as (Some name) tool before m = may_say tool name (said_of before) m

-- the one of this number may say this after what was seen: after what came in order of it, and no coordinated peer
-- announces a step while it must still wait for this participant
unfoldable pub is_in_order : Setup → List (List ℕ) → Seen → ℕ → Content → Bool
is_in_order S tools seen p m =
    may_say_as (slice_get (S.names ++ tools) p) (nat_le (length S.names) p) (of_peer p seen.taken) m
    && not (is_awaited S seen && shows_running (of_peer p seen.taken) m)

-- one message more that came in order
abbrev pub take_in : ℕ → Content → Seen → Seen
take_in p m seen = record seen { taken = seen.taken ++ record { peer = p; message = m } ∷ [] }

-- one entry more
abbrev pub seen_after : Setup → List (List ℕ) → Seen → Entry → Seen
seen_after S tools seen (Got p m) = if is_in_order S tools seen p m then take_in p m seen else seen
seen_after S tools seen (Entered to) = record seen { state = to }
seen_after S tools seen _ = seen

-- before the first entry
abbrev pub unseen : Seen
unseen = record { state = Invalid; taken = [] }

-- all that a journal shows
abbrev pub seen : Setup → Past → Seen
seen S past = fold (seen_after S past.memory.tools) unseen past.journal

-- the messages that came in order, as they were got
abbrev pub taken : Setup → Past → List Taken
taken S past = (seen S past).taken

-- those of one peer or tool
abbrev pub from : Setup → Past → ℕ → List Content
from S past p = of_peer p (taken S past)

-- what one of them has said
abbrev pub said : Setup → Past → ℕ → Said
said S past p = said_of (from S past p)

-- this message of p, got now, comes in order
abbrev pub comes_in_order : Setup → Past → ℕ → Content → Bool
comes_in_order S past p m = is_in_order S past.memory.tools (seen S past) p m

-- it has neither left nor gone
abbrev pub is_here : Setup → Past → ℕ → Bool
is_here S past p = not (is_gone past.journal p) && not (has_left (from S past p))

-- its link is open: it is a peer or an added tool that has neither left nor gone
abbrev pub is_open : Setup → Past → ℕ → Bool
is_open S past p = (is_peer S p || is_tool S past p) && is_here S past p

-- a tool is linked
abbrev pub has_tool : Setup → Past → Bool
has_tool S past = list_any (λ t. is_here S past t) (tools S past)

-- Hello of each peer was got
abbrev pub knows_all : Setup → Past → Bool
knows_all S past = list_all (λ p. has_hello (from S past p)) (peers S)

-- those that are synchronised
abbrev pub synchronised : Setup → Past → List ℕ
synchronised S past = filter (λ p. is_synchronised (from S past p)) (peers S)

-- this time or a later one
abbrev pub has_announced : ℕ → Option ℕ → Bool
has_announced at None = false
has_announced at (Some time) = nat_le at time

-- each peer that is synchronised and present has announced this time or a later one
abbrev pub all_announced : Setup → Past → ℕ → Bool
all_announced S past at =
    list_all (λ p. not (is_here S past p) || has_announced at (announced_of (from S past p))) (synchronised S past)

-- ## The simulation

-- whom the simulation needs, as far as it is known
abbrev pub required : Setup → Past → Option (List (List ℕ))
required S past = required_by S (taken S past)

-- the last known state of a participant
abbrev pub known_state : Setup → Past → ℕ → Option State
known_state S past p = if p == S.number then Some (state_of past.journal) else status_of (from S past p)

-- by its name
abbrev pub known : Setup → Past → List ℕ → Option State
known S past name = option_and_then (known_state S past) (position (bytes_eq name) S.names)

-- the state of the whole simulation
unfoldable pub system : Setup → Past → State
system S past = system_state (required S past) (known S past)

-- all required have reached this state; asked of a coordinated participant alone
unfoldable pub all_reached : Setup → Past → State → Bool
all_reached S past goal = not S.coordinated || all_required_reached (required S past) (known S past) goal

-- the bounds that coordinated peers told
abbrev pub untils : Setup → Past → List ℕ
untils S past = flat_map (λ p. if is_coordinated (from S past p) then untils_of (from S past p) else []) (peers S)

-- steps begin below it: the duration, and of a coordinated participant each bound that was told
unfoldable pub limit : Setup → Past → ℕ
limit S past = fold min S.duration (if S.coordinated then untils S past else [])
