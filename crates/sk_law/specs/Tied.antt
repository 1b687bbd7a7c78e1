-- What ties the counters of a journal to its entries.
use Rattle.std.specs.Prelude.{position, IfSome, IsTrue, ◌^◌, filter, not, ◌&&◌, ◌≡◌, ℕ, ◌+◌, ◌<◌, ◌≤◌, ◌==◌, min, Bool, true, List, [], ◌∷◌, ◌++◌, length, drop, map, slice_index_or, slice_set, nat_lt, Option, Some, None, false, is_none, replicate, if◌then◌else◌}
use Rattle.std.specs.List.{fold, flat_map, list_any, range_with_len}
use Rattle.std.specs.Option.{option_map}
use Rattle.std.specs.Str.{bytes_eq}
use Rattle.sk_msg.specs.declared.content.Content.{Content}
use Rattle.sk_msg.specs.declared.content.Content.TheVariants.{Status}
use Rattle.sk_msg.specs.declared.entry.Entry.{Entry}
use Rattle.sk_msg.specs.declared.entry.Entry.TheVariants.{Got, Put, Hand, Begin, Ask, Gone, Stray, Did, Fault}
use Rattle.sk_msg.specs.declared.state.State.{State}
use Rattle.sk_msg.specs.declared.state.State.TheVariants.{Invalid}
use Rattle.sk_msg.specs.Rules.{is_step_size}
use Rattle.sk_pubsub.specs.Announcing.{Announcing, announced_by}
use Rattle.sk_system.specs.View.{View}
use Rattle.sk_law.specs.declared.setup.Setup.{Setup}
use Rattle.sk_law.specs.declared.memory.ServiceState.{ServiceState}
use Rattle.sk_law.specs.declared.memory.ServiceState.TheVariants as states
use Rattle.sk_law.specs.Counted.{are_calls, calls_made}
use Rattle.sk_law.specs.Order.{said_of, said_after, is_coordinated, untils_of, status_of, services_of}
use Rattle.sk_law.specs.Readings.{last_begun, open_step, state_of, is_gone, got, put}
use Rattle.sk_law.specs.Links.{Seen, Taken, unseen, seen_after, of_peer, is_peer, peers, required_by, workflow_in, own_name}
use Rattle.sk_law.specs.declared.line.Line.{Line}
use Rattle.sk_law.specs.declared.tally.Tally.{Tally}
use Rattle.sk_law.specs.Tallies.{tally_of}

-- ## What is kept of each number

-- how many there are: the participants, then the tools
abbrev pub all_of : Setup → List (List ℕ) → ℕ
all_of S tools = length S.names + length tools

-- what these entries show
abbrev pub seen_in : Setup → List (List ℕ) → List Entry → Seen
seen_in S tools es = fold (seen_after S tools) unseen es

-- the messages that came in order, as they were got
abbrev pub taken_in : Setup → List (List ℕ) → List Entry → List Taken
taken_in S tools es = (seen_in S tools es).taken

-- of one of whom nothing has come, and for whom nothing waits
abbrev pub no_line : Line
no_line = record { gone = false; waiting = []; got = 0; said = said_of [] }

-- of one number, where these came in order and so many were taken out
abbrev pub line_of : List Taken → List ℕ → List Entry → ℕ → Line
line_of taken out es p = record {
  gone = is_gone es p;
  waiting = drop (slice_index_or out p 0) (put es p);
  got = length (got es p);
  said = said_of (of_peer p taken);
}

-- with one message more, which came in order or not
abbrev pub heard_line : Bool → Content → Line → Line
heard_line orderly m line = record line {
  got = line.got + 1;
  said = if orderly then said_after line.said m else line.said;
}

-- what an entry more makes of it
abbrev pub line_after : Bool → ℕ → Line → Entry → Line
line_after orderly p line (Got q m) = if q == p then heard_line orderly m line else line
line_after orderly p line (Put q m) = if q == p then record line { waiting = line.waiting ++ m ∷ [] } else line
line_after orderly p line (Gone q reason) = if q == p then record line { gone = true } else line
line_after orderly p line _ = line

-- the lines with a message more to this number, where there is one
abbrev pub queued : ℕ → Content → List Line → List Line
queued q m lines =
    if nat_lt q (length lines) then slice_set lines q (line_after false q (slice_index_or lines q no_line) (Put q m)) else lines

-- with a message more from this number
abbrev pub heard_lines : Bool → ℕ → Content → List Line → List Line
heard_lines orderly q m lines = slice_set lines q (heard_line orderly m (slice_index_or lines q no_line))

-- ## What is known of the simulation

-- the last known state of one number
abbrev pub known_of : Setup → List Taken → State → ℕ → Option State
known_of S taken state p = if p == S.number then Some state else status_of (of_peer p taken)

-- the names by their numbers
abbrev pub numbered : List (List ℕ) → List (List ℕ) → List (Option ℕ)
numbered all names = map (λ name. position (bytes_eq name) all) names

-- the names that this message is the first to require, where it came in order
abbrev pub first_in : Bool → Option Bool → Content → Option (List (List ℕ))
first_in orderly awaited m = if orderly && is_none awaited then workflow_in m else None

-- these are required now, if any are
abbrev pub with_required : Option (List (Option ℕ)) → View → View
with_required None view = view
with_required (Some numbers) view = record view { required = Some numbers }

-- the state that a peer tells in order
abbrev pub with_state : Setup → Bool → ℕ → Content → View → View
with_state S orderly q (Status state until) view =
    if orderly && is_peer S q then record view { known = slice_set view.known q (Some state) } else view
with_state S orderly q _ view = view

-- whether the own name is among these
abbrev pub own_among : Setup → List (List ℕ) → Bool
own_among S names = list_any (bytes_eq (own_name S)) names

-- steps begin below it: the duration, and each bound that a coordinated peer told
abbrev pub limit_in : Setup → List Taken → ℕ
limit_in S taken = fold min S.duration (if S.coordinated then
    flat_map (λ p. if is_coordinated (of_peer p taken) then untils_of (of_peer p taken) else []) (peers S) else [])

-- a bound that is told by this one counts
abbrev pub bounds : Setup → ℕ → Bool → Bool
bounds S q coordinated = S.coordinated && (is_peer S q && coordinated)

-- with a message more, which came in order or not, of one who is coordinated or not
abbrev pub limit_after : Setup → Bool → ℕ → Bool → Content → ℕ → ℕ
limit_after S orderly q coordinated (Status state until) limit =
    if orderly && (bounds S q coordinated && not (until == 0)) then min limit until else limit
limit_after S orderly q coordinated _ limit = limit

-- names that the simulation needs: their numbers, and whether the own name is among them
pub record Needed : Type 0 where
  pub numbers : List (Option ℕ)
  pub own : Bool

-- of these names
abbrev pub needed_of : Setup → List (List ℕ) → Needed
needed_of S names = record { numbers = numbered S.names names; own = own_among S names }

-- ## All together

-- a step that may be begun is early enough that its end is a time
abbrev pub MayEnter : ℕ → Entry → Type 0
MayEnter all (Got q m) = q < all
MayEnter all (Gone q reason) = q < all
MayEnter all (Begin n t) = t ≤ 2 ^ 61
MayEnter all _ = Unit {0}

pub record Tied (S : Setup) (tools : List (List ℕ)) (out : List ℕ) (es : List Entry) (tally : Tally) (lines : List Line) (view : View) (awaited : Option Bool) (limit : ℕ) : Type 0 where
  pub own : S.number < length S.names
  pub few : length S.names ≤ 32
  pub few_tools : length tools ≤ 4
  pub sized : IfSome S.step (λ size. IsTrue (is_step_size size))
  pub duration : S.duration ≤ 2 ^ 61
  pub early : IfSome (last_begun es) (λ step. step.time ≤ 2 ^ 61)
  pub open_early : IfSome (open_step es) (λ step. step.time ≤ 2 ^ 61)
  pub tally_is : tally ≡ tally_of es
  pub all_lines : length lines ≡ all_of S tools
  pub all_out : length out ≡ all_of S tools
  pub line : (p : ℕ) → p < all_of S tools → slice_index_or lines p no_line ≡ line_of (taken_in S tools es) out es p
  pub within : (p : ℕ) → p < all_of S tools → slice_index_or out p 0 ≤ length (put es p)
  -- of other numbers nothing was got, and none of them is gone
  pub no_gone : (p : ℕ) → all_of S tools ≤ p → is_gone es p ≡ false
  pub no_got : (p : ℕ) → all_of S tools ≤ p → got es p ≡ []
  pub all_known : length view.known ≡ length S.names
  pub known : (p : ℕ) → p < length S.names → slice_index_or view.known p None ≡ known_of S (taken_in S tools es) (state_of es) p
  pub required : view.required ≡ option_map (numbered S.names) (required_by S (taken_in S tools es))
  pub awaited_is : awaited ≡ option_map (own_among S) (required_by S (taken_in S tools es))
  pub limit_is : limit ≡ limit_in S (taken_in S tools es)

-- what is kept of the own services, and of those that the peers announced
pub record Served (S : Setup) (tools : List (List ℕ)) (services : List ServiceState) (es : List Entry) (index : Announcing) : Type 0 where
  pub own_is : index.own ≡ S.services
  pub announced : (p : ℕ) → announced_by index p ≡ services_of (of_peer p (taken_in S tools es))
  -- each action makes one call at most
  pub counted : (s : ℕ) → calls_made (slice_index_or services s states.Subscriber) ≤ length es
  -- each open call came in a message
  pub called : (s : ℕ) → are_calls (slice_index_or services s states.Subscriber) ≡ true
  pub marked : IfSome (open_step es) (λ step. step.number ≤ 2 ^ 63)

-- all that a journal keeps beside its entries
pub record AllTied (S : Setup) (tools : List (List ℕ)) (services : List ServiceState) (out : List ℕ) (es : List Entry) (tally : Tally) (lines : List Line) (index : Announcing) (view : View) (awaited : Option Bool) (limit : ℕ) : Type 0 where
  pub tied : Tied S tools out es tally lines view awaited limit
  pub served : Served S tools services es index

-- an entry on which no counter hangs
abbrev pub IsPlain : Entry → Type 0
IsPlain (Hand p k r) = Unit {0}
IsPlain (Ask c v) = Unit {0}
IsPlain (Did s c m) = Unit {0}
IsPlain (Fault n) = Unit {0}
IsPlain (Stray n) = Unit {0}
IsPlain _ = ⊥

-- ## Before the first entry

-- the own state is Invalid, and required is whom the setup names
abbrev pub first_view : Setup → View
first_view S = record {
  required = option_map (numbered S.names) S.required;
  known = slice_set (replicate (length S.names) None) S.number (Some Invalid);
}

-- ## Readers over the numbers

-- each number below a limit but the own one and those that are gone
abbrev pub here_in : List Line → ℕ → ℕ → List ℕ
here_in lines own limit = filter (λ p. not (p == own) && not (slice_index_or lines p no_line).gone) (range_with_len 0 limit)
