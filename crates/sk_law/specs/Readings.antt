-- What a journal says by itself: each is a filter or a fold of its entries, from the first to the last.
use Rattle.std.specs.Prelude.{ℕ, ◌+◌, ◌==◌, Bool, true, false, List, length, Option, Some, None, if◌then◌else◌}
use Rattle.std.specs.List.{fold, filter_map, list_any, count_by, sum_by}
use Rattle.sk_msg.specs.declared.content.Content.{Content}
use Rattle.sk_msg.specs.declared.entry.Entry.{Entry}
use Rattle.sk_msg.specs.declared.entry.Entry.TheVariants.{Got, Put, State as Entered, System as Judged, Begin, Done, End, Gone, Stray}
use Rattle.sk_msg.specs.declared.head.Head.{Head}
use Rattle.sk_msg.specs.declared.state.State.{State}
use Rattle.sk_msg.specs.declared.state.State.TheVariants.{Invalid, Running}
use Rattle.sk_msg.specs.States.{is_state}
use Rattle.sk_law.specs.declared.memory.Begun.{Begun}
use Rattle.sk_law.specs.Order.{carried}

-- ## States

-- with one entry more
abbrev pub state_after : State → Entry → State
state_after state (Entered to) = to
state_after state _ = state

-- the last state; Invalid before the first
abbrev pub state_of : List Entry → State
state_of es = fold state_after Invalid es

-- with one entry more
abbrev pub system_after : State → Entry → State
system_after state (Judged to) = to
system_after state _ = state

-- the last system state; Invalid before the first
abbrev pub system_told : List Entry → State
system_told es = fold system_after Invalid es

-- the state of a State
abbrev pub state_in : Entry → Option State
state_in (Entered state) = Some state
state_in _ = None

-- all states, in order
abbrev pub states : List Entry → List State
states es = filter_map state_in es

-- Running is entered
abbrev pub is_running_entry : Entry → Bool
is_running_entry (Entered state) = is_state Running state
is_running_entry _ = false

-- Running was entered
abbrev pub has_run : List Entry → Bool
has_run es = list_any is_running_entry es

-- ## Messages

-- the message of a Got of this peer
abbrev pub got_from : ℕ → Entry → Option Content
got_from p (Got q m) = if q == p then Some m else None
got_from p _ = None

-- the message of a Put to it
abbrev pub put_to : ℕ → Entry → Option Content
put_to p (Put q m) = if q == p then Some m else None
put_to p _ = None

-- the messages that were got from a peer
abbrev pub got : List Entry → ℕ → List Content
got es p = filter_map (got_from p) es

-- those that were put to it
abbrev pub put : List Entry → ℕ → List Content
put es p = filter_map (put_to p) es

-- its Gone
abbrev pub is_gone_entry : ℕ → Entry → Bool
is_gone_entry p (Gone q reason) = q == p
is_gone_entry p _ = false

-- its link is gone
abbrev pub is_gone : List Entry → ℕ → Bool
is_gone es p = list_any (is_gone_entry p) es

-- why the link of a peer or tool is gone
abbrev pub gone_of : ℕ → Entry → Option ℕ
gone_of p (Gone q reason) = if q == p then Some reason else None
gone_of p _ = None

-- all of them, in order
abbrev pub gones : List Entry → ℕ → List ℕ
gones es p = filter_map (gone_of p) es

-- the payload bytes of an entry
abbrev pub payload_in : Entry → ℕ
payload_in (Got p m) = length (carried m)
payload_in (Put p m) = length (carried m)
payload_in _ = 0

-- the payload bytes that were got and put
abbrev pub payload : List Entry → ℕ
payload es = sum_by payload_in es

-- ## Steps

-- with one entry more
abbrev pub begun_after : Option Begun → Entry → Option Begun
begun_after last (Begin n t) = Some (record { number = n; time = t })
begun_after last _ = last

-- the last step that was begun
abbrev pub last_begun : List Entry → Option Begun
last_begun es = fold begun_after None es

-- with one entry more
abbrev pub open_after : Option Begun → Entry → Option Begun
open_after last (Begin n t) = Some (record { number = n; time = t })
open_after last (End n) = None
open_after last _ = last

-- the last step that was begun, where no End follows it
abbrev pub open_step : List Entry → Option Begun
open_step es = fold open_after None es

-- a step begins
abbrev pub is_begin : Entry → Bool
is_begin (Begin n t) = true
is_begin _ = false

-- the number of the next step: one more than were begun
abbrev pub next_number : List Entry → ℕ
next_number es = count_by is_begin es + 1

-- one size behind the last step, and 0 before the first
abbrev pub time_after : ℕ → Option Begun → ℕ
time_after size None = 0
time_after size (Some last) = last.time + size

-- the time of the next step: 0, then one size later with each step that was begun
abbrev pub next_time : ℕ → List Entry → ℕ
next_time size es = time_after size (last_begun es)

-- a data message is stamped with the time of the last step that was begun, or 0, and marked with the number of the open
-- step, or 0
abbrev pub stamp : List Entry → ℕ
stamp es = time_after 0 (last_begun es)

-- 0 where there is none
abbrev pub number_of : Option Begun → ℕ
number_of None = 0
number_of (Some last) = last.number

-- the number of the open step, or 0
abbrev pub mark : List Entry → ℕ
mark es = number_of (open_step es)

-- the head of a data message of this service
abbrev pub head : ℕ → ℕ → ℕ → Head
head service stamp mark = record { service = service; stamp = stamp; mark = mark }

-- the head of a data message that this service sends now
abbrev pub head_at : ℕ → List Entry → Head
head_at service es = head service (stamp es) (mark es)

-- ## Completions

-- the completion of the ready handler
abbrev pub is_ready_done : Entry → Bool
is_ready_done (Done n) = n == 0
is_ready_done _ = false

-- the asynchronous ready handler was completed
abbrev pub has_completed_ready : List Entry → Bool
has_completed_ready es = list_any is_ready_done es

-- none where it is this number
abbrev pub without_number : ℕ → Option ℕ → Option ℕ
without_number n None = None
without_number n (Some m) = if m == n then None else Some m

-- a completion brings Done or Stray with its number
abbrev pub step_awaited_after : Option ℕ → Entry → Option ℕ
step_awaited_after last (Begin n t) = Some n
step_awaited_after last (Done n) = without_number n last
step_awaited_after last (Stray n) = without_number n last
step_awaited_after last _ = last

-- the last step that was begun, where no completion with its number came behind it
abbrev pub step_awaited : List Entry → Option ℕ
step_awaited es = fold step_awaited_after None es
