-- A CAN controller: the table of its calls, and which frames it sends.
use Rattle.std.specs.Prelude.{ℕ, ◌==◌, ◌^◌, Bool, true, false, not, ◌&&◌, ◌||◌, List, [], ◌∷◌, length, nat_lt, nat_le, Option, Some, None, Result, Ok, Err, if◌then◌else◌}
use Rattle.std.specs.List.{list_any}
use Rattle.sk_msg.specs.Rules.{is_can_frame}
use Rattle.sk_msg.specs.declared.bus.CanFrame.{CanFrame}
use Rattle.sk_can.specs.declared.state.CanState.{CanState}
use Rattle.sk_can.specs.declared.state.CanState.TheVariants.{Uninit, Stopped, Started, Sleep}
use Rattle.sk_can.specs.declared.refused.CanRefused.{CanRefused}
use Rattle.sk_can.specs.declared.refused.CanRefused.TheVariants.{State, BadFrame}
use Rattle.sk_can.specs.declared.refused.FrameRule.TheVariants.{Identifier, Length}

-- what contracts see of a controller
pub record Can : Type 0 where
  pub state : CanState
  -- the baud rate that it was given last
  pub rate : Option ℕ

-- without a baud rate at first
abbrev pub new_can : Can
new_can = record { state = Uninit; rate = None }

-- ## The table: the state after a call, none where the state refuses it

-- setting the baud rate
abbrev pub can_baud : CanState → Option CanState
can_baud Uninit = Some Uninit
can_baud Stopped = Some Stopped
can_baud Started = None
can_baud Sleep = None

-- starting
abbrev pub can_start : CanState → Option CanState
can_start Uninit = Some Started
can_start Stopped = Some Started
can_start Started = None
can_start Sleep = Some Started

-- stopping
abbrev pub can_stop : CanState → Option CanState
can_stop Uninit = None
can_stop Stopped = None
can_stop Started = Some Stopped
can_stop Sleep = Some Stopped

-- resetting
abbrev pub can_reset : CanState → Option CanState
can_reset Uninit = Some Uninit
can_reset Stopped = Some Uninit
can_reset Started = Some Uninit
can_reset Sleep = Some Uninit

-- going to sleep
abbrev pub can_sleep : CanState → Option CanState
can_sleep Uninit = None
can_sleep Stopped = Some Sleep
can_sleep Started = Some Sleep
can_sleep Sleep = None

-- it sends and is handed frames
abbrev pub is_started : CanState → Bool
is_started Uninit = false
is_started Stopped = false
is_started Started = true
is_started Sleep = false

-- ## Calls

-- what a call answers that leads there from this state
abbrev pub answer : Option CanState → CanState → Result (Unit {0}) CanRefused
answer (Some to) from = Ok tt
answer None from = Err (State from)

-- what is refused changes nothing
abbrev pub moved : Option CanState → Can → Can
moved (Some to) can = record can { state = to }
moved None can = can

-- the same where the call brings a baud rate
abbrev pub with_rate : ℕ → Option CanState → Can → Can
with_rate rate (Some to) can = record can { state = to; rate = Some rate }
with_rate rate None can = can

-- ## Frames

-- 11 bits of identifier, or 29 where it is extended
abbrev pub is_can_id : ℕ → Bool → Bool
is_can_id id extended = nat_lt id (if extended then 2 ^ 29 else 2 ^ 11)

-- 0 to 8 bytes, and of CAN FD some longer lengths
abbrev pub is_can_length : Bool → List ℕ → Bool
is_can_length fd bytes =
    nat_le (length bytes) 8 || (fd && list_any (λ n. n == length bytes) (12 ∷ 16 ∷ 20 ∷ 24 ∷ 32 ∷ 48 ∷ 64 ∷ []))

-- the state is judged first, then the identifier, then the length
unfoldable pub send_answer : CanState → CanFrame → Result (Unit {0}) CanRefused
send_answer state frame =
    if not (is_started state) then Err (State state) else
    if not (is_can_id frame.id frame.extended) then Err (BadFrame Identifier) else
    if not (is_can_length frame.fd frame.payload) then Err (BadFrame Length) else
    Ok tt

-- it sends the frame: it is started, and the frame is one that a message may have
abbrev pub is_let_through : CanState → CanFrame → Bool
is_let_through state frame = is_started state && is_can_frame frame.id frame.extended frame.fd frame.payload
