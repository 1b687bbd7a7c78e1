-- The one spelling of each message, and the plain program that reads a body.
use Rattle.std.specs.Prelude.{◌≡◌, ℕ, ◌+◌, IsTrue, List, [], ◌∷◌, ◌++◌, length, Result, Ok, Err, ◌==◌, if◌then◌else◌}
use Rattle.std.specs.Int.{w32, to_le_bytes}
use Rattle.sk_msg.specs.declared.content.Content.{Content}
use Rattle.sk_msg.specs.declared.content.Content.TheVariants.{Hello, Leave, NextStep, ServiceAdd, ServicesEnd, Status, Workflow, Abort, Can, Eth, Lin, LinResponse, Publish, Call, Reply, Refuse}
use Rattle.sk_msg.specs.Rules.{is_message}
use Rattle.sk_wire.specs.declared.fault.BodyFault.{BodyFault}
use Rattle.sk_wire.specs.declared.fault.What.TheVariants.{BadVersion, BadKind}
use Rattle.sk_wire.specs.Reading.{◌>>=◌, cut, bad}
use Rattle.sk_wire.specs.Fields.{Field}
use Rattle.sk_wire.specs.Kinds.{hello_row, leave_row, next_step_row, service_add_row, services_end_row, status_row, workflow_row, abort_row, can_row, eth_row, lin_row, lin_response_row, publish_row, call_row, reply_row, refuse_row}
use Rattle.sk_wire.specs.Held.{service_parts, service_of, can_parts, can_of, lin_parts, lin_of, response_parts, response_of}

-- ## A message as bytes

unfoldable pub kind_of : Content → ℕ
kind_of (Hello name role address) = 1
kind_of Leave = 2
kind_of (NextStep at duration) = 3
kind_of (ServiceAdd s) = 4
kind_of ServicesEnd = 5
kind_of (Status state until) = 6
kind_of (Workflow required) = 7
kind_of Abort = 8
kind_of (Can head f) = 9
kind_of (Eth head bytes) = 10
kind_of (Lin head f) = 11
kind_of (LinResponse head r) = 12
kind_of (Publish head bytes) = 13
kind_of (Call head call bytes) = 14
kind_of (Reply head client call bytes) = 15
kind_of (Refuse reason) = 16

unfoldable pub fields : Content → List ℕ
fields (Hello name role address) = hello_row.spelling (name, (role, address))
fields Leave = leave_row.spelling tt
fields (NextStep at duration) = next_step_row.spelling (at, duration)
fields (ServiceAdd s) = service_add_row.spelling (service_parts s)
fields ServicesEnd = services_end_row.spelling tt
fields (Status state until) = status_row.spelling (state, until)
fields (Workflow required) = workflow_row.spelling required
fields Abort = abort_row.spelling tt
fields (Can head f) = can_row.spelling (can_parts head f)
fields (Eth head bytes) = eth_row.spelling (head, bytes)
fields (Lin head f) = lin_row.spelling (lin_parts head f)
fields (LinResponse head r) = lin_response_row.spelling (response_parts head r)
fields (Publish head bytes) = publish_row.spelling (head, bytes)
fields (Call head call bytes) = call_row.spelling (head, (call, bytes))
fields (Reply head client call bytes) = reply_row.spelling (head, (client, (call, bytes)))
fields (Refuse reason) = refuse_row.spelling reason

-- version 1, the kind, the fields
abbrev pub body : Content → List ℕ
body m = 1 ∷ kind_of m ∷ fields m

-- a frame: the body's length in four bytes, and the body
unfoldable pub spelling : Content → List ℕ
spelling m = to_le_bytes w32 (length (body m)) ++ body m

-- the relation of a message and its bytes
abbrev pub Spells : Content → List ℕ → Type 0
Spells m bytes = IsTrue (is_message m) × (bytes ≡ spelling m)

-- ## Bytes as a message

-- the fields of a kind, and nothing behind them
abbrev pub whole : {A : Type 0} → Field A → (A → Content) → List ℕ → Result Content BodyFault
whole row made bytes = row.at bytes >>= λ x. if length x.1 == 0 then Ok (made x.0) else Err (bad x.1)

unfoldable pub hello_at : List ℕ → Result Content BodyFault
hello_at = whole hello_row (λ x. Hello x.0 x.1.0 x.1.1)

unfoldable pub leave_at : List ℕ → Result Content BodyFault
leave_at = whole leave_row (λ x. Leave)

unfoldable pub next_step_at : List ℕ → Result Content BodyFault
next_step_at = whole next_step_row (λ x. NextStep x.0 x.1)

unfoldable pub service_add_at : List ℕ → Result Content BodyFault
service_add_at = whole service_add_row service_of

unfoldable pub services_end_at : List ℕ → Result Content BodyFault
services_end_at = whole services_end_row (λ x. ServicesEnd)

unfoldable pub status_at : List ℕ → Result Content BodyFault
status_at = whole status_row (λ x. Status x.0 x.1)

unfoldable pub workflow_at : List ℕ → Result Content BodyFault
workflow_at = whole workflow_row (λ x. Workflow x)

unfoldable pub abort_at : List ℕ → Result Content BodyFault
abort_at = whole abort_row (λ x. Abort)

unfoldable pub can_at : List ℕ → Result Content BodyFault
can_at = whole can_row can_of

unfoldable pub eth_at : List ℕ → Result Content BodyFault
eth_at = whole eth_row (λ x. Eth x.0 x.1)

unfoldable pub lin_at : List ℕ → Result Content BodyFault
lin_at = whole lin_row lin_of

unfoldable pub lin_response_at : List ℕ → Result Content BodyFault
lin_response_at = whole lin_response_row response_of

unfoldable pub publish_at : List ℕ → Result Content BodyFault
publish_at = whole publish_row (λ x. Publish x.0 x.1)

unfoldable pub call_at : List ℕ → Result Content BodyFault
call_at = whole call_row (λ x. Call x.0 x.1.0 x.1.1)

unfoldable pub reply_at : List ℕ → Result Content BodyFault
reply_at = whole reply_row (λ x. Reply x.0 x.1.0 x.1.1.0 x.1.1.1)

unfoldable pub refuse_at : List ℕ → Result Content BodyFault
refuse_at = whole refuse_row (λ x. Refuse x)

unfoldable pub fields_at : ℕ → List ℕ → Result Content BodyFault
fields_at kind bytes =
    if kind == 1 then hello_at bytes else
    if kind == 2 then leave_at bytes else
    if kind == 3 then next_step_at bytes else
    if kind == 4 then service_add_at bytes else
    if kind == 5 then services_end_at bytes else
    if kind == 6 then status_at bytes else
    if kind == 7 then workflow_at bytes else
    if kind == 8 then abort_at bytes else
    if kind == 9 then can_at bytes else
    if kind == 10 then eth_at bytes else
    if kind == 11 then lin_at bytes else
    if kind == 12 then lin_response_at bytes else
    if kind == 13 then publish_at bytes else
    if kind == 14 then call_at bytes else
    if kind == 15 then reply_at bytes else
    if kind == 16 then refuse_at bytes else
    Err (record { left = 1 + length bytes; what = BadKind })

unfoldable pub body_at : List ℕ → Result Content BodyFault
body_at [] = Err (cut [])
body_at (version ∷ []) = Err (cut [])
body_at (version ∷ kind ∷ bytes) =
    if version == 1 then fields_at kind bytes else Err (record { left = 2 + length bytes; what = BadVersion })
