-- The table of faults: where the first fault of a frame stands, and what it is.
use Rattle.std.specs.Prelude.{◌≡◌, ◌⊎◌, ◌<◌, ◌≤◌, ◌+◌, ◌-◌, take, drop, ℕ, List, [], ◌∷◌, length, MatchBool, ◌==◌}
use Rattle.std.specs.Int.{w32, from_le_bytes}
use Rattle.sk_wire.specs.declared.fault.What.TheVariants.{Short, TooLong, BadVersion, BadKind}
use Rattle.sk_wire.specs.declared.fault.WireFault.{WireFault}
use Rattle.sk_wire.specs.declared.fault.BodyFault.{BodyFault}
use Rattle.sk_wire.specs.Reading.{cut}
use Rattle.sk_wire.specs.Fields.{Field, IsFieldAt, IsBad}
use Rattle.sk_wire.specs.Kinds.{hello_row, leave_row, next_step_row, service_add_row, services_end_row, status_row, workflow_row, abort_row, can_row, eth_row, lin_row, lin_response_row, publish_row, call_row, reply_row, refuse_row}

-- the first fault in the fields, or the first byte that is left behind the last of them
abbrev pub RowFaults : {A : Type 0} → Field A → List ℕ → BodyFault → Type 0
RowFaults {A = A} row bytes fault =
    row.faults bytes fault
    ⊎ ((x : A) × (behind : List ℕ) × IsFieldAt row bytes x behind × (0 < length behind) × IsBad behind fault)

unfoldable pub KindFaults : ℕ → List ℕ → BodyFault → Type 0
KindFaults kind bytes fault =
    MatchBool (kind == 1) (RowFaults hello_row bytes fault)
    (MatchBool (kind == 2) (RowFaults leave_row bytes fault)
    (MatchBool (kind == 3) (RowFaults next_step_row bytes fault)
    (MatchBool (kind == 4) (RowFaults service_add_row bytes fault)
    (MatchBool (kind == 5) (RowFaults services_end_row bytes fault)
    (MatchBool (kind == 6) (RowFaults status_row bytes fault)
    (MatchBool (kind == 7) (RowFaults workflow_row bytes fault)
    (MatchBool (kind == 8) (RowFaults abort_row bytes fault)
    (MatchBool (kind == 9) (RowFaults can_row bytes fault)
    (MatchBool (kind == 10) (RowFaults eth_row bytes fault)
    (MatchBool (kind == 11) (RowFaults lin_row bytes fault)
    (MatchBool (kind == 12) (RowFaults lin_response_row bytes fault)
    (MatchBool (kind == 13) (RowFaults publish_row bytes fault)
    (MatchBool (kind == 14) (RowFaults call_row bytes fault)
    (MatchBool (kind == 15) (RowFaults reply_row bytes fault)
    (MatchBool (kind == 16) (RowFaults refuse_row bytes fault)
    (fault ≡ record { left = 1 + length bytes; what = BadKind }))))))))))))))))

-- a version other than 1 stands at its byte, a kind that the table lacks at its
unfoldable pub BodyFaults : List ℕ → BodyFault → Type 0
BodyFaults [] fault = fault ≡ cut []
BodyFaults (version ∷ []) fault = fault ≡ cut []
BodyFaults (version ∷ kind ∷ bytes) fault =
    MatchBool (version == 1) (KindFaults kind bytes fault) (fault ≡ record { left = 2 + length bytes; what = BadVersion })

-- the length that the first four bytes say
unfoldable pub announced : List ℕ → ℕ
announced bytes = from_le_bytes w32 (take 4 bytes)

-- The fault where a message should begin, counted from there. A length is judged once its four bytes are there: below 2
-- it is Short, above 8,192 TooLong. A body is judged once it is whole.
abbrev pub FrameFaults : List ℕ → WireFault → Type 0
FrameFaults bytes fault = (4 ≤ length bytes) × (
    ((announced bytes < 2) × (fault ≡ record { at = 0; what = Short }))
    ⊎ (((8192 < announced bytes) × (fault ≡ record { at = 0; what = TooLong }))
    ⊎ ((2 ≤ announced bytes) × (announced bytes ≤ 8192) × (4 + announced bytes ≤ length bytes)
    × ((f : BodyFault) × BodyFaults (take (announced bytes) (drop 4 bytes)) f
    × (fault ≡ record { at = 4 + announced bytes - f.left; what = f.what })))))
