-- The fault that reading a body meets is the one of the table.
use Rattle.std.proofs.Common.{◌≡◌, ℕ, suc, Bool, true, false, cond, eqb, List, [], ◌∷◌, length, Result, Ok, Err, refl, ap, ◌∙◌, arith, inl, inr}
use Rattle.std.specs.Prelude.{◌↔◌, MatchBool}
use Rattle.std.specs.Int.{w8, w16, w32, w64}
use Rattle.std.proofs.lemmas.Bool.{eqb-false, ne_eqb}
use Rattle.sk_base.specs.Ranges.{is_name, is_text, is_time, is_payload}
use Rattle.sk_msg.specs.Rules.{is_step_size, is_u32, is_mark, is_call, is_service_id, is_told, is_required_count, is_new_name, is_can_frame, is_eth_frame, is_lin_id, is_lin_payload, is_received, is_sent}
use Rattle.sk_msg.specs.Specs.{is_new_key, is_label_count}
use Rattle.sk_msg.specs.States.{state_number, state_of}
use Rattle.sk_msg.specs.declared.state.State.{State}
use Rattle.sk_msg.specs.declared.content.Content.{Content}
use Rattle.sk_msg.specs.declared.content.Content.TheVariants.{Hello, Leave, NextStep, ServicesEnd, Status, Workflow, Abort, Eth, Publish, Call, Reply, Refuse}
use Rattle.sk_msg.specs.declared.head.Head.{Head}
use Rattle.sk_msg.specs.declared.role.Role.{Role}
use Rattle.sk_msg.specs.declared.label.Label.{Label}
use Rattle.sk_msg.specs.declared.label.LabelKind.{LabelKind}
use Rattle.sk_msg.specs.declared.service.ServiceKind.{ServiceKind}
use Rattle.sk_msg.specs.declared.bus.LinChecksum.{LinChecksum}
use Rattle.sk_msg.specs.declared.bus.LinStatus.{LinStatus}
use Rattle.sk_msg.specs.declared.bus.LinMode.{LinMode}
use Rattle.sk_msg.specs.declared.reason.RefuseReason.{RefuseReason}
use Rattle.sk_wire.specs.declared.fault.BodyFault.{BodyFault}
use Rattle.sk_wire.specs.Reading.{bad}
use Rattle.sk_wire.specs.Fields.{Field, ◌&◌, choice, such_that}
use Rattle.sk_wire.specs.Kinds.{name, text, payload, any32, time, step_size, mark, head, call, role, role_number, role_of, service_id, service_kind, service_kind_number, service_kind_of, label_kind, label_kind_number, label_kind_of, lin_checksum, lin_checksum_number, lin_checksum_of, lin_status, lin_status_number, lin_status_of, lin_mode, lin_mode_number, lin_mode_of, reason, reason_number, reason_of, new_label, labels, state, new_name, required_names, Flags, flags_number, flags_of, can_flags, can_bytes, eth_bytes, lin_id, lin_bytes, hello_row, leave_row, next_step_row, service_add_row, services_end_row, status_row, workflow_row, abort_row, can_row, eth_row, lin_row, lin_response_row, publish_row, call_row, reply_row, refuse_row}
use Rattle.sk_wire.specs.Held.{service_of, can_of, lin_of, response_of}
use Rattle.sk_wire.specs.Grammar.{whole, hello_at, leave_at, next_step_at, service_add_at, services_end_at, status_at, workflow_at, abort_at, can_at, eth_at, lin_at, lin_response_at, publish_at, call_at, reply_at, refuse_at, fields_at, body_at}
use Rattle.sk_wire.specs.Faults.{RowFaults, KindFaults, BodyFaults}
use Rattle.sk_wire.specs.Stream.{AreBytes}
use Rattle.sk_wire.proofs.FieldLaws.{Lawful, wide8, wide16, wide32, wide64}
use Rattle.sk_wire.proofs.KindLaws.{name_lawful, text_lawful, payload_lawful, any32_lawful, time_lawful, mark_lawful, head_lawful, call_number_lawful, role_lawful, service_id_lawful, service_kind_lawful, lin_checksum_lawful, lin_status_lawful, lin_mode_lawful, any_state_lawful, state_lawful, can_flags_lawful, lin_id_lawful, new_key_lawful, new_label_lawful, new_name_lawful, hello_lawful, leave_lawful, next_step_lawful, service_add_lawful, services_end_lawful, status_lawful, workflow_lawful, abort_lawful, can_lawful, eth_lawful, lin_lawful, lin_response_lawful, publish_lawful, call_lawful, reply_lawful, refuse_lawful}
use Rattle.sk_wire.proofs.FaultLaws.{Judged, bind_err, test_err, number_judged, counted_judged, choice_judged, nothing_judged, then_judged, held_judged, such_that_judged, list_judged}

-- ---- the types of fields

name_judged : Judged (List ℕ) name
unfolding name
name_judged = counted_judged w8 is_name wide8

text_judged : Judged (List ℕ) text
unfolding text
text_judged = counted_judged w8 is_text wide8

payload_judged : Judged (List ℕ) payload
unfolding payload
payload_judged = counted_judged w16 is_payload wide16

any32_judged : Judged ℕ any32
unfolding any32
any32_judged = number_judged w32 is_u32 wide32

time_judged : Judged ℕ time
unfolding time
time_judged = number_judged w64 is_time wide64

step_size_judged : Judged ℕ step_size
unfolding step_size
step_size_judged = number_judged w64 is_step_size wide64

mark_judged : Judged ℕ mark
unfolding mark
mark_judged = number_judged w64 is_mark wide64

head_judged : Judged Head head
unfolding head
head_judged =
    held_judged (λ x. record { service = x.0; stamp = x.1.0; mark = x.1.1 }) (λ h. (h.service, (h.stamp, h.mark))) (any32 & λ service. time & λ stamp. mark)
    (then_judged any32 (λ service. time & λ stamp. mark) 4 any32_lawful any32_judged (λ service.
    then_judged time (λ stamp. mark) 8 time_lawful time_judged (λ stamp.
    mark_judged)))

call_number_judged : Judged ℕ call
unfolding call
call_number_judged = number_judged w64 is_call wide64

role_judged : Judged Role role
unfolding role
role_judged = choice_judged role_number role_of

service_id_judged : Judged ℕ service_id
unfolding service_id
service_id_judged = number_judged w32 is_service_id wide32

lin_id_judged : Judged ℕ lin_id
unfolding lin_id
lin_id_judged = number_judged w8 is_lin_id wide8

service_kind_judged : Judged ServiceKind service_kind
unfolding service_kind
service_kind_judged = choice_judged service_kind_number service_kind_of

label_kind_judged : Judged LabelKind label_kind
unfolding label_kind
label_kind_judged = choice_judged label_kind_number label_kind_of

lin_checksum_judged : Judged LinChecksum lin_checksum
unfolding lin_checksum
lin_checksum_judged = choice_judged lin_checksum_number lin_checksum_of

lin_status_judged : Judged LinStatus lin_status
unfolding lin_status
lin_status_judged = choice_judged lin_status_number lin_status_of

lin_mode_judged : Judged LinMode lin_mode
unfolding lin_mode
lin_mode_judged = choice_judged lin_mode_number lin_mode_of

reason_judged : Judged RefuseReason reason
unfolding reason
reason_judged = choice_judged reason_number reason_of

state_judged : Judged State state
unfolding state
state_judged = such_that_judged is_told (choice state_number state_of) 1 any_state_lawful (choice_judged state_number state_of)

can_flags_judged : Judged Flags can_flags
unfolding can_flags
can_flags_judged = choice_judged flags_number flags_of

can_bytes_judged : (id : ℕ) (f : Flags) → Judged (List ℕ) (can_bytes id f)
can_bytes_judged id f = such_that_judged (is_can_frame id f.0 f.1) payload 4098 payload_lawful payload_judged

eth_bytes_judged : Judged (List ℕ) eth_bytes
unfolding eth_bytes
eth_bytes_judged = such_that_judged is_eth_frame payload 4098 payload_lawful payload_judged

lin_bytes_judged : (carries : Bool) (checksum : LinChecksum) → Judged (List ℕ) (lin_bytes carries checksum)
lin_bytes_judged carries checksum = such_that_judged (is_lin_payload carries checksum) payload 4098 payload_lawful payload_judged

new_label_judged : (before : List Label) → Judged Label (new_label before)
new_label_judged before =
    held_judged (λ x. record { key = x.0; value = x.1.0; kind = x.1.1 }) (λ l. (l.key, (l.value, l.kind))) (such_that (is_new_key before) name & λ key. text & λ value. label_kind)
    (then_judged (such_that (is_new_key before) name) (λ _. text & λ _. label_kind) 65 (new_key_lawful before) (such_that_judged (is_new_key before) name 65 name_lawful name_judged) (λ _.
    then_judged text (λ _. label_kind) 65 text_lawful text_judged (λ _. label_kind_judged)))

labels_judged : Judged (List Label) labels
unfolding labels
labels_judged = list_judged new_label 131 new_label_lawful new_label_judged is_label_count

new_name_judged : (before : List (List ℕ)) → Judged (List ℕ) (new_name before)
new_name_judged before = such_that_judged (is_new_name before) name 65 name_lawful name_judged

required_names_judged : Judged (List (List ℕ)) required_names
unfolding required_names
required_names_judged = list_judged new_name 65 new_name_lawful new_name_judged is_required_count

-- ---- the kinds

hello_judged : Judged (List ℕ × (Role × List ℕ)) hello_row
hello_judged =
    then_judged name (λ name. role & λ role. text) 65 name_lawful name_judged (λ name.
    then_judged role (λ role. text) 1 role_lawful role_judged (λ role.
    text_judged))

leave_judged : Judged (Unit {0}) leave_row
leave_judged =
    nothing_judged

next_step_judged : Judged (ℕ × ℕ) next_step_row
next_step_judged =
    then_judged time (λ at. step_size) 8 time_lawful time_judged (λ at.
    step_size_judged)

service_add_judged : Judged (ℕ × (ServiceKind × (List ℕ × (List ℕ × (List ℕ × List Label))))) service_add_row
service_add_judged =
    then_judged service_id (λ id. service_kind & λ kind. name & λ own. name & λ topic. text & λ media. labels) 4 service_id_lawful service_id_judged (λ id.
    then_judged service_kind (λ kind. name & λ own. name & λ topic. text & λ media. labels) 1 service_kind_lawful service_kind_judged (λ kind.
    then_judged name (λ own. name & λ topic. text & λ media. labels) 65 name_lawful name_judged (λ own.
    then_judged name (λ topic. text & λ media. labels) 65 name_lawful name_judged (λ topic.
    then_judged text (λ media. labels) 65 text_lawful text_judged (λ media.
    labels_judged)))))

services_end_judged : Judged (Unit {0}) services_end_row
services_end_judged =
    nothing_judged

status_judged : Judged (State × ℕ) status_row
status_judged =
    then_judged state (λ state. time) 1 state_lawful state_judged (λ state.
    time_judged)

workflow_judged : Judged (List (List ℕ)) workflow_row
workflow_judged =
    required_names_judged

abort_judged : Judged (Unit {0}) abort_row
abort_judged =
    nothing_judged

can_judged : Judged (Head × (ℕ × (Flags × List ℕ))) can_row
can_judged =
    then_judged head (λ head. any32 & λ id. can_flags & λ f. can_bytes id f) 20 head_lawful head_judged (λ head.
    then_judged any32 (λ id. can_flags & λ f. can_bytes id f) 4 any32_lawful any32_judged (λ id.
    then_judged can_flags (λ f. can_bytes id f) 1 can_flags_lawful can_flags_judged (λ f.
    can_bytes_judged id f)))

eth_judged : Judged (Head × List ℕ) eth_row
eth_judged =
    then_judged head (λ head. eth_bytes) 20 head_lawful head_judged (λ head.
    eth_bytes_judged)

lin_judged : Judged (Head × (ℕ × (LinChecksum × (LinStatus × List ℕ)))) lin_row
lin_judged =
    then_judged head (λ head. lin_id & λ id. lin_checksum & λ checksum. lin_status & λ status. lin_bytes (is_received status) checksum) 20 head_lawful head_judged (λ head.
    then_judged lin_id (λ id. lin_checksum & λ checksum. lin_status & λ status. lin_bytes (is_received status) checksum) 1 lin_id_lawful lin_id_judged (λ id.
    then_judged lin_checksum (λ checksum. lin_status & λ status. lin_bytes (is_received status) checksum) 1 lin_checksum_lawful lin_checksum_judged (λ checksum.
    then_judged lin_status (λ status. lin_bytes (is_received status) checksum) 1 lin_status_lawful lin_status_judged (λ status.
    lin_bytes_judged (is_received status) checksum))))

lin_response_judged : Judged (Head × (ℕ × (LinMode × (LinChecksum × List ℕ)))) lin_response_row
lin_response_judged =
    then_judged head (λ head. lin_id & λ id. lin_mode & λ mode. lin_checksum & λ checksum. lin_bytes (is_sent mode) checksum) 20 head_lawful head_judged (λ head.
    then_judged lin_id (λ id. lin_mode & λ mode. lin_checksum & λ checksum. lin_bytes (is_sent mode) checksum) 1 lin_id_lawful lin_id_judged (λ id.
    then_judged lin_mode (λ mode. lin_checksum & λ checksum. lin_bytes (is_sent mode) checksum) 1 lin_mode_lawful lin_mode_judged (λ mode.
    then_judged lin_checksum (λ checksum. lin_bytes (is_sent mode) checksum) 1 lin_checksum_lawful lin_checksum_judged (λ checksum.
    lin_bytes_judged (is_sent mode) checksum))))

publish_judged : Judged (Head × List ℕ) publish_row
publish_judged =
    then_judged head (λ head. payload) 20 head_lawful head_judged (λ head.
    payload_judged)

call_judged : Judged (Head × (ℕ × List ℕ)) call_row
call_judged =
    then_judged head (λ head. call & λ call. payload) 20 head_lawful head_judged (λ head.
    then_judged call (λ call. payload) 8 call_number_lawful call_number_judged (λ call.
    payload_judged))

reply_judged : Judged (Head × (ℕ × (ℕ × List ℕ))) reply_row
reply_judged =
    then_judged head (λ head. any32 & λ client. call & λ call. payload) 20 head_lawful head_judged (λ head.
    then_judged any32 (λ client. call & λ call. payload) 4 any32_lawful any32_judged (λ client.
    then_judged call (λ call. payload) 8 call_number_lawful call_number_judged (λ call.
    payload_judged)))

refuse_judged : Judged (RefuseReason) refuse_row
refuse_judged =
    reason_judged

-- ---- whole rows

module _ {A : Type 0} (row : Field A) (most : ℕ) (lawful : Lawful A row most) (judged : Judged A row) (made : A → Content) where
  pub row_fails : (bytes : List ℕ) (e : BodyFault) → AreBytes bytes → whole row made bytes ≡ Err e → RowFaults row bytes e
  row_fails bytes e fits h =
      elim (bind_err (row.at bytes) (λ x. cond (eqb (length x.1) 0) (Ok (made x.0)) (Err (bad x.1))) e h) [
        | inl d ↦ inl (judged.fails bytes e fits d)
        | inr d ↦
            let t = lawful.takes bytes d.0 fits d.1 in
            let r = test_err (eqb (length d.0.1) 0) (made d.0.0) (bad d.0.1) e d.2 in
            let ne = eqb-false (length d.0.1) 0 r.0 in
            inr (d.0.0, d.0.1, (t.1, t.0), omega (arith, ne), r.1)
      ]

  pub row_faulty : (bytes : List ℕ) (e : BodyFault) → RowFaults row bytes e → whole row made bytes ≡ Err e
  row_faulty bytes e (inl d) = rw (judged.faulty bytes e d) refl
  row_faulty bytes e (inr d) =
      let read : row.at bytes ≡ Ok (d.0, d.1) = ap row.at d.2.1 ∙ lawful.again d.0 d.1 d.2.0 in
      rw (read, ne_eqb (length d.1) 0 (omega (arith, d.3)), d.4) refl

err_same : (d e : BodyFault) → ◌≡◌ {A = Result Content BodyFault} (Err d) (Err e) → e ≡ d
err_same d e h = cc

same_err : (d e : BodyFault) → e ≡ d → ◌≡◌ {A = Result Content BodyFault} (Err d) (Err e)
same_err d e h = cc

-- one step down the table of kinds
fails_down : (b : Bool) (P Q : Type 0) (r s : Result Content BodyFault) (e : BodyFault) → (r ≡ Err e → P) → (s ≡ Err e → Q) → cond b r s ≡ Err e → MatchBool b P Q
fails_down true P Q r s e here below h = here h
fails_down false P Q r s e here below h = below h

faulty_down : (b : Bool) (P Q : Type 0) (r s : Result Content BodyFault) (e : BodyFault) → (P → r ≡ Err e) → (Q → s ≡ Err e) → MatchBool b P Q → cond b r s ≡ Err e
faulty_down true P Q r s e here below h = here h
faulty_down false P Q r s e here below h = below h

pub kind_fails : (kind : ℕ) (bytes : List ℕ) (e : BodyFault) → AreBytes bytes → fields_at kind bytes ≡ Err e → KindFaults kind bytes e
unfolding fields_at KindFaults hello_at leave_at next_step_at service_add_at services_end_at status_at workflow_at abort_at can_at eth_at lin_at lin_response_at publish_at call_at reply_at refuse_at
kind_fails kind bytes e fits =
    fails_down (eqb kind 1) _ _ _ _ e (row_fails hello_row 131 hello_lawful hello_judged (λ x. Hello x.0 x.1.0 x.1.1) bytes e fits)
    (fails_down (eqb kind 2) _ _ _ _ e (row_fails leave_row 0 leave_lawful leave_judged (λ x. Leave) bytes e fits)
    (fails_down (eqb kind 3) _ _ _ _ e (row_fails next_step_row 16 next_step_lawful next_step_judged (λ x. NextStep x.0 x.1) bytes e fits)
    (fails_down (eqb kind 4) _ _ _ _ e (row_fails service_add_row 2297 service_add_lawful service_add_judged service_of bytes e fits)
    (fails_down (eqb kind 5) _ _ _ _ e (row_fails services_end_row 0 services_end_lawful services_end_judged (λ x. ServicesEnd) bytes e fits)
    (fails_down (eqb kind 6) _ _ _ _ e (row_fails status_row 9 status_lawful status_judged (λ x. Status x.0 x.1) bytes e fits)
    (fails_down (eqb kind 7) _ _ _ _ e (row_fails workflow_row 2081 workflow_lawful workflow_judged (λ x. Workflow x) bytes e fits)
    (fails_down (eqb kind 8) _ _ _ _ e (row_fails abort_row 0 abort_lawful abort_judged (λ x. Abort) bytes e fits)
    (fails_down (eqb kind 9) _ _ _ _ e (row_fails can_row 4123 can_lawful can_judged can_of bytes e fits)
    (fails_down (eqb kind 10) _ _ _ _ e (row_fails eth_row 4118 eth_lawful eth_judged (λ x. Eth x.0 x.1) bytes e fits)
    (fails_down (eqb kind 11) _ _ _ _ e (row_fails lin_row 4121 lin_lawful lin_judged lin_of bytes e fits)
    (fails_down (eqb kind 12) _ _ _ _ e (row_fails lin_response_row 4121 lin_response_lawful lin_response_judged response_of bytes e fits)
    (fails_down (eqb kind 13) _ _ _ _ e (row_fails publish_row 4118 publish_lawful publish_judged (λ x. Publish x.0 x.1) bytes e fits)
    (fails_down (eqb kind 14) _ _ _ _ e (row_fails call_row 4126 call_lawful call_judged (λ x. Call x.0 x.1.0 x.1.1) bytes e fits)
    (fails_down (eqb kind 15) _ _ _ _ e (row_fails reply_row 4130 reply_lawful reply_judged (λ x. Reply x.0 x.1.0 x.1.1.0 x.1.1.1) bytes e fits)
    (fails_down (eqb kind 16) _ _ _ _ e (row_fails refuse_row 1 refuse_lawful refuse_judged (λ x. Refuse x) bytes e fits)
    (λ h. err_same _ e h))))))))))))))))

pub kind_faulty : (kind : ℕ) (bytes : List ℕ) (e : BodyFault) → KindFaults kind bytes e → fields_at kind bytes ≡ Err e
unfolding fields_at KindFaults hello_at leave_at next_step_at service_add_at services_end_at status_at workflow_at abort_at can_at eth_at lin_at lin_response_at publish_at call_at reply_at refuse_at
kind_faulty kind bytes e =
    faulty_down (eqb kind 1) _ _ _ _ e (row_faulty hello_row 131 hello_lawful hello_judged (λ x. Hello x.0 x.1.0 x.1.1) bytes e)
    (faulty_down (eqb kind 2) _ _ _ _ e (row_faulty leave_row 0 leave_lawful leave_judged (λ x. Leave) bytes e)
    (faulty_down (eqb kind 3) _ _ _ _ e (row_faulty next_step_row 16 next_step_lawful next_step_judged (λ x. NextStep x.0 x.1) bytes e)
    (faulty_down (eqb kind 4) _ _ _ _ e (row_faulty service_add_row 2297 service_add_lawful service_add_judged service_of bytes e)
    (faulty_down (eqb kind 5) _ _ _ _ e (row_faulty services_end_row 0 services_end_lawful services_end_judged (λ x. ServicesEnd) bytes e)
    (faulty_down (eqb kind 6) _ _ _ _ e (row_faulty status_row 9 status_lawful status_judged (λ x. Status x.0 x.1) bytes e)
    (faulty_down (eqb kind 7) _ _ _ _ e (row_faulty workflow_row 2081 workflow_lawful workflow_judged (λ x. Workflow x) bytes e)
    (faulty_down (eqb kind 8) _ _ _ _ e (row_faulty abort_row 0 abort_lawful abort_judged (λ x. Abort) bytes e)
    (faulty_down (eqb kind 9) _ _ _ _ e (row_faulty can_row 4123 can_lawful can_judged can_of bytes e)
    (faulty_down (eqb kind 10) _ _ _ _ e (row_faulty eth_row 4118 eth_lawful eth_judged (λ x. Eth x.0 x.1) bytes e)
    (faulty_down (eqb kind 11) _ _ _ _ e (row_faulty lin_row 4121 lin_lawful lin_judged lin_of bytes e)
    (faulty_down (eqb kind 12) _ _ _ _ e (row_faulty lin_response_row 4121 lin_response_lawful lin_response_judged response_of bytes e)
    (faulty_down (eqb kind 13) _ _ _ _ e (row_faulty publish_row 4118 publish_lawful publish_judged (λ x. Publish x.0 x.1) bytes e)
    (faulty_down (eqb kind 14) _ _ _ _ e (row_faulty call_row 4126 call_lawful call_judged (λ x. Call x.0 x.1.0 x.1.1) bytes e)
    (faulty_down (eqb kind 15) _ _ _ _ e (row_faulty reply_row 4130 reply_lawful reply_judged (λ x. Reply x.0 x.1.0 x.1.1.0 x.1.1.1) bytes e)
    (faulty_down (eqb kind 16) _ _ _ _ e (row_faulty refuse_row 1 refuse_lawful refuse_judged (λ x. Refuse x) bytes e)
    (λ h. same_err _ e h))))))))))))))))

-- ---- bodies

pub body_fails : (bytes : List ℕ) (e : BodyFault) → AreBytes bytes → body_at bytes ≡ Err e → BodyFaults bytes e
unfolding body_at BodyFaults
body_fails [] e fits h = err_same _ e h
body_fails (v ∷ []) e fits h = err_same _ e h
body_fails (v ∷ k ∷ bytes) e fits h = fails_down (eqb v 1) _ _ _ _ e (kind_fails k bytes e (λ i. fits (suc (suc i)))) (λ d. err_same _ e d) h

pub body_faulty : (bytes : List ℕ) (e : BodyFault) → BodyFaults bytes e → body_at bytes ≡ Err e
unfolding body_at BodyFaults
body_faulty [] e h = same_err _ e h
body_faulty (v ∷ []) e h = same_err _ e h
body_faulty (v ∷ k ∷ bytes) e h = faulty_down (eqb v 1) _ _ _ _ e (kind_faulty k bytes e) (λ d. same_err _ e d) h

pub one_fault : (bytes : List ℕ) (e : BodyFault) → AreBytes bytes → (body_at bytes ≡ Err e) ↔ BodyFaults bytes e
one_fault bytes e fits = (body_fails bytes e fits, body_faulty bytes e)
