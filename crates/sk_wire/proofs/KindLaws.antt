-- The laws of the types of fields and of each kind's fields.
use Rattle.std.proofs.Common.{◌≡◌, ℕ, ◌^◌, ◌<◌, ◌≤◌, Bool, true, false, cond, eqb, List, length, Option, Some, refl, sym, ap, ◌∙◌, arith}
use Rattle.std.specs.Prelude.{nat_le}
use Rattle.std.specs.Int.{w8, w16, w32, w64}
use Rattle.std.proofs.lemmas.Bool.{eqb-true, leb-true, ltb-true, and_parts}
use Rattle.sk_base.specs.Ranges.{is_time, is_name, is_text, is_payload}
use Rattle.sk_msg.specs.Rules.{is_step_size, is_u32, is_mark, is_call, is_service_id, is_told, is_required_count, is_new_name, is_can_frame, is_eth_frame, is_lin_id, is_lin_payload, is_received, is_sent}
use Rattle.sk_msg.specs.Specs.{is_new_key, is_label_count}
use Rattle.sk_msg.specs.States.{state_number, state_of}
use Rattle.sk_msg.specs.declared.state.State.{State}
use Rattle.sk_msg.specs.declared.state.State.TheVariants as states
use Rattle.sk_msg.specs.declared.head.Head.{Head}
use Rattle.sk_msg.specs.declared.role.Role.{Role}
use Rattle.sk_msg.specs.declared.role.Role.TheVariants.{Participant, Tool}
use Rattle.sk_msg.specs.declared.label.Label.{Label}
use Rattle.sk_msg.specs.declared.label.LabelKind.{LabelKind}
use Rattle.sk_msg.specs.declared.label.LabelKind.TheVariants.{Optional, Mandatory}
use Rattle.sk_msg.specs.declared.service.ServiceKind.{ServiceKind}
use Rattle.sk_msg.specs.declared.service.ServiceKind.TheVariants as kinds
use Rattle.sk_msg.specs.declared.bus.LinChecksum.{LinChecksum}
use Rattle.sk_msg.specs.declared.bus.LinChecksum.TheVariants as checksums
use Rattle.sk_msg.specs.declared.bus.LinStatus.{LinStatus}
use Rattle.sk_msg.specs.declared.bus.LinStatus.TheVariants as statuses
use Rattle.sk_msg.specs.declared.bus.LinMode.{LinMode}
use Rattle.sk_msg.specs.declared.bus.LinMode.TheVariants as modes
use Rattle.sk_msg.specs.declared.reason.RefuseReason.{RefuseReason}
use Rattle.sk_msg.specs.declared.reason.RefuseReason.TheVariants as reasons
use Rattle.sk_wire.specs.Fields.{choice, ◌&◌, such_that}
use Rattle.sk_wire.specs.Kinds.{name, text, payload, any32, time, step_size, mark, head, call, role, role_number, role_of, service_id, service_kind, service_kind_number, service_kind_of, label_kind, label_kind_number, label_kind_of, lin_checksum, lin_checksum_number, lin_checksum_of, lin_status, lin_status_number, lin_status_of, lin_mode, lin_mode_number, lin_mode_of, reason, reason_number, reason_of, new_label, labels, state, new_name, required_names, Flags, flags, flags_number, flags_of, can_flags, can_bytes, eth_bytes, lin_id, lin_bytes, hello_row, leave_row, next_step_row, service_add_row, services_end_row, status_row, workflow_row, abort_row, can_row, eth_row, lin_row, lin_response_row, publish_row, call_row, reply_row, refuse_row}
use Rattle.sk_wire.proofs.FieldLaws.{Lawful, wide8, wide16, wide32, wide64, number_lawful, counted_lawful, choice_lawful, nothing_lawful, then_lawful, held_lawful, such_that_lawful, list_lawful}

text_short : (bytes : List ℕ) → is_text bytes ≡ true → length bytes ≤ 64
unfolding is_text
text_short bytes h = leb-true (length bytes) 64 (and_parts _ _ (and_parts _ _ h).1).0

name_short : (bytes : List ℕ) → is_name bytes ≡ true → length bytes ≤ 64
unfolding is_name
name_short bytes h = text_short bytes (and_parts _ _ h).1

pub name_lawful : Lawful (List ℕ) name 65
unfolding name
name_lawful = counted_lawful w8 (2 ^ 8) 64 is_name wide8 (λ bytes ok. let l = name_short bytes ok in (omega arith, l))

pub text_lawful : Lawful (List ℕ) text 65
unfolding text
text_lawful = counted_lawful w8 (2 ^ 8) 64 is_text wide8 (λ bytes ok. let l = text_short bytes ok in (omega arith, l))

time_range : (n : ℕ) → is_time n ≡ true → n < 2 ^ 64
unfolding is_time
time_range n ok = let l = leb-true n (2 ^ 62) ok in omega arith

pub time_lawful : Lawful ℕ time 8
unfolding time
time_lawful = number_lawful w64 (2 ^ 64) is_time wide64 time_range

step_size_range : (n : ℕ) → is_step_size n ≡ true → n < 2 ^ 64
unfolding is_step_size
step_size_range n ok = let l = leb-true n (2 ^ 60) (and_parts (nat_le 1 n) (nat_le n (2 ^ 60)) ok).1 in omega arith

pub step_size_lawful : Lawful ℕ step_size 8
unfolding step_size
step_size_lawful = number_lawful w64 (2 ^ 64) is_step_size wide64 step_size_range

-- ---- choices by their numbers

-- one step down a table of numbers
looked : {A : Type 0} (code : A → ℕ) (n k : ℕ) (v : A) (other : Option A) (x : A) → code v ≡ k → (other ≡ Some x → code x ≡ n) → cond (eqb n k) (Some v) other ≡ Some x → code x ≡ n
looked {A = A} code n k v other x is below = at (eqb n k) refl
  where
    at : (b : Bool) → eqb n k ≡ b → cond b (Some v) other ≡ Some x → code x ≡ n
    at true e h = let same : v ≡ x = cc in ap code (sym same) ∙ is ∙ sym (eqb-true n k e)
    at false e h = below h

role_back : (x : Role) → role_of (role_number x) ≡ Some x
role_back (Participant false false) = refl
role_back (Participant true false) = refl
role_back (Participant false true) = refl
role_back (Participant true true) = refl
role_back Tool = refl

role_small : (x : Role) → role_number x < 2 ^ 8
role_small (Participant false false) = omega arith
role_small (Participant true false) = omega arith
role_small (Participant false true) = omega arith
role_small (Participant true true) = omega arith
role_small Tool = omega arith

role_forth : (n : ℕ) (x : Role) → role_of n ≡ Some x → role_number x ≡ n
role_forth n x =
    looked role_number n 0 (Participant false false) _ x refl
    (looked role_number n 1 (Participant true false) _ x refl
    (looked role_number n 2 (Participant false true) _ x refl
    (looked role_number n 3 (Participant true true) _ x refl
    (looked role_number n 4 Tool _ x refl (λ e. absurd cc)))))

pub role_lawful : Lawful Role role 1
unfolding role
role_lawful = choice_lawful role_number role_of role_back role_forth role_small

-- ---- more types of fields

payload_range : (bytes : List ℕ) → is_payload bytes ≡ true → (length bytes < 2 ^ 16) × (length bytes ≤ 4096)
unfolding is_payload
payload_range bytes ok = let l = leb-true (length bytes) 4096 ok in (omega arith, l)

pub payload_lawful : Lawful (List ℕ) payload 4098
unfolding payload
payload_lawful = counted_lawful w16 (2 ^ 16) 4096 is_payload wide16 payload_range

u32_range : (n : ℕ) → is_u32 n ≡ true → n < 2 ^ 32
unfolding is_u32
u32_range n ok = ltb-true n (2 ^ 32) ok

pub any32_lawful : Lawful ℕ any32 4
unfolding any32
any32_lawful = number_lawful w32 (2 ^ 32) is_u32 wide32 u32_range

mark_range : (n : ℕ) → is_mark n ≡ true → n < 2 ^ 64
unfolding is_mark
mark_range n ok = let l = leb-true n (2 ^ 63) ok in omega arith

pub mark_lawful : Lawful ℕ mark 8
unfolding mark
mark_lawful = number_lawful w64 (2 ^ 64) is_mark wide64 mark_range

pub head_lawful : Lawful Head head 20
unfolding head
head_lawful =
    held_lawful (λ x. record { service = x.0; stamp = x.1.0; mark = x.1.1 }) (λ h. (h.service, (h.stamp, h.mark))) (any32 & λ service. time & λ stamp. mark) 20 (λ h. refl) (λ x. refl)
    (then_lawful any32 (λ service. time & λ stamp. mark) 4 16 any32_lawful (λ service.
    then_lawful time (λ stamp. mark) 8 8 time_lawful (λ stamp.
    mark_lawful)))

call_range : (n : ℕ) → is_call n ≡ true → n < 2 ^ 64
unfolding is_call
call_range n ok = let l = leb-true n (2 ^ 63) (and_parts (nat_le 1 n) (nat_le n (2 ^ 63)) ok).1 in omega arith

pub call_number_lawful : Lawful ℕ call 8
unfolding call
call_number_lawful = number_lawful w64 (2 ^ 64) is_call wide64 call_range

service_id_range : (n : ℕ) → is_service_id n ≡ true → n < 2 ^ 32
unfolding is_service_id
service_id_range n ok = let l = leb-true n 63 ok in omega arith

pub service_id_lawful : Lawful ℕ service_id 4
unfolding service_id
service_id_lawful = number_lawful w32 (2 ^ 32) is_service_id wide32 service_id_range

lin_id_range : (n : ℕ) → is_lin_id n ≡ true → n < 2 ^ 8
unfolding is_lin_id
lin_id_range n ok = let l = leb-true n 63 ok in omega arith

pub lin_id_lawful : Lawful ℕ lin_id 1
unfolding lin_id
lin_id_lawful = number_lawful w8 (2 ^ 8) is_lin_id wide8 lin_id_range

service_kind_back : (x : ServiceKind) → service_kind_of (service_kind_number x) ≡ Some x
service_kind_back kinds.Can = refl
service_kind_back kinds.Ethernet = refl
service_kind_back kinds.Lin = refl
service_kind_back kinds.Publisher = refl
service_kind_back kinds.Subscriber = refl
service_kind_back kinds.Server = refl
service_kind_back kinds.Client = refl

service_kind_small : (x : ServiceKind) → service_kind_number x < 2 ^ 8
service_kind_small kinds.Can = omega arith
service_kind_small kinds.Ethernet = omega arith
service_kind_small kinds.Lin = omega arith
service_kind_small kinds.Publisher = omega arith
service_kind_small kinds.Subscriber = omega arith
service_kind_small kinds.Server = omega arith
service_kind_small kinds.Client = omega arith

service_kind_forth : (n : ℕ) (x : ServiceKind) → service_kind_of n ≡ Some x → service_kind_number x ≡ n
service_kind_forth n x =
    looked service_kind_number n 1 kinds.Can _ x refl
    (looked service_kind_number n 2 kinds.Ethernet _ x refl
    (looked service_kind_number n 3 kinds.Lin _ x refl
    (looked service_kind_number n 4 kinds.Publisher _ x refl
    (looked service_kind_number n 5 kinds.Subscriber _ x refl
    (looked service_kind_number n 6 kinds.Server _ x refl
    (looked service_kind_number n 7 kinds.Client _ x refl (λ e. absurd cc)))))))

pub service_kind_lawful : Lawful ServiceKind service_kind 1
unfolding service_kind
service_kind_lawful = choice_lawful service_kind_number service_kind_of service_kind_back service_kind_forth service_kind_small

label_kind_back : (x : LabelKind) → label_kind_of (label_kind_number x) ≡ Some x
label_kind_back Optional = refl
label_kind_back Mandatory = refl

label_kind_small : (x : LabelKind) → label_kind_number x < 2 ^ 8
label_kind_small Optional = omega arith
label_kind_small Mandatory = omega arith

label_kind_forth : (n : ℕ) (x : LabelKind) → label_kind_of n ≡ Some x → label_kind_number x ≡ n
label_kind_forth n x =
    looked label_kind_number n 0 Optional _ x refl
    (looked label_kind_number n 1 Mandatory _ x refl (λ e. absurd cc))

pub label_kind_lawful : Lawful LabelKind label_kind 1
unfolding label_kind
label_kind_lawful = choice_lawful label_kind_number label_kind_of label_kind_back label_kind_forth label_kind_small

lin_checksum_back : (x : LinChecksum) → lin_checksum_of (lin_checksum_number x) ≡ Some x
lin_checksum_back checksums.Unknown = refl
lin_checksum_back checksums.Classic = refl
lin_checksum_back checksums.Enhanced = refl

lin_checksum_small : (x : LinChecksum) → lin_checksum_number x < 2 ^ 8
lin_checksum_small checksums.Unknown = omega arith
lin_checksum_small checksums.Classic = omega arith
lin_checksum_small checksums.Enhanced = omega arith

lin_checksum_forth : (n : ℕ) (x : LinChecksum) → lin_checksum_of n ≡ Some x → lin_checksum_number x ≡ n
lin_checksum_forth n x =
    looked lin_checksum_number n 0 checksums.Unknown _ x refl
    (looked lin_checksum_number n 1 checksums.Classic _ x refl
    (looked lin_checksum_number n 2 checksums.Enhanced _ x refl (λ e. absurd cc)))

pub lin_checksum_lawful : Lawful LinChecksum lin_checksum 1
unfolding lin_checksum
lin_checksum_lawful = choice_lawful lin_checksum_number lin_checksum_of lin_checksum_back lin_checksum_forth lin_checksum_small

lin_status_back : (x : LinStatus) → lin_status_of (lin_status_number x) ≡ Some x
lin_status_back statuses.RxOk = refl
lin_status_back statuses.RxError = refl
lin_status_back statuses.RxNoResponse = refl
lin_status_back statuses.Wakeup = refl

lin_status_small : (x : LinStatus) → lin_status_number x < 2 ^ 8
lin_status_small statuses.RxOk = omega arith
lin_status_small statuses.RxError = omega arith
lin_status_small statuses.RxNoResponse = omega arith
lin_status_small statuses.Wakeup = omega arith

lin_status_forth : (n : ℕ) (x : LinStatus) → lin_status_of n ≡ Some x → lin_status_number x ≡ n
lin_status_forth n x =
    looked lin_status_number n 0 statuses.RxOk _ x refl
    (looked lin_status_number n 1 statuses.RxError _ x refl
    (looked lin_status_number n 2 statuses.RxNoResponse _ x refl
    (looked lin_status_number n 3 statuses.Wakeup _ x refl (λ e. absurd cc))))

pub lin_status_lawful : Lawful LinStatus lin_status 1
unfolding lin_status
lin_status_lawful = choice_lawful lin_status_number lin_status_of lin_status_back lin_status_forth lin_status_small

lin_mode_back : (x : LinMode) → lin_mode_of (lin_mode_number x) ≡ Some x
lin_mode_back modes.Unused = refl
lin_mode_back modes.Rx = refl
lin_mode_back modes.TxUnconditional = refl

lin_mode_small : (x : LinMode) → lin_mode_number x < 2 ^ 8
lin_mode_small modes.Unused = omega arith
lin_mode_small modes.Rx = omega arith
lin_mode_small modes.TxUnconditional = omega arith

lin_mode_forth : (n : ℕ) (x : LinMode) → lin_mode_of n ≡ Some x → lin_mode_number x ≡ n
lin_mode_forth n x =
    looked lin_mode_number n 0 modes.Unused _ x refl
    (looked lin_mode_number n 1 modes.Rx _ x refl
    (looked lin_mode_number n 2 modes.TxUnconditional _ x refl (λ e. absurd cc)))

pub lin_mode_lawful : Lawful LinMode lin_mode 1
unfolding lin_mode
lin_mode_lawful = choice_lawful lin_mode_number lin_mode_of lin_mode_back lin_mode_forth lin_mode_small

reason_back : (x : RefuseReason) → reason_of (reason_number x) ≡ Some x
reason_back reasons.NameTaken = refl
reason_back reasons.Full = refl
reason_back reasons.Late = refl

reason_small : (x : RefuseReason) → reason_number x < 2 ^ 8
reason_small reasons.NameTaken = omega arith
reason_small reasons.Full = omega arith
reason_small reasons.Late = omega arith

reason_forth : (n : ℕ) (x : RefuseReason) → reason_of n ≡ Some x → reason_number x ≡ n
reason_forth n x =
    looked reason_number n 1 reasons.NameTaken _ x refl
    (looked reason_number n 2 reasons.Full _ x refl
    (looked reason_number n 3 reasons.Late _ x refl (λ e. absurd cc)))

pub reason_lawful : Lawful RefuseReason reason 1
unfolding reason
reason_lawful = choice_lawful reason_number reason_of reason_back reason_forth reason_small

state_back : (x : State) → state_of (state_number x) ≡ Some x
state_back states.Invalid = refl
state_back states.ServicesCreated = refl
state_back states.CommunicationInitializing = refl
state_back states.CommunicationInitialized = refl
state_back states.ReadyToRun = refl
state_back states.Running = refl
state_back states.Paused = refl
state_back states.Stopping = refl
state_back states.Stopped = refl
state_back states.Error = refl
state_back states.ShuttingDown = refl
state_back states.Shutdown = refl
state_back states.Aborting = refl

state_small : (x : State) → state_number x < 2 ^ 8
state_small states.Invalid = omega arith
state_small states.ServicesCreated = omega arith
state_small states.CommunicationInitializing = omega arith
state_small states.CommunicationInitialized = omega arith
state_small states.ReadyToRun = omega arith
state_small states.Running = omega arith
state_small states.Paused = omega arith
state_small states.Stopping = omega arith
state_small states.Stopped = omega arith
state_small states.Error = omega arith
state_small states.ShuttingDown = omega arith
state_small states.Shutdown = omega arith
state_small states.Aborting = omega arith

state_forth : (n : ℕ) (x : State) → state_of n ≡ Some x → state_number x ≡ n
state_forth n x =
    looked state_number n 0 states.Invalid _ x refl
    (looked state_number n 10 states.ServicesCreated _ x refl
    (looked state_number n 20 states.CommunicationInitializing _ x refl
    (looked state_number n 30 states.CommunicationInitialized _ x refl
    (looked state_number n 40 states.ReadyToRun _ x refl
    (looked state_number n 50 states.Running _ x refl
    (looked state_number n 60 states.Paused _ x refl
    (looked state_number n 70 states.Stopping _ x refl
    (looked state_number n 80 states.Stopped _ x refl
    (looked state_number n 90 states.Error _ x refl
    (looked state_number n 100 states.ShuttingDown _ x refl
    (looked state_number n 110 states.Shutdown _ x refl
    (looked state_number n 120 states.Aborting _ x refl (λ e. absurd cc)))))))))))))

pub any_state_lawful : Lawful State (choice state_number state_of) 1
any_state_lawful = choice_lawful state_number state_of state_back state_forth state_small

pub state_lawful : Lawful State state 1
unfolding state
state_lawful = such_that_lawful is_told (choice state_number state_of) 1 any_state_lawful

flags_back : (x : Flags) → flags_of (flags_number x) ≡ Some x
flags_back x = at x.0 x.1
  where
    at : (extended fd : Bool) → flags_of (flags_number (flags extended fd)) ≡ Some (flags extended fd)
    at false false = refl
    at true false = refl
    at false true = refl
    at true true = refl

flags_small : (x : Flags) → flags_number x < 2 ^ 8
flags_small x = at x.0 x.1
  where
    at : (extended fd : Bool) → flags_number (flags extended fd) < 2 ^ 8
    at false false = omega arith
    at true false = omega arith
    at false true = omega arith
    at true true = omega arith

flags_forth : (n : ℕ) (x : Flags) → flags_of n ≡ Some x → flags_number x ≡ n
flags_forth n x =
    looked flags_number n 0 (flags false false) _ x refl
    (looked flags_number n 1 (flags true false) _ x refl
    (looked flags_number n 2 (flags false true) _ x refl
    (looked flags_number n 3 (flags true true) _ x refl (λ e. absurd cc))))

pub can_flags_lawful : Lawful Flags can_flags 1
unfolding can_flags
can_flags_lawful = choice_lawful flags_number flags_of flags_back flags_forth flags_small

pub can_bytes_lawful : (id : ℕ) (f : Flags) → Lawful (List ℕ) (can_bytes id f) 4098
can_bytes_lawful id f = such_that_lawful (is_can_frame id f.0 f.1) payload 4098 payload_lawful

pub eth_bytes_lawful : Lawful (List ℕ) eth_bytes 4098
unfolding eth_bytes
eth_bytes_lawful = such_that_lawful is_eth_frame payload 4098 payload_lawful

pub lin_bytes_lawful : (carries : Bool) (checksum : LinChecksum) → Lawful (List ℕ) (lin_bytes carries checksum) 4098
lin_bytes_lawful carries checksum = such_that_lawful (is_lin_payload carries checksum) payload 4098 payload_lawful

label_count_range : (n : ℕ) → is_label_count n ≡ true → (n ≤ 16) × (n < 2 ^ 8)
unfolding is_label_count
label_count_range n ok = let l = leb-true n 16 ok in (l, omega arith)

pub new_key_lawful : (before : List Label) → Lawful (List ℕ) (such_that (is_new_key before) name) 65
new_key_lawful before = such_that_lawful (is_new_key before) name 65 name_lawful

pub new_label_lawful : (before : List Label) → Lawful Label (new_label before) 131
new_label_lawful before =
    held_lawful (λ x. record { key = x.0; value = x.1.0; kind = x.1.1 }) (λ l. (l.key, (l.value, l.kind))) (such_that (is_new_key before) name & λ key. text & λ value. label_kind) 131 (λ l. refl) (λ x. refl)
    (then_lawful (such_that (is_new_key before) name) (λ _. text & λ _. label_kind) 65 66 (new_key_lawful before) (λ _. then_lawful text (λ _. label_kind) 65 1 text_lawful (λ _. label_kind_lawful)))

pub labels_lawful : Lawful (List Label) labels 2097
unfolding labels
labels_lawful = list_lawful new_label 131 new_label_lawful (λ before x. refl) is_label_count 16 label_count_range

required_range : (n : ℕ) → is_required_count n ≡ true → (n ≤ 32) × (n < 2 ^ 8)
unfolding is_required_count
required_range n ok = let l = leb-true n 32 (and_parts (nat_le 1 n) (nat_le n 32) ok).1 in (l, omega arith)

pub new_name_lawful : (before : List (List ℕ)) → Lawful (List ℕ) (new_name before) 65
new_name_lawful before = such_that_lawful (is_new_name before) name 65 name_lawful

pub required_names_lawful : Lawful (List (List ℕ)) required_names 2081
unfolding required_names
required_names_lawful = list_lawful new_name 65 new_name_lawful (λ before x. refl) is_required_count 32 required_range

-- ---- rows

pub hello_lawful : Lawful (List ℕ × (Role × List ℕ)) hello_row 131
hello_lawful =
    then_lawful name (λ name. role & λ role. text) 65 66 name_lawful (λ name.
    then_lawful role (λ role. text) 1 65 role_lawful (λ role.
    text_lawful))

pub leave_lawful : Lawful (Unit {0}) leave_row 0
leave_lawful =
    nothing_lawful

pub next_step_lawful : Lawful (ℕ × ℕ) next_step_row 16
next_step_lawful =
    then_lawful time (λ at. step_size) 8 8 time_lawful (λ at.
    step_size_lawful)

pub service_add_lawful : Lawful (ℕ × (ServiceKind × (List ℕ × (List ℕ × (List ℕ × List Label))))) service_add_row 2297
service_add_lawful =
    then_lawful service_id (λ id. service_kind & λ kind. name & λ own. name & λ topic. text & λ media. labels) 4 2293 service_id_lawful (λ id.
    then_lawful service_kind (λ kind. name & λ own. name & λ topic. text & λ media. labels) 1 2292 service_kind_lawful (λ kind.
    then_lawful name (λ own. name & λ topic. text & λ media. labels) 65 2227 name_lawful (λ own.
    then_lawful name (λ topic. text & λ media. labels) 65 2162 name_lawful (λ topic.
    then_lawful text (λ media. labels) 65 2097 text_lawful (λ media.
    labels_lawful)))))

pub services_end_lawful : Lawful (Unit {0}) services_end_row 0
services_end_lawful =
    nothing_lawful

pub status_lawful : Lawful (State × ℕ) status_row 9
status_lawful =
    then_lawful state (λ state. time) 1 8 state_lawful (λ state.
    time_lawful)

pub workflow_lawful : Lawful (List (List ℕ)) workflow_row 2081
workflow_lawful =
    required_names_lawful

pub abort_lawful : Lawful (Unit {0}) abort_row 0
abort_lawful =
    nothing_lawful

pub can_lawful : Lawful (Head × (ℕ × (Flags × List ℕ))) can_row 4123
can_lawful =
    then_lawful head (λ head. any32 & λ id. can_flags & λ f. can_bytes id f) 20 4103 head_lawful (λ head.
    then_lawful any32 (λ id. can_flags & λ f. can_bytes id f) 4 4099 any32_lawful (λ id.
    then_lawful can_flags (λ f. can_bytes id f) 1 4098 can_flags_lawful (λ f.
    can_bytes_lawful id f)))

pub eth_lawful : Lawful (Head × List ℕ) eth_row 4118
eth_lawful =
    then_lawful head (λ head. eth_bytes) 20 4098 head_lawful (λ head.
    eth_bytes_lawful)

pub lin_lawful : Lawful (Head × (ℕ × (LinChecksum × (LinStatus × List ℕ)))) lin_row 4121
lin_lawful =
    then_lawful head (λ head. lin_id & λ id. lin_checksum & λ checksum. lin_status & λ status. lin_bytes (is_received status) checksum) 20 4101 head_lawful (λ head.
    then_lawful lin_id (λ id. lin_checksum & λ checksum. lin_status & λ status. lin_bytes (is_received status) checksum) 1 4100 lin_id_lawful (λ id.
    then_lawful lin_checksum (λ checksum. lin_status & λ status. lin_bytes (is_received status) checksum) 1 4099 lin_checksum_lawful (λ checksum.
    then_lawful lin_status (λ status. lin_bytes (is_received status) checksum) 1 4098 lin_status_lawful (λ status.
    lin_bytes_lawful (is_received status) checksum))))

pub lin_response_lawful : Lawful (Head × (ℕ × (LinMode × (LinChecksum × List ℕ)))) lin_response_row 4121
lin_response_lawful =
    then_lawful head (λ head. lin_id & λ id. lin_mode & λ mode. lin_checksum & λ checksum. lin_bytes (is_sent mode) checksum) 20 4101 head_lawful (λ head.
    then_lawful lin_id (λ id. lin_mode & λ mode. lin_checksum & λ checksum. lin_bytes (is_sent mode) checksum) 1 4100 lin_id_lawful (λ id.
    then_lawful lin_mode (λ mode. lin_checksum & λ checksum. lin_bytes (is_sent mode) checksum) 1 4099 lin_mode_lawful (λ mode.
    then_lawful lin_checksum (λ checksum. lin_bytes (is_sent mode) checksum) 1 4098 lin_checksum_lawful (λ checksum.
    lin_bytes_lawful (is_sent mode) checksum))))

pub publish_lawful : Lawful (Head × List ℕ) publish_row 4118
publish_lawful =
    then_lawful head (λ head. payload) 20 4098 head_lawful (λ head.
    payload_lawful)

pub call_lawful : Lawful (Head × (ℕ × List ℕ)) call_row 4126
call_lawful =
    then_lawful head (λ head. call & λ call. payload) 20 4106 head_lawful (λ head.
    then_lawful call (λ call. payload) 8 4098 call_number_lawful (λ call.
    payload_lawful))

pub reply_lawful : Lawful (Head × (ℕ × (ℕ × List ℕ))) reply_row 4130
reply_lawful =
    then_lawful head (λ head. any32 & λ client. call & λ call. payload) 20 4110 head_lawful (λ head.
    then_lawful any32 (λ client. call & λ call. payload) 4 4106 any32_lawful (λ client.
    then_lawful call (λ call. payload) 8 4098 call_number_lawful (λ call.
    payload_lawful)))

pub refuse_lawful : Lawful (RefuseReason) refuse_row 1
refuse_lawful =
    reason_lawful
