-- A body is read exactly where it is one of a message, and each message has one.
use Rattle.std.proofs.Common.{◌≡◌, ℕ, suc, ◌+◌, ◌≤◌, Bool, true, false, cond, eqb, List, [], ◌∷◌, ◌++◌, length, take, drop, Result, Ok, Err, refl, sym, ap, subst, ◌∙◌, append_assoc, arith}
use Rattle.std.specs.Int.{w32, to_le_bytes, from_le_bytes}
use Rattle.std.proofs.lemmas.Nat.{from_le_bytes-to_le_bytes_4}
use Rattle.std.specs.Prelude.{not}
use Rattle.std.proofs.lemmas.Bool.{eqb-true, and_parts, not-true}
use Rattle.std.proofs.lemmas.List.{append-nil, nil_from_length, length-append, take_at, drop_at}
use Rattle.sk_msg.specs.declared.content.Content.{Content}
use Rattle.sk_msg.specs.declared.content.Content.TheVariants.{Hello, Leave, NextStep, ServiceAdd, ServicesEnd, Status, Workflow, Abort, Can, Eth, Lin, LinResponse, Publish, Call, Reply, Refuse}
use Rattle.sk_msg.specs.declared.service.Service.{Service}
use Rattle.sk_msg.specs.Rules.{is_head, is_message}
use Rattle.sk_wire.specs.declared.fault.BodyFault.{BodyFault}
use Rattle.sk_wire.specs.Reading.{bad}
use Rattle.sk_wire.specs.Fields.{Field}
use Rattle.sk_wire.specs.Kinds.{name, text, payload, any32, time, step_size, mark, head, call, role, service_id, service_kind, label_kind, lin_checksum, lin_status, lin_mode, reason, labels, state, required_names, can_flags, eth_bytes, lin_id, hello_row, leave_row, next_step_row, service_add_row, services_end_row, status_row, workflow_row, abort_row, can_row, eth_row, lin_row, lin_response_row, publish_row, call_row, reply_row, refuse_row}
use Rattle.sk_wire.specs.Held.{service_parts, service_of, can_parts, can_of, lin_parts, lin_of, response_parts, response_of}
use Rattle.sk_wire.specs.Grammar.{kind_of, fields, body, spelling, whole, hello_at, leave_at, next_step_at, service_add_at, services_end_at, status_at, workflow_at, abort_at, can_at, eth_at, lin_at, lin_response_at, publish_at, call_at, reply_at, refuse_at, fields_at, body_at}
use Rattle.sk_wire.specs.Faults.{announced}
use Rattle.sk_wire.specs.Stream.{AreBytes}
use Rattle.sk_wire.proofs.FieldLaws.{bind_ok, guard_passed, ok_is, Lawful}
use Rattle.sk_wire.proofs.KindLaws.{hello_lawful, leave_lawful, next_step_lawful, service_add_lawful, services_end_lawful, status_lawful, workflow_lawful, abort_lawful, can_lawful, eth_lawful, lin_lawful, lin_response_lawful, publish_lawful, call_lawful, reply_lawful, refuse_lawful}

-- these bytes are the fields of the message, which is of this kind and keeps the rules
pub record IsOf (kind : ℕ) (bytes : List ℕ) (m : Content) : Type 0 where
  pub kind_is : kind ≡ kind_of m
  pub fields_are : bytes ≡ fields m
  pub rules : is_message m ≡ true

module _ {A : Type 0} (row : Field A) (most : ℕ) (lawful : Lawful A row most) (made : A → Content) where
  pub whole_takes : (kind : ℕ) → ((x : A) → row.fits x ≡ true → IsOf kind (row.spelling x) (made x)) → (bytes : List ℕ) (m : Content) → AreBytes bytes → whole row made bytes ≡ Ok m → IsOf kind bytes m
  whole_takes kind is bytes m fits e =
      let b = bind_ok (row.at bytes) (λ x. cond (eqb (length x.1) 0) (Ok (made x.0)) (Err (bad x.1))) m e in
      let g = guard_passed (eqb (length b.0.1) 0) (bad b.0.1) (made b.0.0) m b.2 in
      let t = lawful.takes bytes b.0 fits b.1 in
      let nothing_left : b.0.1 ≡ [] = nil_from_length b.0.1 (eqb-true _ _ g.0) in
      let all : bytes ≡ row.spelling b.0.0 = t.0 ∙ ap (λ (r : List ℕ). row.spelling b.0.0 ++ r) nothing_left ∙ append-nil (row.spelling b.0.0) in
      let made_is = is b.0.0 t.1 in
      subst (λ (x : Content). IsOf kind bytes x) g.1 (record { kind_is = made_is.kind_is; fields_are = all ∙ made_is.fields_are; rules = made_is.rules })

  pub whole_again : (x : A) → row.fits x ≡ true → whole row made (row.spelling x) ≡ Ok (made x)
  whole_again x ok = ap (whole row made) (sym (append-nil (row.spelling x))) ∙ rw (lawful.again x [] ok) refl

-- ---- the kinds

hello_takes : (bytes : List ℕ) (m : Content) → AreBytes bytes → hello_at bytes ≡ Ok m → IsOf 1 bytes m
unfolding hello_at is_message fields kind_of name text payload any32 time step_size mark head is_head call role service_id service_kind label_kind lin_checksum lin_status lin_mode reason labels state required_names can_flags eth_bytes lin_id
hello_takes = whole_takes hello_row 131 hello_lawful (λ x. Hello x.0 x.1.0 x.1.1) 1 (λ x ok. record { kind_is = refl; fields_are = refl; rules = ok })

leave_takes : (bytes : List ℕ) (m : Content) → AreBytes bytes → leave_at bytes ≡ Ok m → IsOf 2 bytes m
unfolding leave_at is_message fields kind_of name text payload any32 time step_size mark head is_head call role service_id service_kind label_kind lin_checksum lin_status lin_mode reason labels state required_names can_flags eth_bytes lin_id
leave_takes = whole_takes leave_row 0 leave_lawful (λ x. Leave) 2 (λ x ok. record { kind_is = refl; fields_are = refl; rules = ok })

next_step_takes : (bytes : List ℕ) (m : Content) → AreBytes bytes → next_step_at bytes ≡ Ok m → IsOf 3 bytes m
unfolding next_step_at is_message fields kind_of name text payload any32 time step_size mark head is_head call role service_id service_kind label_kind lin_checksum lin_status lin_mode reason labels state required_names can_flags eth_bytes lin_id
next_step_takes = whole_takes next_step_row 16 next_step_lawful (λ x. NextStep x.0 x.1) 3 (λ x ok. record { kind_is = refl; fields_are = refl; rules = ok })

service_add_takes : (bytes : List ℕ) (m : Content) → AreBytes bytes → service_add_at bytes ≡ Ok m → IsOf 4 bytes m
unfolding service_add_at is_message fields kind_of name text payload any32 time step_size mark head is_head call role service_id service_kind label_kind lin_checksum lin_status lin_mode reason labels state required_names can_flags eth_bytes lin_id
service_add_takes = whole_takes service_add_row 2297 service_add_lawful service_of 4 (λ x ok. record { kind_is = refl; fields_are = refl; rules = ok })

services_end_takes : (bytes : List ℕ) (m : Content) → AreBytes bytes → services_end_at bytes ≡ Ok m → IsOf 5 bytes m
unfolding services_end_at is_message fields kind_of name text payload any32 time step_size mark head is_head call role service_id service_kind label_kind lin_checksum lin_status lin_mode reason labels state required_names can_flags eth_bytes lin_id
services_end_takes = whole_takes services_end_row 0 services_end_lawful (λ x. ServicesEnd) 5 (λ x ok. record { kind_is = refl; fields_are = refl; rules = ok })

status_takes : (bytes : List ℕ) (m : Content) → AreBytes bytes → status_at bytes ≡ Ok m → IsOf 6 bytes m
unfolding status_at is_message fields kind_of name text payload any32 time step_size mark head is_head call role service_id service_kind label_kind lin_checksum lin_status lin_mode reason labels state required_names can_flags eth_bytes lin_id
status_takes = whole_takes status_row 9 status_lawful (λ x. Status x.0 x.1) 6 (λ x ok. record { kind_is = refl; fields_are = refl; rules = ok })

workflow_takes : (bytes : List ℕ) (m : Content) → AreBytes bytes → workflow_at bytes ≡ Ok m → IsOf 7 bytes m
unfolding workflow_at is_message fields kind_of name text payload any32 time step_size mark head is_head call role service_id service_kind label_kind lin_checksum lin_status lin_mode reason labels state required_names can_flags eth_bytes lin_id
workflow_takes = whole_takes workflow_row 2081 workflow_lawful (λ x. Workflow x) 7 (λ x ok. record { kind_is = refl; fields_are = refl; rules = ok })

abort_takes : (bytes : List ℕ) (m : Content) → AreBytes bytes → abort_at bytes ≡ Ok m → IsOf 8 bytes m
unfolding abort_at is_message fields kind_of name text payload any32 time step_size mark head is_head call role service_id service_kind label_kind lin_checksum lin_status lin_mode reason labels state required_names can_flags eth_bytes lin_id
abort_takes = whole_takes abort_row 0 abort_lawful (λ x. Abort) 8 (λ x ok. record { kind_is = refl; fields_are = refl; rules = ok })

can_takes : (bytes : List ℕ) (m : Content) → AreBytes bytes → can_at bytes ≡ Ok m → IsOf 9 bytes m
unfolding can_at is_message fields kind_of name text payload any32 time step_size mark head is_head call role service_id service_kind label_kind lin_checksum lin_status lin_mode reason labels state required_names can_flags eth_bytes lin_id
can_takes = whole_takes can_row 4123 can_lawful can_of 9 (λ x ok. record { kind_is = refl; fields_are = refl; rules = ok })

eth_takes : (bytes : List ℕ) (m : Content) → AreBytes bytes → eth_at bytes ≡ Ok m → IsOf 10 bytes m
unfolding eth_at is_message fields kind_of name text payload any32 time step_size mark head is_head call role service_id service_kind label_kind lin_checksum lin_status lin_mode reason labels state required_names can_flags eth_bytes lin_id
eth_takes = whole_takes eth_row 4118 eth_lawful (λ x. Eth x.0 x.1) 10 (λ x ok. record { kind_is = refl; fields_are = refl; rules = ok })

lin_takes : (bytes : List ℕ) (m : Content) → AreBytes bytes → lin_at bytes ≡ Ok m → IsOf 11 bytes m
unfolding lin_at is_message fields kind_of name text payload any32 time step_size mark head is_head call role service_id service_kind label_kind lin_checksum lin_status lin_mode reason labels state required_names can_flags eth_bytes lin_id
lin_takes = whole_takes lin_row 4121 lin_lawful lin_of 11 (λ x ok. record { kind_is = refl; fields_are = refl; rules = ok })

lin_response_takes : (bytes : List ℕ) (m : Content) → AreBytes bytes → lin_response_at bytes ≡ Ok m → IsOf 12 bytes m
unfolding lin_response_at is_message fields kind_of name text payload any32 time step_size mark head is_head call role service_id service_kind label_kind lin_checksum lin_status lin_mode reason labels state required_names can_flags eth_bytes lin_id
lin_response_takes = whole_takes lin_response_row 4121 lin_response_lawful response_of 12 (λ x ok. record { kind_is = refl; fields_are = refl; rules = ok })

publish_takes : (bytes : List ℕ) (m : Content) → AreBytes bytes → publish_at bytes ≡ Ok m → IsOf 13 bytes m
unfolding publish_at is_message fields kind_of name text payload any32 time step_size mark head is_head call role service_id service_kind label_kind lin_checksum lin_status lin_mode reason labels state required_names can_flags eth_bytes lin_id
publish_takes = whole_takes publish_row 4118 publish_lawful (λ x. Publish x.0 x.1) 13 (λ x ok. record { kind_is = refl; fields_are = refl; rules = ok })

call_takes : (bytes : List ℕ) (m : Content) → AreBytes bytes → call_at bytes ≡ Ok m → IsOf 14 bytes m
unfolding call_at is_message fields kind_of name text payload any32 time step_size mark head is_head call role service_id service_kind label_kind lin_checksum lin_status lin_mode reason labels state required_names can_flags eth_bytes lin_id
call_takes = whole_takes call_row 4126 call_lawful (λ x. Call x.0 x.1.0 x.1.1) 14 (λ x ok. record { kind_is = refl; fields_are = refl; rules = ok })

reply_takes : (bytes : List ℕ) (m : Content) → AreBytes bytes → reply_at bytes ≡ Ok m → IsOf 15 bytes m
unfolding reply_at is_message fields kind_of name text payload any32 time step_size mark head is_head call role service_id service_kind label_kind lin_checksum lin_status lin_mode reason labels state required_names can_flags eth_bytes lin_id
reply_takes = whole_takes reply_row 4130 reply_lawful (λ x. Reply x.0 x.1.0 x.1.1.0 x.1.1.1) 15 (λ x ok. record { kind_is = refl; fields_are = refl; rules = ok })

refuse_takes : (bytes : List ℕ) (m : Content) → AreBytes bytes → refuse_at bytes ≡ Ok m → IsOf 16 bytes m
unfolding refuse_at is_message fields kind_of name text payload any32 time step_size mark head is_head call role service_id service_kind label_kind lin_checksum lin_status lin_mode reason labels state required_names can_flags eth_bytes lin_id
refuse_takes = whole_takes refuse_row 1 refuse_lawful (λ x. Refuse x) 16 (λ x ok. record { kind_is = refl; fields_are = refl; rules = ok })

no_history : (s : Service) → s.history ≡ false → service_of (service_parts s) ≡ ServiceAdd s
no_history s e = ap (λ (h : Bool). ServiceAdd (record s { history = h })) (sym e)

service_add_again : (s : Service) → is_message (ServiceAdd s) ≡ true → service_add_at (fields (ServiceAdd s)) ≡ Ok (ServiceAdd s)
unfolding service_add_at is_message fields name text payload any32 time step_size mark head is_head call role service_id service_kind label_kind lin_checksum lin_status lin_mode reason labels state required_names can_flags eth_bytes lin_id
service_add_again s ok =
    let both = and_parts (not s.history) (service_add_row.fits (service_parts s)) ok in
    whole_again service_add_row 2297 service_add_lawful service_of (service_parts s) both.1 ∙ ap (λ (m : Content). Ok m) (no_history s (not-true s.history both.0))

service_add_bound : (s : Service) → is_message (ServiceAdd s) ≡ true → length (fields (ServiceAdd s)) ≤ 2297
unfolding is_message fields name text payload any32 time step_size mark head is_head call role service_id service_kind label_kind lin_checksum lin_status lin_mode reason labels state required_names can_flags eth_bytes lin_id
service_add_bound s ok = service_add_lawful.bound (service_parts s) (and_parts (not s.history) (service_add_row.fits (service_parts s)) ok).1

-- one step down the table of kinds
down : (kind n : ℕ) (bytes : List ℕ) (m : Content) (read other : Result Content BodyFault)
    → (read ≡ Ok m → IsOf n bytes m) → (other ≡ Ok m → IsOf kind bytes m) → cond (eqb kind n) read other ≡ Ok m → IsOf kind bytes m
down kind n bytes m read other here below = at (eqb kind n) refl
  where
    at : (b : Bool) → eqb kind n ≡ b → cond b read other ≡ Ok m → IsOf kind bytes m
    at true k e = subst (λ (i : ℕ). IsOf i bytes m) (sym (eqb-true kind n k)) (here e)
    at false k e = below e

pub fields_takes : (kind : ℕ) (bytes : List ℕ) (m : Content) → AreBytes bytes → fields_at kind bytes ≡ Ok m → IsOf kind bytes m
unfolding fields_at
fields_takes kind bytes m fits =
    down kind 1 bytes m _ _ (hello_takes bytes m fits)
    (down kind 2 bytes m _ _ (leave_takes bytes m fits)
    (down kind 3 bytes m _ _ (next_step_takes bytes m fits)
    (down kind 4 bytes m _ _ (service_add_takes bytes m fits)
    (down kind 5 bytes m _ _ (services_end_takes bytes m fits)
    (down kind 6 bytes m _ _ (status_takes bytes m fits)
    (down kind 7 bytes m _ _ (workflow_takes bytes m fits)
    (down kind 8 bytes m _ _ (abort_takes bytes m fits)
    (down kind 9 bytes m _ _ (can_takes bytes m fits)
    (down kind 10 bytes m _ _ (eth_takes bytes m fits)
    (down kind 11 bytes m _ _ (lin_takes bytes m fits)
    (down kind 12 bytes m _ _ (lin_response_takes bytes m fits)
    (down kind 13 bytes m _ _ (publish_takes bytes m fits)
    (down kind 14 bytes m _ _ (call_takes bytes m fits)
    (down kind 15 bytes m _ _ (reply_takes bytes m fits)
    (down kind 16 bytes m _ _ (refuse_takes bytes m fits)
    (λ e. absurd cc))))))))))))))))

pub fields_again : (m : Content) → is_message m ≡ true → fields_at (kind_of m) (fields m) ≡ Ok m
unfolding fields_at is_message fields kind_of hello_at leave_at next_step_at service_add_at services_end_at status_at workflow_at abort_at can_at eth_at lin_at lin_response_at publish_at call_at reply_at refuse_at name text payload any32 time step_size mark head is_head call role service_id service_kind label_kind lin_checksum lin_status lin_mode reason labels state required_names can_flags eth_bytes lin_id
fields_again (Hello name role address) ok = whole_again hello_row 131 hello_lawful (λ x. Hello x.0 x.1.0 x.1.1) (name, (role, address)) ok
fields_again Leave ok = whole_again leave_row 0 leave_lawful (λ x. Leave) tt ok
fields_again (NextStep at duration) ok = whole_again next_step_row 16 next_step_lawful (λ x. NextStep x.0 x.1) (at, duration) ok
fields_again (ServiceAdd s) ok = service_add_again s ok
fields_again ServicesEnd ok = whole_again services_end_row 0 services_end_lawful (λ x. ServicesEnd) tt ok
fields_again (Status state until) ok = whole_again status_row 9 status_lawful (λ x. Status x.0 x.1) (state, until) ok
fields_again (Workflow required) ok = whole_again workflow_row 2081 workflow_lawful (λ x. Workflow x) required ok
fields_again Abort ok = whole_again abort_row 0 abort_lawful (λ x. Abort) tt ok
fields_again (Can head f) ok = whole_again can_row 4123 can_lawful can_of (can_parts head f) ok
fields_again (Eth head bytes) ok = whole_again eth_row 4118 eth_lawful (λ x. Eth x.0 x.1) (head, bytes) ok
fields_again (Lin head f) ok = whole_again lin_row 4121 lin_lawful lin_of (lin_parts head f) ok
fields_again (LinResponse head r) ok = whole_again lin_response_row 4121 lin_response_lawful response_of (response_parts head r) ok
fields_again (Publish head bytes) ok = whole_again publish_row 4118 publish_lawful (λ x. Publish x.0 x.1) (head, bytes) ok
fields_again (Call head call bytes) ok = whole_again call_row 4126 call_lawful (λ x. Call x.0 x.1.0 x.1.1) (head, (call, bytes)) ok
fields_again (Reply head client call bytes) ok = whole_again reply_row 4130 reply_lawful (λ x. Reply x.0 x.1.0 x.1.1.0 x.1.1.1) (head, (client, (call, bytes))) ok
fields_again (Refuse reason) ok = whole_again refuse_row 1 refuse_lawful (λ x. Refuse x) reason ok

pub fields_bound : (m : Content) → is_message m ≡ true → length (fields m) ≤ 8190
unfolding is_message fields name text payload any32 time step_size mark head is_head call role service_id service_kind label_kind lin_checksum lin_status lin_mode reason labels state required_names can_flags eth_bytes lin_id
fields_bound (Hello name role address) ok = omega (arith, hello_lawful.bound (name, (role, address)) ok)
fields_bound Leave ok = omega (arith, leave_lawful.bound tt ok)
fields_bound (NextStep at duration) ok = omega (arith, next_step_lawful.bound (at, duration) ok)
fields_bound (ServiceAdd s) ok = omega (arith, service_add_bound s ok)
fields_bound ServicesEnd ok = omega (arith, services_end_lawful.bound tt ok)
fields_bound (Status state until) ok = omega (arith, status_lawful.bound (state, until) ok)
fields_bound (Workflow required) ok = omega (arith, workflow_lawful.bound required ok)
fields_bound Abort ok = omega (arith, abort_lawful.bound tt ok)
fields_bound (Can head f) ok = omega (arith, can_lawful.bound (can_parts head f) ok)
fields_bound (Eth head bytes) ok = omega (arith, eth_lawful.bound (head, bytes) ok)
fields_bound (Lin head f) ok = omega (arith, lin_lawful.bound (lin_parts head f) ok)
fields_bound (LinResponse head r) ok = omega (arith, lin_response_lawful.bound (response_parts head r) ok)
fields_bound (Publish head bytes) ok = omega (arith, publish_lawful.bound (head, bytes) ok)
fields_bound (Call head call bytes) ok = omega (arith, call_lawful.bound (head, (call, bytes)) ok)
fields_bound (Reply head client call bytes) ok = omega (arith, reply_lawful.bound (head, (client, (call, bytes))) ok)
fields_bound (Refuse reason) ok = omega (arith, refuse_lawful.bound reason ok)

-- ---- bodies

pub body_again : (m : Content) → is_message m ≡ true → body_at (body m) ≡ Ok m
unfolding body_at
body_again m ok = fields_again m ok

pub body_takes : (bytes : List ℕ) (m : Content) → AreBytes bytes → body_at bytes ≡ Ok m → (bytes ≡ body m) × (is_message m ≡ true)
unfolding body_at
body_takes [] m fits e = absurd cc
body_takes (v ∷ []) m fits e = absurd cc
body_takes (v ∷ k ∷ bytes) m fits e =
    let g = guard_is _ (eqb v 1) (fields_at k bytes) m e in
    let of = fields_takes k bytes m (λ i. fits (suc (suc i))) g.1 in
    (ap (λ (n : ℕ). n ∷ k ∷ bytes) (eqb-true v 1 g.0) ∙ ap (λ (n : ℕ). 1 ∷ n ∷ bytes) of.kind_is ∙ ap (λ (xs : List ℕ). 1 ∷ kind_of m ∷ xs) of.fields_are, of.rules)
  where
    guard_is : (d : BodyFault) (b : Bool) (r : Result Content BodyFault) (m : Content) → cond b r (Err d) ≡ Ok m → (b ≡ true) × (r ≡ Ok m)
    guard_is d true r m e = (refl, e)
    guard_is d false r m e = absurd cc

-- ---- the law of spellings

same_front : (a b x y : List ℕ) → length a ≡ length b → a ++ x ≡ b ++ y → (a ≡ b) × (x ≡ y)
same_front a b x y len e = (
  sym (take_at a x (length b) len) ∙ ap (take (length b)) e ∙ take_at b y (length b) refl,
  sym (drop_at a x (length b) len) ∙ ap (drop (length b)) e ∙ drop_at b y (length b) refl,
)

pub same_body : (m n : Content) → is_message m ≡ true → is_message n ≡ true → body m ≡ body n → m ≡ n
same_body m n p q e = ok_is m n (sym (body_again m p) ∙ ap body_at e ∙ body_again n q)

pub length_spelling : (m : Content) → length (spelling m) ≡ 4 + length (body m)
unfolding spelling
length_spelling m = length-append (to_le_bytes w32 (length (body m))) (body m)

pub body_bound : (m : Content) → is_message m ≡ true → (2 ≤ length (body m)) × (length (body m) ≤ 8192)
body_bound m ok = let b = fields_bound m ok in (omega arith, omega arith)

pub announced_is : (m : Content) (x : List ℕ) → is_message m ≡ true → announced (spelling m ++ x) ≡ length (body m)
unfolding spelling announced
announced_is m x ok =
    let b = body_bound m ok in
    ap announced (append_assoc (to_le_bytes w32 (length (body m))) (body m) x)
    ∙ ap (from_le_bytes w32) (take_at (to_le_bytes w32 (length (body m))) (body m ++ x) 4 refl)
    ∙ from_le_bytes-to_le_bytes_4 (length (body m)) (omega arith)

pub same_spelling : (m n : Content) (x y : List ℕ) → is_message m ≡ true → is_message n ≡ true → spelling m ++ x ≡ spelling n ++ y → (m ≡ n) × (x ≡ y)
unfolding spelling
same_spelling m n x y p q e =
    let len : length (body m) ≡ length (body n) = sym (announced_is m x p) ∙ ap announced e ∙ announced_is n y q in
    let parts = same_front (spelling m) (spelling n) x y (length_spelling m ∙ ap (λ k. 4 + k) len ∙ sym (length_spelling n)) e in
    let bodies = same_front (to_le_bytes w32 (length (body m))) (to_le_bytes w32 (length (body n))) (body m) (body n) refl parts.0 in
    (same_body m n p q bodies.1, parts.1)
