-- The spelling of a message that carries bytes is of bytes; so messages with equal spellings in hexadecimal are equal.
use Rattle.std.proofs.Common.{◌≡◌, ◌⊎◌, inl, inr, ℕ, zero, suc, ◌+◌, ◌/◌, ◌%◌, ◌^◌, ◌<◌, ◌≤◌, true, ltb, List, [], ◌∷◌, ◌++◌, length, Option, Some, None, refl, sym, ap, subst, ◌∙◌, arith}
use Rattle.std.specs.Prelude.{not, ◌&&◌}
use Rattle.std.specs.Int.{Width, w8, w16, w32, w64, byte_len, byte_at, bytes_low_first, to_le_bytes}
use Rattle.std.specs.List.{flat_map}
use Rattle.std.specs.Str.{is_utf8}
use lib.Utf8.{scalar, scalars, encode, encodes, scalar_cases}
use Rattle.std.proofs.lemmas.Bool.{and_parts, ltb-true, cond_both}
use Rattle.std.proofs.lemmas.Str.{IsUtf8-from_is_utf8}
use Rattle.hex.specs.Hex.{encode_lower, encode_with, decode_of}
use Rattle.hex.proofs.HexLemmas.{decode_of-encode_lower, decode_of-same}
use Rattle.sk_base.specs.Ranges.{is_text, is_name}
use Rattle.sk_msg.specs.Each.{each_after}
use Rattle.sk_msg.specs.Rules.{is_message, is_new_label, is_next_name, is_required_count, is_service_id}
use Rattle.sk_msg.specs.Specs.{is_new_key, is_label_count}
use Rattle.sk_msg.specs.States.{state_number}
use Rattle.sk_msg.specs.declared.head.Head.{Head}
use Rattle.sk_msg.specs.declared.label.Label.{Label}
use Rattle.sk_msg.specs.declared.content.Content.{Content}
use Rattle.sk_msg.specs.declared.content.Content.TheVariants.{Hello, Leave, NextStep, ServiceAdd, ServicesEnd, Status, Workflow, Abort, Can, Eth, Lin, LinResponse, Publish, Call, Reply, Refuse}
use Rattle.sk_wire.specs.Grammar.{Spells, spelling, body, fields, kind_of}
use Rattle.sk_wire.specs.Kinds.{name, text, payload, any32, time, step_size, mark, head, call, role, role_number, service_id, service_kind, service_kind_number, label_kind, label_kind_number, lin_checksum, lin_checksum_number, lin_status, lin_status_number, lin_mode, lin_mode_number, reason, reason_number, new_label, labels, state, new_name, required_names, flags, flags_number, can_flags, eth_bytes, lin_id}
use Rattle.sk_wire.specs.Stream.{AreBytes}
use Rattle.sk_text.specs.Kept.{payload_of, IsMessage, IsSent}
use Rattle.sk_text.specs.Lines.{message_hex, sent_hex}

-- ---- lists of bytes

record OfBytes (bytes : List ℕ) : Type 0 where
  each : AreBytes bytes

none : AreBytes []
none i = omega arith

one_more : (b : ℕ) (bytes : List ℕ) → b < 256 → AreBytes bytes → AreBytes (b ∷ bytes)
one_more b bytes h hs zero = h
one_more b bytes h hs (suc i) = hs i

joined : (xs ys : List ℕ) → AreBytes xs → AreBytes ys → AreBytes (xs ++ ys)
joined [] ys hx hy = hy
joined (x ∷ xs) ys hx hy = one_more x (xs ++ ys) (hx 0) (joined xs ys (λ i. hx (suc i)) hy)

no_bytes : OfBytes []
no_bytes = record { each = none }

cons_bytes : (b : ℕ) {bytes : List ℕ} → b < 256 → OfBytes bytes → OfBytes (b ∷ bytes)
cons_bytes b {bytes} h hs = record { each = one_more b bytes h hs.each }

append_bytes : (xs : List ℕ) {ys : List ℕ} → OfBytes xs → OfBytes ys → OfBytes (xs ++ ys)
append_bytes xs {ys} hx hy = record { each = joined xs ys hx.each hy.each }

rest_small : (n : ℕ) → n % 256 < 256
rest_small n = omega arith

byte_small : (i n : ℕ) → byte_at i n < 256
byte_small zero n = rest_small n
byte_small (suc i) n = rest_small (n / 256 ^ suc i)

low_bytes : (i k n : ℕ) → AreBytes (bytes_low_first i k n)
low_bytes i zero n = none
low_bytes i (suc k) n = one_more (byte_at i n) (bytes_low_first (suc i) k n) (byte_small i n) (low_bytes (suc i) k n)

number_bytes : (w : Width) (n : ℕ) → OfBytes (to_le_bytes w n)
number_bytes w n = record { each = low_bytes 0 (byte_len w) n }

number_then : (w : Width) (n : ℕ) {behind : List ℕ} → OfBytes behind → OfBytes (to_le_bytes w n ++ behind)
number_then w n h = append_bytes (to_le_bytes w n) (number_bytes w n) h

-- ---- texts

char_small : (c : ℕ) → scalar c ≡ true → c < 1114112
char_small c h = below (scalar_cases c h)
  where
    below : (c < 55296) ⊎ ((57344 ≤ c) × (c < 1114112)) → c < 1114112
    below (inl l) = omega arith
    below (inr r) = r.1

next_bytes : (n : ℕ) {behind : List ℕ} → OfBytes behind → OfBytes ((128 + n % 64) ∷ behind)
next_bytes n hs = cons_bytes (128 + n % 64) (omega arith) hs

char_bytes : (c : ℕ) → scalar c ≡ true → OfBytes (encode c)
unfolding encode
char_bytes c h =
    let small : c < 1114112 = char_small c h in
    cond_both (ltb c 128) _ _ OfBytes (λ e. let l = ltb-true c 128 e in cons_bytes c (omega arith) no_bytes)
    (λ e. cond_both (ltb c 2048) _ _ OfBytes
    (λ e. let l = ltb-true c 2048 e in cons_bytes (192 + c / 64) (omega arith) (next_bytes c no_bytes))
    (λ e. cond_both (ltb c 65536) _ _ OfBytes
    (λ e. let l = ltb-true c 65536 e in cons_bytes (224 + c / 4096) (omega arith) (next_bytes (c / 64) (next_bytes c no_bytes)))
    (λ e. cons_bytes (240 + c / 262144) (omega arith) (next_bytes (c / 4096) (next_bytes (c / 64) (next_bytes c no_bytes))))))

chars_bytes : (cs : List ℕ) → scalars cs ≡ true → OfBytes (encodes cs)
chars_bytes [] h = no_bytes
chars_bytes (c ∷ cs) h =
    let both = and_parts (scalar c) (scalars cs) h in
    append_bytes (encode c) (char_bytes c both.0) (chars_bytes cs both.1)

text_bytes : (bytes : List ℕ) → is_text bytes ≡ true → OfBytes bytes
unfolding is_text
text_bytes bytes h =
    let u = IsUtf8-from_is_utf8 bytes (and_parts (is_utf8 bytes) _ h).0 in
    subst OfBytes u.1.1 (chars_bytes u.0 u.1.0)

name_bytes : (bytes : List ℕ) → is_name bytes ≡ true → OfBytes bytes
unfolding is_name
name_bytes bytes h = text_bytes bytes (and_parts (ltb 0 (length bytes)) (is_text bytes) h).1

-- ---- fields

head_then : (h : Head) {behind : List ℕ} → OfBytes behind → OfBytes (head.spelling h ++ behind)
unfolding head any32 time mark
head_then h bytes = number_then w32 h.service (number_then w64 h.stamp (number_then w64 h.mark bytes))

-- a length, and so many bytes
counted : (w : Width) (text : List ℕ) → OfBytes text → OfBytes (to_le_bytes w (length text) ++ text)
counted w text h = number_then w (length text) h

counted_then : (w : Width) (text : List ℕ) {behind : List ℕ} → OfBytes text → OfBytes behind → OfBytes ((to_le_bytes w (length text) ++ text) ++ behind)
counted_then w text ht hb = append_bytes (to_le_bytes w (length text) ++ text) (counted w text ht) hb

label_bytes : (before : List Label) (label : Label) → is_new_label before label ≡ true → OfBytes ((new_label []).spelling label)
unfolding name text label_kind
label_bytes before label h =
    let both = and_parts (is_name label.key && is_new_key before label.key) _ h in
    let key = (and_parts (is_name label.key) (is_new_key before label.key) both.0).0 in
    let value = (and_parts (is_text label.value) _ both.1).0 in
    counted_then w8 label.key (name_bytes label.key key)
    (counted_then w8 label.value (text_bytes label.value value) (number_bytes w8 (label_kind_number label.kind)))

labels_bytes : (before labels : List Label) → each_after is_new_label before labels ≡ true → OfBytes (flat_map (new_label []).spelling labels)
labels_bytes before [] h = no_bytes
labels_bytes before (label ∷ labels) h =
    let both = and_parts (is_new_label before label) (each_after is_new_label (before ++ label ∷ []) labels) h in
    append_bytes ((new_label []).spelling label) (label_bytes before label both.0) (labels_bytes (before ++ label ∷ []) labels both.1)

names_bytes : (before names : List (List ℕ)) → each_after is_next_name before names ≡ true → OfBytes (flat_map (new_name []).spelling names)
unfolding name
names_bytes before [] h = no_bytes
names_bytes before (one ∷ names) h =
    let both = and_parts (is_next_name before one) (each_after is_next_name (before ++ one ∷ []) names) h in
    counted_then w8 one (name_bytes one (and_parts (is_name one) _ both.0).0) (names_bytes (before ++ one ∷ []) names both.1)

fields_bytes : (m : Content) → is_message m ≡ true → OfBytes (payload_of m) → OfBytes (fields m)
unfolding fields is_message name text payload any32 time step_size call role service_id service_kind lin_checksum lin_status lin_mode reason labels state required_names can_flags eth_bytes lin_id
fields_bytes (Hello own part address) h p =
    let ruled = and_parts (is_name own) _ h in
    counted_then w8 own (name_bytes own ruled.0) (number_then w8 (role_number part) (counted w8 address (text_bytes address ruled.1)))
fields_bytes Leave h p = no_bytes
fields_bytes (NextStep at duration) h p = number_then w64 at (number_bytes w64 duration)
fields_bytes (ServiceAdd s) h p =
    let ruled = and_parts (not s.history) _ h in
    let own = and_parts (is_name s.name) _ (and_parts (is_service_id s.id) _ ruled.1).1 in
    let topic = and_parts (is_name s.spec.topic) _ own.1 in
    let media = and_parts (is_text s.spec.media) _ topic.1 in
    let more = and_parts (is_label_count (length s.spec.labels)) _ media.1 in
    number_then w32 s.id (number_then w8 (service_kind_number s.kind)
    (counted_then w8 s.name (name_bytes s.name own.0)
    (counted_then w8 s.spec.topic (name_bytes s.spec.topic topic.0)
    (counted_then w8 s.spec.media (text_bytes s.spec.media media.0)
    (number_then w8 (length s.spec.labels) (labels_bytes [] s.spec.labels more.1))))))
fields_bytes ServicesEnd h p = no_bytes
fields_bytes (Status at until) h p = number_then w8 (state_number at) (number_bytes w64 until)
fields_bytes (Workflow required) h p =
    number_then w8 (length required) (names_bytes [] required (and_parts (is_required_count (length required)) _ h).1)
fields_bytes Abort h p = no_bytes
fields_bytes (Can front f) h p = head_then front (number_then w32 f.id (number_then w8 (flags_number (flags f.extended f.fd)) (counted w16 f.payload p)))
fields_bytes (Eth front bytes) h p = head_then front (counted w16 bytes p)
fields_bytes (Lin front f) h p =
    head_then front (number_then w8 f.id (number_then w8 (lin_checksum_number f.checksum)
    (number_then w8 (lin_status_number f.status) (counted w16 f.payload p))))
fields_bytes (LinResponse front r) h p =
    head_then front (number_then w8 r.id (number_then w8 (lin_mode_number r.mode) (number_then w8 (lin_checksum_number r.checksum) (counted w16 r.payload p))))
fields_bytes (Publish front bytes) h p = head_then front (counted w16 bytes p)
fields_bytes (Call front number bytes) h p = head_then front (number_then w64 number (counted w16 bytes p))
fields_bytes (Reply front client number bytes) h p = head_then front (number_then w32 client (number_then w64 number (counted w16 bytes p)))
fields_bytes (Refuse why) h p = number_bytes w8 (reason_number why)

kind_small : (m : Content) → kind_of m < 256
unfolding kind_of
kind_small (Hello name role address) = omega arith
kind_small Leave = omega arith
kind_small (NextStep at duration) = omega arith
kind_small (ServiceAdd s) = omega arith
kind_small ServicesEnd = omega arith
kind_small (Status state until) = omega arith
kind_small (Workflow required) = omega arith
kind_small Abort = omega arith
kind_small (Can head f) = omega arith
kind_small (Eth head bytes) = omega arith
kind_small (Lin head f) = omega arith
kind_small (LinResponse head r) = omega arith
kind_small (Publish head bytes) = omega arith
kind_small (Call head call bytes) = omega arith
kind_small (Reply head client call bytes) = omega arith
kind_small (Refuse reason) = omega arith

pub spelling_bytes : (m : Content) → IsMessage m → AreBytes (spelling m)
unfolding spelling
spelling_bytes m h =
    let rest = cons_bytes (kind_of m) (kind_small m) (fields_bytes m h.rules (record { each = h.bytes })) in
    let whole : OfBytes (spelling m) = number_then w32 (length (body m)) (cons_bytes 1 (omega arith) rest) in
    whole.each

-- ---- one message for each spelling

-- what the wire promises of spellings
abbrev pub OneSpelling : Type 0
OneSpelling = (m n : Content) (x y r s : List ℕ) → Spells m x → Spells n y → x ++ r ≡ y ++ s → (m ≡ n) × (x ≡ y)

pub same_message : OneSpelling → (m n : Content) → IsMessage m → IsMessage n → message_hex m ≡ message_hex n → m ≡ n
unfolding message_hex
same_message law m n hm hn e =
    let there = decode_of-encode_lower (spelling m) (spelling_bytes m hm) in
    let here = decode_of-encode_lower (spelling n) (spelling_bytes n hn) in
    let same = decode_of-same (encode_lower (spelling m)) (spelling m) (spelling n) there (ap decode_of e ∙ here) in
    (law m n (spelling m) (spelling n) [] [] (hm.rules, refl) (hn.rules, refl) (ap (λ (x : List ℕ). x ++ []) same)).0

-- no spelling is the `-` that stands for no message
no_dash : (m : Content) → message_hex m ≡ 45 ∷ [] → ⊥
unfolding message_hex spelling encode_with
no_dash m e = cc

pub same_sent : OneSpelling → (m n : Option Content) → IsSent m → IsSent n → sent_hex m ≡ sent_hex n → m ≡ n
unfolding sent_hex
same_sent law (Some m) (Some n) hm hn e = ap Some (same_message law m n hm hn e)
same_sent law (Some m) None hm hn e = absurd (no_dash m e)
same_sent law None (Some n) hm hn e = absurd (no_dash n (sym e))
same_sent law None None hm hn e = refl
