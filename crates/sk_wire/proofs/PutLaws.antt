-- What several writes at the end of a buffer leave.
use Rattle.std.proofs.Common.{◌≡◌, ℕ, ◌+◌, ◌^◌, ◌<◌, ◌≤◌, true, List, [], ◌∷◌, ◌++◌, length, take, drop, refl, sym, ap, ◌∙◌, append_assoc, arith}
use Rattle.std.proofs.lemmas.List.{length-append, take-take, take_at, drop_at, take-append-le}
use Rattle.std.specs.Int.{w32, to_le_bytes}
use Rattle.std.specs.Prelude.{nat_le}
use Rattle.std.proofs.lemmas.Bool.{leb-true, le-leb, lt-ltb, and_parts, and_from}
use Rattle.sk_base.specs.Ranges.{is_payload}
use Rattle.sk_msg.specs.Each.{each_after}
use Rattle.sk_msg.specs.Specs.{is_newly_keyed, is_label_count, are_labels}
use Rattle.sk_msg.specs.Rules.{is_u32, is_required_count, is_next_name, is_message}
use Rattle.sk_msg.specs.declared.label.Label.{Label}
use Rattle.sk_msg.specs.declared.content.Content.TheVariants.{Workflow}

-- what a failed write leaves begins as the buffer before the writes
pub kept_through : (old mid new s : List ℕ) → mid ≡ old ++ s → take (length mid) new ≡ mid → take (length old) new ≡ old
kept_through old mid new s e k =
    let le : length old ≤ length mid = omega (arith, ap (λ (xs : List ℕ). length xs) e, length-append old s) in
    sym (take-take (length old) (length mid) new le) ∙ ap (take (length old)) (k ∙ e) ∙ take_at old s (length old) refl

-- what values that keep their rules are short enough for
pub payload_short : (bytes : List ℕ) → is_payload bytes ≡ true → length bytes < 2 ^ 16
unfolding is_payload
payload_short bytes ok = let l = leb-true (length bytes) 4096 ok in omega arith

pub labels_short : (labels : List Label) → are_labels labels ≡ true → length labels ≤ 16
unfolding is_label_count
labels_short labels ok = leb-true (length labels) 16 (and_parts (is_label_count (length labels)) (each_after is_newly_keyed [] labels) ok).0

pub required_short : (names : List (List ℕ)) → is_message (Workflow names) ≡ true → length names ≤ 32
unfolding is_message is_required_count
required_short names ok =
    let count = (and_parts (is_required_count (length names)) (each_after is_next_name [] names) ok).0 in
    leb-true (length names) 32 (and_parts (nat_le 1 (length names)) (nat_le (length names) 32) count).1

pub ruleset required_few = (required_short)

pub ruleset puts = (kept_through, append_assoc, payload_short, labels_short)

-- a number of 32 bits is one; labels of distinct keys are labels
pub u32_is : (n : ℕ) → n < 2 ^ 32 → is_u32 n ≡ true
unfolding is_u32
u32_is n lt = lt-ltb n (2 ^ 32) lt

pub are_labels_from : (labels : List Label) (count : ℕ) → is_label_count count ≡ true → length labels ≤ count → each_after is_newly_keyed [] labels ≡ true → are_labels labels ≡ true
unfolding is_label_count
are_labels_from labels count few le distinct = and_from _ _ (le-leb (length labels) 16 (let l = leb-true count 16 few in omega arith)) distinct

pub ruleset in_range = (u32_is, are_labels_from)

-- a length that is written over once the bytes behind it are there
pub frame_made : (old mid full new tail : List ℕ) (start len : ℕ) → mid ≡ old ++ to_le_bytes w32 0 → full ≡ mid ++ tail → start ≡ length old → len ≡ length tail
    → new ≡ take start full ++ (to_le_bytes w32 len ++ drop (start + 4) full) → new ≡ old ++ (to_le_bytes w32 (length tail) ++ tail)
frame_made old mid full new tail start len e f start_is len_is n =
    let whole : full ≡ old ++ (to_le_bytes w32 0 ++ tail) = f ∙ ap (λ (xs : List ℕ). xs ++ tail) e ∙ append_assoc old (to_le_bytes w32 0) tail in
    let front : take start full ≡ old = ap (take start) whole ∙ take_at old (to_le_bytes w32 0 ++ tail) start (sym start_is) in
    let head : length mid ≡ start + 4 = omega (arith, ap (λ (xs : List ℕ). length xs) e, length-append old (to_le_bytes w32 0)) in
    let back : drop (start + 4) full ≡ tail = ap (drop (start + 4)) f ∙ drop_at mid tail (start + 4) head in
    n ∙ ap (λ (xs : List ℕ). xs ++ (to_le_bytes w32 len ++ drop (start + 4) full)) front
    ∙ ap (λ (xs : List ℕ). old ++ (to_le_bytes w32 len ++ xs)) back
    ∙ ap (λ k. old ++ (to_le_bytes w32 k ++ tail)) len_is
