-- Generated scenarios keep the rules of the format, and are closed.
use Rattle.std.proofs.Common.{◌≡◌, ℕ, zero, suc, ◌+◌, ◌-◌, ◌*◌, ◌/◌, ◌%◌, ◌^◌, ◌≤◌, ◌<◌, true, false, List, [], ◌∷◌, ◌++◌, length, refl, ap, arith}
use Rattle.std.proofs.lemmas.Bool.Decides.{nat_tests}
use Rattle.std.specs.Prelude.{◌||◌, ◌==◌, nat_lt, slice_index}
use Rattle.std.specs.List.{list_all, list_any}
use Rattle.std.specs.Str.{bytes_eq}
use Rattle.std.proofs.lemmas.Bool.{and_from, or_left, or_right, le-leb, eq-eqb}
use Rattle.std.proofs.lemmas.Str.{is_utf8-from_IsUtf8, IsUtf8-from_ascii}
use Rattle.sk_base.specs.Ranges.{is_name, is_text, is_payload}
use Rattle.sk_msg.specs.Rules.{is_step_size}
use Rattle.sk_msg.specs.Specs.{is_label_count}
use Rattle.sk_rules.specs.Orders.{is_before, are_sorted}
use Rattle.sk_rules.specs.Places.{is_next_own}
use Rattle.sk_rules.specs.Scripts.{serves, is_variable, is_u64, is_short_payload, is_action_count, is_rule}
use Rattle.sk_rules.specs.Vars.{is_var, are_vars}
use Rattle.sk_script.specs.Closed.{is_closed_rule, is_closed_part, is_closed}
use Rattle.sk_script.specs.Generated.{next_seed, step_size, numbered, participant_name, topic, services, vars, script, part, parts, all_parts, generated}
use Rattle.sk_script.specs.Scenarios.{PartValue, names_of, coordinated_names, scope_of, is_script, is_part, is_duration, is_participant_count, is_scenario}
use Rattle.sk_script.specs.Services.{are_labels, is_spec, is_next_service, are_services}
use Rattle.sk_script.proofs.OrderLaws.{same_name}
use Rattle.sk_script.proofs.RequiredLaws.{own_required}
use Rattle.sk_script.proofs.ServiceLaws.{no_text}

-- ---- names

pub one_letter : (a : ℕ) → 32 ≤ a → a < 127 → is_name (a ∷ []) ≡ true
unfolding is_name is_text
one_letter a low high =
    rw (is_utf8-from_IsUtf8 (a ∷ []) (IsUtf8-from_ascii (a ∷ []) ascii), clear) refl
  where
    ascii : (i : ℕ) → slice_index (a ∷ []) i < 128
    ascii zero = omega (arith, high)
    ascii (suc i) = omega arith

    clear : (nat_lt a 32 || a == 127) ≡ false
    clear = grind (arith, nat_tests, low, high)

three_letters : (a b c : ℕ) → (32 ≤ a) × (a < 127) → (32 ≤ b) × (b < 127) → (32 ≤ c) × (c < 127) → is_name (a ∷ b ∷ c ∷ []) ≡ true
unfolding is_name is_text
three_letters a b c p q r =
    rw (is_utf8-from_IsUtf8 (a ∷ b ∷ c ∷ []) (IsUtf8-from_ascii (a ∷ b ∷ c ∷ []) ascii), clear a p, clear b q, clear c r) refl
  where
    ascii : (i : ℕ) → slice_index (a ∷ b ∷ c ∷ []) i < 128
    ascii zero = omega (arith, p.1)
    ascii (suc zero) = omega (arith, q.1)
    ascii (suc (suc zero)) = omega (arith, r.1)
    ascii (suc (suc (suc i))) = omega arith

    clear : (x : ℕ) → (32 ≤ x) × (x < 127) → (nat_lt x 32 || x == 127) ≡ false
    clear x h = grind (arith, nat_tests, h.0, h.1)

pub numbered_fine : (letter number : ℕ) → (65 ≤ letter) × (letter ≤ 90) → number < 100 → is_name (numbered letter number) ≡ true
numbered_fine letter number h small =
    three_letters letter (48 + number / 10) (48 + number % 10) (omega (arith, h.0), omega (arith, h.1)) (omega arith, omega (arith, small)) (omega arith, omega arith)

-- a smaller number comes before a greater one
numbered_order : (letter one other : ℕ) → one < other → other < 100 → is_before (numbered letter one) (numbered letter other) ≡ true
numbered_order letter one other less small =
    or_right (nat_lt letter letter) _ (and_from _ _ (eq-eqb letter letter refl) by_digits)
  where
    by_digits : is_before ((48 + one / 10) ∷ (48 + one % 10) ∷ []) ((48 + other / 10) ∷ (48 + other % 10) ∷ []) ≡ true
    by_digits = grind (arith, nat_tests, less, small)

-- ---- a participant

module _ (count number : ℕ) (least : number < count) (few : count ≤ 32) where
  topic_fine : (n : ℕ) → n < 100 → is_name (topic n) ≡ true
  topic_fine n small = numbered_fine 84 n (omega arith, omega arith) small

  services_fine : are_services (services count number) ≡ true
  unfolding are_services is_next_service is_next_own is_spec are_labels is_label_count
  services_fine =
      rw (
        one_letter 80 (omega arith) (omega arith),
        one_letter 83 (omega arith) (omega arith),
        topic_fine number (omega (arith, least, few)),
        topic_fine ((number + 1) % count) (omega (arith, next, few)),
        no_text,
      ) refl
    where
      next : (number + 1) % count < count
      next = omega (arith, least)

  vars_fine : are_vars vars ≡ true
  unfolding are_vars is_var
  vars_fine = rw (one_letter 120 (omega arith) (omega arith)) refl

  module _ (size : ℕ) (sized : is_step_size size ≡ true) where
    script_fine : is_script (scope_of (part count number size)) (script size) ≡ true
    unfolding is_script is_rule part serves is_variable is_u64 is_short_payload is_action_count is_payload
    script_fine = rw sized refl

    pub part_fine : is_part (part count number size) ≡ true
    unfolding is_part part
    part_fine =
        and_from _ _ (numbered_fine 78 number (omega arith, omega arith) (omega (arith, least, few)))
        (and_from _ _ sized (and_from _ _ services_fine (and_from _ _ vars_fine script_fine)))

-- ---- all of them

-- one more of them
pub one_more : (count seed number : ℕ) → number < count → parts count seed number (count - number) ≡ part count number (step_size (next_seed seed)) ∷ parts count (next_seed seed) (number + 1) (count - (number + 1))
one_more count seed number less =
    let left : count - number ≡ suc (count - (number + 1)) = omega (arith, less) in rw left refl

pub next_small : (seed : ℕ) → next_seed seed < 2 ^ 31
unfolding next_seed
next_small seed = omega arith

pub step_sized : (seed : ℕ) → is_step_size (step_size seed) ≡ true
unfolding is_step_size step_size
step_sized seed = and_from _ _ (le-leb 1 (step_size seed) (omega arith)) (le-leb (step_size seed) (2 ^ 60) (omega arith))

module _ (count : ℕ) (few : count ≤ 32) where
  parts_fine : (seed number left : ℕ) → number + left ≤ count → list_all is_part (parts count seed number left) ≡ true
  parts_fine seed number zero h = refl
  parts_fine seed number (suc left) h =
      and_from _ _ (part_fine count number (omega (arith, h)) few (step_size (next_seed seed)) (step_sized (next_seed seed)))
      (parts_fine (next_seed seed) (number + 1) left (omega (arith, h)))

  parts_number : (seed number left : ℕ) → length (parts count seed number left) ≡ left
  parts_number seed number zero = refl
  parts_number seed number (suc left) = ap suc (parts_number (next_seed seed) (number + 1) left)

  all_later : (one seed number left : ℕ) → one < number → number + left ≤ count → list_all (is_before (participant_name one)) (names_of (parts count seed number left)) ≡ true
  unfolding part
  all_later one seed number zero less h = refl
  all_later one seed number (suc left) less h =
      and_from _ _ (numbered_order 78 one number less (omega (arith, h, few))) (all_later one (next_seed seed) (number + 1) left (omega (arith, less)) (omega (arith, h)))

  parts_sorted : (seed number left : ℕ) → number + left ≤ count → are_sorted (names_of (parts count seed number left)) ≡ true
  unfolding part
  parts_sorted seed number zero h = refl
  parts_sorted seed number (suc left) h =
      and_from _ _ (all_later number (next_seed seed) (number + 1) left (omega arith) (omega (arith, h))) (parts_sorted (next_seed seed) (number + 1) left (omega (arith, h)))

module _ (number count steps : ℕ) (some : 1 ≤ count) (few : count ≤ 32) (short : steps ≤ 2000) where
  pub generated_fine : is_scenario (generated number count steps) ≡ true
  unfolding is_scenario is_duration is_participant_count generated all_parts
  generated_fine =
      let seed = number % 2 ^ 31 in
      let all = parts count seed 0 count in
      let many : length all ≡ count = parts_number count few seed 0 count in
      let sorted = parts_sorted count few seed 0 count (omega arith) in
      and_from _ _ (le-leb (1000000 * steps) (2 ^ 61) (omega (arith, short)))
      (and_from _ _ (and_from _ _ (le-leb 1 (length all) (omega (arith, many, some))) (le-leb (length all) 32 (omega (arith, many, few))))
      (and_from _ _ (parts_fine count few seed 0 count (omega arith)) (and_from _ _ sorted (own_required all sorted (omega (arith, many, few))))))

-- ---- they are closed

member_here : (name : List ℕ) (names : List (List ℕ)) → list_any (λ other. bytes_eq other name) (name ∷ names) ≡ true
member_here name names = or_left _ _ (same_name name)

-- all these parts are closed, where the names of all stand among the required ones
parts_closed : (required : List (List ℕ)) (count seed number left : ℕ) → ((name : List ℕ) → list_any (λ other. bytes_eq other name) (coordinated_names (parts count seed number left)) ≡ true → list_any (λ other. bytes_eq other name) required ≡ true)
    → list_all (is_closed_part required) (parts count seed number left) ≡ true
unfolding is_closed_part is_closed_rule part
parts_closed required count seed number zero stand = refl
parts_closed required count seed number (suc left) stand =
    let later = coordinated_names (parts count (next_seed seed) (number + 1) left) in
    let own = stand (participant_name number) (member_here (participant_name number) later) in
    and_from _ _ (rw own refl)
    (parts_closed required count (next_seed seed) (number + 1) left (λ name there. stand name (or_right (bytes_eq (participant_name number) name) _ there)))

pub generated_closed : (number count steps : ℕ) → is_closed (generated number count steps) ≡ true
unfolding is_closed generated all_parts
generated_closed number count steps = parts_closed _ count (number % 2 ^ 31) 0 count (λ name there. there)

pub append_one : (some : List PartValue) (one : PartValue) (later : List PartValue) → (some ++ one ∷ []) ++ later ≡ some ++ one ∷ later
append_one [] one later = refl
append_one (first ∷ some) one later = ap (λ all. first ∷ all) (append_one some one later)
