-- How many steps may be taken, in closed form.
use Rattle.std.proofs.Common.{◌≡◌, ◌≤◌, ◌<◌, ◌+◌, ◌-◌, ◌*◌, ◌/◌, ◌^◌, ℕ, zero, suc, Bool, true, false, ◌&&◌, List, refl, sym, ◌∙◌, ap, arith, min, le-div_iff_mul-le, div-lt_iff_lt-mul, mul-le-mul_left, inl, inr, ltb, leb}
use Rattle.std.proofs.lemmas.Bool.Decides.{nat_tests, leb_tells}
use Rattle.std.proofs.lemmas.Bool.{leb-true, and_parts}
use Rattle.sk_msg.specs.Rules.{is_step_size}
use Rattle.sk_pipe.specs.Frames.{all_steps}
use Rattle.sk_pipe.specs.Pipe.{count_below, steps_begun, may_begin}
use Rattle.sk_msg.specs.declared.content.Content.{Content}

-- a step has a size
pub at_least_one : (n : ℕ) → is_step_size n ≡ true → 1 ≤ n
unfolding is_step_size
at_least_one n h = leb-true 1 n (and_parts (leb 1 n) (leb n (2 ^ 60)) h).0

pub at_most : (n : ℕ) → is_step_size n ≡ true → n ≤ 2 ^ 60
unfolding is_step_size
at_most n h = leb-true n (2 ^ 60) (and_parts (leb 1 n) (leb n (2 ^ 60)) h).1

pub ruleset step_sizes = (at_least_one, at_most)

pub count_below-upto : (p : ℕ → Bool) (n N : ℕ) → ((i : ℕ) → i < N → p i ≡ ltb i n) → count_below p N ≡ min n N
count_below-upto p n zero h = omega arith
count_below-upto p n (suc N) h =
    let before = count_below-upto p n N (λ i q. h i (omega arith)) in
    let here = h N (omega arith) in
    rw (before, here) (grind (arith, nat_tests))

-- i * step ≤ a exactly where i ≤ a / step
pub times_le : (step a i : ℕ) → 1 ≤ step → leb (i * step) a ≡ leb i (a / step)
times_le step a i h =
    let down : i ≤ a / step → i * step ≤ a = (le-div_iff_mul-le {k = step} {x = i} {y = a} h).0 in
    let up : i * step ≤ a → i ≤ a / step = (le-div_iff_mul-le {k = step} {x = i} {y = a} h).1 in
    elim (leb_tells (i * step) a) [
      | inl p ↦ elim (leb_tells i (a / step)) [ inl q ↦ p.0 ∙ sym q.0 | inr q ↦ absurd (omega (arith, up p.1, q.1)) ]
      | inr p ↦ elim (leb_tells i (a / step)) [ inl q ↦ absurd (omega (arith, down q.1, p.1)) | inr q ↦ p.0 ∙ sym q.0 ]
    ]

pub times_below : (step duration i : ℕ) → 1 ≤ step → ltb (i * step) duration ≡ ltb i (all_steps step duration)
times_below step duration i h =
    let down : suc i ≤ all_steps step duration → suc i * step ≤ duration + (step - 1) = (le-div_iff_mul-le {k = step} {x = suc i} {y = duration + (step - 1)} h).0 in
    let up : suc i * step ≤ duration + (step - 1) → suc i ≤ all_steps step duration = (le-div_iff_mul-le {k = step} {x = suc i} {y = duration + (step - 1)} h).1 in
    elim (leb_tells (suc (i * step)) duration) [
      | inl p ↦ elim (leb_tells (suc i) (all_steps step duration)) [ inl q ↦ p.0 ∙ sym q.0 | inr q ↦ absurd (let u : suc i * step ≤ duration + (step - 1) = omega (arith, p.1, h) in omega (arith, up u, q.1)) ]
      | inr p ↦ elim (leb_tells (suc i) (all_steps step duration)) [ inl q ↦ absurd (omega (arith, down q.1, p.1, h)) | inr q ↦ p.0 ∙ sym q.0 ]
    ]

pub all_steps-le : (step duration : ℕ) → 1 ≤ step → all_steps step duration ≤ duration
all_steps-le step duration h =
    let many : duration * 1 ≤ duration * step = mul-le-mul_left duration h in
    let below : all_steps step duration < duration + 1 = (div-lt_iff_lt-mul {k = step} {x = duration + (step - 1)} {y = duration + 1} h).1 (omega (arith, many, h)) in
    omega (arith, below)

module _ (step duration : ℕ) (ms : List Content) (positive : 1 ≤ step) where
  count-at : (n : ℕ) → n ≤ all_steps step duration
      → ((i : ℕ) → (ltb (i * step) duration && may_begin ms (i * step)) ≡ ltb i n) → steps_begun step duration ms ≡ n
  count-at n small h =
      count_below-upto (λ i. ltb (i * step) duration && may_begin ms (i * step)) n duration (λ i _. h i)
      ∙ (let within : n ≤ duration = omega (arith, all_steps-le step duration positive) in omega arith)

  and-false : (b c : Bool) → c ≡ false → (b && c) ≡ false
  and-false true c h = h
  and-false false c h = refl

  and-true : (b c : Bool) → c ≡ true → (b && c) ≡ b
  and-true true c h = h
  and-true false c h = refl

  -- none may begin
  pub steps_begun-none : ((t : ℕ) → may_begin ms t ≡ false) → steps_begun step duration ms ≡ 0
  steps_begun-none h = count-at 0 (omega arith) (λ i. and-false (ltb (i * step) duration) _ (h (i * step)) ∙ grind (arith, nat_tests))

  -- each may begin
  pub steps_begun-all : ((t : ℕ) → may_begin ms t ≡ true) → steps_begun step duration ms ≡ all_steps step duration
  steps_begun-all h =
      count-at (all_steps step duration) (omega arith) (λ i. and-true (ltb (i * step) duration) _ (h (i * step)) ∙ times_below step duration i positive)

  -- those up to time a may begin
  pub steps_begun-upto : (a : ℕ) → ((t : ℕ) → may_begin ms t ≡ leb t a) → steps_begun step duration ms ≡ min (all_steps step duration) (a / step + 1)
  steps_begun-upto a h =
      count-at (min (all_steps step duration) (a / step + 1)) (omega arith)
      (λ i. ap (λ b. ltb (i * step) duration && b) (h (i * step) ∙ times_le step a i positive)
      ∙ ap (λ b. b && leb i (a / step)) (times_below step duration i positive)
      ∙ both i (all_steps step duration) (a / step))
    where
      both : (i m k : ℕ) → (ltb i m && leb i k) ≡ ltb i (min m (k + 1))
      both i m k = grind (arith, nat_tests)
