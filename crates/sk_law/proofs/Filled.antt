-- How many actions a callback asks for.
use Rattle.std.specs.Prelude.{◌≡◌, ◌<◌, ◌≤◌, refl, Bool, true, false, not, ◌+◌, ◌&&◌, ◌||◌, ◌==◌, nat_le, IsTrue, List, [], ◌∷◌, ◌++◌, length}
use Rattle.std.proofs.lemmas.Bool.{and_parts, and_from}
use Rattle.std.proofs.lemmas.Bool.Decides.{nat_tests}
use Rattle.std.proofs.Common.{ap, ◌∙◌, length-append, arith}
use Rattle.sk_msg.specs.declared.action.Action.{Action}
use Rattle.sk_law.specs.Outbox.{are_filled}

pub none_filled : IsTrue (are_filled [] false)
unfolding are_filled
none_filled = refl

-- one more was tried
pub full_filled : (xs ys : List Action) (over : Bool) → IsTrue (are_filled xs over) → ys ≡ xs → 256 ≤ length ys → IsTrue (are_filled xs true)
unfolding are_filled
full_filled xs ys over h same full =
    let a = and_parts (nat_le (length xs) 256) (not over || length xs == 256) h in
    let le : nat_le (length xs) 256 ≡ true = a.0 in
    let l : length ys ≡ length xs = ap length same in
    let all : (length xs == 256) ≡ true = grind (arith, nat_tests) in
    and_from (nat_le (length xs) 256) (not true || length xs == 256) le all

-- one more is in
pub added_filled : (xs ys zs : List Action) (x : Action) (over : Bool) → IsTrue (are_filled xs over) → ys ≡ xs → length ys < 256 → zs ≡ xs ++ x ∷ [] → IsTrue (are_filled zs over)
unfolding are_filled
added_filled xs ys zs x over h same few is = on over ((and_parts (nat_le (length xs) 256) (not over || length xs == 256) h).1)
  where
    size : length zs ≡ length xs + 1
    size = ap length is ∙ length-append xs (x ∷ [])

    less : length xs < 256
    less = let l : length ys ≡ length xs = ap length same in omega arith

    longer : nat_le (length zs) 256 ≡ true
    longer = let l = size in let m = less in grind (arith, nat_tests)

    on : (b : Bool) → (not b || length xs == 256) ≡ true → IsTrue (nat_le (length zs) 256 && (not b || length zs == 256))
    on true all = let a : (length xs == 256) ≡ true = all in let m = less in absurd (let k : 256 < 256 = grind (arith, nat_tests) in omega arith)
    on false all = and_from (nat_le (length zs) 256) (not false || length zs == 256) longer refl
