-- Actions that are offered to an outbox one after another: it has the first 256, and notes whether there were more.
use Rattle.std.specs.Prelude.{nat_le, nat_lt, is_err, OnOk, OnErr, if◌then◌else◌}
use Rattle.std.proofs.Common.{◌≡◌, ℕ, ◌+◌, ◌≤◌, ◌<◌, Bool, true, false, List, [], ◌∷◌, ◌++◌, length, take, refl, sym, ◌∙◌, ap, ap₂, arith, append_assoc, append-nil, Result, Ok, Err}
use Rattle.std.specs.List.{fold}
use Rattle.std.proofs.lemmas.Bool.Decides.{nat_tests}
use Rattle.std.proofs.lemmas.List.{length-append, length-take-le, take_all, take-append-le}
use Rattle.sk_msg.specs.declared.action.Action.{Action}
use Rattle.sk_law.specs.Outbox.{Outbox}
use Rattle.sk_sim.specs.Playing.{offer, offered}

-- what it answers says whether there was room
pub offer_is : {T E : Type 0} (answer : Result T E) (was now : Outbox) (action : Action) → is_err answer ≡ nat_le 256 (length was.actions)
    → OnOk answer (now ≡ record was { actions = was.actions ++ action ∷ [] }) → OnErr answer (now ≡ record was { over = true }) → now ≡ offer was action
offer_is (Ok x) was now action full ok err = rw (← full) ok
offer_is (Err x) was now action full ok err = rw (← full) err

below : (n : ℕ) → nat_le 256 n ≡ false → n < 256
below n e = by_test
  where
    by_test : n < 256
    by_test = grind (arith, nat_tests)

above : (n : ℕ) → nat_le 256 n ≡ true → 256 ≤ n
above n e = by_test
  where
    by_test : 256 ≤ n
    by_test = grind (arith, nat_tests)

more : (n : ℕ) → 256 ≤ n → nat_lt 256 (n + 1) ≡ true
more n h = grind (arith, nat_tests)

no_more : (n : ℕ) → n ≤ 256 → nat_lt 256 n ≡ false
no_more n h = grind (arith, nat_tests)

full : (n : ℕ) → 256 ≤ n → nat_le 256 n ≡ true
full n h = grind (arith, nat_tests)

roomy : (n : ℕ) → n < 256 → nat_le 256 n ≡ false
roomy n h = grind (arith, nat_tests)

-- one more behind these
offer_one : (front : List Action) (x : Action) → offer (offered front) x ≡ offered (front ++ x ∷ [])
offer_one front x = by (nat_le 256 (length front)) refl
  where
    by : (b : Bool) → nat_le 256 (length front) ≡ b → offer (offered front) x ≡ offered (front ++ x ∷ [])
    by true e =
        let many = above (length front) e in
        let kept : length (take 256 front) ≡ 256 = length-take-le 256 front many in
        let same : take 256 (front ++ x ∷ []) ≡ take 256 front = take-append-le 256 front (x ∷ []) many in
        let over : nat_lt 256 (length (front ++ x ∷ [])) ≡ true = ap (nat_lt 256) (length-append front (x ∷ [])) ∙ more (length front) many in
        rw (ap (nat_le 256) kept ∙ full 256 (omega arith), same, over) refl
    by false e =
        let few = below (length front) e in
        let kept : take 256 front ≡ front = take_all 256 front (omega (arith, few)) in
        let long : length (front ++ x ∷ []) ≡ length front + 1 = length-append front (x ∷ []) in
        let all : take 256 (front ++ x ∷ []) ≡ front ++ x ∷ [] = take_all 256 (front ++ x ∷ []) (omega (arith, few, long)) in
        let none : nat_lt 256 (length (front ++ x ∷ [])) ≡ false = ap (nat_lt 256) long ∙ no_more (length front + 1) (omega (arith, few)) in
        let before : nat_lt 256 (length front) ≡ false = no_more (length front) (omega (arith, few)) in
        rw (kept, all, none, before, e) refl

-- all of these behind those
offers : (front all : List Action) → fold offer (offered front) all ≡ offered (front ++ all)
offers front [] = ap offered (sym (append-nil front))
offers front (x ∷ xs) = ap (λ out. fold offer out xs) (offer_one front x) ∙ offers (front ++ x ∷ []) xs ∙ ap offered (append_assoc front (x ∷ []) xs)

-- into an empty outbox
pub offers_all : (out : Outbox) (all : List Action) → out.actions ≡ [] → out.over ≡ false → fold offer out all ≡ offered all
offers_all out all empty fits =
    let first : out ≡ offered [] = λ j. record { actions = empty j; over = fits j } in
    ap (λ o. fold offer o all) first ∙ offers [] all

-- nothing is left
pub none_left : (xs : List Action) → length xs ≡ 0 → xs ≡ []
none_left [] e = refl
none_left (x ∷ xs) e = absurd (omega (arith, e))
