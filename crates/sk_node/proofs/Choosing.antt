-- Tests one after another, and what each answer says of them.
use Rattle.std.specs.Prelude.{◌≡◌, ◌≢◌, ◌⊎◌, refl, ℕ, Bool, true, false, not, ◌&&◌, Option, Some, None, if◌then◌else◌}
use Rattle.std.proofs.Common.{ap, sym, ⊎_elim}
use Rattle.std.proofs.lemmas.Bool.{true≢false}
use Rattle.sk_lin.specs.declared.refused.LinRefused.{LinRefused}
use Rattle.sk_lin.specs.declared.refused.LinRefused.TheVariants.{State, Role, BadFrame, WantOfMemory}
use Rattle.sk_lin.specs.declared.state.LinState.{LinState}
use Rattle.sk_law.specs.declared.memory.ServiceState.{ServiceState}
use Rattle.sk_law.specs.Outcomes.{Outcome, refused}
use Rattle.sk_node.specs.Acting.{lin_code}

-- ## Two tests

pub first_is : (p q : Bool) (a b c : Outcome) → p ≡ false → a ≡ (if not p then a else if not q then b else c)
first_is false q a b c e = refl
first_is true q a b c e = absurd (true≢false e)

pub second_is : (p q : Bool) (a b c : Outcome) → p ≡ true → q ≡ false → b ≡ (if not p then a else if not q then b else c)
second_is true false a b c e f = refl
second_is true true a b c e f = absurd (true≢false f)
second_is false q a b c e f = absurd (true≢false (sym e))

pub third_is : (p q : Bool) (a b c : Outcome) → p ≡ true → q ≡ true → c ≡ (if not p then a else if not q then b else c)
third_is true true a b c e f = refl
third_is true false a b c e f = absurd (true≢false (sym f))
third_is false q a b c e f = absurd (true≢false (sym e))

pub left_is : (p q : Bool) → true ≡ (p && q) → p ≡ true
left_is true q e = refl
left_is false q e = absurd (true≢false e)

pub right_is : (p q : Bool) → true ≡ (p && q) → q ≡ true
right_is true q e = sym e
right_is false q e = absurd (true≢false e)

pub right_fails : (p q : Bool) → p ≡ true → false ≡ (p && q) → q ≡ false
right_fails true q e f = sym f
right_fails false q e f = absurd (true≢false (sym e))

-- ## The refusals of a LIN controller

-- of a refusal that there may be
abbrev pub code_in : Option LinRefused → ℕ
code_in None = 0
code_in (Some reason) = lin_code reason

-- a reason of the test and not want of memory
known_is : (reason : LinRefused) (against : Option LinRefused) → (reason ≡ WantOfMemory) ⊎ (against ≡ Some reason) → reason ≢ WantOfMemory → against ≡ Some reason
known_is reason against is known = ⊎_elim (λ (e : reason ≡ WantOfMemory). let r : against ≡ Some reason = absurd (known e) in r) (λ (e : against ≡ Some reason). e) is

one_refused : (p : Bool) (s : LinState) (reason : LinRefused) (at : ServiceState) (c : Outcome) → (if p then None else Some (State s)) ≡ Some reason →
    refused (lin_code reason) at ≡ (if not p then refused 1 at else c)
one_refused true s reason at c e = absurd cc
one_refused false s reason at c e = ap (λ o. refused (code_in o) at) (sym e)

pub one_against : (p : Bool) (s : LinState) (reason : LinRefused) (at : ServiceState) (c : Outcome) →
    (reason ≡ WantOfMemory) ⊎ ((if p then None else Some (State s)) ≡ Some reason) → reason ≢ WantOfMemory →
    refused (lin_code reason) at ≡ (if not p then refused 1 at else c)
one_against p s reason at c is known = one_refused p s reason at c (known_is reason (if p then None else Some (State s)) is known)

pub one_passes : (p : Bool) (s : LinState) (a c : Outcome) → (if p then None else Some (State s)) ≡ None → c ≡ (if not p then a else c)
one_passes true s a c e = refl
one_passes false s a c e = absurd cc

pub init_refused : (p : Bool) (s : LinState) (reason : LinRefused) (a d : Outcome) → (if p then None else Some (State s)) ≡ Some reason → a ≡ (if p then d else a)
init_refused true s reason a d e = absurd cc
init_refused false s reason a d e = refl

pub init_passes : (p : Bool) (s : LinState) (a d : Outcome) → (if p then None else Some (State s)) ≡ None → d ≡ (if p then d else a)
init_passes true s a d e = refl
init_passes false s a d e = absurd cc

-- a state and a frame
abbrev pub two : Bool → Bool → LinState → Option LinRefused
two p good s = if not p then Some (State s) else if not good then Some BadFrame else None

two_refused : (p good : Bool) (s : LinState) (reason : LinRefused) (at : ServiceState) (c : Outcome) → two p good s ≡ Some reason →
    refused (lin_code reason) at ≡ (if not p then refused 1 at else if not good then refused 2 at else c)
two_refused false good s reason at c e = ap (λ o. refused (code_in o) at) (sym e)
two_refused true false s reason at c e = ap (λ o. refused (code_in o) at) (sym e)
two_refused true true s reason at c e = absurd cc

pub two_against : (p good : Bool) (s : LinState) (reason : LinRefused) (at : ServiceState) (c : Outcome) →
    (reason ≡ WantOfMemory) ⊎ (two p good s ≡ Some reason) → reason ≢ WantOfMemory →
    refused (lin_code reason) at ≡ (if not p then refused 1 at else if not good then refused 2 at else c)
two_against p good s reason at c is known = two_refused p good s reason at c (known_is reason (two p good s) is known)

pub two_pass : (p good : Bool) (s : LinState) (a b c : Outcome) → two p good s ≡ None → c ≡ (if not p then a else if not good then b else c)
two_pass true true s a b c e = refl
two_pass true false s a b c e = absurd cc
two_pass false good s a b c e = absurd cc

pub two_good : (p good : Bool) (s : LinState) → two p good s ≡ None → good ≡ true
two_good true true s e = refl
two_good true false s e = absurd cc
two_good false good s e = absurd cc

-- a state and a role
abbrev pub role : Bool → Bool → LinState → Option LinRefused
role p master s = if not p then Some (State s) else if not master then Some Role else None

role_refused : (p master : Bool) (s : LinState) (reason : LinRefused) (at : ServiceState) (c : Outcome) → role p master s ≡ Some reason →
    refused (lin_code reason) at ≡ (if not (p && master) then refused 1 at else c)
role_refused false master s reason at c e = ap (λ o. refused (code_in o) at) (sym e)
role_refused true false s reason at c e = ap (λ o. refused (code_in o) at) (sym e)
role_refused true true s reason at c e = absurd cc

pub role_against : (p master : Bool) (s : LinState) (reason : LinRefused) (at : ServiceState) (c : Outcome) →
    (reason ≡ WantOfMemory) ⊎ (role p master s ≡ Some reason) → reason ≢ WantOfMemory →
    refused (lin_code reason) at ≡ (if not (p && master) then refused 1 at else c)
role_against p master s reason at c is known = role_refused p master s reason at c (known_is reason (role p master s) is known)

pub role_passes : (p master : Bool) (s : LinState) (a c : Outcome) → role p master s ≡ None → c ≡ (if not (p && master) then a else c)
role_passes true true s a c e = refl
role_passes true false s a c e = absurd cc
role_passes false master s a c e = absurd cc

-- a state, a role and a frame
abbrev pub three : Bool → Bool → Bool → LinState → Option LinRefused
three p master good s = if not p then Some (State s) else if not master then Some Role else if not good then Some BadFrame else None

three_refused : (p master good : Bool) (s : LinState) (reason : LinRefused) (at : ServiceState) (c : Outcome) → three p master good s ≡ Some reason →
    refused (lin_code reason) at ≡ (if not (p && master) then refused 1 at else if not good then refused 2 at else c)
three_refused false master good s reason at c e = ap (λ o. refused (code_in o) at) (sym e)
three_refused true false good s reason at c e = ap (λ o. refused (code_in o) at) (sym e)
three_refused true true false s reason at c e = ap (λ o. refused (code_in o) at) (sym e)
three_refused true true true s reason at c e = absurd cc

pub three_against : (p master good : Bool) (s : LinState) (reason : LinRefused) (at : ServiceState) (c : Outcome) →
    (reason ≡ WantOfMemory) ⊎ (three p master good s ≡ Some reason) → reason ≢ WantOfMemory →
    refused (lin_code reason) at ≡ (if not (p && master) then refused 1 at else if not good then refused 2 at else c)
three_against p master good s reason at c is known = three_refused p master good s reason at c (known_is reason (three p master good s) is known)

pub three_pass : (p master good : Bool) (s : LinState) (a b c : Outcome) → three p master good s ≡ None → c ≡ (if not (p && master) then a else if not good then b else c)
three_pass true true true s a b c e = refl
three_pass true true false s a b c e = absurd cc
three_pass true false good s a b c e = absurd cc
three_pass false master good s a b c e = absurd cc
