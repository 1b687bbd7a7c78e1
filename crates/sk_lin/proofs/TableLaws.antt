-- What is kept by identifier, as one list.
use Rattle.std.proofs.Common.{◌≡◌, ◌+◌, ◌<◌, ◌≤◌, ℕ, zero, suc, Bool, true, false, cond, List, [], ◌∷◌, ◌++◌, length, set, get_or, filter, refl, ap, sym, subst, ◌∙◌, arith, rules}
use Rattle.std.specs.List.{AllByRecursion}
use Rattle.std.proofs.lemmas.List.{append-nil}
use Rattle.std.proofs.lemmas.List.Elements.{filter-append}
use Rattle.sk_lin.specs.declared.kept.Kept.{Kept}
use Rattle.sk_lin.specs.Kept.{is_before, is_in_place_of, keep}
use Rattle.sk_lin.specs.Lin.{responds_to, responders}
use Rattle.sk_lin.specs.Table.{joined, AreByIdentifier}
use Rattle.sk_lin.proofs.KeptLaws.{past, front}

-- ## All of some responses

all_so : (P Q : Kept → Type 0) (kept : List Kept) → ((one : Kept) → P one → Q one) → AllByRecursion P kept → AllByRecursion Q kept
all_so P Q [] so all = tt
all_so P Q (one ∷ kept) so all = (so one all.0, all_so P Q kept so all.1)

all_joined : (P : Kept → Type 0) (kept more : List Kept) → AllByRecursion P kept → AllByRecursion P more → AllByRecursion P (kept ++ more)
all_joined P [] more all rest = rest
all_joined P (one ∷ kept) more all rest = (all.0, all_joined P kept more all.1 rest)

-- what holds of the new one and of each that is kept holds of each afterwards
pub keep_all : (P : Kept → Type 0) (new : Kept) (kept : List Kept) → P new → AllByRecursion P kept → AllByRecursion P (keep new kept)
keep_all P new [] is all = (is, tt)
keep_all P new (old ∷ kept) is all = split (is_before old new) (is_in_place_of old new) (keep_all P new kept is all.1)
  where
    split : (before same : Bool) → AllByRecursion P (keep new kept) → AllByRecursion P (cond before (old ∷ keep new kept) (cond same (new ∷ kept) (new ∷ old ∷ kept)))
    split true same rest = (all.0, rest)
    split false true rest = (is, all.1)
    split false false rest = (is, all)

-- ## By the numbers of the identifiers

lower : (one new : Kept) → one.response.id < new.response.id → is_before one new ≡ true
lower one new is = grind (arith, rules, is)

abbrev IsBehind : Kept → Kept → Type 0
IsBehind new one = (is_before one new ≡ false) × (is_in_place_of one new ≡ false)

higher : (new one : Kept) → new.response.id < one.response.id → IsBehind new one
higher new one is = (grind (arith, rules, is), grind (arith, rules, is))

other_id : (id : ℕ) (one : Kept) → one.response.id < id → responds_to id one ≡ false
other_id id one is = grind (arith, rules, is)

higher_id : (id : ℕ) (one : Kept) → id < one.response.id → responds_to id one ≡ false
higher_id id one is = grind (arith, rules, is)

-- each has this identifier or a higher one
from_id : (id : ℕ) (lists : List (List Kept)) → AreByIdentifier id lists → AllByRecursion (λ one. id ≤ one.response.id) (joined lists)
from_id id [] all = tt
from_id id (one ∷ more) all =
    all_joined (λ x. id ≤ x.response.id) one (joined more)
    (all_so (λ x. x.response.id ≡ id) (λ x. id ≤ x.response.id) one (λ x is. omega (arith, is)) all.0)
    (all_so (λ x. suc id ≤ x.response.id) (λ x. id ≤ x.response.id) (joined more) (λ x is. omega (arith, is)) (from_id (suc id) more all.1))

-- ## Places

pub joined_place : (lists : List (List Kept)) → joined (lists ++ [] ∷ []) ≡ joined lists
joined_place [] = refl
joined_place (one ∷ more) = ap (λ rest. one ++ rest) (joined_place more)

pub ordered_place : (id : ℕ) (lists : List (List Kept)) → AreByIdentifier id lists → AreByIdentifier id (lists ++ [] ∷ [])
ordered_place id [] all = (tt, tt)
ordered_place id (one ∷ more) all = (all.0, ordered_place (suc id) more all.1)

-- ## Keeping

keep_behind : (new : Kept) (before kept : List Kept) → AllByRecursion (λ one. is_before one new ≡ true) before → keep new (before ++ kept) ≡ before ++ keep new kept
keep_behind new [] kept all = refl
keep_behind new (one ∷ before) kept all = past new one (before ++ kept) all.0 ∙ ap (λ rest. one ∷ rest) (keep_behind new before kept all.1)

keep_before : (new : Kept) (kept behind : List Kept) → AllByRecursion (IsBehind new) behind → keep new (kept ++ behind) ≡ keep new kept ++ behind
keep_before new [] [] all = refl
keep_before new [] (one ∷ behind) all = front new one behind all.0.0 all.0.1
keep_before new (one ∷ kept) behind all = split (is_before one new) (is_in_place_of one new) (keep_before new kept behind all)
  where
    split : (before same : Bool) → keep new (kept ++ behind) ≡ keep new kept ++ behind
        → cond before (one ∷ keep new (kept ++ behind)) (cond same (new ∷ kept ++ behind) (new ∷ one ∷ kept ++ behind)) ≡ cond before (one ∷ keep new kept) (cond same (new ∷ kept) (new ∷ one ∷ kept)) ++ behind
    split true same rest = ap (λ list. one ∷ list) rest
    split false true rest = refl
    split false false rest = refl

-- kept among those of its identifier it is kept among all
pub joined_keep : (id at : ℕ) (lists : List (List Kept)) (new : Kept) → AreByIdentifier id lists → new.response.id ≡ id + at → at < length lists
    → joined (set lists at (keep new (get_or lists at []))) ≡ keep new (joined lists)
joined_keep id at [] new all is within = absurd (omega (arith, within))
joined_keep id zero (one ∷ more) new all is within =
    sym (keep_before new one (joined more)
    (all_so (λ x. suc id ≤ x.response.id) (IsBehind new) (joined more) (λ x above. higher new x (omega (arith, is, above))) (from_id (suc id) more all.1)))
joined_keep id (suc at) (one ∷ more) new all is within =
    ap (λ rest. one ++ rest) (joined_keep (suc id) at more new all.1 (omega (arith, is)) (omega (arith, within)))
    ∙ sym (keep_behind new one (joined more) (all_so (λ x. x.response.id ≡ id) (λ x. is_before x new ≡ true) one (λ x same. lower x new (omega (arith, is, same))) all.0))

pub ordered_keep : (id at : ℕ) (lists : List (List Kept)) (new : Kept) → AreByIdentifier id lists → new.response.id ≡ id + at → at < length lists
    → AreByIdentifier id (set lists at (keep new (get_or lists at [])))
ordered_keep id at [] new all is within = absurd (omega (arith, within))
ordered_keep id zero (one ∷ more) new all is within = (keep_all (λ x. x.response.id ≡ id) new one (omega (arith, is)) all.0, all.1)
ordered_keep id (suc at) (one ∷ more) new all is within = (all.0, ordered_keep (suc id) at more new all.1 (omega (arith, is)) (omega (arith, within)))

-- ## After a place was made

module _ (old now new : List (List Kept)) (one : Kept) (ordered : AreByIdentifier 0 now) (within : one.response.id < length now)
    (is : new ≡ set now one.response.id (keep one (get_or now one.response.id []))) where
  pub kept_joined : joined now ≡ joined old → joined new ≡ keep one (joined old)
  kept_joined same = ap joined is ∙ joined_keep 0 one.response.id now one ordered (omega arith) within ∙ ap (keep one) same

  pub kept_ordered : AreByIdentifier 0 new
  kept_ordered = subst (AreByIdentifier 0) (sym is) (ordered_keep 0 one.response.id now one ordered (omega arith) within)

-- ## Who answers

nobody : (id : ℕ) (kept : List Kept) → AllByRecursion (λ one. responds_to id one ≡ false) kept → responders id kept ≡ []
nobody id [] all = refl
nobody id (one ∷ kept) all = ap (λ b. cond b (one ∷ responders id kept) (responders id kept)) all.0 ∙ nobody id kept all.1

-- those of an identifier answer as all do
pub responders_at : (from at id : ℕ) (lists : List (List Kept)) → AreByIdentifier from lists → id ≡ from + at → responders id (get_or lists at []) ≡ responders id (joined lists)
responders_at from at id [] all is = refl
responders_at from zero id (one ∷ more) all is =
    let none = nobody id (joined more) (all_so (λ x. suc from ≤ x.response.id) (λ x. responds_to id x ≡ false) (joined more) (λ x above. higher_id id x (omega (arith, is, above))) (from_id (suc from) more all.1)) in
    sym (filter-append (responds_to id) one (joined more) ∙ ap (λ rest. responders id one ++ rest) none ∙ append-nil (responders id one))
responders_at from (suc at) id (one ∷ more) all is =
    let none = nobody id one (all_so (λ x. x.response.id ≡ from) (λ x. responds_to id x ≡ false) one (λ x same. other_id id x (omega (arith, is, same))) all.0) in
    responders_at (suc from) at id more all.1 (omega (arith, is))
    ∙ sym (filter-append (responds_to id) one (joined more) ∙ ap (λ rest. rest ++ responders id (joined more)) none)
