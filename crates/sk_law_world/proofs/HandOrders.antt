-- The Hands of earlier messages of a peer stand before those of later ones.
use Rattle.std.specs.Prelude.{◌≡◌, ◌<◌, ◌≤◌, refl, ℕ, ◌+◌, List, [], ◌∷◌, ◌++◌, length, Option, Some, None}
use Rattle.std.specs.List.{cons_option}
use Rattle.std.proofs.lemmas.Bool.{cases_lt}
use Rattle.std.proofs.Common.{ap, sym, ◌∙◌, append_assoc, length-append, arith, ⊎_elim}
use Rattle.sk_msg.specs.declared.entry.Entry.{Entry}
use Rattle.sk_msg.specs.declared.entry.Entry.TheVariants.{Got, Hand}
use Rattle.sk_law.specs.declared.made.Made.{Made}
use Rattle.sk_law.specs.declared.setup.Setup.{Setup}
use Rattle.sk_law.specs.Past.{Past}
use Rattle.sk_law.specs.Readings.{got, got_from}
use Rattle.sk_law.specs.Blocks.{making, judge_limits}
use Rattle.sk_law.specs.Safe.{hands, hand_of, AreInOrder}
use Rattle.sk_law.specs.Lawful.{Lawful, Happens, starts, goes_on}
use Rattle.sk_law_world.proofs.Growth as growth
use Rattle.sk_law_world.proofs.Growth.{Adds}
use Rattle.sk_law_world.proofs.Lists.{split, outside}
use Rattle.sk_law_world.proofs.Onces.{is_quiet, quiet, quietly, HasGot, cases, messages_of, hands-append, self_hand, same_hands, same_got, get_got, bounded, making_quiet}
use Rattle.sk_law_world.proofs.Cuts.{whole, happens_hands}

-- where a Hand stands the list of these isn't empty
some_hand : (es front : List Entry) (p k r : ℕ) (rest : List Entry) → es ≡ front ++ Hand p k r ∷ rest → hands es p k ≡ [] → ⊥
some_hand es front p k r rest e none =
    let a : hands front p k ++ cons_option (hand_of p k (Hand p k r)) (hands rest p k) ≡ [] = sym (hands-append front (Hand p k r ∷ rest) p k) ∙ sym (ap (λ x. hands x p k) e) ∙ none in
    let b : hands front p k ++ r ∷ hands rest p k ≡ [] = ap (λ o. hands front p k ++ cons_option o (hands rest p k)) (sym (self_hand p k r)) ∙ a in
    let n = ap length b in let l = length-append (hands front p k) (r ∷ hands rest p k) in omega arith

-- its place is among those that were got
hand_within : (S : Setup) (past : Past) (made : List Made) → Lawful S past made → (front : List Entry) (p k r : ℕ) (rest : List Entry) → past.journal ≡ front ++ Hand p k r ∷ rest →
    k ≤ length (got past.journal p)
hand_within S past made law front p k r rest e = ⊎_elim
    (λ (lt : length (got past.journal p) < k). let h : k ≤ length (got past.journal p) = absurd (some_hand past.journal front p k r rest e (bounded S past made law p k lt)) in h)
    (λ (le : k ≤ length (got past.journal p)). le)
    (cases_lt (length (got past.journal p)) k)

none_behind : (xs ys : List ℕ) → xs ++ ys ≡ xs → ys ≡ []
none_behind xs [] e = refl
none_behind xs (y ∷ ys) e = let n = ap length e in let l = length-append xs (y ∷ ys) in absurd (omega arith)

-- a new Hand is of a new place
hand_new : (S : Setup) (was : Past) (more : List Made) (now : Past) (h : Happens S was more now) (front : List Entry) (p k r : ℕ) (rest : List Entry) →
    (whole S was more now h).new ≡ front ++ Hand p k r ∷ rest → length (got was.journal p) < k
hand_new S was more now h front p k r rest e = ⊎_elim
    (λ (lt : length (got was.journal p) < k). lt)
    (λ (le : k ≤ length (got was.journal p)).
    let a = whole S was more now h in
    let same : hands was.journal p k ++ hands a.new p k ≡ hands was.journal p k =
    sym (hands-append was.journal a.new p k) ∙ sym (ap (λ es. hands es p k) a.is) ∙ same_hands (growth.limits quiet S now) p k ∙ happens_hands S was more now h p k le in
    let r : length (got was.journal p) < k = absurd (some_hand a.new front p k r rest e (none_behind (hands was.journal p k) (hands a.new p k) same)) in r)
    (cases_lt (length (got was.journal p)) k)

option_length : {X : Type 0} (o : Option X) → length (cons_option o []) ≤ 1
option_length None = omega arith
option_length (Some x) = omega arith

-- one message at most is got at a time
got_one : (S : Setup) (was : Past) (more : List Made) (now : Past) → Happens S was more now → (p : ℕ) → length (got (judge_limits S now).journal p) ≤ length (got was.journal p) + 1
got_one S was more now h p =
    let last = ap length (same_got (quietly (growth.limits quiet S now)) p) in ⊎_elim
    (λ (g : HasGot S was more now).
    let a = ap (λ (x : Past). length (got x.journal p)) g.is in
    let b = ap length (get_got S g.p g.m more was (messages_of S was more now g) p) in
    let c = length-append (got was.journal p) (cons_option (got_from p (Got g.p g.m)) []) in
    let d = option_length (got_from p (Got g.p g.m)) in
    let r : length (got (judge_limits S now).journal p) ≤ length (got was.journal p) + 1 = omega arith in r)
    (λ (a : Adds is_quiet was now).
    let b = ap length (same_got (quietly a) p) in
    let r : length (got (judge_limits S now).journal p) ≤ length (got was.journal p) + 1 = omega arith in r)
    (cases S was more now h)

pub ordered : (S : Setup) (past : Past) (made : List Made) → Lawful S past made → (p : ℕ) → AreInOrder past.journal p
ordered S past made starts p before between after k j r s e =
    let h = outside is_quiet (making S).journal before (Hand p k r) (between ++ Hand p j s ∷ after) (making_quiet S) e in absurd cc
ordered S past made (goes_on was now calls more law h) p before between after k j r s e =
    let a = whole S was more now h in
    let first : k ≤ length (got (judge_limits S now).journal p) =
    hand_within S (judge_limits S now) (calls ++ more) (goes_on was now calls more law h) before p k r (between ++ Hand p j s ∷ after) e in
    let one = got_one S was more now h p in
    ⊎_elim
    (λ (x : (rest : List Entry) × (was.journal ≡ (before ++ Hand p k r ∷ between) ++ Hand p j s ∷ rest)).
    let q : k ≤ j = ordered S was calls law p before between x.0 k j r s (x.1 ∙ append_assoc before (Hand p k r ∷ between) (Hand p j s ∷ x.0)) in q)
    (λ (x : (front : List Entry) × (before ++ Hand p k r ∷ between ≡ was.journal ++ front) × (a.new ≡ front ++ Hand p j s ∷ after)).
    let second = hand_new S was more now h x.0 p j s after x.2 in
    let q : k ≤ j = omega arith in q)
    (split was.journal a.new (before ++ Hand p k r ∷ between) (Hand p j s) after (sym a.is ∙ e ∙ sym (append_assoc before (Hand p k r ∷ between) (Hand p j s ∷ after))))
