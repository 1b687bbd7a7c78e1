-- A participant whose app asks for no Abort is aborted only where somebody has a reason: a limit of its journal, or an error that it
-- reported. Participants of scenarios are such, and in a closed scenario none reports an error.
use Rattle.std.specs.Prelude.{◌≡◌, ◌≢◌, ◌<◌, ◌⊎◌, refl, ℕ, zero, suc, ◌==◌, nat_lt, Bool, true, false, not, ◌&&◌, ◌||◌, IsTrue, List, [], ◌∷◌, ◌++◌, length, Option, Some, None, slice_get, if◌then◌else◌}
use Rattle.std.specs.List.{list_any, list_all, cons_option}
use Rattle.std.proofs.lemmas.Bool.Decides.{nat_tests}
use Rattle.std.proofs.Common.{inl, inr, ap, sym, ◌∙◌, subst, arith}
use Rattle.std.proofs.lemmas.Bool.{and_parts, or_parts, or_from}
use Rattle.sk_msg.specs.declared.content.Content.{Content}
use Rattle.sk_msg.specs.declared.entry.Entry.{Entry}
use Rattle.sk_msg.specs.declared.entry.Entry.TheVariants.{Got, Put, Gone, Fault}
use Rattle.sk_law.specs.declared.setup.Setup.{Setup}
use Rattle.sk_law.specs.Readings.{got, got_from, put}
use Rattle.sk_law.specs.Links.{is_peer}
use Rattle.sk_law.specs.Lawful.{Lawful}
use Rattle.sk_law.specs.World.{Member}
use Rattle.sk_script.specs.Closed.{is_closed}
use Rattle.sk_script.specs.Scenarios.{PartValue, ScenarioValue, is_scenario}
use Rattle.sk_sim.specs.Played.{HasPlayed}
use Rattle.sk_sim.specs.Scripts.{script_by}
use Rattle.sk_sim.specs.Simulations.{is_aborting, is_fault, is_error_report, HasError, IsLimited}
use Rattle.sk_sim.proofs.Lists.{slice_get-some}
use Rattle.sk_sim.proofs.Calm.{is_abort, is_abort_put, is_abort_got, is_cause, Unmarked, clash, left_true, one_true}
use Rattle.sk_sim.proofs.CalmCalls.{asks_mildly, lt_of, lawful_calm, no_error_report}
use Rattle.sk_sim.proofs.MildScripts.{IsMildPart, played_mildly, part_mildly, part_silently, part_in, closed_part_in}

-- ## What was got, and of whom

same : (q : ℕ) → (q == q) ≡ true
same q = grind (arith, nat_tests)

right_true : (a b : Bool) → b ≡ true → (a || b) ≡ true
right_true true b e = refl
right_true false b e = e

any_cons : (o : Option Content) (ms : List Content) → list_any is_abort ms ≡ true → list_any is_abort (cons_option o ms) ≡ true
any_cons None ms e = e
any_cons (Some m) ms e = right_true (is_abort m) (list_any is_abort ms) e

got_of : (S : Setup) (es : List Entry) → list_any (is_abort_got S) es ≡ true → (q : ℕ) × (is_peer S q ≡ true) × (list_any is_abort (got es q) ≡ true)
got_of S [] e = absurd (cc)
got_of S (Got q m ∷ es) e =
    one_true (is_abort m && is_peer S q) (list_any (is_abort_got S) es) e
    (λ first.
    let parts = and_parts (is_abort m) (is_peer S q) first in
    (q, parts.1, ap (λ b. list_any is_abort (cons_option (if b then Some m else None) (got es q))) (same q) ∙ left_true (is_abort m) (list_any is_abort (got es q)) parts.0))
    (λ rest. let later = got_of S es rest in (later.0, later.1, any_cons (got_from later.0 (Got q m)) (got es later.0) later.2))
got_of S (x ∷ es) e = got_of S es e

put_none : (es : List Entry) (p : ℕ) → list_any is_abort_put es ≡ false → list_any is_abort (put es p) ≡ false
put_none [] p none = refl
put_none (Put q m ∷ es) p none =
    let parts = or_parts (is_abort m) (list_any is_abort_put es) none in on (q == p) parts.0 (put_none es p parts.1)
  where
    on : (b : Bool) → is_abort m ≡ false → list_any is_abort (put es p) ≡ false → list_any is_abort (cons_option (if b then Some m else None) (put es p)) ≡ false
    on true first rest = or_from (is_abort m) (list_any is_abort (put es p)) first rest
    on false first rest = rest
put_none (x ∷ es) p none = put_none es p none

-- ## Who has a reason

-- no limit was reached, no error reported, and no link is gone
no_cause : (es : List Entry) → list_any is_fault es ≡ false → list_any is_error_report es ≡ false
    → ((before : List Entry) (q reason : ℕ) (after : List Entry) → es ≡ before ++ Gone q reason ∷ after → ⊥) → list_any is_cause es ≡ false
no_cause [] none silent linked = refl
no_cause (Fault n ∷ es) none silent linked = absurd (cc)
no_cause (Gone q reason ∷ es) none silent linked = absurd (linked [] q reason es refl)
no_cause (x ∷ es) none silent linked =
    let parts = or_parts (is_error_report x) (list_any is_error_report es) silent in
    or_from (is_error_report x) (list_any is_cause es) parts.0 (no_cause es none parts.1 (λ before q reason after e. linked (x ∷ before) q reason after (ap (λ l. x ∷ l) e)))

-- the journal of one of these has such an entry
abbrev HasOne : (Entry → Bool) → List Member → Type 0
HasOne test members = (q : ℕ) × (other : Member) × (slice_get members q ≡ Some other) × IsTrue (list_any test other.past.journal)

abbrev HasNone : (Entry → Bool) → List Member → Type 0
HasNone test members = (q : ℕ) (o : Member) → slice_get members q ≡ Some o → list_any test o.past.journal ≡ false

find_one : (test : Entry → Bool) (ms : List Member) → HasOne test ms ⊎ HasNone test ms
find_one test [] = inr (λ q o at. absurd (cc))
find_one test (m ∷ ms) = by (list_any test m.past.journal) refl (find_one test ms)
  where
    by : (b : Bool) → list_any test m.past.journal ≡ b → HasOne test ms ⊎ HasNone test ms → HasOne test (m ∷ ms) ⊎ HasNone test (m ∷ ms)
    by true so_it_is rest = inl (0, m, refl, so_it_is)
    by false clear (inl some) = inl (suc some.0, some.1, some.2, some.3)
    by false clear (inr none) = inr each
      where
        each : (q : ℕ) (o : Member) → slice_get (m ∷ ms) q ≡ Some o → list_any test o.past.journal ≡ false
        each zero o at = let one : m ≡ o = cc in subst (λ (x : Member). list_any test x.past.journal ≡ false) one clear
        each (suc q) o at = none q o at

-- ## Participants whose apps ask for no Abort

-- it is lawful, its app asks for no Abort and no caller asks anything, it has no tools, and no link is gone
pub record IsAlone (members : List Member) (p : ℕ) (m : Member) : Type 0 where
  pub names : length m.setup.names ≡ length members
  pub number : m.setup.number ≡ p
  pub lawful : Lawful m.setup m.past m.made
  pub mild : list_all (asks_mildly false) m.made ≡ true
  pub unasked : m.past.memory.asked ≡ false
  pub alone : m.past.memory.tools ≡ []
  pub linked : (before : List Entry) (q reason : ℕ) (after : List Entry) → m.past.journal ≡ before ++ Gone q reason ∷ after → ⊥

-- what each got is what the others put
abbrev pub AllGot : List Member → Type 0
AllGot members = (p q : ℕ) (sender receiver : Member) → slice_get members p ≡ Some sender → slice_get members q ≡ Some receiver → p ≢ q
    → got receiver.past.journal p ≡ put sender.past.journal q

module _ (members : List Member) (each : (p : ℕ) (m : Member) → slice_get members p ≡ Some m → IsAlone members p m) (all_got : AllGot members) where
  calm_of : HasNone is_fault members → HasNone is_error_report members → (p : ℕ) (m : Member) → slice_get members p ≡ Some m → Unmarked m.setup m.past.journal
  calm_of limits errors p m at =
      let e = each p m at in
      ((lawful_calm m.setup false m.past m.made e.lawful e.mild).calm e.unasked e.alone (no_cause m.past.journal (limits p m at) (errors p m at) e.linked)).1

  -- where nobody has a reason, nobody is aborted
  none_aborted : HasNone is_fault members → HasNone is_error_report members → (p : ℕ) (m : Member) → slice_get members p ≡ Some m → list_any is_aborting m.past.journal ≡ true → ⊥
  none_aborted limits errors p m at so_it_is =
      let e = each p m at in
      let heard = got_of m.setup m.past.journal ((calm_of limits errors p m at).heard so_it_is) in
      let q = heard.0 in
      let peer = and_parts (nat_lt q (length m.setup.names)) (not (q == m.setup.number)) heard.1 in
      let below : q < length members = subst (λ n. q < n) e.names (lt_of q (length m.setup.names) peer.0) in
      let sender = slice_get-some members q below in
      let other : q ≢ p = λ same_is. clash (ap not (ap (λ n. q == n) (e.number ∙ sym same_is) ∙ same q)) peer.1 in
      let put_it = put_none sender.0.past.journal p (calm_of limits errors q sender.0 sender.1).put in
      let got_it : list_any is_abort (put sender.0.past.journal p) ≡ true = ap (list_any is_abort) (sym (all_got q p sender.0 m sender.1 at other)) ∙ heard.2 in
      clash put_it got_it

  -- whoever was aborted, a limit was reached or an error reported
  pub abort_has_cause : (p : ℕ) (m : Member) → slice_get members p ≡ Some m → list_any is_aborting m.past.journal ≡ true → IsLimited members ⊎ HasError members
  abort_has_cause p m at so_it_is = by (find_one is_fault members) (find_one is_error_report members)
    where
      by : HasOne is_fault members ⊎ HasNone is_fault members → HasOne is_error_report members ⊎ HasNone is_error_report members → IsLimited members ⊎ HasError members
      by (inl some) any = inl some
      by (inr limits) (inl some) = inr some
      by (inr limits) (inr errors) = absurd (none_aborted limits errors p m at so_it_is)

-- ## Participants of a scenario

-- a participant that does what its script says, and nobody else asks anything of it
pub record IsScripted (S : ScenarioValue) (members : List Member) (p : ℕ) (m : Member) : Type 0 where
  pub part : PartValue
  pub is_its : slice_get S.participants p ≡ Some part
  pub played : HasPlayed (script_by part) m.made
  pub names : length m.setup.names ≡ length members
  pub number : m.setup.number ≡ p
  pub lawful : Lawful m.setup m.past m.made
  pub unasked : m.past.memory.asked ≡ false
  pub alone : m.past.memory.tools ≡ []
  pub linked : (before : List Entry) (q reason : ℕ) (after : List Entry) → m.past.journal ≡ before ++ Gone q reason ∷ after → ⊥

module _ (S : ScenarioValue) (valid : is_scenario S ≡ true) (members : List Member) (each : (p : ℕ) (m : Member) → slice_get members p ≡ Some m → IsScripted S members p m) where
  mild_part : (p : ℕ) (m : Member) (at : slice_get members p ≡ Some m) → IsMildPart false (each p m at).part
  mild_part p m at = part_mildly (each p m at).part (part_in S valid p (each p m at).part (each p m at).is_its)

  is_alone : (p : ℕ) (m : Member) → slice_get members p ≡ Some m → IsAlone members p m
  is_alone p m at =
      let e = each p m at in record {
        names = e.names;
        number = e.number;
        lawful = e.lawful;
        mild = played_mildly false e.part m.made (mild_part p m at) e.played;
        unasked = e.unasked;
        alone = e.alone;
        linked = e.linked;
      }

  -- whoever was aborted, somebody has a reason
  pub scripted_abort_has_cause : AllGot members → (p : ℕ) (m : Member) → slice_get members p ≡ Some m → list_any is_aborting m.past.journal ≡ true → IsLimited members ⊎ HasError members
  scripted_abort_has_cause all_got p m at so_it_is = abort_has_cause members is_alone all_got p m at so_it_is

  -- in a closed scenario nobody reports an error
  pub closed_has_no_error : is_closed S ≡ true → HasError members → ⊥
  closed_has_no_error closed some =
      let m = some.1 in
      let e = each some.0 m some.2 in
      let quiet = part_silently S.required e.part (mild_part some.0 m some.2) (closed_part_in S closed some.0 e.part e.is_its) in
      clash (no_error_report m.setup m.past m.made e.lawful e.unasked (played_mildly true e.part m.made quiet e.played)) some.3
