-- Why a link is gone.
use Rattle.std.specs.Prelude.{◌≡◌, ◌⊎◌, refl, ℕ, false, true, IsTrue, List, [], ◌∷◌, ◌++◌}
use Rattle.std.proofs.Common.{ap, sym, ◌∙◌, subst, inl, inr, ⊎_elim}
use Rattle.sk_msg.specs.declared.content.Content.{Content}
use Rattle.sk_msg.specs.declared.entry.Entry.{Entry}
use Rattle.sk_msg.specs.declared.entry.Entry.TheVariants.{Got, Gone}
use Rattle.sk_law.specs.declared.made.Made.{Made}
use Rattle.sk_law.specs.declared.setup.Setup.{Setup}
use Rattle.sk_law.specs.Past.{Past, add}
use Rattle.sk_law.specs.Links.{comes_in_order}
use Rattle.sk_law.specs.Blocks.{making, judge_limits}
use Rattle.sk_law.specs.Lawful.{is_loss, starts, goes_on}
use Rattle.sk_law_world.specs.Refused.{IsRefused, GoneHasCause}
use Rattle.sk_law_world.proofs.Meetings.{last_or_before}
use Rattle.sk_law_world.proofs.Growth as growth
use Rattle.sk_law_world.proofs.Growth.{Adds}
use Rattle.sk_law_world.proofs.Onces.{front_more}
use Rattle.sk_law_world.proofs.Lists.{outside, in_front}
use Rattle.sk_law_world.proofs.Cuts.{making_all}
use Rattle.sk_law_world.proofs.Fates.{is_no_gone, no_gone, HasLost, lost_cases}

-- the cause that a Gone has
abbrev Cause : Setup → List Made → List Entry → ℕ → ℕ → Type 0
Cause S made before p reason = IsTrue (is_loss reason) ⊎ ((reason ≡ 8) × IsRefused S made before p)

later : (S : Setup) (calls more : List Made) (before : List Entry) (p reason : ℕ) → Cause S calls before p reason → Cause S (calls ++ more) before p reason
later S calls more before p reason (inl loss) = inl loss
later S calls more before p reason (inr r) = inr (
  r.0,
  record {
    at = r.1.at;
    calls = r.1.calls;
    lawful = r.1.lawful;
    called = front_more r.1.calls calls more r.1.called;
    message = r.1.message;
    is = r.1.is;
    out = r.1.out;
  },
)

pub gone_cause : GoneHasCause
gone_cause S past made starts before p reason after e =
    let h = outside is_no_gone (making S).journal before (Gone p reason) after (making_all no_gone S) e in absurd cc
gone_cause S past made (goes_on was now calls more law h) before p reason after e =
    let Goal : Type 0 = Cause S (calls ++ more) before p reason in
    let lim : Adds is_no_gone now (judge_limits S now) = growth.limits no_gone S now in
    let inner = in_front is_no_gone now.journal lim.new before (Gone p reason) after lim.all refl (sym lim.is ∙ e) in
    let old : (r : List Entry) → was.journal ≡ before ++ Gone p reason ∷ r → Goal = (λ r f. later S calls more before p reason (gone_cause S was calls law before p reason r f)) in
    ⊎_elim
    (λ (g : HasLost S was now).
    let behind : Adds is_no_gone (add (Gone g.p g.reason) g.mid) now = subst (λ (x : Past). Adds is_no_gone (add (Gone g.p g.reason) g.mid) x) (sym g.is) (growth.rest_of_lost no_gone S g.p g.reason g.mid) in
    let there = in_front is_no_gone (g.mid.journal ++ Gone g.p g.reason ∷ []) behind.new before (Gone p reason) inner.0 behind.all refl (sym behind.is ∙ inner.1) in
    let r : Goal = ⊎_elim
    (λ (x : (g.mid.journal ≡ before) × (Gone g.p g.reason ≡ Gone p reason)).
    let peer : g.p ≡ p = (let f = x.1 in cc) in let why : g.reason ≡ reason = (let f = x.1 in cc) in
    let k : Goal = ⊎_elim
    (λ (loss : is_loss g.reason ≡ true). let z : Goal = inl (ap is_loss (sym why) ∙ loss) in z)
    (λ (o : (m : Content) × (g.reason ≡ 8) × (g.mid ≡ add (Got g.p m) was) × (comes_in_order S was g.p m ≡ false)).
    let z : Goal = inr (
      sym why ∙ o.1,
      record {
        at = was;
        calls = calls;
        lawful = law;
        called = (more, refl);
        message = o.0;
        is = sym x.0 ∙ ap (λ (y : Past). y.journal) o.2 ∙ ap (λ y. was.journal ++ Got y o.0 ∷ []) peer;
        out = ap (λ y. comes_in_order S was y o.0) (sym peer) ∙ o.3;
      },
    ) in z)
    g.cause in k)
    (λ (x : (r : List Entry) × (g.mid.journal ≡ before ++ Gone p reason ∷ r)).
    let w = in_front is_no_gone was.journal g.first.new before (Gone p reason) x.0 g.first.all refl (sym g.first.is ∙ x.1) in
    let z : Goal = old w.0 w.1 in z)
    (last_or_before g.mid.journal (Gone g.p g.reason) before (Gone p reason) there.0 there.1) in r)
    (λ (b : Adds is_no_gone was now).
    let w = in_front is_no_gone was.journal b.new before (Gone p reason) inner.0 b.all refl (sym b.is ∙ inner.1) in
    let z : Goal = old w.0 w.1 in z)
    (lost_cases S was more now h)
