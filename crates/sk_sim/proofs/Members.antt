-- Who takes part in a run, as the laws see it.
use Rattle.std.proofs.Common.{◌≡◌, ℕ, zero, suc, List, [], ◌∷◌, length, refl, sym, arith, Some}
use Rattle.std.specs.List.{slice_get}
use Rattle.std.proofs.lemmas.Option.{same_Some, none-some}
use Rattle.sk_law.specs.declared.made.Made.{Made}
use Rattle.sk_law.specs.World.{Member}
use Rattle.sk_sim.specs.Cards.{Card}
use Rattle.sk_sim.specs.Views.{View}
use Rattle.sk_sim.specs.Rounds.{WentOn}

-- of a card, with the calls of its app
abbrev pub member : Card → List Made → Member
member c made = record { setup = c.setup; past = c.past; made = made }

-- each of the first went on to the one at its place
abbrev pub EachWentOn : {O : Type 0} → List (View O) → List (View O) → Type 0
EachWentOn {O} vs ws = (i : ℕ) (v w : View O) → slice_get vs i ≡ Some v → slice_get ws i ≡ Some w → WentOn v w

abbrev pub members : {O : Type 0} (vs ws : List (View O)) → EachWentOn vs ws → List Member
members [] ws h = []
members (v ∷ vs) [] h = []
members (v ∷ vs) (w ∷ ws) h = member w.card (h 0 v w refl refl).goes.made ∷ members vs ws (λ i. h (suc i))

-- whose member stands at a place
pub record Of {O : Type 0} (vs ws : List (View O)) (i : ℕ) (m : Member) : Type 0 where
  pub was : View O
  pub now : View O
  pub at_was : slice_get vs i ≡ Some was
  pub at_now : slice_get ws i ≡ Some now
  pub went : WentOn was now
  pub is : m ≡ member now.card went.goes.made

pub member_of : {O : Type 0} (vs ws : List (View O)) (h : EachWentOn vs ws) (i : ℕ) (m : Member) → slice_get (members vs ws h) i ≡ Some m → Of vs ws i m
member_of [] ws h i m at = absurd (none-some m at)
member_of (v ∷ vs) [] h i m at = absurd (none-some m at)
member_of (v ∷ vs) (w ∷ ws) h zero m at = record {
  was = v;
  now = w;
  at_was = refl;
  at_now = refl;
  went = h 0 v w refl refl;
  is = sym (same_Some (member w.card (h 0 v w refl refl).goes.made) m at);
}
member_of (v ∷ vs) (w ∷ ws) h (suc i) m at =
    let t = member_of vs ws (λ k. h (suc k)) i m at in record { was = t.was; now = t.now; at_was = t.at_was; at_now = t.at_now; went = t.went; is = t.is }

pub members_count : {O : Type 0} (vs ws : List (View O)) (h : EachWentOn vs ws) → length ws ≡ length vs → length (members vs ws h) ≡ length vs
members_count [] ws h same = refl
members_count (v ∷ vs) [] h same = absurd (omega arith)
members_count (v ∷ vs) (w ∷ ws) h same = let e = members_count vs ws (λ k. h (suc k)) (omega arith) in omega arith
