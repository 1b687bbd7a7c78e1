-- What a round does.
use Rattle.std.specs.Prelude.{◌≡◌, ◌≢◌, ◌⊎◌, ℕ, ◌<◌, ◌≤◌, true, List, [], ◌++◌, length, Some, slice_get}
use Rattle.sk_msg.specs.declared.content.Content.{Content}
use Rattle.sk_law.specs.Readings.{got, put}
use Rattle.sk_law.specs.Links.{is_open}
use Rattle.sk_law.specs.Rows.{is_quiet}
use Rattle.sk_node.specs.declared.rows.Turned.{Turned}
use Rattle.sk_node.specs.declared.rows.Turned.TheVariants.{Entries, Counted, Quiet, Finished}
use Rattle.sk_sim.specs.declared.rounds.Together.{Together}
use Rattle.sk_sim.specs.declared.rounds.Together.TheVariants.{Moved, Still, Done}
use Rattle.sk_sim.specs.Cards.{Card, waits_at, IsFinished}
use Rattle.sk_sim.specs.Parts.{Goes}
use Rattle.sk_sim.specs.Views.{View}
use Rattle.sk_sim.specs.Work.{work}

-- what one got from another, what is in the ring between them, and what waits there is all that was put
pub record IsLinked (got waits put : List Content) : Type 0 where
  pub ring : List Content
  pub is : (got ++ ring) ++ waits ≡ put

-- the one of number k had nothing to do where all stood so: no row was enabled, all that open peers pushed was got, and where
-- something waits there the ring isn't empty
pub record StoodStill (cs : List Card) (k : ℕ) (c : Card) : Type 0 where
  pub quiet : is_quiet c.setup c.past ≡ true
  pub linked : (q : ℕ) (d : Card) → q ≢ k → slice_get cs q ≡ Some d →
      IsLinked (got c.past.journal q) (waits_at d k) (put d.past.journal k)
  pub drained : (q : ℕ) (d : Card) → q ≢ k → slice_get cs q ≡ Some d → is_open c.setup c.past q ≡ true →
      got c.past.journal q ++ waits_at d k ≡ put d.past.journal k
  pub blocked : (q : ℕ) (d : Card) → q ≢ k → slice_get cs q ≡ Some d →
      (waits_at c q ≡ []) ⊎ (put c.past.journal q ≢ got d.past.journal k ++ waits_at c q)

-- the first i took their turns
pub record Round (t : Together) (a b : List Card) (i : ℕ) : Type 0 where
  pub less : work b ≤ work a
  pub moved : t ≡ Moved → work b < work a
  pub still : t ≢ Moved → (b ≡ a) × ((k : ℕ) (c : Card) → k < i → slice_get a k ≡ Some c → StoodStill a k c)
  pub unfinished : t ≡ Still → ((k : ℕ) (c : Card) → slice_get a k ≡ Some c → IsFinished c) → ⊥
  pub done : t ≡ Done → (k : ℕ) (c : Card) → k < i → slice_get a k ≡ Some c → IsFinished c

-- what they did together, with one more
abbrev pub together : Turned → Together → Together
together (Entries n) t = Moved
together Counted t = Moved
together Quiet Moved = Moved
together Quiet Still = Still
together Quiet Done = Still
together Finished t = t

-- all stood still at once
abbrev pub AllStill : List Card → Type 0
AllStill cs = (k : ℕ) (c : Card) → slice_get cs k ≡ Some c → StoodStill cs k c

-- all are finished
abbrev pub AllFinished : List Card → Type 0
AllFinished cs = (k : ℕ) (c : Card) → slice_get cs k ≡ Some c → IsFinished c

-- from where it stood, one went on to there
pub record WentOn {O : Type 0} (v w : View O) : Type 0 where
  pub goes : Goes v.card w.card v.lists w.lists
  pub origin : w.origin ≡ v.origin

-- each of them did
pub record AllWentOn {O : Type 0} (vs ws : List (View O)) : Type 0 where
  pub count : length ws ≡ length vs
  pub each : (i : ℕ) (v w : View O) → slice_get vs i ≡ Some v → slice_get ws i ≡ Some w → WentOn v w
