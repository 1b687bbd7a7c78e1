-- What is told of a seat, and no look at a ring changes.
use Rattle.std.specs.Prelude.{◌≡◌, ◌<◌, ℕ, zero, suc, ◌+◌, false, List, [], length, drop, map, slice_index_or}
use Rattle.std.specs.List.{range_with_len}
use Rattle.sk_msg.specs.declared.content.Content.{Content}
use Rattle.sk_msg.specs.declared.state.State.TheVariants.{Shutdown}
use Rattle.sk_law.specs.declared.setup.Setup.{Setup}
use Rattle.sk_law.specs.Past.{Past}
use Rattle.sk_law.specs.Readings.{got, put, state_of}
use Rattle.sk_law.specs.Links.{is_open}
use Rattle.sk_mesh.specs.Places.{Account, Place, place, size}
use Rattle.sk_mesh.specs.Ends.{pushed}
use Rattle.sk_sim.specs.declared.wired.Wired.{Wired}

-- the sum of these, for the numbers below the bound
abbrev pub total : (ℕ → ℕ) → ℕ → ℕ
total f zero = 0
total f (suc n) = total f n + f n

-- how many messages were pushed to each number
unfoldable pub counts : Account → List ℕ
counts a = map (λ q. length (pushed a q)) (range_with_len 0 (size (place a)))

-- of which rings it has the ends, with what its participant was made, what has happened, and how much was pushed
pub record Card : Type 0 where
  pub place : Place
  pub setup : Setup
  pub past : Past
  pub counts : List ℕ

abbrev pub card_of : Wired → Card
card_of a = record { place = place a.ends; setup = a.node.kept.setup; past = a.node.kept.past; counts = counts a.ends }

-- how many messages were pushed to this number
abbrev pub count_at : Card → ℕ → ℕ
count_at c q = slice_index_or c.counts q 0

-- what waits for it
abbrev pub waits_at : Card → ℕ → List Content
waits_at c q = drop (count_at c q) (put c.past.journal q)

-- how many messages were pushed, and how many were got
abbrev pub pushed_total : Card → ℕ
pushed_total c = total (λ q. count_at c q) (size c.place)

abbrev pub got_total : Card → ℕ
got_total c = total (λ p. length (got c.past.journal p)) (size c.place)

-- at Shutdown, each peer has left or is gone, and nothing waits
pub record IsFinished (c : Card) : Type 0 where
  pub state_is : state_of c.past.journal ≡ Shutdown
  pub away : (p : ℕ) → p < size c.place → is_open c.setup c.past p ≡ false
  pub empty : (q : ℕ) → q < size c.place → waits_at c q ≡ []
