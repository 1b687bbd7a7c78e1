-- What the parts of a turn do.
use Rattle.std.specs.Prelude.{◌≡◌, ◌≢◌, ◌<◌, ◌≤◌, ◌⊎◌, ℕ, Bool, true, false, List, [], ◌∷◌, ◌++◌, ◌+◌, ◌*◌, length}
use mathlib.Core.List.{IsPrefix}
use Rattle.std.specs.List.{list_any}
use Rattle.sk_msg.specs.declared.content.Content.{Content}
use Rattle.sk_msg.specs.declared.entry.Entry.{Entry}
use Rattle.sk_msg.specs.declared.entry.Entry.TheVariants.{Stray}
use Rattle.sk_law.specs.declared.made.Made.{Made}
use Rattle.sk_law.specs.Past.{Past}
use Rattle.sk_law.specs.declared.setup.Setup.{Setup}
use Rattle.sk_law.specs.Bounded.{IsStill}
use Rattle.sk_law.specs.Ends.{left, states_left}
use Rattle.sk_law.specs.Receivers.{is_over}
use Rattle.sk_law.specs.Lawful.{Lawful}
use Rattle.sk_law.specs.Links.{is_open}
use Rattle.sk_law.specs.Readings.{state_of, got, put}
use Rattle.sk_node.specs.Lists.{Lists, Tells}
use Rattle.sk_mesh.specs.Places.{place}
use Rattle.sk_mesh.specs.Ends.{pushed, popped, free, waiting, OnlyPushes}
use Rattle.sk_sim.specs.declared.wired.Wired.{Wired}
use Rattle.sk_sim.specs.Wiring.{waits, OnlyOut, IsTied}
use Rattle.sk_sim.specs.Cards.{Card, card_of, count_at, pushed_total, got_total}

-- a completion came that doesn't fit
abbrev pub is_stray : Entry → Bool
is_stray (Stray n) = true
is_stray _ = false

-- in between no caller asked for a command, no tool was added, and no completion came that doesn't fit
pub record IsUntouched (a b : Past) : Type 0 where
  pub asked : b.memory.asked ≡ a.memory.asked
  pub tools : b.memory.tools ≡ a.memory.tools
  pub strays : list_any is_stray b.journal ≡ list_any is_stray a.journal

-- what is lawful stays so with the calls of the app that came, the app was told what the journal tells it, and nothing is
-- undone
pub record Goes (a b : Card) (was now : Lists) : Type 0 where
  pub made : List Made
  pub calls : now.made ≡ was.made ++ made
  pub told : Tells a.past.journal b.past.journal was now
  pub place : b.place ≡ a.place
  pub setup : b.setup ≡ a.setup
  pub grows : IsPrefix a.past.journal b.past.journal
  pub lawful : (earlier : List Made) → Lawful a.setup a.past earlier → Lawful a.setup b.past (earlier ++ made)
  pub untouched : IsUntouched a.past b.past
  pub lower : left b.past ≤ left a.past
  pub more : (q : ℕ) → count_at a q ≤ count_at b q

-- what at most n calls of a participant put: each at most 51,000 messages to one number. No state comes back; and where nothing is
-- handed any more, nothing is put to another participant, unless the state goes on
pub record PutsFew (n : ℕ) (S : Setup) (a b : Past) : Type 0 where
  pub few : (q : ℕ) → length (put b.journal q) ≤ length (put a.journal q) + n * 51000
  pub states : states_left (state_of b.journal) ≤ states_left (state_of a.journal)
  pub over : is_over (state_of a.journal) ≡ true →
      IsStill S a b ⊎ (states_left (state_of b.journal) < states_left (state_of a.journal))

-- ## Pushing

-- to the peers among the numbers below n what waits was pushed, until nothing waits or the ring handed back; where none was
-- moved, of each of them nothing waited, or no slot of its ring was known to be free
pub record Pushes (moved : Bool) (a b : Wired) (n : ℕ) : Type 0 where
  pub node : (b.node.kept.setup ≡ a.node.kept.setup) × (b.node.kept.past ≡ a.node.kept.past) × (b.node.poisoned ≡ a.node.poisoned)
  pub out : length b.node.kept.out ≡ length a.node.kept.out
  pub held : length b.held.items ≡ length a.held.items
  pub place : place b.ends ≡ place a.ends
  pub popped : (q : ℕ) → popped b.ends q ≡ popped a.ends q
  pub waiting : (q : ℕ) → waiting b.ends q ≡ waiting a.ends q
  pub all : (q : ℕ) → pushed b.ends q ++ waits b q ≡ pushed a.ends q ++ waits a q
  pub more : (q : ℕ) → length (pushed a.ends q) ≤ length (pushed b.ends q)
  pub progress : moved ≡ true → pushed_total (card_of a) < pushed_total (card_of b)
  pub still : moved ≡ false → (q : ℕ) → pushed b.ends q ≡ pushed a.ends q
  pub tried : moved ≡ false → (q : ℕ) → q < n → q ≢ a.ends.number → (waits a q ≡ []) ⊎ (free a.ends q ≡ 0)
  pub done : (q : ℕ) → q < n → q ≢ a.ends.number → (waits b q ≡ []) ⊎ (free b.ends q ≡ 0)
  pub free_is : (q : ℕ) → n ≤ q → free b.ends q ≡ free a.ends q
  pub later : (q : ℕ) → n ≤ q → waits b q ≡ waits a q

-- to this one alone, in the same way
pub record PushesOne (moved : Bool) (a b : Wired) (p : ℕ) : Type 0 where
  pub node : OnlyOut a.node b.node p
  pub held : length b.held.items ≡ length a.held.items
  pub ring : OnlyPushes a.ends b.ends p
  pub all : pushed b.ends p ++ waits b p ≡ pushed a.ends p ++ waits a p
  pub others : (q : ℕ) → q ≢ p → waits b q ≡ waits a q
  pub more : length (pushed a.ends p) ≤ length (pushed b.ends p)
  pub progress : moved ≡ true → length (pushed a.ends p) < length (pushed b.ends p)
  pub still : moved ≡ false → (pushed b.ends p ≡ pushed a.ends p) × ((waits a p ≡ []) ⊎ (free a.ends p ≡ 0))
  pub done : (waits b p ≡ []) ⊎ (free b.ends p ≡ 0)

-- what was so of the numbers below p is so with p too
abbrev pub PushesNext : Bool → Bool → Wired → Wired → ℕ → Type 0
PushesNext moved now a b p = (start : Wired) → Pushes moved start a p → Pushes now start b (p + 1)

-- ## Taking

-- of this peer one message was got; or none, and where it is open none was known to wait in its ring, and none is
abbrev pub TakesFrom : Wired → Wired → ℕ → Type 0
TakesFrom a b p =
    ((m : Content) × (got b.node.kept.past.journal p ≡ got a.node.kept.past.journal p ++ m ∷ []))
    ⊎ ((got b.node.kept.past.journal p ≡ got a.node.kept.past.journal p)
    × (is_open a.node.kept.setup a.node.kept.past p ≡ true → (waiting a.ends p ≡ []) × (waiting b.ends p ≡ [])))

-- with this number nothing came about
pub record IsSameFrom (a b : Wired) (q : ℕ) : Type 0 where
  pub waiting_is : waiting b.ends q ≡ waiting a.ends q
  pub got_is : got b.node.kept.past.journal q ≡ got a.node.kept.past.journal q
  pub open_is : is_open b.node.kept.setup b.node.kept.past q ≡ is_open a.node.kept.setup a.node.kept.past q

-- a message of this peer was popped and taken; or it isn't open, or none was known to wait
pub record Takes (moved : Bool) (a b : Wired) (was now : Lists) (p : ℕ) : Type 0 where
  pub goes : Goes (card_of a) (card_of b) was now
  pub tied : IsTied b
  pub puts : PutsFew 1 a.node.kept.setup a.node.kept.past b.node.kept.past
  pub held : b.held.items ≡ a.held.items
  pub pushed_is : (q : ℕ) → pushed b.ends q ≡ pushed a.ends q
  pub free_is : (q : ℕ) → free b.ends q ≡ free a.ends q
  pub from : TakesFrom a b p
  pub others : (q : ℕ) → q ≢ p → IsSameFrom a b q
  pub progress : moved ≡ true → got_total (card_of a) < got_total (card_of b)
  pub still : moved ≡ false → (b.node ≡ a.node) × (now ≡ was)
      × (is_open a.node.kept.setup a.node.kept.past p ≡ true → (waiting a.ends p ≡ []) × (waiting b.ends p ≡ []))

-- the same of each peer among the numbers below n
pub record TakesAll (moved : Bool) (a b : Wired) (was now : Lists) (n : ℕ) : Type 0 where
  pub goes : Goes (card_of a) (card_of b) was now
  pub tied : IsTied b
  pub puts : PutsFew n a.node.kept.setup a.node.kept.past b.node.kept.past
  pub held : b.held.items ≡ a.held.items
  pub pushed_is : (q : ℕ) → pushed b.ends q ≡ pushed a.ends q
  pub free_is : (q : ℕ) → free b.ends q ≡ free a.ends q
  pub each : (q : ℕ) → q < n → q ≢ a.ends.number → TakesFrom a b q
  pub later : (q : ℕ) → n ≤ q → IsSameFrom a b q
  pub progress : moved ≡ true → got_total (card_of a) < got_total (card_of b)
  pub still : moved ≡ false → (b.node ≡ a.node) × (now ≡ was)
      × ((q : ℕ) → q < n → q ≢ a.ends.number → is_open a.node.kept.setup a.node.kept.past q ≡ true → (waiting a.ends q ≡ []) × (waiting b.ends q ≡ []))

-- what was so of the peers below p is so with p too
abbrev pub TakesNext : Bool → Bool → Wired → Wired → Lists → Lists → ℕ → Type 0
TakesNext moved now a b was is p = IsTied b × ((start : Wired) (first : Lists) → start.ends.number ≡ a.ends.number → TakesAll moved start a first was p → TakesAll now start b first is (p + 1))
