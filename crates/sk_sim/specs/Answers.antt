-- What a turn of a seat answers, and what that says.
use Rattle.std.specs.Prelude.{◌≡◌, ◌<◌, ◌⊎◌, ℕ, ◌+◌, ◌-◌, Bool, true, false, ◌||◌, List, [], ◌∷◌, ◌++◌, length, Option, Some, is_none, if◌then◌else◌}
use Rattle.std.specs.List.{list_all}
use Rattle.sk_msg.specs.declared.content.Content.{Content}
use Rattle.sk_node.specs.Turning.{IsTurned, IsEnded}
use Rattle.sk_law.specs.declared.made.Call.TheVariants as calls
use Rattle.sk_law.specs.declared.made.Made.{Made}
use Rattle.sk_law.specs.Ends.{left}
use Rattle.sk_law.specs.Blocks.{with_pause}
use Rattle.sk_law.specs.Links.{is_open}
use Rattle.sk_law.specs.Rows.{is_quiet}
use Rattle.sk_node.specs.Lists.{Lists}
use Rattle.sk_node.specs.declared.rows.Turned.{Turned}
use Rattle.sk_node.specs.declared.rows.Turned.TheVariants.{Entries, Counted, Quiet, Finished}
use Rattle.sk_mesh.specs.Places.{place, size, IsPeer}
use Rattle.sk_mesh.specs.Ends.{free, waiting}
use Rattle.sk_sim.specs.declared.wired.Wired.{Wired}
use Rattle.sk_sim.specs.Wiring.{IsTied}
use Rattle.sk_sim.specs.Cards.{Card, card_of, pushed_total, got_total, waits_at, IsFinished}
use Rattle.sk_sim.specs.Parts.{Goes, PutsFew, Pushes, TakesAll}

-- the participant has less to do, or a message was moved to a ring or from one
abbrev pub Moves : Card → Card → Type 0
Moves a b = (left b.past < left a.past) ⊎ ((pushed_total a < pushed_total b) ⊎ (got_total a < got_total b))

-- the ready handler was called
pub record CallsReady (was now : Lists) : Type 0 where
  pub one : Made
  pub call_is : one.call ≡ calls.Ready
  pub calls_are : now.made ≡ was.made ++ one ∷ []

-- so many entries came, or none: then a message was moved, or the ready handler was called
pub record Enters (n : ℕ) (a b : Card) (was now : Lists) : Type 0 where
  pub count : length b.past.journal ≡ length a.past.journal + n
  pub cause : (0 < n) ⊎ ((pushed_total a < pushed_total b) ⊎ ((got_total a < got_total b) ⊎ CallsReady was now))
  pub less : Moves a b

-- no message of an open peer is known to be in its ring, and for each peer nothing waits here, or no slot of the ring to it is
-- known to be free
pub record IsUsedUp (a : Wired) : Type 0 where
  pub drained : (p : ℕ) → IsPeer (place a.ends) p → is_open a.node.kept.setup a.node.kept.past p ≡ true → waiting a.ends p ≡ []
  pub blocked : (q : ℕ) → IsPeer (place a.ends) q → (waits_at (card_of a) q ≡ []) ⊎ (free a.ends q ≡ 0)

-- no message was moved: there was none to move, and there is none
pub record MovesNone (a b : Wired) : Type 0 where
  pub before : IsUsedUp a
  pub after : IsUsedUp b

-- a pause count above 1 went down by one, and that is all
pub record CountsDown (a b : Card) (was now : Lists) : Type 0 where
  pub count : ℕ
  pub before : a.past.memory.pause ≡ Some count
  pub after : b ≡ record a { past = with_pause (Some (count - 1)) a.past }
  pub more : 1 < count
  pub less : left b.past < left a.past
  pub lists : now ≡ was

-- nothing happened, and no row of a turn is enabled
pub record Rests (a b : Card) (was now : Lists) : Type 0 where
  pub same : b ≡ a
  pub lists : now ≡ was
  pub quiet : is_quiet a.setup a.past ≡ true

-- by the answer
abbrev pub Says : Turned → Wired → Wired → Lists → Lists → Type 0
Says (Entries n) a b was now = Enters n (card_of a) (card_of b) was now
Says Counted a b was now = MovesNone a b × CountsDown (card_of a) (card_of b) was now
Says Quiet a b was now = MovesNone a b × Rests (card_of a) (card_of b) was now × (IsFinished (card_of a) → ⊥)
Says Finished a b was now = MovesNone a b × Rests (card_of a) (card_of b) was now × IsFinished (card_of a)

-- ## How it is answered

-- no ring has handed back a message
abbrev pub has_none : List (Option Content) → Bool
has_none held = list_all (λ message. is_none message) held

-- the answer, where the participant did this, a message was moved or not, so many entries came, and no message is held
-- back or one is
abbrev pub answer_of : Turned → Bool → ℕ → Bool → Turned
answer_of did true added empty = Entries added
answer_of (Entries n) false added empty = Entries added
answer_of Counted false added empty = Counted
answer_of Quiet false added empty = Quiet
answer_of Finished false added empty = if empty then Finished else Quiet

-- the turn of the participant alone
pub record Acts (did : Turned) (a b : Wired) (was now : Lists) : Type 0 where
  pub goes : Goes (card_of a) (card_of b) was now
  pub tied : IsTied b
  pub puts : PutsFew 1 a.node.kept.setup a.node.kept.past b.node.kept.past
  pub ends : b.ends ≡ a.ends
  pub held : b.held.items ≡ a.held.items
  pub turned : IsTurned did a.node b.node was now
  pub ended : did ≡ Finished → IsEnded a.node.kept

-- ## A turn of a seat

-- its steps, one after the other: what waits is pushed, of each open peer at most one message is taken, the participant
-- takes its turn, and what waits is pushed
pub record Steps (turned : Turned) (a b : Wired) (was now : Lists) : Type 0 where
  pub pushed : Bool
  pub taken : Bool
  pub again : Bool
  pub empty : Bool
  pub did : Turned
  pub added : ℕ
  pub first : Wired
  pub second : Wired
  pub third : Wired
  pub between : Lists
  pub pushes : Pushes pushed a first (size (place a.ends))
  pub takes : TakesAll taken first second was between (size (place first.ends))
  pub acts : Acts did second third between now
  pub ends : Pushes again third b (size (place third.ends))
  pub empty_is : empty ≡ has_none third.held.items
  pub answer : turned ≡ answer_of did (pushed || (taken || again)) added empty

-- the turn
pub record Turns (turned : Turned) (a b : Wired) (was now : Lists) : Type 0 where
  pub goes : Goes (card_of a) (card_of b) was now
  pub tied : IsTied b
  pub steps : Steps turned a b was now
  pub says : Says turned a b was now
