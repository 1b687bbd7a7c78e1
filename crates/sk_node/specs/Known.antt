-- What a participant stands for, and what happens to it in a call.
use Rattle.std.specs.Prelude.{◌≡◌, ◌<◌, ◌≤◌, ℕ, ◌+◌, Bool, true, false, List, ◌++◌, length, slice_index_or}
use mathlib.Core.List.{IsPrefix}
use Rattle.sk_msg.specs.declared.state.State.TheVariants.{Error}
use Rattle.sk_msg.specs.Edges.{has_edge}
use Rattle.sk_law.specs.declared.made.Made.{Made}
use Rattle.sk_law.specs.Readings.{state_of, payload, put}
use Rattle.sk_law.specs.Ends.{left}
use Rattle.sk_law.specs.Lawful.{Lawful}
use Rattle.sk_law.specs.Blocks.{judge_limits}
use Rattle.sk_law.specs.Kept.{Kept}
use Rattle.sk_node.specs.Lists.{Lists}
use Rattle.sk_node.specs.Went.{Went, WentCut}

-- what it keeps, and whether memory was refused to one of its calls: then it answers that to every later one
pub record Known : Type 0 where
  pub kept : Kept
  pub poisoned : Bool

-- ## What a call does

-- the journal only grew, where it was lawful it is lawful with these calls more, and what is left to do didn't rise; memory
-- wasn't refused
pub record Keeps (old new : Known) (made : List Made) : Type 0 where
  pub grows : IsPrefix old.kept.past.journal new.kept.past.journal
  pub lawful : (earlier : List Made) → Lawful old.kept.setup old.kept.past earlier →
      Lawful old.kept.setup new.kept.past (earlier ++ made)
  pub lower : left new.kept.past ≤ left old.kept.past
  pub sound : new.poisoned ≡ false

-- a call was served: one thing happened
pub record Serves (old new : Known) (was now : Lists) : Type 0 where
  pub went : Went old.kept new.kept was now
  pub keeps : Keeps old new went.made

-- memory was refused within one thing that happens: where the journal was lawful it is a front of one that is lawful with
-- these calls and some more
pub record Stops (old new : Known) (was now : Lists) : Type 0 where
  pub went : WentCut old.kept new.kept was now
  pub lawful : (earlier : List Made) → Lawful old.kept.setup old.kept.past earlier →
      Lawful old.kept.setup (judge_limits old.kept.setup went.past) (earlier ++ (went.made ++ went.others))
  pub poisoned : new.poisoned ≡ true

-- ## What holds at every moment

-- each number has a count of what was taken out for it, which is at most what was put to it. Until memory was refused the
-- journal is below the limits while its state has an edge to Error
pub record IsSound (known : Known) : Type 0 where
  pub all : length known.kept.out ≡ length known.kept.setup.names + length known.kept.past.memory.tools
  pub within : (p : ℕ) → slice_index_or known.kept.out p 0 ≤ length (put known.kept.past.journal p)
  pub short : known.poisoned ≡ false → has_edge (state_of known.kept.past.journal) Error ≡ true →
      length known.kept.past.journal < 500000
  pub light : known.poisoned ≡ false → has_edge (state_of known.kept.past.journal) Error ≡ true →
      payload known.kept.past.journal < 33554432
