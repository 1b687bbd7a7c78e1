-- A message that is got, with all that it leads to.
use Rattle.std.specs.Prelude.{◌≡◌, ℕ, IsTrue, List, ◌∷◌, ◌++◌, map}
use Rattle.std.specs.List.{list_all}
use mathlib.Core.List.{IsPrefix}
use Rattle.sk_msg.specs.declared.content.Content.{Content}
use Rattle.sk_law.specs.declared.made.Call.{Call}
use Rattle.sk_law.specs.declared.made.Made.{Made}
use Rattle.sk_law.specs.Blocks.{called, get, heed}
use Rattle.sk_law.specs.Lawful.{AreCalls, is_filled}
use Rattle.sk_law.specs.Kept.{Kept, IsCut, grown}
use Rattle.sk_node.specs.Calls.{is_idle}
use Rattle.sk_node.specs.Lists.{Lists, Tells, TellsCut}
use Rattle.sk_node.specs.Went.{Went, WentCut}

-- a message that came in order led to what it leads to: the app was called with each of these
pub record Heeds (old new : Kept) (p : ℕ) (m : Content) (all : List Call) (was now : Lists) : Type 0 where
  pub each : List Made
  pub calls_are : map (λ one. one.call) each ≡ all
  pub filled : IsTrue (list_all is_filled each)
  pub made : now.made ≡ was.made ++ each
  pub past : new ≡ grown (heed old.setup p m each old.past) old
  pub told : Tells old.past.journal new.past.journal was now

-- memory was refused within it
pub record HeedsCut (old new : Kept) (p : ℕ) (m : Content) (all : List Call) (was now : Lists) : Type 0 where
  pub each : List Made
  pub others : List Made
  pub calls_are : map (λ one. one.call) (each ++ others) ≡ all
  pub filled : IsTrue (list_all is_filled (each ++ others))
  pub idle : IsTrue (list_all is_idle others)
  pub uncalled : (other : Made) (more : List Made) → others ≡ other ∷ more →
      IsPrefix new.past.journal (called other.call (heed old.setup p m each old.past)).journal
  pub made : now.made ≡ was.made ++ each
  pub cut : IsCut old new (heed old.setup p m (each ++ others) old.past)
  pub told : TellsCut old.past.journal new.past.journal was now

-- this message was got from this one: the app was called with it for each receiver, in order, and told of all that
pub record Gets (old new : Kept) (p : ℕ) (m : Content) (was now : Lists) : Type 0 where
  pub each : List Made
  pub calls_are : AreCalls old.setup old.past p m each
  pub filled : IsTrue (list_all is_filled each)
  pub made : now.made ≡ was.made ++ each
  pub past : new ≡ grown (get old.setup p m each old.past) old
  pub told : Tells old.past.journal new.past.journal was now

-- memory was refused within it: the calls that were made, and those that weren't, as if they asked for nothing; behind those that
-- were made no more came than the entry that shows the next call
pub record GetsCut (old new : Kept) (p : ℕ) (m : Content) (was now : Lists) : Type 0 where
  pub each : List Made
  pub others : List Made
  pub calls_are : AreCalls old.setup old.past p m (each ++ others)
  pub filled : IsTrue (list_all is_filled (each ++ others))
  pub idle : IsTrue (list_all is_idle others)
  pub uncalled : (other : Made) (more : List Made) → others ≡ other ∷ more →
      IsPrefix new.past.journal (called other.call (get old.setup p m each old.past)).journal
  pub made : now.made ≡ was.made ++ each
  pub cut : IsCut old new (get old.setup p m (each ++ others) old.past)
  pub told : TellsCut old.past.journal new.past.journal was now

-- what happened is that this message was got from this one
pub record Takes (old new : Kept) (p : ℕ) (m : Content) (was now : Lists) : Type 0 where
  pub went : Went old new was now
  pub gets : went.past ≡ get old.setup p m went.made old.past
  pub calls_are : AreCalls old.setup old.past p m went.made

-- memory was refused within that; where not all calls were made no more came than the entry that shows the next one
pub record TakesCut (old new : Kept) (p : ℕ) (m : Content) (was now : Lists) : Type 0 where
  pub went : WentCut old new was now
  pub uncalled : (other : Made) (more : List Made) → went.others ≡ other ∷ more →
      IsPrefix new.past.journal (called other.call (get old.setup p m went.made old.past)).journal
  pub gets : went.past ≡ get old.setup p m (went.made ++ went.others) old.past
  pub calls_are : AreCalls old.setup old.past p m (went.made ++ went.others)
