-- One thing that happens, with the limits behind it.
use Rattle.std.specs.Prelude.{◌≡◌, IsTrue, List, ◌++◌}
use Rattle.std.specs.List.{list_all}
use Rattle.sk_law.specs.declared.made.Made.{Made}
use Rattle.sk_law.specs.Blocks.{judge_limits}
use Rattle.sk_law.specs.Lawful.{Happens}
use Rattle.sk_law.specs.Past.{Past}
use Rattle.sk_law.specs.Kept.{Kept, IsCut, grown}
use Rattle.sk_node.specs.Calls.{is_idle}
use Rattle.sk_node.specs.Lists.{Lists, Tells, TellsCut}

-- it happened, the limits were judged, and the app was told of all that
pub record Went (old new : Kept) (was now : Lists) : Type 0 where
  pub made : List Made
  pub calls : now.made ≡ was.made ++ made
  pub past : Past
  pub happens : Happens old.setup old.past made past
  pub whole : new ≡ grown (judge_limits old.setup past) old
  pub told : Tells old.past.journal new.past.journal was now

-- memory was refused within it; what was added is a front of what happens with some more calls of the app, which ask for
-- nothing
pub record WentCut (old new : Kept) (was now : Lists) : Type 0 where
  pub made : List Made
  pub calls : now.made ≡ was.made ++ made
  pub others : List Made
  pub idle : IsTrue (list_all is_idle others)
  pub past : Past
  pub happens : Happens old.setup old.past (made ++ others) past
  pub cut : IsCut old new (judge_limits old.setup past)
  pub told : TellsCut old.past.journal new.past.journal was now
