-- What an app was notified of by a call.
use Rattle.std.specs.Prelude.{◌≡◌, List, ◌++◌}
use Rattle.sk_law.specs.declared.made.Notice.{Notice}
use Rattle.sk_node.specs.Lists.{Lists}

-- notified of these too
abbrev pub with_notices : List Notice → Lists → Lists
with_notices more was = record was { notified = was.notified ++ more }

-- memory was refused within it: it was notified of the first of these
pub record NotifiedPart (all : List Notice) (was now : Lists) : Type 0 where
  pub notes : List Notice
  pub rest : List Notice
  pub both : notes ++ rest ≡ all
  pub lists : now ≡ with_notices notes was
