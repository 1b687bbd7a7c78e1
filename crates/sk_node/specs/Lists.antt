-- What an app has kept of its calls, and how it agrees with a journal.
use Rattle.std.specs.Prelude.{◌≡◌, ◌≤◌, ℕ, List, ◌++◌, length}
use mathlib.Core.List.{IsPrefix}
use Rattle.sk_msg.specs.declared.entry.Entry.{Entry}
use Rattle.sk_law.specs.declared.made.Heard.{Heard}
use Rattle.sk_law.specs.declared.made.Made.{Made}
use Rattle.sk_law.specs.declared.made.Notice.{Notice}
use Rattle.sk_law.specs.Past.{Past}
use Rattle.sk_law.specs.Told.{heard, notices}
use Rattle.sk_law.specs.Kept.{Kept, grown}

-- the messages and answers, the calls that may ask for actions, and what it was notified of
pub record Lists : Type 0 where
  pub heard : List Heard
  pub made : List Made
  pub notified : List Notice

-- nothing is told of the entries that came
pub record IsQuiet (before after : List Entry) : Type 0 where
  pub heard_is : heard after ≡ heard before
  pub notices_is : notices after ≡ notices before

-- the app was told what the entries that came tell it, each once and in order
pub record Tells (before after : List Entry) (was now : Lists) : Type 0 where
  pub more : List Heard
  pub heard_in : heard after ≡ heard before ++ more
  pub heard_is : now.heard ≡ was.heard ++ more
  pub notes : List Notice
  pub notices_in : notices after ≡ notices before ++ notes
  pub notified_is : now.notified ≡ was.notified ++ notes

-- the same but for the last entry, of which the app was told nothing yet, or a part
pub record TellsCut (before after : List Entry) (was now : Lists) : Type 0 where
  pub more : List Heard
  pub last : List Heard
  pub heard_in : heard after ≡ heard before ++ (more ++ last)
  pub heard_is : now.heard ≡ was.heard ++ more
  pub one : length last ≤ 1
  pub notes : List Notice
  pub rest : List Notice
  pub notices_in : notices after ≡ notices before ++ (notes ++ rest)
  pub notified_is : now.notified ≡ was.notified ++ notes
  pub two : length rest ≤ 2

-- all of it happened, and the app was told of it; it wasn't called for actions
pub record Whole (old new : Kept) (all : Past) (was now : Lists) : Type 0 where
  pub past : new ≡ grown all old
  pub made : now.made ≡ was.made
  pub told : Tells old.past.journal new.past.journal was now

-- memory was refused within it
pub record Part (old new : Kept) (all : Past) (was now : Lists) : Type 0 where
  pub setup : new.setup ≡ old.setup
  pub out : new.out ≡ old.out
  pub grows : IsPrefix old.past.journal new.past.journal
  pub front : IsPrefix new.past.journal all.journal
  pub made : now.made ≡ was.made
  pub told : TellsCut old.past.journal new.past.journal was now
