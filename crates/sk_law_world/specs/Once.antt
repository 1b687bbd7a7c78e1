-- Laws of one lawful journal.
use Rattle.std.specs.Prelude.{◌≡◌, ℕ, ◌+◌, List, ◌∷◌, ◌++◌, length}
use Rattle.sk_msg.specs.declared.content.Content.{Content}
use Rattle.sk_msg.specs.Edges.{IsWalk}
use Rattle.sk_msg.specs.declared.entry.Entry.{Entry}
use Rattle.sk_msg.specs.declared.entry.Entry.TheVariants.{Got}
use Rattle.sk_law.specs.declared.made.Made.{Made}
use Rattle.sk_law.specs.declared.setup.Setup.{Setup}
use Rattle.sk_law.specs.Past.{Past}
use Rattle.sk_law.specs.Readings.{got, states}
use Rattle.sk_law.specs.Receivers.{receivers}
use Rattle.sk_law.specs.Safe.{hands}
use Rattle.sk_law.specs.Blocks.{get, judge_limits}
use Rattle.sk_law.specs.Lawful.{Lawful, Happens, Leads}

-- a message was got where this had happened, and it was handed once to each receiver that was judged there, and to no other
pub record IsHanded (S : Setup) (past : Past) (made : List Made) (before : List Entry) (p : ℕ) (m : Content) : Type 0 where
  pub at : Past
  pub calls : List Made
  pub lawful : Lawful S at calls
  -- the calls with the message, and that from there it goes on to what has happened
  pub meanwhile : List Made
  pub happens : Happens S at meanwhile (get S p m meanwhile at)
  pub rest : List Made
  pub leads : Leads S (judge_limits S (get S p m meanwhile at)) rest past
  pub called : calls ++ (meanwhile ++ rest) ≡ made
  pub is : at.journal ≡ before
  pub once : hands past.journal p (length (got before p) + 1) ≡ receivers S at p m

-- the law: so it is with each message that was got
abbrev pub HandedOnce : Type 0
HandedOnce = (S : Setup) (past : Past) (made : List Made) → Lawful S past made →
    (before : List Entry) (p : ℕ) (m : Content) (after : List Entry) → past.journal ≡ before ++ Got p m ∷ after →
    IsHanded S past made before p m

-- the states go along the edges of the graph
abbrev pub StatesWalk : Type 0
StatesWalk = (S : Setup) (past : Past) (made : List Made) → Lawful S past made → IsWalk (states past.journal)
