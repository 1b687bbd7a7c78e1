-- What an action comes to is sent at once.
use Rattle.std.specs.Prelude.{◌≡◌, ◌≤◌, ℕ, Bool, true, false, List, ◌∷◌, ◌++◌, map, length, Some}
use Rattle.sk_msg.specs.declared.content.Content.{Content}
use Rattle.sk_msg.specs.declared.content.Content.TheVariants.{Reply}
use Rattle.sk_msg.specs.declared.entry.Entry.{Entry}
use Rattle.sk_msg.specs.declared.entry.Entry.TheVariants.{Put, Did}
use Rattle.sk_law.specs.declared.made.Made.{Made}
use Rattle.sk_law.specs.declared.setup.Setup.{Setup}
use Rattle.sk_law.specs.Past.{Past}
use Rattle.sk_law.specs.Links.{others_below}
use Rattle.sk_law.specs.Lawful.{Lawful}

-- the answer of a server
abbrev pub is_reply : Content → Bool
is_reply (Reply head client call payload) = true
is_reply _ = false

-- behind these entries and a Did with this message stand the Puts of it: of a Reply one at most, of every other message one to
-- each peer that isn't gone
pub record IsSent (S : Setup) (before after : List Entry) (m : Content) : Type 0 where
  pub to : List ℕ
  pub rest : List Entry
  pub is : after ≡ map (λ q. Put q m) to ++ rest
  pub all : is_reply m ≡ false → to ≡ others_below S before (length S.names)
  pub few : is_reply m ≡ true → length to ≤ 1

-- the law: so it is with each Did that says a message
abbrev pub DoneIsSent : Type 0
DoneIsSent = (S : Setup) (past : Past) (made : List Made) → Lawful S past made →
    (before : List Entry) (s code : ℕ) (m : Content) (after : List Entry) → past.journal ≡ before ++ Did s code (Some m) ∷ after →
    IsSent S before after m
