-- Why a link is gone.
use Rattle.std.specs.Prelude.{◌≡◌, ◌⊎◌, ℕ, false, IsTrue, List, [], ◌∷◌, ◌++◌}
use Rattle.sk_msg.specs.declared.content.Content.{Content}
use Rattle.sk_msg.specs.declared.entry.Entry.{Entry}
use Rattle.sk_msg.specs.declared.entry.Entry.TheVariants.{Got, Gone}
use Rattle.sk_law.specs.declared.made.Made.{Made}
use Rattle.sk_law.specs.declared.setup.Setup.{Setup}
use Rattle.sk_law.specs.Past.{Past}
use Rattle.sk_law.specs.Links.{comes_in_order}
use Rattle.sk_law.specs.Lawful.{is_loss, Lawful}
use mathlib.Core.List.{IsPrefix}

-- the last of these entries is a Got of p, which was out of order by what had happened before it
pub record IsRefused (S : Setup) (made : List Made) (before : List Entry) (p : ℕ) : Type 0 where
  pub at : Past
  pub calls : List Made
  pub lawful : Lawful S at calls
  pub called : IsPrefix calls made
  pub message : Content
  pub is : before ≡ at.journal ++ Got p message ∷ []
  pub out : comes_in_order S at p message ≡ false

-- the law: the link was lost, or the reason is 8 and Gone stands right behind a Got that was out of order
abbrev pub GoneHasCause : Type 0
GoneHasCause = (S : Setup) (past : Past) (made : List Made) → Lawful S past made →
    (before : List Entry) (p reason : ℕ) (after : List Entry) → past.journal ≡ before ++ Gone p reason ∷ after →
    IsTrue (is_loss reason) ⊎ ((reason ≡ 8) × IsRefused S made before p)
