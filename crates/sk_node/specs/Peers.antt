-- What a call does to the links of the peers and tools.
use Rattle.std.specs.Prelude.{◌≡◌, ◌≢◌, ℕ, Bool, false, not, ◌&&◌, List, [], ◌∷◌, ◌++◌, if◌then◌else◌}
use Rattle.sk_msg.specs.declared.content.Content.{Content}
use Rattle.sk_law.specs.declared.setup.Setup.{Setup}
use Rattle.sk_law.specs.Past.{Past}
use Rattle.sk_law.specs.Readings.{got, gones}
use Rattle.sk_law.specs.Order.{is_leave}
use Rattle.sk_law.specs.Links.{comes_in_order, is_open}

-- with one of this number nothing came about
pub record IsSameLink (S : Setup) (p : ℕ) (old new : Past) : Type 0 where
  pub got_is : got new.journal p ≡ got old.journal p
  pub gones_is : gones new.journal p ≡ gones old.journal p
  pub open_is : is_open S new p ≡ is_open S old p

-- nobody was heard, and no link was lost
pub record HearsNothing (S : Setup) (old new : Past) : Type 0 where
  pub same : (p : ℕ) → IsSameLink S p old new

-- this message was got from this one; out of order it is the last, and the link is gone with 8
pub record Hears (S : Setup) (p : ℕ) (m : Content) (old new : Past) : Type 0 where
  pub got_is : got new.journal p ≡ got old.journal p ++ m ∷ []
  pub gones_is : gones new.journal p ≡ gones old.journal p ++ (if comes_in_order S old p m then [] else 8 ∷ [])
  pub open_is : is_open S new p ≡ (is_open S old p && (comes_in_order S old p m && not (is_leave m)))
  pub same : (q : ℕ) → q ≢ p → IsSameLink S q old new

-- the link of this one was lost for this reason
pub record Loses (S : Setup) (p reason : ℕ) (old new : Past) : Type 0 where
  pub got_is : got new.journal p ≡ got old.journal p
  pub gones_is : gones new.journal p ≡ gones old.journal p ++ reason ∷ []
  pub open_is : is_open S new p ≡ false
  pub same : (q : ℕ) → q ≢ p → IsSameLink S q old new
