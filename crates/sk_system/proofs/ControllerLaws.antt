-- What the controller keeps.
use Rattle.std.proofs.Common.{◌≡◌, ℕ, Bool, true, false, ◌&&◌, not, List, refl, inl, inr}
use Rattle.sk_msg.specs.declared.content.Content.{Content}
use Rattle.sk_msg.specs.declared.content.Content.TheVariants.{Leave, Status}
use Rattle.sk_msg.specs.declared.state.State.{State}
use Rattle.sk_system.specs.Controller.{Controller, controller_after}
use Rattle.sk_system.specs.Notice.{notice_of}
use Rattle.sk_system.proofs.NoticeLaws.{other_kinds}

-- what was asked for isn't asked for again
pub no_second : (aborted : Bool) → (aborted && not aborted) ≡ false
no_second true = refl
no_second false = refl

-- kinds other than Status and Leave change nothing
pub passed_over : (controller : Controller) (name : List ℕ) (content : Content)
    → (content ≡ Leave → ⊥) → ((state : State) (until : ℕ) → content ≡ Status state until → ⊥) → controller_after controller name (notice_of content) ≡ controller
unfolding controller_after
passed_over controller name content a b = elim (other_kinds content a b) [
  | inl none ↦ rw none refl
  | inr (names, is) ↦ rw is refl
]
