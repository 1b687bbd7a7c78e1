-- Messages in the order in which a step sees them. The order itself, `comes_before`, is that of the law.
use Rattle.std.specs.Prelude.{◌≡◌, ℕ, ◌==◌, nat_lt, Bool, ◌&&◌, ◌||◌, List, [], ◌∷◌, true, false, take, drop}
use Rattle.std.specs.List.{All}
use Rattle.sk_law.specs.declared.visible.Visible.{Visible}
use Rattle.sk_law.specs.Visible.{comes_before}

-- the order of two that were sent at the same time: by the sender's number, then place, then receiver
abbrev pub by_sender : Visible → Visible → Bool
by_sender a b = nat_lt a.peer b.peer || (a.peer == b.peer && (nat_lt a.place b.place || (a.place == b.place && nat_lt a.service b.service)))

-- none comes before an earlier one
abbrev pub IsOrdered : List Visible → Type 0
IsOrdered [] = Unit {0}
IsOrdered (one ∷ more) = All (λ other. comes_before other one ≡ false) more × IsOrdered more

-- it doesn't come before the last of these
abbrev pub IsAfterLast : Visible → List Visible → Type 0
IsAfterLast item [] = Unit {0}
IsAfterLast item (one ∷ []) = comes_before item one ≡ false
IsAfterLast item (one ∷ two ∷ more) = IsAfterLast item (two ∷ more)

-- the item comes before those from this place on, and not before the one in front of it
pub record IsPlace (item : Visible) (items : List Visible) (place : ℕ) : Type 0 where
  pub later : All (λ one. comes_before item one ≡ true) (drop place items)
  pub earlier : IsAfterLast item (take place items)
