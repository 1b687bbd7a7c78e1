use Rattle.std.proofs.Common.{◌≡◌, ◌≤◌, length, drop, true}
use Rattle.std.specs.List.{All}
use Rattle.sk_law.specs.Visible.{comes_before}
use Rattle.sk_visible.proofs.list.place_of.Given as goal

abbrev pub invariant-loop-place : goal.invariant-loop-place
invariant-loop-place l = (l.place ≤ length l.items) × All (λ one. comes_before l.item one ≡ true) (drop l.place l.items)

abbrev pub decreases-loop-place : goal.decreases-loop-place
decreases-loop-place l = l.place
