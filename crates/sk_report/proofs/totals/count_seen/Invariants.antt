use Rattle.std.proofs.Common.{◌≡◌, ◌≤◌, take}
use Rattle.std.specs.List.{count_by}
use Rattle.sk_report.specs.Contents.{is_shown}
use Rattle.sk_report.proofs.totals.count_seen.Given as goal

-- those so far
abbrev pub invariant-loop-item : goal.invariant-loop-item
invariant-loop-item l = (l.count ≡ count_by (λ item. is_shown item.message) (take l.item-index l.seen)) × (l.count ≤ l.item-index)
