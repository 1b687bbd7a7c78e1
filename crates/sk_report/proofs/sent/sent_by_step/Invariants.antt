use Rattle.std.proofs.Common.{◌≡◌, ℕ, take}
use Rattle.std.specs.List.{filter_map}
use Rattle.sk_law.specs.Script.{sent_in}
use Rattle.sk_report.specs.Groups.{messages_at}
use Rattle.sk_report.proofs.sent.sent_by_step.Given as goal

-- what was sent so far
abbrev pub invariant-loop-entry : goal.invariant-loop-entry
invariant-loop-entry l = (step : ℕ) → messages_at l.sent step ≡ filter_map (sent_in step) (take l.entry-index l.journal)
