use Rattle.std.proofs.Common.{map, take}
use Rattle.sk_law.specs.Script.{steps_of}
use Rattle.sk_report.proofs.Telling.{IsCount}
use Rattle.sk_report.proofs.report.totals_text.Given as goal

-- the steps of the journals so far are counted
abbrev pub invariant-loop-journal : goal.invariant-loop-journal
invariant-loop-journal l = IsCount (map (λ journal. steps_of journal.items) (take l.journal-index l.journals)) l.totals
