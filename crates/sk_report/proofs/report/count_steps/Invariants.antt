use Rattle.std.proofs.Common.{take}
use Rattle.sk_report.specs.Totals.{CountSteps}
use Rattle.sk_report.specs.Walks.{IsWalked, steps_among}
use Rattle.sk_report.proofs.report.count_steps.Given as goal

-- the entries so far are kept, and their steps counted
abbrev pub invariant-loop-entry : goal.invariant-loop-entry
invariant-loop-entry l =
    IsWalked (take l.entry-index l.journal) l.walk
    × CountSteps (steps_among l.journal (take l.entry-index l.journal)) l.initial.totals l.totals
