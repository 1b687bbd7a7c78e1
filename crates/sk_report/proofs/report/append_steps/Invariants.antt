use Rattle.std.proofs.Common.{◌≡◌, ◌≤◌, ◌++◌, length, take}
use Rattle.std.specs.String.{string_bytes}
use Rattle.sk_report.specs.Lines.{steps_lines}
use Rattle.sk_report.specs.Totals.{CountSteps}
use Rattle.sk_report.specs.Walks.{IsWalked, steps_among}
use Rattle.sk_report.proofs.report.append_steps.Given as goal

-- the entries so far are kept; their steps are written, numbered and counted
abbrev pub invariant-loop-entry : goal.invariant-loop-entry
invariant-loop-entry l =
    IsWalked (take l.entry-index l.journal) l.walk
    × (string_bytes l.text ≡ string_bytes l.initial.text ++ steps_lines l.names 1 (steps_among l.journal (take l.entry-index l.journal)))
    × (l.number ≡ length (steps_among l.journal (take l.entry-index l.journal)))
    × (l.number ≤ l.entry-index)
    × CountSteps (steps_among l.journal (take l.entry-index l.journal)) l.initial.totals l.totals
