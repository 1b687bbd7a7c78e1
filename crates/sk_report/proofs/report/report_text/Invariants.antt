use Rattle.std.proofs.Common.{◌≡◌, ◌++◌, map, take, drop}
use Rattle.std.specs.String.{string_bytes}
use Rattle.sk_law.specs.Script.{steps_of}
use Rattle.sk_report.specs.Lines.{participants_lines}
use Rattle.sk_report.proofs.Telling.{IsCount}
use Rattle.sk_report.proofs.report.report_text.Given as goal

-- the text so far, and the lines of the journals that are still to come, are all of it; the steps so far are counted
abbrev pub invariant-loop-number : goal.invariant-loop-number
invariant-loop-number l =
    (string_bytes l.text ++ participants_lines l.participants l.number (map (λ journal. steps_of journal.items) (drop l.number l.journals))
    ≡ participants_lines l.participants 0 (map (λ journal. steps_of journal.items) l.journals))
    × IsCount (map (λ journal. steps_of journal.items) (take l.number l.journals)) l.totals
