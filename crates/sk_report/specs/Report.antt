-- The report of a run.
use Rattle.std.specs.Prelude.{ℕ, List, ◌++◌}
use Rattle.sk_law.specs.Script.{Step}
use Rattle.sk_report.specs.Lines.{participants_lines}
use Rattle.sk_report.specs.Names.{PartNames}
use Rattle.sk_report.specs.Totals.{totals_line}

-- of participants with these names, of whom each took these steps: a participant after another, and the totals
abbrev pub report : List PartNames → List (List Step) → List ℕ
report parts all = participants_lines parts 0 all ++ totals_line all
