use Rattle.std.specs.Prelude.{◌≡◌, replicate}
use Rattle.sk_law.specs.Tied.{no_line}
use Rattle.sk_law.proofs.line.new_lines.Given as goal

abbrev pub invariant-loop-place : goal.invariant-loop-place
invariant-loop-place l = l.lines.items ≡ replicate l._place no_line
