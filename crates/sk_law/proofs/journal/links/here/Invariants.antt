use Rattle.std.specs.Prelude.{◌≡◌}
use Rattle.sk_law.specs.Tied.{here_in}
use Rattle.sk_law.proofs.journal.links.here.Given as goal

abbrev pub invariant-loop-place : goal.invariant-loop-place
invariant-loop-place l = l.found.items ≡ here_in l.lines l.own l.place
