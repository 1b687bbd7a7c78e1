use Rattle.std.proofs.Common.{◌≡◌}
use Rattle.sk_timesync.specs.Notes.{numbers}
use Rattle.sk_timesync.proofs.tests.play.Given as goal

abbrev pub invariant-loop-note : goal.invariant-loop-note
invariant-loop-note g l = numbers l.steps ≡ numbers l.fn.steps
