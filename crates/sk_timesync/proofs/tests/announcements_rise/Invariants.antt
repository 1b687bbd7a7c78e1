use Rattle.std.specs.Prelude.{Contains}
use Rattle.sk_timesync.specs.Notes.{numbers}
use Rattle.sk_timesync.proofs.tests.announcements_rise.Given as goal

abbrev pub invariant-loop-at : goal.invariant-loop-at
invariant-loop-at g l = Contains (numbers l.steps) 0
