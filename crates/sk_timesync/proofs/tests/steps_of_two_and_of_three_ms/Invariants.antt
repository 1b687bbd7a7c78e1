use Rattle.std.specs.Prelude.{Contains}
use Rattle.sk_timesync.specs.Notes.{numbers}
use Rattle.sk_timesync.proofs.tests.steps_of_two_and_of_three_ms.Given as goal

abbrev pub invariant-loop-round : goal.invariant-loop-round
invariant-loop-round g l = Contains (numbers l.fast) 0 × Contains (numbers l.slow) 0
