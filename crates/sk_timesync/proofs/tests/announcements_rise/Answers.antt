use Rattle.std.proofs.Common.{arith}
use Rattle.sk_timesync.proofs.tests.announcements_rise.Goals as goal

pub loop-at-init : goal.loop-at-init
loop-at-init g c = rw c.know.ensures.numbers (c.in_ok-steps.ensures 0 (omega arith))
