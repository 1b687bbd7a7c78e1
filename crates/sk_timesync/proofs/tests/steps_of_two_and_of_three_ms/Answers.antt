use Rattle.std.proofs.Common.{arith}
use Rattle.sk_timesync.proofs.tests.steps_of_two_and_of_three_ms.Goals as goal

pub announce-requires : goal.announce-requires
announce-requires g c = rw c.know.ensures.numbers (c.in_ok-fast.ensures 0 (omega arith))

pub announce-requires-2 : goal.announce-requires-2
announce-requires-2 g c = rw c.know-2.ensures.numbers (c.in_ok-slow.ensures 0 (omega arith))

pub loop-round-init : goal.loop-round-init
loop-round-init g c = (
  rw (c.announce.ensures.numbers, c.know.ensures.numbers) (c.in_ok-fast.ensures 0 (omega arith)),
  rw (c.announce-2.ensures.numbers, c.know-2.ensures.numbers) (c.in_ok-slow.ensures 0 (omega arith)),
)
