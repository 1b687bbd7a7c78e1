use Rattle.std.proofs.Common.{◌≡◌, None, replicate}
use Rattle.sk_sim.proofs.seat.no_messages.Given as goal

abbrev pub invariant-loop : goal.invariant-loop
invariant-loop l = l.held.items ≡ replicate l.counter None
