use Rattle.std.proofs.Common.{length, arith, ◌≤◌}
use Rattle.sk_sim.specs.Views.{views}
use Rattle.sk_sim.proofs.Seating.{rules, fresh_mesh, alike, if_ok}
use Rattle.sk_sim.proofs.simulation.seats.Goals as goal

pub overflow_cast-count : goal.overflow_cast-count
overflow_cast-count c = let most : length c.participants.result.now ≤ 32 = rw c.participants.ensures.value (rules _ c.participants.ensures.rules).most in omega arith

pub mesh-requires-clause-least : goal.mesh-requires-clause-least
mesh-requires-clause-least c = rw c.participants.ensures.value (rules _ c.participants.ensures.rules).least

pub mesh-requires-clause-most : goal.mesh-requires-clause-most
mesh-requires-clause-most c = rw c.participants.ensures.value (rules _ c.participants.ensures.rules).most

pub seat_all-requires-clause-fresh : goal.seat_all-requires-clause-fresh
seat_all-requires-clause-fresh c = fresh_mesh 64 _ (omega arith) c.in_ok-ends.ensures.unused

pub returns-clause-alike : goal.returns-clause-alike
returns-clause-alike c = if_ok c.seat_all.result (λ seats of. alike c.args.scenario.now (views seats.items) c.participants.ensures.rules of) c.seat_all.ensures.of
