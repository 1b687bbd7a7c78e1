use Rattle.sk_sim_tests.proofs.Seating.{fresh_mesh, unturned, alike}
use Rattle.sk_sim_tests.proofs.making.seats.Goals as goal

pub seat_all-requires-clause-fresh : goal.seat_all-requires-clause-fresh
seat_all-requires-clause-fresh g c = fresh_mesh _ _ c.requires.least c.in_ok-ends.ensures.unused

pub returns-clause-unturned : goal.returns-clause-unturned
returns-clause-unturned g c = unturned _ _ c.in_ok-seats.ensures.made

pub returns-clause-alike : goal.returns-clause-alike
returns-clause-alike g c = alike _ _ c.in_ok-names.ensures c.in_ok-seats.ensures.made
