use Rattle.sk_sim.proofs.rounds.turn_rounds.Goals as goal

pub turn_all-requires-clause-unturned : goal.turn_all-requires-clause-unturned
turn_all-requires-clause-unturned g c = λ i v at_v. c.requires.unturned i v (rw c.as_mut_slice.ensures.value at at_v)
