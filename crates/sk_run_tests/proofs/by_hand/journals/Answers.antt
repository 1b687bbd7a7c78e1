use Rattle.sk_run_tests.proofs.by_hand.journals.Goals as goal

-- no seat has taken a turn
pub turn_to_end-requires-clause-sound : goal.turn_to_end-requires-clause-sound
turn_to_end-requires-clause-sound c = λ i v at. (c.in_ok-seats.ensures.unturned i v (rw c.as_mut_slice.ensures.value at at)).sound
