use Rattle.std.proofs.Common.{◌≡◌, ◌++◌, map}
use Rattle.std.specs.Vec.Iter.{into_iter_items}
use Rattle.sk_sim.specs.Views.{cards}
use Rattle.sk_sim.proofs.simulation.close.Given as goal

abbrev pub invariant-loop-seat : goal.invariant-loop-seat
invariant-loop-seat l =
    map (λ journal. journal.items) l.journals.items ++ map (λ card. card.past.journal) (cards (into_iter_items l.seat-iterator)) ≡ map (λ card. card.past.journal) (cards l.fn.seats.items)
