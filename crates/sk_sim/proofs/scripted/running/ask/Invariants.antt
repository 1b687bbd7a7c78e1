use Rattle.std.proofs.Common.{◌≡◌}
use Rattle.std.specs.List.{fold}
use Rattle.std.specs.Vec.Iter.{into_iter_items}
use Rattle.sk_sim.specs.Playing.{offer}
use Rattle.sk_sim.proofs.scripted.running.ask.Given as goal

abbrev pub invariant-loop-action : goal.invariant-loop-action
invariant-loop-action l = fold offer l.out (into_iter_items l.action-iterator) ≡ fold offer l.fn.out l.fn.asked.items
