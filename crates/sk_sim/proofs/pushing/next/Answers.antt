use Rattle.std.proofs.Common.{refl}
use Rattle.sk_sim.proofs.Outgoing.{next_taken}
use Rattle.sk_sim.proofs.pushing.next.Goals as goal

pub returns-in-Some-take_out-clause-some : goal.returns-in-Some-take_out-clause-some
returns-in-Some-take_out-clause-some c =
    let e = c.in-Some-take_out.ensures in
    rw c.in-None.is (next_taken _ _ _ _ c.requires.there e.taken e.some, refl)
