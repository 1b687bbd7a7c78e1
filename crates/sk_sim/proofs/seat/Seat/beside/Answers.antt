use Rattle.std.proofs.Common.{refl}
use Rattle.sk_sim.proofs.Turning.{looked_card, looked_tied}
use Rattle.sk_sim.proofs.seat.Seat.beside.Goals as goal

pub invariant_of-self : goal.invariant_of-self
invariant_of-self g c = record { tied = λ fine. looked_tied c.args.self.now.wired _ _ c.beside.ensures.mine (c.args.self.now.tied fine); bounded = c.args.self.now.bounded }

pub invariant_of-other : goal.invariant_of-other
invariant_of-other g c = record { tied = λ fine. looked_tied c.args.other.now.wired _ _ c.beside.ensures.theirs (c.args.other.now.tied fine); bounded = c.args.other.now.bounded }

pub returns-clause-views : goal.returns-clause-views
returns-clause-views g c =
    (rw (looked_card c.args.self.now.wired _ _ c.beside.ensures.mine) refl, rw (looked_card c.args.other.now.wired _ _ c.beside.ensures.theirs) refl)
