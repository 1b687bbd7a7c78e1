use Rattle.std.proofs.Common.{◌≡◌, ℕ, length, subst, arith}
use Rattle.sk_sim.specs.Sees.{SeesTo}
use Rattle.sk_sim.proofs.looks.look_around.Goals as goal

pub returns-clause-sees : goal.returns-clause-sees
returns-clause-sees g c = let e : c.loop-k.k ≡ length c.args.seats.now = omega arith in subst (λ (x : ℕ). SeesTo c.args.i x c.loop-k.seats) e c.loop-k.invariant.sees
