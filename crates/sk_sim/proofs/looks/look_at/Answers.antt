use Rattle.std.proofs.Common.{arith}
use Rattle.sk_sim.proofs.Seeing.{sees_more, sees_own}
use Rattle.sk_sim.proofs.looks.look_at.Goals as goal

pub returns-then-i-k-clause-sees : goal.returns-then-i-k-clause-sees
returns-then-i-k-clause-sees g c = λ h. sees_more _ _ _ _ c.look_between.ensures.low h

pub returns-then-k-i-clause-sees : goal.returns-then-k-i-clause-sees
returns-then-k-i-clause-sees g c = λ h. sees_more _ _ _ _ c.look_between-then-k-i.ensures.high h

pub returns-else-k-i-clause-sees : goal.returns-else-k-i-clause-sees
returns-else-k-i-clause-sees g c = λ h. sees_own _ _ _ (omega arith) h
