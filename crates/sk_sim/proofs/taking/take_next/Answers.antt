use Rattle.std.proofs.Common.{true, false, ◌∙◌}
use Rattle.sk_sim.proofs.Incoming.{next_own, next_one}
use Rattle.sk_sim.proofs.taking.take_next.Goals as goal

pub returns-then-peer-own-clause-ok : goal.returns-then-peer-own-clause-ok
returns-then-peer-own-clause-ok g c = next_own c.args.moved c.args.wired.now _ c.args.peer c.requires.tied (c.if-peer-own.true ∙ c.requires.own)

pub returns-else-taken-clause-ok : goal.returns-else-taken-clause-ok
returns-else-taken-clause-ok g c = next_one c.args.moved false c.args.wired.now c.take_one.new.wired _ _ c.args.peer (rw c.if-taken.false at c.in_ok-taken.ensures.ok)

pub returns-then-taken-clause-ok : goal.returns-then-taken-clause-ok
returns-then-taken-clause-ok g c = rw c.if-taken.true (next_one c.args.moved true c.args.wired.now c.take_one.new.wired _ _ c.args.peer (rw c.if-taken.true at c.in_ok-taken.ensures.ok))
