use Rattle.std.proofs.Common.{arith}
use Rattle.sk_law.proofs.Filled.{full_filled, added_filled}
use Rattle.sk_law.proofs.outbox.Outbox.add.Goals as goal

pub invariant_of-self : goal.invariant_of-self
invariant_of-self c = (
  full_filled c.self.inside.actions.items c.as_slice-asked.result.now c.self.inside.over c.self.invariant.0 c.as_slice-asked.ensures.value c.if-asked-ge-MOST_ACTIONS.true,
  c.self.invariant.1,
)

pub invariant_of-self-2 : goal.invariant_of-self-2
invariant_of-self-2 c = (
  added_filled c.self.inside.actions.items c.as_slice-asked.result.now c.push.new.self.items c.args.action c.self.inside.over c.self.invariant.0 c.as_slice-asked.ensures.value c.if-asked-ge-MOST_ACTIONS.false c.in-Ok.ensures.items,
  (let a = c.self.invariant.1 in let b = c.push.ensures.capacity in omega arith),
)
