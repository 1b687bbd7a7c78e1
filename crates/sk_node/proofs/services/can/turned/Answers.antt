use Rattle.sk_law.specs.declared.memory.ServiceState.TheVariants as states
use Rattle.std.proofs.Common.{◌∙◌}
use Rattle.sk_node.proofs.CanLaws.{turned_ok, turned_err}
use Rattle.sk_node.proofs.services.can.turned.Goals as goal

pub returns-in-Ok : goal.returns-in-Ok
returns-in-Ok c to from can after e k = c.done.ensures (states.Can after) ∙ turned_ok c.args.answered c.in-Ok.field-0 to from can after c.in-Ok.is e

pub returns-in-Err : goal.returns-in-Err
returns-in-Err c to from can after e k = c.refused.ensures (states.Can after) ∙ turned_err c.args.answered c.in-Err.field-0 to from can after c.in-Err.is e k
