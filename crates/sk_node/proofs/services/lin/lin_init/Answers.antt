use Rattle.std.proofs.Common.{◌∙◌}
use Rattle.sk_node.proofs.LinLaws.{init_done, init_not}
use Rattle.sk_node.proofs.OtherKinds.{not_lin}
use Rattle.sk_node.proofs.services.lin.lin_init.Goals as goal

pub returns-in-Ok-clause-outcome : goal.returns-in-Ok-clause-outcome
returns-in-Ok-clause-outcome c =
    init_done c.args.role c.args.state.now c.in-Lin.lin c.init.new.self c.done.result c.in-Lin.is c.in-Ok.ensures.ok c.in-Ok.ensures.accepted c.done.ensures

pub returns-in-Err-clause-outcome : goal.returns-in-Err-clause-outcome
returns-in-Err-clause-outcome c =
    init_not c.args.role c.args.state.now c.in-Lin.lin c.init.new.self c.in-Err.field-0 c.refused.result c.in-Lin.is c.in-Err.ensures.same c.in-Err.ensures.refused c.refused.ensures

pub returns-in-Can-clause-outcome : goal.returns-in-Can-clause-outcome
returns-in-Can-clause-outcome c = c.refused-in-Can.ensures c.args.state.now ∙ not_lin c.args.state.now _ c.in-Can.is
