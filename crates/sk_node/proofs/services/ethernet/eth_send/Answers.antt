use Rattle.std.proofs.Common.{◌∙◌}
use Rattle.sk_node.proofs.OtherKinds.{not_ethernet}
use Rattle.sk_node.proofs.services.ethernet.eth_send.Goals as goal

pub returns-in-Can : goal.returns-in-Can
returns-in-Can c = c.refused.ensures c.args.state.now ∙ not_ethernet c.args.state.now _ c.in-Can.is
