use Rattle.std.proofs.Common.{◌∙◌}
use Rattle.sk_node.proofs.OtherKinds.{not_can}
use Rattle.sk_node.proofs.services.can.can_send.Goals as goal

pub returns-in-Ethernet : goal.returns-in-Ethernet
returns-in-Ethernet c = c.refused.ensures c.args.state.now ∙ not_can c.args.state.now _ c.in-Ethernet.is
