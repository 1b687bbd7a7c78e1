use Rattle.std.proofs.Common.{refl, ◌∙◌}
use Rattle.sk_can.specs.Can.{can_baud, with_rate}
use Rattle.sk_law.specs.Outcomes.{turned}
use Rattle.sk_node.proofs.CanLaws.{by_call}
use Rattle.sk_node.proofs.OtherKinds.{not_can}
use Rattle.sk_node.proofs.services.can.can_baud.Goals as goal

pub returns-in-Can-clause-outcome : goal.returns-in-Can-clause-outcome
returns-in-Can-clause-outcome c =
    by_call can_baud (with_rate c.args.rate) (λ can. refl) c.args.state.now c.in-Can.can c.set_baud_rate.new.self c.turned.result c.set_baud_rate.result c.in-Can.is c.set_baud_rate.ensures.after c.turned.ensures c.set_baud_rate.ensures.answer

pub returns-in-Ethernet-clause-outcome : goal.returns-in-Ethernet-clause-outcome
returns-in-Ethernet-clause-outcome c =
    c.refused.ensures c.args.state.now ∙ not_can c.args.state.now (λ can. turned c.args.state.now (can_baud can.state) (with_rate c.args.rate (can_baud can.state) can)) c.in-Ethernet.is
