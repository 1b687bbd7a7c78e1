use Rattle.std.proofs.Common.{true, ◌∙◌, ap, sym}
use Rattle.sk_law.specs.declared.memory.ServiceState.TheVariants as states
use Rattle.sk_law.specs.Outcomes.{done, on_ethernet}
use Rattle.sk_node.proofs.OtherKinds.{not_ethernet}
use Rattle.sk_node.proofs.services.ethernet.eth_activate.Goals as goal

pub returns-in-Ethernet-clause-outcome : goal.returns-in-Ethernet-clause-outcome
returns-in-Ethernet-clause-outcome c =
    c.done.ensures (states.Ethernet c.activate.new.self) ∙ ap (λ b. done (states.Ethernet b)) c.activate.ensures ∙ ap (λ s. on_ethernet s (λ active. done (states.Ethernet true))) (sym c.in-Ethernet.is)

pub returns-in-Can-clause-outcome : goal.returns-in-Can-clause-outcome
returns-in-Can-clause-outcome c = c.refused.ensures c.args.state.now ∙ not_ethernet c.args.state.now (λ active. done (states.Ethernet true)) c.in-Can.is
