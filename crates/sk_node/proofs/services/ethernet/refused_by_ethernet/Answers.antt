use Rattle.std.proofs.Common.{◌∙◌, ap, sym}
use Rattle.sk_law.specs.Outcomes.{refused}
use Rattle.sk_node.specs.Acting.{eth_code}
use Rattle.sk_node.proofs.services.ethernet.refused_by_ethernet.Goals as goal

pub returns-in-ControllerInactive-clause-code : goal.returns-in-ControllerInactive-clause-code
returns-in-ControllerInactive-clause-code c at = c.refused.ensures at ∙ ap (λ r. refused (eth_code r) at) (sym c.in-ControllerInactive.is)

pub returns-in-InvalidFrameFormat-clause-code : goal.returns-in-InvalidFrameFormat-clause-code
returns-in-InvalidFrameFormat-clause-code c at = c.refused-in-InvalidFrameFormat.ensures at ∙ ap (λ r. refused (eth_code r) at) (sym c.in-InvalidFrameFormat.is)
