use Rattle.std.proofs.Common.{◌∙◌, ap, sym}
use Rattle.sk_law.specs.Outcomes.{refused}
use Rattle.sk_node.specs.Acting.{lin_code}
use Rattle.sk_node.proofs.services.lin.refused_by_lin.Goals as goal

pub returns-in-State-clause-code : goal.returns-in-State-clause-code
returns-in-State-clause-code c at = c.refused.ensures at ∙ ap (λ r. refused (lin_code r) at) (sym c.in-State.is)

pub returns-in-Role-clause-code : goal.returns-in-Role-clause-code
returns-in-Role-clause-code c at = c.refused-in-Role.ensures at ∙ ap (λ r. refused (lin_code r) at) (sym c.in-Role.is)

pub returns-in-BadFrame-clause-code : goal.returns-in-BadFrame-clause-code
returns-in-BadFrame-clause-code c at = c.refused-in-BadFrame.ensures at ∙ ap (λ r. refused (lin_code r) at) (sym c.in-BadFrame.is)
