use Rattle.std.proofs.Common.{◌∙◌, ap}
use Rattle.sk_law.specs.Links.{reached}
use Rattle.sk_law.specs.Outcomes.{sends}
use Rattle.sk_node.proofs.services.lin.sent_by_lin.Goals as goal

pub returns : goal.returns
returns c at = c.in_ok-answer.ensures at ∙ ap (λ m. sends (reached c.args.journal.now.setup c.args.journal.now.past) m at) c.lin-message.ensures
