use Rattle.sk_rules.proofs.ActionRules.{actions_keep}
use Rattle.sk_rules.proofs.laws.actions_keep_rules.Goals as goal

pub returns : goal.returns
returns c = actions_keep
