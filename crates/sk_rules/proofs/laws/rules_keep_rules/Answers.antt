use Rattle.sk_rules.proofs.RuleRules.{rules_keep}
use Rattle.sk_rules.proofs.laws.rules_keep_rules.Goals as goal

pub returns : goal.returns
returns c = rules_keep
