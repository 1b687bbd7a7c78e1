use Rattle.sk_config.proofs.BackLaws.{config_back}
use Rattle.sk_config.proofs.laws.reads_back.Goals as goal

pub returns : goal.returns
returns c = config_back
