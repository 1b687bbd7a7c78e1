use Rattle.sk_law_examples.proofs.Living.{lives, waits}
use Rattle.sk_law_examples.proofs.laws.a_world_lives.Goals as goal

pub returns-clause-lives : goal.returns-clause-lives
returns-clause-lives c = lives c.world_is_safe.ensures

pub returns-clause-waits : goal.returns-clause-waits
returns-clause-waits c = waits
