use Rattle.sk_law_examples.proofs.Circles.{no_such_world}
use Rattle.sk_law_examples.proofs.laws.no_world_runs_in_a_circle.Goals as goal

pub returns : goal.returns
returns c = no_such_world c.blocks_only_add.ensures c.messages_are_handed_once.ensures
