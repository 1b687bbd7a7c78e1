use Rattle.sk_law_world.proofs.WalkLaws.{walks}
use Rattle.sk_law_world.proofs.laws.states_walk.Goals as goal

pub returns : goal.returns
returns c = walks
