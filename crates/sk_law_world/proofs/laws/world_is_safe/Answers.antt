use Rattle.sk_law_world.proofs.Worlds.{world_safe}
use Rattle.sk_law_world.proofs.laws.world_is_safe.Goals as goal

pub returns : goal.returns
returns c = world_safe
