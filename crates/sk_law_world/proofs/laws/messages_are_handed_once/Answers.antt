use Rattle.sk_law_world.proofs.Onces.{once}
use Rattle.sk_law_world.proofs.laws.messages_are_handed_once.Goals as goal

pub returns : goal.returns
returns c = once
