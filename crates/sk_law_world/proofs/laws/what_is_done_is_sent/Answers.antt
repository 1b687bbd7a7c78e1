use Rattle.sk_law_world.proofs.Sents.{done_is_sent}
use Rattle.sk_law_world.proofs.laws.what_is_done_is_sent.Goals as goal

pub returns : goal.returns
returns c = done_is_sent
