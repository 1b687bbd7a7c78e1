use Rattle.sk_law.proofs.Blocks.{blocks_add}
use Rattle.sk_law.proofs.laws.blocks_only_add.Goals as goal

pub returns : goal.returns
returns c = blocks_add
