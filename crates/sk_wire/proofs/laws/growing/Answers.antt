use Rattle.sk_wire.proofs.WholeLaws.{messages_grow}
use Rattle.sk_wire.proofs.laws.growing.Goals as goal

pub returns : goal.returns
returns c = messages_grow
