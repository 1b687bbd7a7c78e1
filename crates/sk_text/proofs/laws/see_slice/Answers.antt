use Rattle.std.proofs.Common.{arith}
use Rattle.sk_text.proofs.laws.see_slice.Goals as goal

pub returns : goal.returns
returns c = λ i. omega (arith, c.type_inv.bytes i)
