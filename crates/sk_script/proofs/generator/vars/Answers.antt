use Rattle.std.proofs.Common.{arith}
use Rattle.sk_script.proofs.GeneratedLaws.{one_letter}
use Rattle.sk_script.proofs.generator.vars.Goals as goal

pub name_of-requires : goal.name_of-requires
name_of-requires c = rw c.as_bytes.ensures.value (one_letter 120 (omega arith) (omega arith))
