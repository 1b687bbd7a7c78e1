use Rattle.std.proofs.Common.{arith}
use Rattle.sk_script.proofs.GeneratedLaws.{one_letter}
use Rattle.sk_script.proofs.generator.services.Goals as goal

pub name_of-requires : goal.name_of-requires
name_of-requires c = rw c.as_bytes.ensures.value (one_letter 80 (omega arith) (omega arith))

pub name_of-requires-2 : goal.name_of-requires-2
name_of-requires-2 c = rw c.as_bytes-2.ensures.value (one_letter 83 (omega arith) (omega arith))
