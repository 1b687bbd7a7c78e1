use Rattle.std.proofs.Common.{arith}
use Rattle.sk_rules.proofs.FieldLaws.{needed_within}
use Rattle.sk_rules.proofs.field.needed_u32.Goals as goal

pub overflow_cast-result : goal.overflow_cast-result
overflow_cast-result c = let range = needed_within _ _ _ _ _ _ c.in_ok-number.ensures in omega (arith, range.1)
