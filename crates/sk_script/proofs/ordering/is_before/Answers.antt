use Rattle.sk_script.proofs.OrderLaws.{before_is}
use Rattle.std.proofs.Common.{◌∙◌}
use Rattle.sk_script.proofs.ordering.is_before.Goals as goal

pub returns : goal.returns
returns c = rw (c.as_str.ensures.value, c.as_str-2.ensures.value) at c.lt.ensures ∙ before_is c.args.name.now c.args.other.now
