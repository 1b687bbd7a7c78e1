use Rattle.std.proofs.Common.{[]}
use Rattle.sk_script.proofs.OrderLaws.{sorted_distinct}
use Rattle.sk_script.proofs.laws.sorted_names_differ.Goals as goal

pub returns : goal.returns
returns c = sorted_distinct []
