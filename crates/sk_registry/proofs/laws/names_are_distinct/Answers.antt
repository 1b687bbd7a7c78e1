use Rattle.sk_registry.proofs.EventLaws.{is_table}
use Rattle.sk_registry.proofs.laws.names_are_distinct.Goals as goal

pub returns : goal.returns
returns c = is_table
