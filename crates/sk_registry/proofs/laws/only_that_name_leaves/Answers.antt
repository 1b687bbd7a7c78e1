use Rattle.sk_registry.proofs.TableLaws.{gone, others}
use Rattle.sk_registry.proofs.EventLaws.{undoes}
use Rattle.sk_registry.proofs.laws.only_that_name_leaves.Goals as goal

pub returns-clause-gone : goal.returns-clause-gone
returns-clause-gone c = gone

pub returns-clause-others : goal.returns-clause-others
returns-clause-others c = others

pub returns-clause-undoes : goal.returns-clause-undoes
returns-clause-undoes c = undoes
