use Rattle.sk_registry.proofs.EventLaws.{is_there, by_one, no_other}
use Rattle.sk_registry.proofs.laws.each_is_there_by_one_joining.Goals as goal

pub returns-clause-there : goal.returns-clause-there
returns-clause-there c = λ events joining. is_there events joining.before joining.since joining.who joining.among joining.accepted joining.stayed

pub returns-clause-by_one : goal.returns-clause-by_one
returns-clause-by_one c = by_one

pub returns-clause-no_other : goal.returns-clause-no_other
returns-clause-no_other c = λ events one other. no_other one other
