use Rattle.sk_registry.proofs.EventLaws.{of_earlier, in_list, told_earlier, once, former}
use Rattle.sk_registry.proofs.laws.later_was_told_of_earlier.Goals as goal

pub returns-clause-of_earlier : goal.returns-clause-of_earlier
returns-clause-of_earlier c = λ events earlier later. of_earlier earlier later

pub returns-clause-in_list : goal.returns-clause-in_list
returns-clause-in_list c = λ events one other. in_list one other

pub returns-clause-told : goal.returns-clause-told
returns-clause-told c = λ events earlier later. told_earlier earlier later

pub returns-clause-once : goal.returns-clause-once
returns-clause-once c = λ events earlier later. once earlier later

pub returns-clause-former : goal.returns-clause-former
returns-clause-former c = λ events earlier later. former earlier later
