use Rattle.sk_law_examples.proofs.Lawfulness.{alone_is_lawful, publisher_is_lawful, subscriber_is_lawful, patient_is_lawful, bereft_is_lawful}
use Rattle.sk_law_examples.proofs.laws.examples_are_lawful.Goals as goal

pub returns-clause-alone : goal.returns-clause-alone
returns-clause-alone c = alone_is_lawful

pub returns-clause-publisher : goal.returns-clause-publisher
returns-clause-publisher c = publisher_is_lawful

pub returns-clause-subscriber : goal.returns-clause-subscriber
returns-clause-subscriber c = subscriber_is_lawful

pub returns-clause-patient : goal.returns-clause-patient
returns-clause-patient c = patient_is_lawful

pub returns-clause-bereft : goal.returns-clause-bereft
returns-clause-bereft c = bereft_is_lawful
