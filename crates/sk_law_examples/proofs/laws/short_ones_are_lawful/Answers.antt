use Rattle.sk_law_examples.proofs.Journeys.{pausing_is_lawful, stopping_is_lawful, eager_is_lawful, steered_is_lawful, offended_is_lawful, serving_is_lawful, mastering_is_lawful}
use Rattle.sk_law_examples.proofs.laws.short_ones_are_lawful.Goals as goal

pub returns-clause-pausing : goal.returns-clause-pausing
returns-clause-pausing c = pausing_is_lawful

pub returns-clause-stopping : goal.returns-clause-stopping
returns-clause-stopping c = stopping_is_lawful

pub returns-clause-eager : goal.returns-clause-eager
returns-clause-eager c = eager_is_lawful

pub returns-clause-steered : goal.returns-clause-steered
returns-clause-steered c = steered_is_lawful

pub returns-clause-offended : goal.returns-clause-offended
returns-clause-offended c = offended_is_lawful

pub returns-clause-serving : goal.returns-clause-serving
returns-clause-serving c = serving_is_lawful

pub returns-clause-mastering : goal.returns-clause-mastering
returns-clause-mastering c = mastering_is_lawful
