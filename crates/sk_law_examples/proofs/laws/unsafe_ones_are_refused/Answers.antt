use Rattle.sk_law_examples.proofs.Unsafes.{late_is_refused, doubled_is_refused, unannounced_is_refused}
use Rattle.sk_law_examples.proofs.laws.unsafe_ones_are_refused.Goals as goal

pub returns-clause-late : goal.returns-clause-late
returns-clause-late c = late_is_refused

pub returns-clause-doubled : goal.returns-clause-doubled
returns-clause-doubled c = doubled_is_refused

pub returns-clause-unannounced : goal.returns-clause-unannounced
returns-clause-unannounced c = unannounced_is_refused
