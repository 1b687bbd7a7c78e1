use Rattle.sk_pipe.proofs.Examples as examples
use Rattle.sk_pipe.proofs.laws.works.Goals as goal

pub returns-clause-ahead : goal.returns-clause-ahead
returns-clause-ahead c = examples.ahead c.one_reading.ensures.one

pub returns-clause-ended : goal.returns-clause-ended
returns-clause-ended c = examples.ended c.one_reading.ensures.one

pub returns-clause-below : goal.returns-clause-below
returns-clause-below c = examples.below c.one_reading.ensures.one

pub returns-clause-at_once : goal.returns-clause-at_once
returns-clause-at_once c = examples.at_once c.one_reading.ensures.one
