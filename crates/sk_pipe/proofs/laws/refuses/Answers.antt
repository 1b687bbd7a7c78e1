use Rattle.sk_pipe.proofs.Examples as examples
use Rattle.sk_pipe.proofs.laws.refuses.Goals as goal

pub returns-clause-early : goal.returns-clause-early
returns-clause-early c = examples.early c.one_reading.ensures.one

pub returns-clause-late : goal.returns-clause-late
returns-clause-late c = examples.late c.one_reading.ensures.one

pub returns-clause-one_earlier : goal.returns-clause-one_earlier
returns-clause-one_earlier c = examples.one_earlier c.one_reading.ensures.one

pub returns-clause-longer : goal.returns-clause-longer
returns-clause-longer c = examples.longer c.one_reading.ensures.one
