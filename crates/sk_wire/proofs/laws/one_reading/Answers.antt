use Rattle.sk_wire.proofs.ReadingLaws.{reading_is, parts_read}
use Rattle.sk_wire.proofs.laws.one_reading.Goals as goal

pub returns-clause-one : goal.returns-clause-one
returns-clause-one c = reading_is

pub returns-clause-some : goal.returns-clause-some
returns-clause-some c = parts_read
