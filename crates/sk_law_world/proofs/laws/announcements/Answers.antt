use Rattle.sk_law_world.proofs.Announcings.{rise, stamped}
use Rattle.sk_law_world.proofs.Floors.{multiples, never_fall, sent_after}
use Rattle.sk_law_world.proofs.laws.announcements.Goals as goal

pub returns-clause-multiples : goal.returns-clause-multiples
returns-clause-multiples c = multiples

pub returns-clause-falling : goal.returns-clause-falling
returns-clause-falling c = never_fall

pub returns-clause-rising : goal.returns-clause-rising
returns-clause-rising c = rise

pub returns-clause-sent : goal.returns-clause-sent
returns-clause-sent c = sent_after

pub returns-clause-stamped : goal.returns-clause-stamped
returns-clause-stamped c = stamped
