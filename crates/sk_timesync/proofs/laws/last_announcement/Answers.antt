use Rattle.std.proofs.Common.{refl}
use Rattle.sk_timesync.specs.Notes.{with_known, with_announced, with_left}
use Rattle.sk_timesync.proofs.LastLaws.{look_announced, look_other, look_unchanged}
use Rattle.sk_timesync.proofs.laws.last_announcement.Goals as goal

pub returns-clause-announced : goal.returns-clause-announced
returns-clause-announced c = λ notes number at added. look_announced number at notes.peers added

pub returns-clause-others : goal.returns-clause-others
returns-clause-others c = λ notes number other at differs. look_other number other (with_announced at) (λ x. refl) differs notes.peers

pub returns-clause-known : goal.returns-clause-known
returns-clause-known c = λ notes number other synchronised. look_unchanged number other (with_known synchronised) (λ x. refl) (λ x. refl) notes.peers

pub returns-clause-left : goal.returns-clause-left
returns-clause-left c = λ notes number other. look_unchanged number other with_left (λ x. refl) (λ x. refl) notes.peers
