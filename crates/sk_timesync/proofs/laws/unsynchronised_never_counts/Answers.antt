use Rattle.sk_timesync.proofs.CountLaws.{counts_not, ready_unsynchronised}
use Rattle.sk_timesync.proofs.laws.unsynchronised_never_counts.Goals as goal

pub returns : goal.returns
returns c = λ notes before after peer answer not_it. counts_not notes before after peer answer (ready_unsynchronised peer not_it)
