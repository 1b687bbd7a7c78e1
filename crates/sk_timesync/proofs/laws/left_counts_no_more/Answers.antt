use Rattle.sk_timesync.proofs.CountLaws.{counts_not, ready_left}
use Rattle.sk_timesync.proofs.laws.left_counts_no_more.Goals as goal

pub returns : goal.returns
returns c = λ notes before after peer answer known left. counts_not notes before after peer answer (ready_left peer known left)
