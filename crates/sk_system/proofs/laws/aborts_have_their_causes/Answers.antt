use Rattle.sk_system.proofs.CauseLaws.{ended_gone, aborting_told, aborted_fails}
use Rattle.sk_system.proofs.laws.aborts_have_their_causes.Goals as goal

pub returns : goal.returns
returns c = record { ended = ended_gone; aborting = aborting_told; aborted = aborted_fails }
