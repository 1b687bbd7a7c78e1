use Rattle.sk_system.proofs.NoteLaws.{last_notes_count}
use Rattle.sk_system.proofs.laws.last_notes_count.Goals as goal

pub returns : goal.returns
returns c = last_notes_count
