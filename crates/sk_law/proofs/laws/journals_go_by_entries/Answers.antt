use Rattle.sk_law.proofs.Entries.{goes_by_entries}
use Rattle.sk_law.proofs.laws.journals_go_by_entries.Goals as goal

pub returns : goal.returns
returns c = goes_by_entries
