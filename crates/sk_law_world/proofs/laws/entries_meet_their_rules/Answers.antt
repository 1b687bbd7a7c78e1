use Rattle.sk_law_world.proofs.Meetings.{lawful_meets}
use Rattle.sk_law_world.proofs.laws.entries_meet_their_rules.Goals as goal

pub returns : goal.returns
returns c = lawful_meets
