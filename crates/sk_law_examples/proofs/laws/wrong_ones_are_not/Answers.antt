use Rattle.sk_law_examples.proofs.Lawfulness.{begun_is_lawful}
use Rattle.sk_law_examples.proofs.Wrongs.{refused_pause_is_wrong, stopped_early_is_wrong, kept_back_is_wrong, begun_early_is_wrong, announced_early_is_wrong, sent_late_is_wrong, handed_twice_is_wrong, ended_early_is_wrong}
use Rattle.sk_law_examples.proofs.laws.wrong_ones_are_not.Goals as goal

pub returns-clause-front : goal.returns-clause-front
returns-clause-front c = begun_is_lawful

pub returns-clause-begun : goal.returns-clause-begun
returns-clause-begun c = begun_early_is_wrong c.entries_meet_their_rules.ensures

pub returns-clause-announced : goal.returns-clause-announced
returns-clause-announced c = announced_early_is_wrong c.entries_meet_their_rules.ensures

pub returns-clause-sent : goal.returns-clause-sent
returns-clause-sent c = sent_late_is_wrong c.entries_meet_their_rules.ensures

pub returns-clause-handed : goal.returns-clause-handed
returns-clause-handed c = handed_twice_is_wrong c.messages_are_handed_once.ensures

pub returns-clause-ended : goal.returns-clause-ended
returns-clause-ended c = ended_early_is_wrong c.entries_meet_their_rules.ensures

pub returns-clause-refused : goal.returns-clause-refused
returns-clause-refused c = refused_pause_is_wrong c.entries_meet_their_rules.ensures

pub returns-clause-stopped : goal.returns-clause-stopped
returns-clause-stopped c = stopped_early_is_wrong c.entries_meet_their_rules.ensures

pub returns-clause-kept : goal.returns-clause-kept
returns-clause-kept c = kept_back_is_wrong c.what_is_done_is_sent.ensures
