use Rattle.sk_system.proofs.HistoryLaws.{first_workflow, last_state, first_end, printed_is_the_state}
use Rattle.sk_system.proofs.laws.monitors_keep_what_counts.Goals as goal

pub returns : goal.returns
returns c = record { required = first_workflow; state = last_state; ending = first_end; printed = printed_is_the_state }
