use Rattle.sk_msg.specs.declared.entry.Entry.TheVariants.{Stray}
use Rattle.sk_law.proofs.Keeping.{served-other}
use Rattle.sk_law.proofs.Ties.{tied-other}
use Rattle.sk_law.proofs.journal.Journal.add_stray.Goals as goal

pub invariant_of-self-2 : goal.invariant_of-self-2
invariant_of-self-2 c = record {
  tied = tied-other c.journals_go_by_entries.ensures (Stray c.args.number) _ tt c.self.invariant.tied c.in_ok-push.ensures.items;
  served = served-other c.journals_go_by_entries.ensures (Stray c.args.number) _ tt c.self.invariant.served c.in_ok-push.ensures.items;
}
