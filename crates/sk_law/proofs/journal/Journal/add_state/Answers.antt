use Rattle.std.proofs.Common.{refl}
use Rattle.sk_law.proofs.Ties.{tied-state}
use Rattle.sk_msg.specs.declared.entry.Entry.TheVariants.{State as Entered}
use Rattle.sk_law.proofs.Keeping.{served-plain}
use Rattle.sk_law.proofs.journal.Journal.add_state.Goals as goal

pub invariant_of-self-2 : goal.invariant_of-self-2
invariant_of-self-2 c = record {
  tied = tied-state c.journals_go_by_entries.ensures _ _ _ _ c.self.invariant.tied c.in_ok-push.ensures.items c.after_state-self-inside.ensures c.note.ensures;
  served = served-plain c.journals_go_by_entries.ensures (Entered c.args.to) _ c.self.invariant.served c.in_ok-push.ensures.items tt (λ b t. refl);
}
