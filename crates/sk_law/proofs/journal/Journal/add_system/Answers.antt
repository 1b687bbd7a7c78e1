use Rattle.std.proofs.Common.{refl}
use Rattle.sk_law.proofs.Ties.{tied-plain}
use Rattle.sk_msg.specs.declared.entry.Entry.TheVariants.{System as Judged}
use Rattle.sk_law.proofs.Keeping.{served-plain}
use Rattle.sk_law.proofs.journal.Journal.add_system.Goals as goal

pub invariant_of-self-2 : goal.invariant_of-self-2
invariant_of-self-2 c = record {
  tied = tied-plain c.journals_go_by_entries.ensures _ _ _ c.self.invariant.tied c.in_ok-push.ensures.items tt c.after_system-self-inside.ensures (λ b p l. refl) (λ b t. refl) (λ s. refl);
  served = served-plain c.journals_go_by_entries.ensures (Judged c.args.to) _ c.self.invariant.served c.in_ok-push.ensures.items tt (λ b t. refl);
}
