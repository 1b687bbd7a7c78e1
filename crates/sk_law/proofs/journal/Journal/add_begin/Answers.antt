use Rattle.std.proofs.Common.{refl}
use Rattle.sk_law.proofs.Ties.{tied-plain}
use Rattle.sk_msg.specs.declared.entry.Entry.TheVariants.{Begin}
use Rattle.sk_law.proofs.Keeping.{served-plain}
use Rattle.sk_law.proofs.journal.Journal.add_begin.Goals as goal

pub invariant_of-self-2 : goal.invariant_of-self-2
invariant_of-self-2 c = record {
  tied = tied-plain c.journals_go_by_entries.ensures _ _ _ c.self.invariant.tied c.in_ok-push.ensures.items c.requires.early c.after_begin-self-inside.ensures (λ b p l. refl) (λ b t. refl) (λ s. refl);
  served = served-plain c.journals_go_by_entries.ensures (Begin c.args.number c.args.at) _ c.self.invariant.served c.in_ok-push.ensures.items c.requires.small (λ b t. refl);
}
