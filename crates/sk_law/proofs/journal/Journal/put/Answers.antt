use Rattle.std.proofs.Common.{refl, ◌∙◌, ap}
use Rattle.sk_msg.specs.declared.content.Content.{Content}
use Rattle.sk_msg.specs.declared.entry.Entry.TheVariants.{Put}
use Rattle.sk_law.proofs.Keeping.{served-plain}
use Rattle.sk_law.specs.Tied.{queued}
use Rattle.sk_law.proofs.Ties.{tied-put}
use Rattle.sk_law.proofs.journal.Journal.put.Goals as goal

pub invariant_of-self-2 : goal.invariant_of-self-2
invariant_of-self-2 c =
    let a = rw c.unwrap.ensures at c.push.ensures.items in let r = c.in_ok-reserve.ensures.items in let d = c.in_ok-kept.ensures in let e = c.in_ok-out.ensures in
    let w = c.in_ok-let_wait.ensures.ok in
    record {
      tied = tied-put c.journals_go_by_entries.ensures c.args.number c.args.message.now _ _ _ c.self.invariant.tied (cc (a, r, d)) c.after_put-tally.ensures
          (w ∙ ap (λ (m : Content). queued c.args.number m c.self.inside.lines.items) e);
      served = served-plain c.journals_go_by_entries.ensures (Put c.args.number c.args.message.now) _ c.self.invariant.served (cc (a, r, d)) tt (λ b t. refl);
    }
