use Rattle.std.proofs.Common.{refl, true, ◌<◌, subst, sym, ap}
use Rattle.std.specs.Prelude.{slice_set}
use Rattle.std.proofs.lemmas.List.{get_or_read_under}
use Rattle.sk_law.specs.declared.line.Line.{Line}
use Rattle.sk_law.specs.Kept.{Kept}
use Rattle.sk_law.specs.Tied.{all_of, no_line}
use Rattle.sk_msg.specs.declared.entry.Entry.TheVariants.{Gone}
use Rattle.sk_law.proofs.Keeping.{served-plain}
use Rattle.sk_law.proofs.Ties.{tied-gone}
use Rattle.sk_law.proofs.journal.Journal.add_gone.Goals as goal

pub invariant_of-self-2 : goal.invariant_of-self-2
invariant_of-self-2 c =
    let lt = subst (λ (v : Kept). c.args.number < all_of v.setup v.past.memory.tools) (sym c.self.view_is) c.requires in
    let q = get_or_read_under c.self.inside.lines.items c.args.number _ c.index_mut.result.now no_line c.index_mut.ensures.value lt (sym c.self.invariant.tied.all_lines) in
    record {
      tied = tied-gone c.journals_go_by_entries.ensures c.args.number c.args.reason _ _ c.self.invariant.tied c.in_ok-push.ensures.items lt
          (ap (λ (l : Line). slice_set c.self.inside.lines.items c.args.number (record l { gone = true })) q);
      served = served-plain c.journals_go_by_entries.ensures (Gone c.args.number c.args.reason) _ c.self.invariant.served c.in_ok-push.ensures.items tt (λ b t. refl);
    }
