use Rattle.std.proofs.Common.{◌≡◌, sym, subst, false}
use Rattle.sk_law.specs.Readings.{is_gone}
use Rattle.sk_law.specs.Kept.{Kept}
use Rattle.sk_law.proofs.Readers.{past_lines}
use Rattle.sk_law.proofs.journal.Journal.is_gone.Goals as goal

pub returns-in-None : goal.returns-in-None
returns-in-None c =
    subst (λ (k : Kept). false ≡ is_gone k.past.journal c.args.number) c.self.view_is
    (sym (c.self.invariant.tied.no_gone c.args.number (past_lines c.args.number c.self.invariant.tied (sym c.deref.ensures.value) c.in-None.ensures.lookup.3)))
