use Rattle.std.proofs.Common.{◌≡◌, ap, sym, subst, length}
use Rattle.sk_law.specs.Readings.{got}
use Rattle.sk_law.specs.Kept.{Kept}
use Rattle.sk_law.proofs.Readers.{past_lines}
use Rattle.sk_law.proofs.journal.Journal.count_of_got.Goals as goal

pub returns-in-None : goal.returns-in-None
returns-in-None c =
    subst (λ (k : Kept). 0 ≡ length (got k.past.journal c.args.number)) c.self.view_is
    (sym (ap length (c.self.invariant.tied.no_got c.args.number (past_lines c.args.number c.self.invariant.tied (sym c.deref.ensures.value) c.in-None.ensures.lookup.3))))
