use Rattle.std.proofs.Common.{refl}
use Rattle.sk_timesync.specs.Notes.{with_left}
use Rattle.sk_timesync.proofs.PeerLaws.{stands, set-stands, numbers-set, kept-set}
use Rattle.sk_timesync.proofs.steps.Steps.leave.Goals as goal

pub invariant_of-self : goal.invariant_of-self
invariant_of-self c =
    let s = stands c.deref.ensures.value c.self.invariant.rising c.index_of-index.ensures.within c.index_of-index.ensures.found c.index_mut.ensures.value in
    kept-set _ c.leave.new.self c.self.invariant s (rw c.leave.ensures refl)

pub returns : goal.returns
returns c =
    let s = stands c.deref.ensures.value c.self.invariant.rising c.index_of-index.ensures.within c.index_of-index.ensures.found c.index_mut.ensures.value in
    record {
      noted = rw (← c.self.view_is, set-stands with_left c.leave.new.self s c.leave.ensures) refl;
      numbers = rw (← c.self.view_is) (numbers-set c.leave.new.self s (rw c.leave.ensures refl));
    }
