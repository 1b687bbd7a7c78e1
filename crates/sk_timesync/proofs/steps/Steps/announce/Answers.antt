use Rattle.std.proofs.Common.{refl, arith}
use Rattle.std.proofs.lemmas.Grind.{common_steps}
use Rattle.std.proofs.lemmas.Result.{on_ok_weaker}
use Rattle.sk_timesync.specs.Notes.{with_announced}
use Rattle.sk_timesync.proofs.PeerLaws.{stands, set-stands, numbers-set, kept-set, announced-stands}
use Rattle.sk_timesync.proofs.steps.Steps.announce.Goals as goal

pub invariant_of-self : goal.invariant_of-self
invariant_of-self c =
    let s = stands c.deref.ensures.value c.self.invariant.rising c.index_of-index.ensures.within c.index_of-index.ensures.found c.index_mut.ensures.value in
    kept-set _ c.announce.new.self c.self.invariant s c.announce.ensures.number

pub returns : goal.returns
returns c =
    let s = stands c.deref.ensures.value c.self.invariant.rising c.index_of-index.ensures.within c.index_of-index.ensures.found c.index_mut.ensures.value in
    record {
      noted = on_ok_weaker c.announce.result
          (λ e. rw (← c.self.view_is, set-stands (with_announced c.args.at) c.announce.new.self s e) refl) c.announce.ensures.noted;
      rises = rw (← c.self.view_is, announced-stands s) c.announce.ensures.rises;
      refused = rw (← c.self.view_is, announced-stands s) c.announce.ensures.refused;
      same = grind (arith, common_steps);
      numbers = rw (← c.self.view_is) (numbers-set c.announce.new.self s c.announce.ensures.number);
    }
