use Rattle.std.proofs.Common.{◌∙◌, ap, sym}
use Rattle.std.specs.List.{fold}
use Rattle.sk_sim.specs.Playing.{offer}
use Rattle.sk_sim.proofs.Offering.{offers_all, none_left}
use Rattle.sk_sim.proofs.scripted.running.ask.Goals as goal

pub returns : goal.returns
returns c =
    let none = none_left _ (sym c.loop-action.action-iterator.rest.ok.0 ∙ c.in-None.ensures.steps.0) in
    ap (λ l. fold offer c.loop-action.out l) (sym none) ∙ c.loop-action.invariant ∙ offers_all c.args.out.now c.args.asked.items c.requires.empty c.requires.fits
