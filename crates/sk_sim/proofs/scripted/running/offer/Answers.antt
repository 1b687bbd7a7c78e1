use Rattle.sk_sim.proofs.Offering.{offer_is}
use Rattle.sk_sim.proofs.scripted.running.offer.Goals as goal

pub returns : goal.returns
returns c = offer_is c.add.result c.args.out.now _ c.args.action c.add.ensures.full c.add.ensures.added c.add.ensures.over
