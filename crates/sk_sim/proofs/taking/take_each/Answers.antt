use Rattle.std.proofs.Common.{refl, sym, ◌∙◌, ap}
use Rattle.sk_mesh.specs.Places.{Place}
use Rattle.sk_sim.proofs.Incoming.{takes_first}
use Rattle.sk_sim.proofs.taking.take_each.Goals as goal

pub loop-peer-init : goal.loop-peer-init
loop-peer-init g c = record { place = refl; takes = takes_first c.args.wired.now _ c.requires.tied; origin = refl }

pub loop-peer-preserved : goal.loop-peer-preserved
loop-peer-preserved g c =
    let i = c.loop-peer.invariant in record {
      place = c.take_next.ensures.place ∙ i.place;
      takes = c.in_ok-moved.ensures.ok.1 c.args.wired.now (g.A.App.lists c.args.app.now) (ap (λ (w : Place). w.number) (sym i.place)) i.takes;
      origin = c.take_next.ensures.origin ∙ i.origin;
    }
