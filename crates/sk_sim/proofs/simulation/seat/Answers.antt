use Rattle.std.proofs.Common.{◌∙◌, ap, subst}
use Rattle.sk_sim.specs.Views.{view}
use Rattle.sk_sim.specs.Scripts.{lists_of, origin_of}
use Rattle.sk_sim.specs.Simulations.{IsSeat}
use Rattle.sk_sim.proofs.Seating.{part_at, fits, is_seat, if_all_ok}
use Rattle.sk_sim.proofs.simulation.seat.Goals as goal

pub new-requires : goal.new-requires
new-requires c = record { number = rw c.number-number.ensures c.requires.number }

pub new-requires-2 : goal.new-requires-2
new-requires-2 c =
    let n = c.number-number.result in let x = c.index-participants-number in let own = c.number-number.ensures in let e = c.participants.ensures in
    let at = part_at c.args.scenario.now _ n _ x.result e.value own c.requires.number x.is in
    let f = fits c.args.scenario.now c.args.ends n x.result c.in_ok-setup.setup c.in_ok-setup.ensures own e.rules at c.requires.size in record {
      own = f.own;
      few = f.few;
      names = f.names;
      required = f.required;
      step = f.step;
      duration = f.duration;
      services = f.services;
      numbered = f.numbered;
      blocking = f.blocking;
      ready = f.ready;
      number = f.number;
      size = f.ways;
      fresh = c.requires.fresh;
    }

pub returns-clause-of : goal.returns-clause-of
returns-clause-of c =
    let n = c.number-number.result in let x = c.index-participants-number in let own = c.number-number.ensures in let e = c.participants.ensures in
    let at = part_at c.args.scenario.now _ n _ x.result e.value own c.requires.number x.is in
    let a = c.in_ok-app.ensures in
    if_all_ok c.new-2.result (λ seat unturned setup app.
    subst (λ k. IsSeat c.args.scenario.now k (view seat)) own
    (is_seat c.args.scenario.now n x.result (view seat) at (setup ∙ c.in_ok-setup.ensures) (ap lists_of app ∙ a.lists) (ap origin_of app ∙ a.origin) unturned))
    c.new-2.ensures.unturned c.new-2.ensures.setup c.new-2.ensures.app
