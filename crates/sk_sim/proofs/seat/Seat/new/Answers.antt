use Rattle.std.proofs.Common.{None, replicate, refl, sym, ◌∙◌, ap, subst}
use Rattle.sk_law.specs.declared.setup.Setup.{Setup}
use Rattle.sk_law.specs.Blocks.{making}
use Rattle.sk_law.specs.Setups.{IsSetup}
use Rattle.sk_sim.proofs.Starting.{new_tied, new_bounded, is_setup, unpushed}
use Rattle.sk_sim.proofs.seat.Seat.new.Goals as goal

pub invariant_of-result : goal.invariant_of-result
invariant_of-result g c =
    let e = c.in_ok-node.ensures in let r = c.requires in record {
      tied = λ fine. new_tied _ c.args.setup e.setup e.made e.out e.sound c.journal.ensures.sound r.number r.own r.few r.size r.fresh
          (c.in_ok-held.ensures ∙ ap (λ n. replicate n None) c.size.ensures) r.services;
      bounded = λ fine. new_bounded c.what_is_put_is_bounded.ensures _ c.args.setup e.setup e.made e.lawful (c.journal.ensures.sound.short e.sound);
    }

pub returns-clause-unturned : goal.returns-clause-unturned
returns-clause-unturned g c =
    let e = c.in_ok-node.ensures in let r = c.requires in record {
      past = e.made ∙ ap making (sym e.setup);
      unpushed = unpushed c.args.ends r.fresh;
      sound = refl;
      setup = subst (λ (S : Setup). IsSetup S) (sym e.setup) (is_setup c.args.setup r.own r.few r.names r.required r.step r.numbered);
    }
