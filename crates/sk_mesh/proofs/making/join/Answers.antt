use Rattle.std.proofs.Common.{ap, ◌∙◌, arith}
use Rattle.sk_mesh.specs.Places.{Account}
use Rattle.sk_mesh.proofs.Growths.{none_met, met_next, all_met}
use Rattle.sk_mesh.proofs.making.join.Goals as goal

pub loop-earlier-init : goal.loop-earlier-init
loop-earlier-init c = record {
  number = ap (λ (w : Account). w.number) c.alone-newcomer.ensures;
  met = none_met c.args.capacity c.args.ends.now c.alone-newcomer.result (ap (λ (w : Account). w.pairs) c.alone-newcomer.ensures);
}

pub loop-earlier-preserved : goal.loop-earlier-preserved
loop-earlier-preserved c =
    let m = c.in_ok-meet.ensures in record {
      number = ap (λ (w : Account). w.number) m.is_b ∙ c.loop-earlier.invariant.number;
      met = met_next _ _ _ _ _ _ c.earlier-item.result _ c.loop-earlier.invariant.met (omega arith) m;
    }

pub returns-clause-number : goal.returns-clause-number
returns-clause-number c = ap (λ (w : Account). w.number) (c.in_ok-skip_itself.ensures) ∙ c.loop-earlier.invariant.number

pub returns-clause-joined : goal.returns-clause-joined
returns-clause-joined c = all_met _ _ _ _ _ _ c.loop-earlier.invariant.met (omega arith) (omega arith) (c.in_ok-skip_itself.ensures)
