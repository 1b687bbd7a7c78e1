use Rattle.std.proofs.Common.{refl, subst}
use Rattle.sk_script.specs.Scenarios.{ScenarioValue}
use Rattle.sk_sim.specs.Playing.{IsScripted}
use Rattle.sk_sim.proofs.Playing.{new_scripted}
use Rattle.sk_sim.proofs.Seating.{part_at}
use Rattle.sk_sim.proofs.scripted.Scripted.new.Goals as goal

pub invariant_of-result : goal.invariant_of-result
invariant_of-result c =
    let x = c.index-participants-number in
    let at = part_at c.args.scenario.now _ c.args.number c.args.number x.result c.participants.ensures.value refl c.requires.number x.is in
    let new = new_scripted c.args.scenario.now c.args.number x.result c.in_ok-new.field-0 c.new-3.result.items at c.in_ok-new.ensures c.new-3.ensures.items in
    record { scripted = ∣ rw c.of.ensures new ∣₁ }
