use Rattle.std.proofs.Common.{◌≡◌, ◌-◌, ◌∙◌, refl, arith}
use Rattle.sk_script.specs.Generated.{all_parts}
use Rattle.sk_script.proofs.GeneratedLaws.{one_more, append_one}
use Rattle.sk_script.proofs.generator.all_parts.Goals as goal

pub loop-number-init : goal.loop-number-init
unfolding all_parts
loop-number-init c =
    let all : c.args.count - 0 ≡ c.args.count = omega arith in
    (omega arith, rw (c.new-parts.ensures.items, all) refl)

pub loop-number-preserved : goal.loop-number-preserved
loop-number-preserved c =
    let more = rw (one_more c.args.count c.loop-number.seed c.loop-number.number c.loop-number-test.true) at c.loop-number.invariant.1 in (
      c.next_seed-seed.ensures.small,
      rw (c.in_ok-push.ensures.items, c.in_ok-part.ensures, c.step_size.ensures.value, c.next_seed-seed.ensures.value) (append_one _ _ _ ∙ more),
    )
