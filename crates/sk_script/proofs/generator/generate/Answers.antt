use Rattle.std.proofs.Common.{arith}
use Rattle.sk_script.specs.Generated.{generated}
use Rattle.sk_script.proofs.GeneratedLaws.{generated_fine}
use Rattle.sk_script.proofs.generator.generate.Goals as goal

pub new-requires : goal.new-requires
unfolding generated
new-requires c =
    let fine = generated_fine c.args.number c.args.participants c.args.steps (omega (arith, c.requires.least)) c.requires.most c.requires.few in
    record { rules = rw (c.new-required.ensures, c.in_ok-coordinated_names.ensures, c.deref.ensures.value, c.in_ok-participants.ensures, c.from.ensures) fine }
