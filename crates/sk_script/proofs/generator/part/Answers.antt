use Rattle.std.proofs.Common.{refl}
use Rattle.sk_script.specs.Generated.{part}
use Rattle.sk_script.proofs.GeneratedLaws.{part_fine}
use Rattle.sk_script.proofs.generator.part.Goals as goal

pub new-requires-2 : goal.new-requires-2
unfolding part
new-requires-2 c =
    let fine = part_fine c.args.count c.args.number c.requires.number c.requires.few c.args.size c.requires.size in
    record { rules = rw (c.in_ok-name.ensures, c.in_ok-services.ensures, c.in_ok-vars.ensures, c.in_ok-script.ensures, c.new-ready.ensures, c.new.ensures.items) fine }

pub returns : goal.returns
unfolding part
returns c = rw (c.new-2.ensures, c.in_ok-name.ensures, c.in_ok-services.ensures, c.in_ok-vars.ensures, c.in_ok-script.ensures, c.new-ready.ensures, c.new.ensures.items) refl
