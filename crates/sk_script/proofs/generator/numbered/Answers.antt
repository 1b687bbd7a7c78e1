use Rattle.sk_script.proofs.GeneratedLaws.{numbered_fine}
use Rattle.sk_script.proofs.generator.numbered.Goals as goal

pub name_of-requires : goal.name_of-requires
name_of-requires c = rw (c.digit.ensures, c.digit-2.ensures) (numbered_fine c.args.letter c.args.number c.requires.letter c.requires.number)
