use Rattle.std.proofs.Common.{refl}
use Rattle.sk_script.specs.Generated.{next_seed}
use Rattle.sk_script.proofs.laws.draws_of_seven.Goals as goal

pub returns : goal.returns
unfolding next_seed
returns c = record { first = refl; second = refl }
