use Rattle.std.proofs.Common.{◌∙◌}
use Rattle.clap.proofs.WalkLemmas.{first_value-rows}
use Rattle.clap.specs.Words.{found_of}
use Rattle.sk_tools.specs.Words.{value_of}
use Rattle.sk_tools.proofs.words.value.Goals as goal

pub returns : goal.returns
unfolding value_of
returns c = c.get_str.ensures ∙ first_value-rows (found_of c.args.matches.now) c.args.id.now
