use Rattle.std.proofs.Common.{refl}
use Rattle.clap.proofs.OnLiterals.{clap_on_literals}
use Rattle.sk_tools.specs.Words.{check_app, pipe_app, takes_words, rows_read, value_of}
use Rattle.sk_tools.proofs.laws.reads_words.Goals as goal

pub returns : goal.returns
unfolding clap_on_literals check_app pipe_app takes_words rows_read value_of
returns c = record {
  behind = refl;
  before = refl;
  alone = refl;
  help = refl;
  few = refl;
  many = refl;
  other = refl;
  pipe_help = refl;
  pipe_few = refl;
  pipe_option = refl;
}
