use Rattle.std.proofs.Common.{◌≡◌, ◌∙◌, refl, ap, true}
use Rattle.clap.specs.Words.{is_simple_and_free}
use Rattle.clap.proofs.OnLiterals.{clap_on_literals}
use Rattle.sk_tools.specs.Words.{check_app}
use Rattle.sk_tools.proofs.words.check.read_check.Goals as goal

is_simple : is_simple_and_free check_app ≡ true
unfolding check_app clap_on_literals
is_simple = refl

pub read_file_word-requires : goal.read_file_word-requires
read_file_word-requires c = ap is_simple_and_free c.in_ok-command.ensures ∙ is_simple
