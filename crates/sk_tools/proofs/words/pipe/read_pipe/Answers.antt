use Rattle.std.proofs.Common.{◌≡◌, ◌∙◌, refl, ap, true}
use Rattle.clap.specs.Words.{is_simple_and_free}
use Rattle.clap.proofs.OnLiterals.{clap_on_literals}
use Rattle.sk_tools.specs.Words.{pipe_app}
use Rattle.sk_tools.proofs.words.pipe.read_pipe.Goals as goal

is_simple : is_simple_and_free pipe_app ≡ true
unfolding pipe_app clap_on_literals
is_simple = refl

pub parse-requires : goal.parse-requires
parse-requires c = ap is_simple_and_free c.in_ok-pipe_command.ensures ∙ is_simple
