use Rattle.std.proofs.Common.{◌≡◌, ◌∙◌, refl, sym, ap, true}
use Rattle.clap.specs.Words.{is_simple_and_free}
use Rattle.clap.proofs.OnLiterals.{clap_on_literals}
use Rattle.sk_tools.specs.Words.{simulate_app}
use Rattle.sk_tools.proofs.SimulateWords.{read_in, no_file, file_given}
use Rattle.sk_tools.proofs.words.simulate.read_simulate.Goals as goal

is_simple : is_simple_and_free simulate_app ≡ true
unfolding simulate_app clap_on_literals
is_simple = refl

pub parse-requires : goal.parse-requires
parse-requires c = ap is_simple_and_free c.in_ok-simulate_command.ensures ∙ is_simple

pub returns-in_default : goal.returns-in_default
returns-in_default c =
    let read = read_in _ _ _ (sym c.is_command.ensures ∙ c.if-not-is_command.false) c.in_ok-simulate_command.ensures c.in_ok-matches.ensures.taken c.in_ok-matches.ensures.rows in
    read ∙ no_file _ (rw c.in_default.is at c.value.ensures)

pub returns : goal.returns
returns c =
    let read = read_in _ _ _ (sym c.is_command.ensures ∙ c.if-not-is_command.false) c.in_ok-simulate_command.ensures c.in_ok-matches.ensures.taken c.in_ok-matches.ensures.rows in
    let given = file_given _ _ (rw c.in-Some.is at c.value.ensures) in
    rw (read, given, ← c.is_set-report.ensures) refl
